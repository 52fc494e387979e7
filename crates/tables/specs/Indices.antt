-- What the theorems about the index of a record speak of: the first of the records of which a test says so.
use Rattle.std.specs.Prelude.{Bool, true, not, List, ◌≡◌, ℕ, ◌*◌, ◌<◌, drop}
use Rattle.records.specs.Entries.{action_of, number_of}
use Rattle.records.specs.Layout.{record_size}
use Rattle.tables.specs.Looking.{record_matches?}

-- the bytes from record i on
abbrev pub record_at : ℕ → List ℕ → List ℕ
record_at i t = drop (record_size * i) t

-- the test says c of each of the first k records
abbrev pub Each : (List ℕ → Bool) → Bool → ℕ → List ℕ → Type 0
Each test c k t = (j : ℕ) → j < k → test (record_at j t) ≡ c

-- of the first k records that at i is the first of which the test says c
pub record First (test : List ℕ → Bool) (c : Bool) (k : ℕ) (t : List ℕ) (i : ℕ) : Type 0 where
  pub within : i < k
  pub here : test (record_at i t) ≡ c
  pub before : Each test (not c) i t

-- the test whether a record matches the header h
abbrev pub matching : List ℕ → List ℕ → Bool
matching h t = record_matches? t h

-- j is the index of the first of k records that matches, i its rule number and a its action
pub record FirstMatch (k : ℕ) (t h : List ℕ) (j i a : ℕ) : Type 0 where
  pub first : First (matching h) true k t j
  pub number : i ≡ number_of (record_at j t)
  pub action : a ≡ action_of (record_at j t)
