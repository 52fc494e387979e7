-- A table cut into records: its first k records, as a list, are what is tested and looked through from its bytes; and where
-- none of a list is ill formed, each is well formed. Assumes nothing.
use mathlib.Core.Bool.{Bool, true, false, cond, not}
use mathlib.Core.List.{List, [], ◌∷◌}
use mathlib.Core.Path.{◌≡◌, refl, ap, ◌∙◌}
use Prim.Native.Nat.{ℕ, zero, suc, ◌+◌, ◌/◌, ◌≤◌, ◌<◌}
use native.Mathlib.Omega.{arith}
use lib.ListN.{drop, length, take}
use Rattle.std.proofs.lemmas.Iterator.Adapters.{position_from-zero}
use Rattle.std.specs.List.{position, position_from}
use Rattle.std.specs.Prelude.{None, Some, if◌then◌else◌}
use Rattle.std.specs.Simd.{first_chunks}
use Rattle.records.proofs.Chunks.{action_take, mask_take, number_take, value_take}
use Rattle.records.specs.Layout.{record_size, room_of}
use Rattle.tables.specs.Looking.{first_ill, first_record, record_formed?, record_matches?}
use Rattle.tables.specs.Records.{EachFormed, first_among, first_ill_among}

-- ---- a record's own bytes

module _ (t : List ℕ) where
  matches_take : (h : List ℕ) → record_matches? (take record_size t) h ≡ record_matches? t h
  matches_take h = rw (value_take t, mask_take t)

  formed_take : record_formed? (take record_size t) ≡ record_formed? t
  formed_take = rw (value_take t, mask_take t, action_take t)

-- ---- the first k records

ill_chunks : (k j : ℕ) (t : List ℕ) → first_ill k j t ≡ first_ill_among j (first_chunks record_size k t)
unfolding first_ill first_ill_among
ill_chunks zero j t = refl
ill_chunks (suc k) j t = rw (formed_take t, ill_chunks k (j + 1) (drop record_size t))

among_chunks : (k j : ℕ) (t h : List ℕ) → first_record k j t h ≡ first_among j (first_chunks record_size k t) h
unfolding first_record first_among
among_chunks zero j t h = refl
among_chunks (suc k) j t h = rw (matches_take t h, number_take t, action_take t, among_chunks k (j + 1) (drop record_size t) h)

take_chunks : (n k m : ℕ) (t : List ℕ) → k ≤ m → take k (first_chunks n m t) ≡ first_chunks n k t
take_chunks n zero m t h = refl
take_chunks n (suc k) zero t h = absurd (omega arith)
take_chunks n (suc k) (suc m) t h = ap (λ (ss : List (List ℕ)). take n t ∷ ss) (take_chunks n k m (drop n t) (omega arith))

module _ (t : List ℕ) (k : ℕ) (fit : k ≤ room_of (length t)) (all : List (List ℕ)) (cut : all ≡ first_chunks record_size (length t / record_size) t) where
  first_all : take k all ≡ first_chunks record_size k t
  first_all = ap (take k) cut ∙ take_chunks record_size k (length t / record_size) t (omega arith)

  pub ill_in : first_ill k 0 t ≡ first_ill_among 0 (take k all)
  ill_in = rw first_all (ill_chunks k 0 t)

  pub among_in : (h : List ℕ) → first_record k 0 t h ≡ first_among 0 (take k all) h
  among_in h = rw first_all (among_chunks k 0 t h)

-- ---- as `position` finds it

ill_from : (i : ℕ) (rs : List (List ℕ)) → position_from (λ r. not (record_formed? r)) i rs ≡ first_ill_among i rs
unfolding first_ill_among
ill_from i [] = refl
ill_from i (r ∷ rs) = rw (ill_from (i + 1) rs) (turned (record_formed? r) _ _)
  where
    turned : {B : Type 0} (b : Bool) (x y : B) → cond (not b) x y ≡ cond b y x
    turned true x y = refl
    turned false x y = refl

pub ill_position : (rs : List (List ℕ)) → position (λ r. not (record_formed? r)) rs ≡ first_ill_among 0 rs
ill_position rs = position_from-zero (λ r. not (record_formed? r)) rs ∙ ill_from 0 rs

-- ---- where none is ill formed

pub none_each : (j : ℕ) (rs : List (List ℕ)) → first_ill_among j rs ≡ None → EachFormed rs
unfolding first_ill_among
none_each j [] e = λ (i : ℕ) (h : i < 0). absurd (omega arith)
none_each j (r ∷ rs) e = go (record_formed? r) refl e (none_each (j + 1) rs)
  where
    go : (b : Bool) → record_formed? r ≡ b → (if b then first_ill_among (j + 1) rs else Some j) ≡ None
        → (first_ill_among (j + 1) rs ≡ None → EachFormed rs) → EachFormed (r ∷ rs)
    go true z w below zero h = z
    go true z w below (suc i) h = below w i (omega arith)
    go false z w below i h = cc
