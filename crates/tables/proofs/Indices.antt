-- The index named by 10 is the lowest ill-formed one; the record found is the first that matches. Assumes nothing.
use mathlib.Core.Bool.{Bool, true, false, not}
use mathlib.Core.List.{List}
use mathlib.Core.Path.{◌≡◌, refl, sym, ap, ◌∙◌}
use Prim.Native.Nat.{ℕ, zero, suc, ◌+◌, ◌*◌}
use native.Mathlib.Omega.{arith}
use lib.ListN.{drop}
use lib.Seq.{drop-drop}
use Rattle.answers.specs.Answers.{done}
use Rattle.answers.specs.declared.Answer.{Answer}
use Rattle.std.specs.Prelude.{None, Some, if◌then◌else◌}
use Rattle.records.specs.Entries.{action_of, number_of}
use Rattle.records.specs.Layout.{record_size}
use Rattle.tables.specs.Indices.{Each, First, FirstMatch, matching, record_at}
use Rattle.tables.specs.Looking.{first_ill, first_record, record_formed?, record_matches?}

-- ---- a test of each record

record_next : (i : ℕ) (t : List ℕ) → record_at (suc i) t ≡ record_at i (drop record_size t)
record_next i t = let s : record_size * suc i ≡ record_size + record_size * i = omega arith in rw s (sym (drop-drop (record_size * i) record_size t))

module _ (test : List ℕ → Bool) (c : Bool) (k : ℕ) (t : List ℕ) where
  each_more : test t ≡ c → Each test c k (drop record_size t) → Each test c (suc k) t
  each_more e r zero h = e
  each_more e r (suc j) h = rw (record_next j t) (r j (omega arith))

  first_now : test t ≡ c → First test c (suc k) t 0
  first_now e = record { within = omega arith; here = e; before = λ j h. absurd (omega arith) }

first_later : (test : List ℕ → Bool) (c : Bool) (k : ℕ) (t : List ℕ) (i : ℕ) → test t ≡ not c → First test c k (drop record_size t) i → First test c (suc k) t (suc i)
first_later test c k t i e f = record {
  within = omega (arith, f.within);
  here = rw (record_next i t) f.here;
  before = each_more test (not c) i t e f.before;
}

-- ---- the lowest ill-formed record, the first having index b

ill_from_lem : (k b : ℕ) (t : List ℕ) (i : ℕ) → first_ill k b t ≡ Some i → (n : ℕ) × (i ≡ b + n) × First record_formed? false k t n
unfolding first_ill
ill_from_lem zero b t i e = let z : ◌≡◌ {A = ℕ} 0 1 = cc in absurd (omega arith)
ill_from_lem (suc k) b t i e = go (record_formed? t) refl e (ill_from_lem k (b + 1) (drop record_size t) i)
  where
    go : (c : Bool) → record_formed? t ≡ c → (if c then first_ill k (b + 1) (drop record_size t) else Some b) ≡ Some i
        → (first_ill k (b + 1) (drop record_size t) ≡ Some i → (n : ℕ) × (i ≡ b + 1 + n) × First record_formed? false k (drop record_size t) n)
        → (n : ℕ) × (i ≡ b + n) × First record_formed? false (suc k) t n
    go false a v r = let s : i ≡ b = cc in (0, omega arith, first_now record_formed? false k t a)
    go true a v r = let l = r v in (suc l.0, omega (arith, l.1), first_later record_formed? false k t l.0 a l.2)

pub ill_lowest : (k : ℕ) (t : List ℕ) (i : ℕ) → first_ill k 0 t ≡ Some i → First record_formed? false k t i
ill_lowest k t i e = let l = ill_from_lem k 0 t i e in let s : i ≡ l.0 = omega (arith, l.1) in rw s l.2

none_from : (k b : ℕ) (t : List ℕ) → first_ill k b t ≡ None → Each record_formed? true k t
unfolding first_ill
none_from zero b t e = λ j h. absurd (omega arith)
none_from (suc k) b t e = go (record_formed? t) refl e (none_from k (b + 1) (drop record_size t))
  where
    go : (c : Bool) → record_formed? t ≡ c → (if c then first_ill k (b + 1) (drop record_size t) else Some b) ≡ None
        → (first_ill k (b + 1) (drop record_size t) ≡ None → Each record_formed? true k (drop record_size t)) → Each record_formed? true (suc k) t
    go false a v r = let z : ◌≡◌ {A = ℕ} 0 1 = cc in absurd (omega arith)
    go true a v r = each_more record_formed? true k t a (r v)

pub none_ill : (k : ℕ) (t : List ℕ) → first_ill k 0 t ≡ None → Each record_formed? true k t
none_ill k t = none_from k 0 t

-- ---- the first record that matches, the first having index b

apart : (j i a : ℕ) → done 0 0 0 0 ≡ done 1 j i a → ⊥
apart j i a e = let z : ◌≡◌ {A = ℕ} 0 1 = ap (λ (r : Answer). r.a) e in omega arith

module _ (h : List ℕ) where
  match_from_lem : (k b : ℕ) (t : List ℕ) (j i a : ℕ) → first_record k b t h ≡ done 1 j i a → (n : ℕ) × (j ≡ b + n) × FirstMatch k t h n i a
  unfolding first_record
  match_from_lem zero b t j i a e = absurd (apart j i a e)
  match_from_lem (suc k) b t j i a e = go (record_matches? t h) refl e (match_from_lem k (b + 1) (drop record_size t) j i a)
    where
      go : (c : Bool) → record_matches? t h ≡ c
          → (if c then done 1 b (number_of t) (action_of t) else first_record k (b + 1) (drop record_size t) h) ≡ done 1 j i a
          → (first_record k (b + 1) (drop record_size t) h ≡ done 1 j i a → (n : ℕ) × (j ≡ b + 1 + n) × FirstMatch k (drop record_size t) h n i a)
          → (n : ℕ) × (j ≡ b + n) × FirstMatch (suc k) t h n i a
      go true p v r =
          let s : b ≡ j = ap (λ (r : Answer). r.b) v in (
            0,
            omega arith,
            record {
              first = first_now (matching h) true k t p;
              number = sym (ap (λ (r : Answer). r.c) v);
              action = sym (ap (λ (r : Answer). r.d) v);
            },
          )
      go false p v r =
          let l = r v in (
            suc l.0,
            omega (arith, l.1),
            record {
              first = first_later (matching h) true k t l.0 p l.2.first;
              number = l.2.number ∙ ap number_of (sym (record_next l.0 t));
              action = l.2.action ∙ ap action_of (sym (record_next l.0 t));
            },
          )

  pub match_first : (k : ℕ) (t : List ℕ) (j i a : ℕ) → first_record k 0 t h ≡ done 1 j i a → FirstMatch k t h j i a
  match_first k t j i a e = let l = match_from_lem k 0 t j i a e in let s : j ≡ l.0 = omega (arith, l.1) in rw s l.2

  miss_from : (k b : ℕ) (t : List ℕ) → first_record k b t h ≡ done 0 0 0 0 → Each (matching h) false k t
  unfolding first_record
  miss_from zero b t e = λ j l. absurd (omega arith)
  miss_from (suc k) b t e = go (record_matches? t h) refl e (miss_from k (b + 1) (drop record_size t))
    where
      go : (c : Bool) → record_matches? t h ≡ c
          → (if c then done 1 b (number_of t) (action_of t) else first_record k (b + 1) (drop record_size t) h) ≡ done 0 0 0 0
          → (first_record k (b + 1) (drop record_size t) h ≡ done 0 0 0 0 → Each (matching h) false k (drop record_size t)) → Each (matching h) false (suc k) t
      go true p v r = absurd (apart b (number_of t) (action_of t) (sym v))
      go false p v r = each_more (matching h) false k t p (r v)

  pub none_matches : (k : ℕ) (t : List ℕ) → first_record k 0 t h ≡ done 0 0 0 0 → Each (matching h) false k t
  none_matches k t = miss_from k 0 t
