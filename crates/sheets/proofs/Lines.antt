-- What the first line of a text says of all of them: none is left, it has no end, it is bad, or it is good.
-- Assumes nothing.
use mathlib.Core.List.{List, [], ◌∷◌}
use mathlib.Core.Path.{◌≡◌, refl}
use Prim.Native.Nat.{ℕ, zero, suc, ◌+◌, ◌<◌}
use native.Mathlib.Omega.{arith}
use lib.ListN.{length}
use borrow.Author.Tests.{eq-eqb, le-ltb, lt-ltb, ne_eqb}
use Rattle.std.specs.Prelude.{Ok, Err}
use Rattle.records.specs.declared.Rule.{Rule}
use Rattle.sheets.specs.Cuts.{after, before}
use Rattle.sheets.specs.Reading.{bad_at, rows_of, rules_read}
use Rattle.sheets.specs.Rows.{row_of}
use Rattle.texts.specs.Lines.{line_feed}

-- ---- no line

pub rows_all : (i : ℕ) (s : List ℕ) → rows_of zero i s ≡ Ok i
unfolding rows_of
rows_all i s = refl

pub rules_all : (s : List ℕ) → rules_read zero s ≡ []
unfolding rules_read
rules_all s = refl

pub rows_none : (f i : ℕ) (s : List ℕ) → length s ≡ 0 → rows_of f i s ≡ Ok i
unfolding rows_of
rows_none zero i s e = refl
rows_none (suc f) i s e = simp (eq-eqb (length s) 0 e)

pub rules_none : (f : ℕ) (s : List ℕ) → length s ≡ 0 → rules_read f s ≡ []
unfolding rules_read
rules_none zero s e = refl
rules_none (suc f) s e = simp (le-ltb (length (before line_feed s)) (length s) (omega arith))

-- ---- a line without an end

pub rows_open : (f i : ℕ) (s : List ℕ) → (length s ≡ 0 → ⊥) → length (before line_feed s) ≡ length s → rows_of (suc f) i s ≡ Err (bad_at (i + 1) 0)
unfolding rows_of
rows_open f i s n e = simp (ne_eqb (length s) 0 n, le-ltb (length (before line_feed s)) (length s) (omega arith))

pub rules_open : (f : ℕ) (s : List ℕ) → length (before line_feed s) ≡ length s → rules_read f s ≡ []
unfolding rules_read
rules_open zero s e = refl
rules_open (suc f) s e = simp (le-ltb (length (before line_feed s)) (length s) (omega arith))

-- ---- a line with its end

module _ (f : ℕ) (s : List ℕ) (h : length (before line_feed s) < length s) where
  pub rows_bad : (i k : ℕ) → row_of (before line_feed s) ≡ Err k → rows_of (suc f) i s ≡ Err (bad_at (i + 1) k)
  unfolding rows_of
  rows_bad i k e =
      let n : length s ≡ 0 → ⊥ = λ (z : length s ≡ 0). omega arith in
      simp (ne_eqb (length s) 0 n, lt-ltb (length (before line_feed s)) (length s) h, e)

  pub rules_bad : (k : ℕ) → row_of (before line_feed s) ≡ Err k → rules_read (suc f) s ≡ []
  unfolding rules_read
  rules_bad k e = simp (lt-ltb (length (before line_feed s)) (length s) h, e)

  pub rows_good : (i : ℕ) (r : Rule) → row_of (before line_feed s) ≡ Ok r → rows_of (suc f) i s ≡ rows_of f (i + 1) (after line_feed s)
  unfolding rows_of
  rows_good i r e =
      let n : length s ≡ 0 → ⊥ = λ (z : length s ≡ 0). omega arith in
      simp (ne_eqb (length s) 0 n, lt-ltb (length (before line_feed s)) (length s) h, e)

  pub rules_good : (r : Rule) → row_of (before line_feed s) ≡ Ok r → rules_read (suc f) s ≡ r ∷ rules_read f (after line_feed s)
  unfolding rules_read
  rules_good r e = simp (lt-ltb (length (before line_feed s)) (length s) h, e)
