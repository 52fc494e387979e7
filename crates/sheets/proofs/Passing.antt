-- A turn of passing lines: what stands after all of them stands after those that are left. Assumes nothing.
use mathlib.Core.Bool.{Bool, true, false, not}
use mathlib.Core.List.{List, [], ◌∷◌}
use mathlib.Core.Path.{◌≡◌, refl, sym, ◌∙◌}
use Prim.Native.Nat.{ℕ, zero, suc, ◌+◌, ◌-◌, ◌≤◌, ◌<◌}
use native.Mathlib.Omega.{arith}
use lib.Dec.{eqb, ltb}
use lib.ListN.{length}
use borrow.Author.Tests.{eqb-true, lt-ltb, ne_eqb}
use Rattle.sheets.specs.Cuts.{after}
use Rattle.sheets.specs.Reading.{after_lines}
use Rattle.texts.specs.Lines.{line_feed}

some_left : (s : List ℕ) → not (eqb (length s) 0) ≡ ltb 0 (length s)
some_left [] = refl
some_left (x ∷ s) = simp (ne_eqb (suc (length s)) 0 (λ (z : suc (length s) ≡ 0). omega arith), lt-ltb 0 (suc (length s)) (omega arith))

none_left_after : (k : ℕ) (s : List ℕ) → length s ≡ 0 → ltb 0 (length (after_lines k s)) ≡ false
unfolding after_lines after
none_left_after zero [] z = refl
none_left_after (suc k) [] z = none_left_after k [] refl
none_left_after k (x ∷ s) z = absurd (omega arith)

-- k of n lines of s are passed, and the rest is left
module _ (n : ℕ) (s : List ℕ) (k : ℕ) (rest : List ℕ) (l : after_lines n s ≡ after_lines (n - k) rest) where
  pub passed_more : k < n → (next : List ℕ) → next ≡ after line_feed rest → after_lines n s ≡ after_lines (n - (k + 1)) next
  unfolding after_lines
  passed_more h next e =
      let m : n - k ≡ suc (n - (k + 1)) = omega arith in
      rw e (l ∙ rw m)

  -- none stands after them where none is left now
  pub passed_none : true ≡ eqb (length rest) 0 → false ≡ ltb 0 (length (after_lines n s))
  passed_none e = rw (l, none_left_after (n - k) rest (eqb-true (length rest) 0 (sym e)))

  -- a byte stands after all of them where one is left
  pub passed_end : n ≤ k → {b : Bool} → b ≡ eqb (length rest) 0 → not b ≡ ltb 0 (length (after_lines n s))
  unfolding after_lines
  passed_end h e =
      let z : n - k ≡ 0 = omega arith in
      let a = rw z at l in
      rw (e, a) (some_left rest)
