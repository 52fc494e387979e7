-- The words of a list of numbers, two numbers each, are those of its first pairs. Assumes nothing.
use mathlib.Core.List.{List, [], ◌∷◌}
use mathlib.Core.Path.{◌≡◌, refl, sym, ap, ap₂, ◌∙◌}
use Prim.Native.Nat.{ℕ, zero, suc, ◌+◌, ◌*◌, ◌/◌, ◌≤◌}
use native.Mathlib.Omega.{arith}
use lib.ListN.{get_or, length, take, drop}
use native.Mathlib.Nat.{add-zero}
use Rattle.std.proofs.Common.{drop-drop, get_or-drop}
use Rattle.std.specs.Simd.{first_chunks}
use Rattle.blocks.specs.Words.{word}
use Rattle.blocks.specs.Words.{word_in}
use Rattle.intervals.specs.Checks.{word_at, words_from, words_in}

take_chunks : {X : Type 0} (n k m : ℕ) (xs : List X) → k ≤ m → take k (first_chunks n m xs) ≡ first_chunks n k xs
take_chunks n zero m xs h = refl
take_chunks n (suc k) zero xs h = absurd (omega arith)
take_chunks n (suc k) (suc m) xs h = ap (λ (ys : List (List _)). take n xs ∷ ys) (take_chunks n k m (drop n xs) (omega arith))

first_two : (xs : List ℕ) → word (get_or xs 0 0) (get_or xs 1 0) ≡ word_in (take 2 xs)
first_two [] = refl
first_two (x ∷ []) = refl
first_two (x ∷ y ∷ xs) = refl

pair_at : (i : ℕ) (l : List ℕ) → word_at l i ≡ word_in (take 2 (drop (2 * i) l))
pair_at i l = rw (← first_two (drop (2 * i) l)) (simp (get_or-drop, add-zero))

words_chunks : (k i : ℕ) (l : List ℕ) → words_from i k l ≡ words_in (first_chunks 2 k (drop (2 * i) l))
unfolding words_from
words_chunks zero i l = refl
words_chunks (suc k) i l =
    let e : 2 * (i + 1) ≡ 2 * i + 2 = omega arith in
    ap₂ ◌∷◌ (pair_at i l) (rw (words_chunks k (i + 1) l, drop-drop, ← e))

-- the words that the check is about are those of the pairs that the code looks at
pub words_pairs : (k : ℕ) (l : List ℕ) → k ≤ length l / 2 → words_from 0 k l ≡ words_in (take k (first_chunks 2 (length l / 2) l))
words_pairs k l h = words_chunks k 0 l ∙ sym (ap words_in (take_chunks 2 k (length l / 2) l h))
