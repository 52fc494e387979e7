-- How many numbers a list takes. Assumes nothing.
use mathlib.Core.List.{List, [], ◌∷◌}
use mathlib.Core.Path.{◌≡◌, refl, ap, ◌∙◌}
use Prim.Native.Nat.{ℕ, ◌*◌}
use native.Mathlib.Omega.{arith}
use lib.ListN.{length}
use Rattle.blocks.proofs.Walking.{words_counted}
use Rattle.blocks.specs.Blocks.{Closed, words_of}
use Rattle.blocks.specs.Counting.{count_of}
use Rattle.blocks.specs.declared.Word.{Word}
use Rattle.intervals.specs.Lists.{numbers, numbers_of}

length_numbers : (ws : List Word) → length (numbers ws) ≡ 2 * length ws
unfolding numbers
length_numbers [] = refl
length_numbers (w ∷ ws) = omega (arith, length_numbers ws)

-- the count of document 01 is the number of words listed
pub length_words : (n low high : ℕ) → Closed n low high → length (numbers_of n low high) ≡ 2 * count_of n low high
length_words n low high c = length_numbers (words_of n low high) ∙ ap (λ (x : ℕ). 2 * x) (words_counted n low high c)
