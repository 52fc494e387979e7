-- The words of an interval from the lowest on: the lowest comes first, and then those of what is left behind it; and how many
-- there are. Assumes nothing.
use mathlib.Core.Path.{◌≡◌, sym, ap, subst, ◌∙◌}
use mathlib.Core.Logic.{◌⊎◌, inl, inr}
use mathlib.Core.List.{List, ◌∷◌, map}
use Prim.Native.Nat.{ℕ, ◌+◌, ◌^◌, ◌≤◌, ◌<◌}
use native.Mathlib.Omega.{arith}
use lib.ListN.{length, length-map}
use Rattle.std.specs.Prelude.{Option, Some, None}
use Rattle.bits.proofs.Orders.{le_or_lt}
use Rattle.bits.specs.Masks.{Power, mask_of}
use Rattle.blocks.specs.Blocks.{Closed, blocks_of, prefix_of, tiles, words_of}
use Rattle.blocks.specs.Counting.{count_of}
use Rattle.blocks.specs.Lowest.{Free, free_of}
use Rattle.blocks.specs.Walked.{Behind, First, left_words}
use Rattle.blocks.specs.Words.{word}
use Rattle.blocks.specs.declared.Word.{Word}
use Rattle.blocks.specs.declared.intervals.Interval.{Interval}
use Rattle.blocks.proofs.Counts.{count_most, count_one}
use Rattle.blocks.proofs.Lengths.{count_tiles}
use Rattle.blocks.proofs.Lowest.{first_block, free_end}
use Rattle.blocks.proofs.Tiles.{tiles_none}

module _ (n low high : ℕ) (c : Closed n low high) where
  -- the lowest word, its mask and its size as the code works them out
  pub first_is : (k m p : ℕ) → Free n low (high + 1) k → m ≡ mask_of n k → Power k p → First n low high (word low m, p)
  first_is k m p ek em ep = record {
    word_is = rw (em, ek.is);
    size = rw (ep.is, ek.is);
    within = rw (ep.is, ek.is) (free_end n low (high + 1) (omega (arith, c.order)));
  }

  -- behind it are the words of what is left
  pub words_behind : (w : Word × ℕ) (o : Option Interval) → First n low high w → Behind n low high w.1 o → words_of n low high ≡ w.0 ∷ left_words o
  words_behind w o f b =
      ap (map (prefix_of n)) (first_block n low (high + 1) (omega (arith, c.order)) (omega (arith, c.fits)))
      ∙ ap (λ (v : Word). v ∷ map (prefix_of n) (tiles n 0 (low + 2 ^ free_of n low (high + 1)) (high + 1))) (sym f.word_is)
      ∙ ap (λ (vs : List Word). w.0 ∷ vs) (rest o b)
    where
      rest : (o : Option Interval) → Behind n low high w.1 o → map (prefix_of n) (tiles n 0 (low + 2 ^ free_of n low (high + 1)) (high + 1)) ≡ left_words o
      rest None h = ap (map (prefix_of n)) (tiles_none n 0 (low + 2 ^ free_of n low (high + 1)) (high + 1) (omega (arith, f.size)))
      rest (Some i) h = rw (h.width, h.first, h.last, f.size)

  count_few : count_of n low high ≤ 30
  count_few = go (le_or_lt 2 n)
    where
      go : (2 ≤ n) ⊎ (n < 2) → count_of n low high ≤ 30
      go (inl h) = omega (arith, count_most n low high h c.order c.fits, c.most)
      go (inr h) =
          let e : n ≡ 1 = omega (arith, c.some) in
          let f : high < 2 ^ 1 = subst (λ (m : ℕ). high < 2 ^ m) e c.fits in
          rw e (omega (arith, count_one low high c.order f))

  -- an interval has as many words as are counted, and at most 30
  pub words_counted : length (words_of n low high) ≡ count_of n low high
  words_counted = length-map (blocks_of n low high) (prefix_of n) ∙ sym (count_tiles n low high c.order c.fits)

  pub words_few : length (words_of n low high) ≤ 30
  words_few = rw words_counted count_few
