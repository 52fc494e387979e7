-- The words of an interval as they are given one by one.
use Rattle.std.specs.Prelude.{◌≡◌, ℕ, ◌+◌, ◌^◌, ◌≤◌, ◌<◌, MatchOption, Option, None, Some, length}
use mathlib.Core.List.{List, []}
use Rattle.bits.specs.Masks.{mask_of}
use Rattle.blocks.specs.Blocks.{words_of}
use Rattle.blocks.specs.Lowest.{free_of}
use Rattle.blocks.specs.Words.{word}
use Rattle.blocks.specs.declared.Word.{Word}
use Rattle.blocks.specs.declared.intervals.Interval.{Interval}
use Rattle.blocks.specs.declared.words.Words.{Words}

-- this is the interval of width n from low to high
pub record Is (n low high : ℕ) (i : Interval) : Type 0 where
  pub width : i.width ≡ n
  pub first : i.low ≡ low
  pub last : i.high ≡ high

-- the lowest word of low .. high, and how many values it matches
pub record First (n low high : ℕ) (r : Word × ℕ) : Type 0 where
  pub word_is : r.0 ≡ word low (mask_of n (free_of n low (high + 1)))
  pub size : r.1 ≡ 2 ^ free_of n low (high + 1)
  pub within : low + r.1 ≤ high + 1

-- what is left of low .. high behind its first so many values
abbrev pub Behind : ℕ → ℕ → ℕ → ℕ → Option Interval → Type 0
Behind n low high size r = MatchOption r (high < low + size) (λ i. Is n (low + size) high i)

-- the words of what is left
abbrev pub left_words : Option Interval → List Word
left_words None = []
left_words (Some i) = words_of i.width i.low i.high

-- those that are still to come
abbrev pub words_left : Words → List Word
words_left w = left_words w.left

-- all words of low .. high are to come, and they are at most 30
pub record WordsOf (n low high : ℕ) (w : Words) : Type 0 where
  pub are : words_left w ≡ words_of n low high
  pub few : length (words_left w) ≤ 30
