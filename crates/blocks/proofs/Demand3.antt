-- Demand 3, sentence by sentence, for every width. The list is `blocks_of n low high`, its words are `words_of n low high`.
-- Assumes nothing.
use mathlib.Core.List.{List, Memᴰ}
use mathlib.Core.Path.{◌≡◌}
use Prim.Native.Nat.{ℕ, ◌+◌, ◌-◌, ◌*◌, ◌^◌, ◌≤◌, ◌<◌}
use native.Mathlib.Omega.{arith}
use lib.ListN.{length}
use Rattle.blocks.specs.Blocks.{Block, Lists, blocks_of, sizes, words_of}
use Rattle.blocks.specs.Counting.{count_of}
use Rattle.blocks.specs.Words.{Disjoint, Exactly, Prefix}
use Rattle.blocks.specs.declared.Word.{Word}
use Rattle.blocks.proofs.Counts.{count_most, count_one}
use Rattle.blocks.proofs.Covers.{disjoint, exact, prefixes}
use Rattle.blocks.proofs.Lengths.{count_tiles}
use Rattle.blocks.proofs.Members.{tiles_list}
use Rattle.blocks.proofs.OneList.{one_list}
use Rattle.blocks.proofs.Shortest.{none_shorter}
use Rattle.blocks.proofs.Sizes.{sizes_tiles}

module _ (n low high : ℕ) (order : low ≤ high) (fits : high < 2 ^ n) where
  -- the listed blocks are exactly the largest aligned blocks inside the interval, ascending, each once
  pub lists : Lists n low (high + 1) (blocks_of n low high)
  lists = tiles_list n low (high + 1) (omega arith)

  -- and no other list is
  pub only_list : (bs : List Block) → Lists n low (high + 1) bs → bs ≡ blocks_of n low high
  only_list bs l = one_list n low (high + 1) bs (blocks_of n low high) l lists

  -- their words are prefix words
  pub prefix_words : (w : Word) → Memᴰ w (words_of n low high) → Prefix n w
  prefix_words = prefixes n low high fits

  -- and match exactly the interval
  pub matched : Exactly n low high (words_of n low high)
  matched = exact n low high fits

  -- they never overlap
  pub apart : Disjoint n (words_of n low high)
  apart = disjoint n low high fits

  -- their sizes add up
  pub sizes_add_up : sizes (blocks_of n low high) ≡ high + 1 - low
  sizes_add_up = omega (arith, sizes_tiles n low (high + 1) (omega arith) (omega arith))

  -- no list of prefix words for that interval is shorter
  pub shortest_list : (ws : List Word) → ((w : Word) → Memᴰ w ws → Prefix n w) → Exactly n low high ws → length (blocks_of n low high) ≤ length ws
  shortest_list = none_shorter n low high

  -- the count of document 01 is the number of largest blocks
  pub counted : count_of n low high ≡ length (blocks_of n low high)
  counted = count_tiles n low high order fits

  -- at most 2n - 2 for n from 2 on
  pub at_most : 2 ≤ n → count_of n low high ≤ 2 * n - 2
  at_most h = count_most n low high h order fits

-- and 1 for n = 1
pub one_at_width_one : (low high : ℕ) → low ≤ high → high < 2 ^ 1 → count_of 1 low high ≡ 1
one_at_width_one = count_one
