-- The loop of `intervals::lists::fill`: the words that are left, written behind those that are given, make up the list.
use Rattle.blocks.specs.Walked.{words_left}
use Rattle.intervals.specs.Lists.{numbers_of}
use Rattle.intervals.proofs.Filling.{Filled}
use Rattle.intervals.proofs.lists.fill.Given as goal

abbrev pub invariant-loop-i : goal.invariant-loop-i
invariant-loop-i l =
    let interval = l.fn.interval in
    Filled l.fn.out (numbers_of interval.width interval.low interval.high) l.out l.i-iterator.count (words_left l.i-iterator.iter)
