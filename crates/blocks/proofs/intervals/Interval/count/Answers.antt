-- `blocks::Interval::count` meets its contract: each return is one of the four cases of document 01. Assumes nothing.
use native.Mathlib.Omega.{arith}
use lib.Pow.{pow_mono}
use Rattle.bits.proofs.Differ.{differ_lt}
use Rattle.blocks.proofs.Counts.{count_whole, count_low, count_high, count_mid}
use Rattle.blocks.proofs.intervals.Interval.count.Goals as goal

pub overflow_add-b : goal.overflow_add-b
overflow_add-b c = omega (arith, pow_mono c.args.self.closed.most)

pub returns-then-b-size : goal.returns-then-b-size
returns-then-b-size c = count_whole _ _ _ (omega arith) (omega arith)

pub returns-then-low-eq0 : goal.returns-then-low-eq0
returns-then-low-eq0 c = count_low _ _ _ (omega arith) (omega arith)

pub returns-then-b-size-2 : goal.returns-then-b-size-2
returns-then-b-size-2 c = count_high _ _ _ (omega arith) (omega arith) _ c.ones_below.ensures

pub returns : goal.returns
returns c =
    let d = c.highest_apart-s.ensures.differ in
    count_mid _ _ _ (omega arith) (omega arith) _ (differ_lt _ _ _ _ (omega arith) (omega arith) d) d _ _
    c.ones_below-2.ensures c.ones_below-3.ensures
