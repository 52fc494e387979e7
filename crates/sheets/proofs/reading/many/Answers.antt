-- `sheets::reading::many` meets its contract: what stands after all lines stands after those that are left. Assumes nothing.
use native.Mathlib.Omega.{arith}
use Rattle.sheets.proofs.Passing.{passed_end, passed_more, passed_none}
use Rattle.sheets.proofs.reading.many.Goals as goal

pub returns-then-is_empty : goal.returns-then-is_empty
returns-then-is_empty c = passed_none _ _ _ _ c.loop.invariant c.if-is_empty.ensures

pub loop-preserved : goal.loop-preserved
loop-preserved c = passed_more _ _ _ _ c.loop.invariant (omega arith) _ c.halves.ensures.1

pub returns : goal.returns
returns c = passed_end _ _ _ _ c.loop.invariant (omega arith) c.is_empty-2.ensures
