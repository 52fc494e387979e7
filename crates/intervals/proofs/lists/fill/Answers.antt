-- `intervals::lists::fill` meets its contract: each word is written behind those before it. Assumes nothing.
use Rattle.intervals.proofs.Filling.{filled_more, filled_end}
use Rattle.intervals.proofs.lists.fill.Goals as goal

pub loop-i-preserved : goal.loop-i-preserved
loop-i-preserved c = let n = c.in-Some.ensures.steps in filled_more _ _ _ _ _ c.loop-i.invariant _ _ n.0 _ n.1 _ n.2

pub returns : goal.returns
returns c = filled_end _ _ _ _ _ c.loop-i.invariant c.in-None.ensures.steps.0.0
