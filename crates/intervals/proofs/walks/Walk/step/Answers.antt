-- `intervals::Walk::step` meets its contract: the lowest word is given, and the walk goes on behind it. Assumes nothing.
use mathlib.Core.Path.{sym}
use Rattle.intervals.proofs.Steps.{step_given}
use Rattle.intervals.proofs.walks.Walk.step.Goals as goal

pub returns : goal.returns
returns c =
    let t = c.in_ok-interval.ensures in
    step_given _ c.if-self.false _ t.gives (sym t.says) _ _ c.first-size.ensures c.behind.ensures _ c.behind-walk.ensures
