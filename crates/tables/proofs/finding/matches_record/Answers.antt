-- `tables::finding::matches_record` meets its contract: what was gathered, and the bytes that are left, say what all bytes
-- do. Assumes nothing.
use mathlib.Core.Path.{sym, ◌∙◌}
use native.Mathlib.Omega.{arith}
use Rattle.tables.proofs.Gathering.{agree_start, agree_turn, agree_end}
use Rattle.tables.proofs.finding.matches_record.Goals as goal

pub loop-j-init : goal.loop-j-init
loop-j-init c = agree_start _ _

pub loop-j-preserved : goal.loop-j-preserved
loop-j-preserved c = c.loop-j.invariant ∙ agree_turn _ _ _ _ _ (omega arith) (omega arith) (omega arith) c.differing-d.ensures

pub returns : goal.returns
returns c = sym (c.loop-j.invariant ∙ agree_end _ _ _ _ (omega arith))
