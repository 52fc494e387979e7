-- `sheets::reading::put_rules` meets its contract: the rules that are left complete what the memory holds in the end.
-- Assumes nothing.
use native.Mathlib.Omega.{arith}
use Rattle.sheets.proofs.RulesLeft.{written_all, written_more}
use Rattle.sheets.proofs.reading.put_rules.Goals as goal

pub loop-i-preserved : goal.loop-i-preserved
loop-i-preserved c = written_more _ _ _ _ c.loop-i.invariant _ c.loop-i-test.true (omega arith) _ _ c.to_bytes.ensures c.put.ensures

pub returns : goal.returns
returns c = written_all _ _ _ _ c.loop-i.invariant c.loop-i-test.false
