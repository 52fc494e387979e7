-- `tables::compiling::fill` meets its contract: each turn writes the records of the first of the rules that are left.
-- Assumes nothing.
use mathlib.Core.Path.{refl}
use native.Mathlib.Omega.{arith}
use Rattle.std.proofs.lemmas.List.{at_drop_all}
use Rattle.entries.proofs.Left.{left_end, left_start}
use Rattle.entries.proofs.Spans.{length_entries}
use Rattle.entries.specs.Words.{entries_of}
use Rattle.rules.specs.Lists.{rules_in}
use Rattle.tables.proofs.Filling.{filling_more}
use Rattle.tables.proofs.compiling.fill.Goals as goal

pub loop-i-init : goal.loop-i-init
loop-i-init c = left_start _ _ (omega (arith, length_entries 0 (rules_in c.args.list.records.now), c.requires)) _ refl

pub loop-i-preserved : goal.loop-i-preserved
loop-i-preserved c = filling_more _ _ _ _ _ _ c.loop-i.invariant (omega arith) _ c.from_bytes.ensures _ _ c.put_rule-at.ensures

pub returns : goal.returns
unfolding entries_of
returns c = (left_end _ _ _ _ _ (at_drop_all (λ ss. entries_of c.loop-i.i (rules_in ss)) c.args.list.records.now c.loop-i.i (omega arith)) c.loop-i.invariant).is
