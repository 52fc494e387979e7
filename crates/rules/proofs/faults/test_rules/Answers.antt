-- `rules::faults::test_rules` meets its contract: the rules that are left decide. Assumes nothing.
use mathlib.Core.Path.{◌≡◌, sym, ◌∙◌}
use Prim.Native.Nat.{◌%◌}
use native.Mathlib.Omega.{arith}
use lib.ListN.{length}
use borrow.Author.Tests.{eqb-true}
use Rattle.records.specs.Layout.{rule_size}
use Rattle.rules.proofs.Goods.{none_bad}
use Rattle.rules.proofs.Testing.{bad_here, bad_past, tested_records}
use Rattle.rules.proofs.faults.test_rules.Goals as goal
use Rattle.rules.proofs.faults.test_rules.Goals.{Else-not-is_empty}

-- past the first test the length is a multiple of a rule's
whole : (c : Else-not-is_empty) → length c.args.rules.now % rule_size ≡ 0
whole c = omega (arith, eqb-true _ _ (sym c.is_empty.ensures ∙ c.if-not-is_empty.false))

pub returns-in-Some-clause-says : goal.returns-in-Some-clause-says
returns-in-Some-clause-says c =
    sym
    (tested_records _ (whole (goal.at.returns-in-Some-clause-says c).Else-not-is_empty) (omega arith) _ c.as_chunks.ensures.front
    ∙ c.loop-i.invariant ∙ bad_here _ _ (omega arith) _ c.from_bytes.ensures _ c.in-Some.ensures)

pub invariant_of-result : goal.invariant_of-result
invariant_of-result c = record { few = omega arith; good = none_bad 0 _ (c.loop-i.invariant ∙ bad_past _ _ (omega arith)) }

pub returns-clause-says : goal.returns-clause-says
returns-clause-says c =
    sym
    (tested_records _ (whole (goal.at.returns-clause-says c).Else-not-is_empty) (omega arith) _ c.as_chunks.ensures.front
    ∙ c.loop-i.invariant ∙ bad_past _ _ (omega arith))
