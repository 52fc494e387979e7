-- The loop of `rules::faults::test_rules`: the rules that are left decide.
use mathlib.Core.Path.{◌≡◌}
use Rattle.std.specs.Prelude.{drop}
use Rattle.rules.specs.Faults.{first_bad}
use Rattle.rules.specs.Lists.{rules_in}
use Rattle.rules.proofs.faults.test_rules.Given as goal

abbrev pub invariant-loop-i : goal.invariant-loop-i
invariant-loop-i l = first_bad 0 (rules_in l.records) ≡ first_bad l.i (rules_in (drop l.i l.records))
