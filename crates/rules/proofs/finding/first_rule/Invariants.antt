-- The loop of `rules::finding::first_rule`: the rules that are left decide.
use mathlib.Core.Path.{◌≡◌}
use Rattle.std.specs.Prelude.{drop}
use Rattle.rules.specs.Lists.{rules_in}
use Rattle.rules.specs.Meaning.{first_rule}
use Rattle.rules.proofs.finding.first_rule.Given as goal

abbrev pub invariant-loop-i : goal.invariant-loop-i
invariant-loop-i l = first_rule 0 (rules_in l.list.records.now) l.h ≡ first_rule l.i (rules_in (drop l.i l.list.records.now)) l.h
