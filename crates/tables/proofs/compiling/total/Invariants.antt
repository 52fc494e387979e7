-- The loop of `tables::compiling::total`: what is counted and what is left make up the whole, and no rule has more than 900
-- words.
use mathlib.Core.Path.{◌≡◌}
use Prim.Native.Nat.{◌+◌, ◌*◌, ◌≤◌}
use Rattle.std.specs.Prelude.{drop}
use Rattle.entries.specs.Words.{needed}
use Rattle.rules.specs.Lists.{rules_in}
use Rattle.tables.proofs.compiling.total.Given as goal

abbrev pub invariant-loop-record : goal.invariant-loop-record
invariant-loop-record l =
    (l.words + needed (rules_in (drop l.record-index l.list.records.now)) ≡ needed (rules_in l.list.records.now)) × (l.words ≤ 900 * l.record-index)
