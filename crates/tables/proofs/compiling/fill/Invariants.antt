-- The loop of `tables::compiling::fill`: writing the records of the rules that are left completes the table.
use Rattle.std.specs.Prelude.{drop}
use Rattle.entries.specs.Words.{entries_of}
use Rattle.entries.proofs.Left.{Left}
use Rattle.rules.specs.Lists.{rules_in}
use Rattle.tables.proofs.compiling.fill.Given as goal

abbrev pub invariant-loop-i : goal.invariant-loop-i
invariant-loop-i l =
    Left l.initial.table (entries_of 0 (rules_in l.list.records.now)) l.table l.at (entries_of l.i (rules_in (drop l.i l.list.records.now)))
