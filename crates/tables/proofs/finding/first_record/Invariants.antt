-- The loop of `tables::finding::first_record`: the records that are left decide.
use mathlib.Core.Path.{◌≡◌}
use Rattle.std.specs.Prelude.{drop}
use Rattle.tables.specs.Records.{first_among}
use Rattle.tables.proofs.finding.first_record.Given as goal

abbrev pub invariant-loop-i : goal.invariant-loop-i
invariant-loop-i l = first_among 0 l.records l.header ≡ first_among l.i (drop l.i l.records) l.header
