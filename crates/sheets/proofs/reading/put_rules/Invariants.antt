-- The loop of `sheets::reading::put_rules`: what is left to write completes what is to be held.
use Rattle.std.proofs.Common.{◌≡◌, ◌*◌, drop}
use Rattle.fields.specs.Writes.{write_at}
use Rattle.records.specs.Layout.{rule_size}
use Rattle.records.specs.Rules.{list_bytes}
use Rattle.sheets.proofs.reading.put_rules.Given as goal

abbrev pub invariant-loop-i : goal.invariant-loop-i
invariant-loop-i l = write_at l.t (rule_size * l.i) (list_bytes (drop l.i l.rules)) ≡ write_at l.initial.t 0 (list_bytes l.rules)
