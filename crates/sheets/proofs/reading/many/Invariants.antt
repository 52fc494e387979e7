-- The loop of `sheets::reading::many`: what stands after all lines stands after those that are left.
use mathlib.Core.Path.{◌≡◌}
use Prim.Native.Nat.{◌-◌}
use Rattle.records.specs.Layout.{rule_limit}
use Rattle.sheets.specs.Reading.{after_lines}
use Rattle.sheets.proofs.reading.many.Given as goal

abbrev pub invariant-loop : goal.invariant-loop
invariant-loop l = after_lines rule_limit l.text ≡ after_lines (rule_limit - l.counter) l.rest
