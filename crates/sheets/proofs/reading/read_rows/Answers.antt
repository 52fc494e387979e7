-- `sheets::reading::read_rows` meets its contract: what is left of the text completes the verdict and the rules. Assumes nothing.
use mathlib.Core.Path.{◌≡◌}
use Prim.Native.Nat.{◌+◌}
use native.Mathlib.Omega.{arith}
use Rattle.std.proofs.Common.{of_calls}
use Rattle.std.proofs.lemmas.Result.{err_from_is_err_and}
use Rattle.sheets.proofs.LinesLeft.{lines_all, lines_bad, lines_end, lines_more, lines_open, mapped_bad, mapped_good}
use Rattle.sheets.proofs.reading.read_rows.Goals as goal

pub returns-in_default : goal.returns-in_default
returns-in_default c = lines_open _ _ _ _ c.loop-i.invariant c.loop-i-test.true c.if-is_empty.ensures _ c.cut.ensures c.in_default.is

pub returns-in_err-map_err : goal.returns-in_err-map_err
returns-in_err-map_err c =
    let p = err_from_is_err_and c.from_residual.result c.from_residual.ensures.1 in
    let m = mapped_bad _ _ c.read_row.result c.in_err-map_err.ensures.cases c.in_err-map_err.ensures.variant in
    let q : c.in_err-map_err.field-0.0 ≡ record { line = c.loop-i.i + 1; part = m.0 } = search (of_calls, m.2) in
    rw (p.1, p.2, q)
    (lines_bad _ _ _ _ c.loop-i.invariant c.loop-i-test.true (rw c.in-Some.is at c.cut.ensures) _ (rw m.1 at c.read_row.ensures))

pub loop-i-preserved : goal.loop-i-preserved
loop-i-preserved c =
    let m = mapped_good _ c.read_row.result _ c.in_ok-map_err.ensures.cases c.in_ok-map_err.ensures.variant in
    lines_more _ _ _ _ c.loop-i.invariant c.loop-i-test.true (rw c.in-Some.is at c.cut.ensures) _
    (rw m at c.read_row.ensures) _ c.push.ensures.items

pub returns-then-is_empty : goal.returns-then-is_empty
returns-then-is_empty c = lines_end _ _ _ _ c.loop-i.invariant c.if-is_empty.ensures

pub returns-after-loop-i : goal.returns-after-loop-i
returns-after-loop-i c = lines_all _ _ _ _ c.loop-i.invariant (omega arith)
