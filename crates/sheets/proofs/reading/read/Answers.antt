-- `sheets::reading::read` meets its contract: each return answers what the tests before it say. Assumes nothing.
use native.Mathlib.Omega.{arith}
use Rattle.std.proofs.lemmas.Result.{err_from_is_err_and}
use Rattle.sheets.proofs.Verdicts.{sheet_bad, sheet_long, sheet_many, sheet_room, sheet_rules}
use Rattle.sheets.proofs.reading.read.Goals as goal

pub returns-then-text-gt-SHEET_LIMIT : goal.returns-then-text-gt-SHEET_LIMIT
returns-then-text-gt-SHEET_LIMIT c = sheet_long _ _ c.if-text-gt-SHEET_LIMIT.true

pub returns-then-many : goal.returns-then-many
returns-then-many c = sheet_many _ _ c.if-text-gt-SHEET_LIMIT.false c.if-many.ensures

pub returns-in_err-read_rows : goal.returns-in_err-read_rows
returns-in_err-read_rows c =
    let p = err_from_is_err_and c.from_residual.result c.from_residual.ensures.1 in
    rw (p.1, p.2) (sheet_bad _ _ c.if-text-gt-SHEET_LIMIT.false c.if-many.ensures _ _ c.in_err-read_rows.ensures)

pub returns-then-rules-bytes : goal.returns-then-rules-bytes
returns-then-rules-bytes c =
    sheet_room _ _ c.if-text-gt-SHEET_LIMIT.false c.if-many.ensures _ c.in_ok-read_rows.ensures _ c.len-bytes.ensures.value c.if-rules-bytes.true

pub returns : goal.returns
returns c =
    sheet_rules _ _ c.if-text-gt-SHEET_LIMIT.false c.if-many.ensures _ c.in_ok-read_rows.ensures _ c.len.ensures.value (omega arith) _
    (rw c.as_slice.ensures.value at c.put_rules.ensures)
