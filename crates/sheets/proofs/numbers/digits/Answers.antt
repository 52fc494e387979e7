-- `sheets::numbers::digits` meets its contract: each turn takes one digit more. Assumes nothing.
use mathlib.Core.Path.{sym, ◌∙◌}
use native.Mathlib.Omega.{arith}
use Rattle.sheets.proofs.DigitsSoFar.{said_end, said_large, said_more, said_other}
use Rattle.sheets.proofs.numbers.digits.Goals as goal

pub returns-then-not-is_ascii_digit : goal.returns-then-not-is_ascii_digit
returns-then-not-is_ascii_digit c =
    said_other _ _ _ c.loop-c.invariant c.loop-c-test.true (sym c.is_ascii_digit.ensures.value ∙ c.if-not-is_ascii_digit.true)

pub returns-then-x-gt65535 : goal.returns-then-x-gt65535
returns-then-x-gt65535 c =
    said_large _ _ _ c.loop-c.invariant c.loop-c-test.true (sym c.is_ascii_digit.ensures.value ∙ c.if-not-is_ascii_digit.false) _
    c.from.ensures (omega arith)

pub loop-c-preserved : goal.loop-c-preserved
loop-c-preserved c =
    said_more _ _ _ c.loop-c.invariant c.loop-c-test.true (sym c.is_ascii_digit.ensures.value ∙ c.if-not-is_ascii_digit.false) _
    c.from.ensures (omega arith)

pub returns : goal.returns
returns c = said_end _ _ _ c.loop-c.invariant (omega arith)
