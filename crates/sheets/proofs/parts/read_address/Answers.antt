-- `sheets::parts::read_address` meets its contract: three numbers before dots, one before a slash, and one after it.
-- Assumes nothing.
use mathlib.Core.Path.{refl, ◌∙◌}
use Rattle.sheets.proofs.Joining.{address_parts, first_none, fourth_none, length_none, second_none, third_none}
use Rattle.sheets.proofs.parts.read_address.Goals as goal

pub returns : goal.returns
returns c =
    c.joined.ensures
    ∙ address_parts _ c.halves.ensures c.halves-2.ensures c.halves-3.ensures c.halves-4.ensures c.in_ok-octet.ensures c.in_ok-octet-2.ensures c.in_ok-octet-3.ensures c.in_ok-octet-4.ensures c.in_ok-number.ensures

pub returns-in_err-octet : goal.returns-in_err-octet
returns-in_err-octet c =
    rw c.from_residual.ensures
    (first_none _ _ _ _
    ∙ address_parts _ c.halves.ensures c.halves-2.ensures c.halves-3.ensures c.halves-4.ensures c.in_err-octet.ensures refl refl refl refl)

pub returns-in_err-octet-2 : goal.returns-in_err-octet-2
returns-in_err-octet-2 c =
    rw c.from_residual-in_err-octet-2.ensures
    (second_none _ _ _ _
    ∙ address_parts _ c.halves.ensures c.halves-2.ensures c.halves-3.ensures c.halves-4.ensures refl c.in_err-octet-2.ensures refl refl refl)

pub returns-in_err-octet-3 : goal.returns-in_err-octet-3
returns-in_err-octet-3 c =
    rw c.from_residual-in_err-octet-3.ensures
    (third_none _ _ _ _
    ∙ address_parts _ c.halves.ensures c.halves-2.ensures c.halves-3.ensures c.halves-4.ensures refl refl c.in_err-octet-3.ensures refl refl)

pub returns-in_err-octet-4 : goal.returns-in_err-octet-4
returns-in_err-octet-4 c =
    rw c.from_residual-in_err-octet-4.ensures
    (fourth_none _ _ _ _
    ∙ address_parts _ c.halves.ensures c.halves-2.ensures c.halves-3.ensures c.halves-4.ensures refl refl refl c.in_err-octet-4.ensures refl)

pub returns-in_err-number : goal.returns-in_err-number
returns-in_err-number c =
    rw c.from_residual-in_err-number.ensures
    (length_none _ _ _ _
    ∙ address_parts _ c.halves.ensures c.halves-2.ensures c.halves-3.ensures c.halves-4.ensures refl refl refl refl c.in_err-number.ensures)
