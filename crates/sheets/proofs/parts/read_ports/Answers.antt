-- `sheets::parts::read_ports` meets its contract: the numbers before and after a dash. Assumes nothing.
use mathlib.Core.Path.{refl, ◌∙◌}
use native.Mathlib.Omega.{arith}
use Rattle.sheets.proofs.Joining.{high_none, low_none, paired_good, paired_order, ports_parts}
use Rattle.sheets.proofs.parts.read_ports.Goals as goal

pub returns-in_err-number : goal.returns-in_err-number
returns-in_err-number c =
    rw c.from_residual.ensures (low_none _ ∙ ports_parts _ c.halves.ensures c.in_err-number.ensures refl)

pub returns-in_err-number-2 : goal.returns-in_err-number-2
returns-in_err-number-2 c =
    rw c.from_residual-in_err-number-2.ensures (high_none _ ∙ ports_parts _ c.halves.ensures refl c.in_err-number-2.ensures)

pub returns-then-ports : goal.returns-then-ports
returns-then-ports c =
    paired_order _ _ c.if-ports.true ∙ ports_parts _ c.halves.ensures c.in_ok-number.ensures c.in_ok-number-2.ensures

pub returns : goal.returns
returns c =
    paired_good _ _ c.if-ports.false (omega arith) ∙ ports_parts _ c.halves.ensures c.in_ok-number.ensures c.in_ok-number-2.ensures
