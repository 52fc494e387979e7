-- `sheets::parts::read_protocol` meets its contract: a star, or a number of one byte. Assumes nothing.
use mathlib.Core.Path.{◌∙◌}
use Rattle.sheets.proofs.Words.{compared, protocol_any, protocol_other}
use Rattle.sheets.proofs.parts.read_protocol.Goals as goal

pub returns-then-eq : goal.returns-then-eq
returns-then-eq c = protocol_any _ (compared _ _ _ c.as_slice.ensures c.if-eq.ensures)

pub returns-in_err-octet : goal.returns-in_err-octet
returns-in_err-octet c =
    rw c.from_residual.ensures (c.in_err-octet.ensures ∙ protocol_other _ (compared _ _ _ c.as_slice.ensures c.if-eq.ensures))

pub returns : goal.returns
returns c = c.in_ok-octet.ensures ∙ protocol_other _ (compared _ _ _ c.as_slice.ensures c.if-eq.ensures)
