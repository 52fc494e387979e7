-- `sheets::parts::read_action` meets its contract: one of four words. Assumes nothing.
use Rattle.sheets.proofs.Words.{action_deny, action_deny_log, action_none, action_permit, action_permit_log, compared}
use Rattle.sheets.proofs.parts.read_action.Goals as goal

pub returns-then-eq : goal.returns-then-eq
returns-then-eq c = action_permit _ (compared _ _ _ c.as_slice.ensures c.if-eq.ensures)

pub returns-then-eq-2 : goal.returns-then-eq-2
returns-then-eq-2 c =
    action_deny _
    (compared _ _ _ c.as_slice.ensures c.if-eq.ensures)
    (compared _ _ _ c.as_slice-else-eq.ensures c.if-eq-2.ensures)

pub returns-then-eq-3 : goal.returns-then-eq-3
returns-then-eq-3 c =
    action_permit_log _
    (compared _ _ _ c.as_slice.ensures c.if-eq.ensures)
    (compared _ _ _ c.as_slice-else-eq.ensures c.if-eq-2.ensures)
    (compared _ _ _ c.as_slice-else-eq-2.ensures c.if-eq-3.ensures)

pub returns-then-eq-4 : goal.returns-then-eq-4
returns-then-eq-4 c =
    action_deny_log _
    (compared _ _ _ c.as_slice.ensures c.if-eq.ensures)
    (compared _ _ _ c.as_slice-else-eq.ensures c.if-eq-2.ensures)
    (compared _ _ _ c.as_slice-else-eq-2.ensures c.if-eq-3.ensures)
    (compared _ _ _ c.as_slice-else-eq-3.ensures c.if-eq-4.ensures)

pub returns-else-eq-4 : goal.returns-else-eq-4
returns-else-eq-4 c =
    action_none _
    (compared _ _ _ c.as_slice.ensures c.if-eq.ensures)
    (compared _ _ _ c.as_slice-else-eq.ensures c.if-eq-2.ensures)
    (compared _ _ _ c.as_slice-else-eq-2.ensures c.if-eq-3.ensures)
    (compared _ _ _ c.as_slice-else-eq-3.ensures c.if-eq-4.ensures)
