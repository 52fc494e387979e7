-- The number of an action.
use Rattle.std.specs.Prelude.{ℕ}
use Rattle.records.specs.declared.actions.Action.{Action}
use Rattle.records.specs.declared.actions.Action.TheVariants.{Permit, Deny, PermitLog, DenyLog}

abbrev pub action_number : Action → ℕ
action_number Permit = 0
action_number Deny = 1
action_number PermitLog = 2
action_number DenyLog = 3
