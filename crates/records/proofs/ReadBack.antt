-- An action is read back from its number. Assumes nothing.
use mathlib.Core.Path.{◌≡◌, refl}
use Prim.Native.Nat.{ℕ}
use lib.Dec.{eqb}
use Rattle.std.specs.Prelude.{if◌then◌else◌}
use Rattle.records.specs.Actions.{action_number}
use Rattle.records.specs.declared.actions.Action.{Action}
use Rattle.records.specs.declared.actions.Action.TheVariants.{Permit, Deny, PermitLog, DenyLog}

abbrev pub action_from : ℕ → Action
action_from n =
    if eqb n 0 then Permit
    else if eqb n 1 then Deny
    else if eqb n 2 then PermitLog
    else DenyLog

pub action_back : (a : Action) → action_from (action_number a) ≡ a
action_back Permit = refl
action_back Deny = refl
action_back PermitLog = refl
action_back DenyLog = refl
