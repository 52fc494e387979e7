-- The six fields of a line: protocol, two addresses, two port intervals, action. Document 01's tests of a rule are part of
-- what makes a field good.
use Rattle.std.specs.Prelude.{Bool, true, false, ◌&&◌, not, List, [], ◌∷◌, ℕ, ◌+◌, ◌*◌, Option, None, Some, leb, if◌then◌else◌}
use Rattle.fields.specs.Same.{same?}
use Rattle.records.specs.Actions.{action_number}
use Rattle.records.specs.Layout.{last_action}
use Rattle.records.specs.Prefixes.{beyond?}
use Rattle.records.specs.declared.actions.Action.{Action}
use Rattle.records.specs.declared.prefixes.Prefix.{Prefix}
use Rattle.sheets.specs.Cuts.{after, before}
use Rattle.sheets.specs.Numbers.{none, number_of}
use Rattle.sheets.specs.declared.parts.Ports as ports
use Rattle.sheets.specs.declared.parts.Protocol.{Protocol}
use Rattle.sheets.specs.declared.parts.Protocol.TheVariants.{Any, Exact}
use Rattle.texts.specs.Lines.{deny, deny_log, permit, permit_log}

abbrev pub dot : ℕ
dot = 46

abbrev pub slash : ℕ
slash = 47

abbrev pub dash : ℕ
dash = 45

-- *
abbrev pub star : List ℕ
star = 42 ∷ []

-- any protocol, as a number above all protocols
abbrev pub any : ℕ
any = 256

-- a protocol's number, any, or none
unfoldable pub protocol_of : List ℕ → ℕ
protocol_of s =
    if same? s star then any
    else if leb (number_of s) 255 then number_of s
    else none

-- an address of which the first len bits count, or that there is none
pub record Address : Type 0 where
  pub good : Bool
  pub bits : ℕ
  pub len : ℕ

-- an interval of ports, or that there is none
pub record Ports : Type 0 where
  pub good : Bool
  pub low : ℕ
  pub high : ℕ

-- what is answered where there is no address, and below where there is no interval
abbrev pub bad_address : Address
bad_address = record { good = false; bits = 0; len = 0 }

-- four numbers of a byte each as one
abbrev pub bits_of : ℕ → ℕ → ℕ → ℕ → ℕ
bits_of a b c d = ((a * 256 + b) * 256 + c) * 256 + d

-- an address of four numbers and its length
unfoldable pub joined : ℕ → ℕ → ℕ → ℕ → ℕ → Address
joined a b c d len =
    let bits = bits_of a b c d in
    if leb a 255 && (leb b 255 && (leb c 255 && (leb d 255 && (leb len 32 && not (beyond? bits len)))))
    then record { good = true; bits = bits; len = len }
    else bad_address

-- a.b.c.d/len
unfoldable pub address_of : List ℕ → Address
address_of s =
    let s2 = after dot s in
    let s3 = after dot s2 in
    let s4 = after dot s3 in
    joined (number_of (before dot s)) (number_of (before dot s2)) (number_of (before dot s3)) (number_of (before slash s4))
    (number_of (after slash s4))

abbrev pub bad_ports : Ports
bad_ports = record { good = false; low = 0; high = 0 }

-- two numbers as an interval of ports, where they are in order and in range
unfoldable pub paired : ℕ → ℕ → Ports
paired low high =
    if leb low high && leb high 65535 then record { good = true; low = low; high = high } else bad_ports

-- low-high
unfoldable pub ports_of : List ℕ → Ports
ports_of s = paired (number_of (before dash s)) (number_of (after dash s))

-- what is answered where there is no action
abbrev pub no_action : ℕ
no_action = last_action + 1

-- an action's number, or no_action
unfoldable pub action_of : List ℕ → ℕ
action_of s =
    if same? s permit then 0
    else if same? s deny then 1
    else if same? s permit_log then 2
    else if same? s deny_log then 3
    else no_action

-- ---- as the code answers

abbrev pub protocol_as : Option Protocol → ℕ
protocol_as None = none
protocol_as (Some Any) = any
protocol_as (Some (Exact x)) = x

-- a number of one byte, or none
abbrev pub octet_of : ℕ → ℕ
octet_of x = if leb x 255 then x else none

abbrev pub address_as : Option Prefix → Address
address_as None = bad_address
address_as (Some p) = record { good = true; bits = p.address; len = p.len }

abbrev pub ports_as : Option ports.Ports → Ports
ports_as None = bad_ports
ports_as (Some p) = record { good = true; low = p.low; high = p.high }

abbrev pub action_as : Option Action → ℕ
action_as None = no_action
action_as (Some a) = action_number a
