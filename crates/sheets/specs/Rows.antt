-- A line of a sheet, without its line feed: the rule that it says, or its first bad field.
use Rattle.std.specs.Prelude.{not, List, ℕ, ◌/◌, ◌%◌, Result, Ok, Err, eqb, ltb, if◌then◌else◌}
use Rattle.records.specs.Layout.{last_action}
use Rattle.records.specs.declared.Rule.{Rule}
use Rattle.sheets.specs.Cuts.{after, before, times}
use Rattle.sheets.specs.Parts.{Address, Ports, action_of, address_of, any, ports_of, protocol_of}
use Rattle.sheets.specs.declared.rows.Part.{Part}
use Rattle.sheets.specs.declared.rows.Part.TheVariants as part
use Rattle.texts.specs.Lines.{tab}

-- The rule of six good fields. A protocol is 0 .. 255 or `any`, which is 256: so its quotient by `any` is the flag of a rule
-- record, and its remainder the protocol, which is 0 under the flag.
abbrev pub rule_of : ℕ → Address → Address → Ports → Ports → ℕ → Rule
rule_of p src dst sports dports act = record {
  flag = p / any;
  proto = p % any;
  src = src.bits;
  slen = src.len;
  dst = dst.bits;
  dlen = dst.len;
  slow = sports.low;
  shigh = sports.high;
  dlow = dports.low;
  dhigh = dports.high;
  action = act;
}

-- the rule of six fields, or the first that is bad
unfoldable pub row_from : ℕ → Address → Address → Ports → Ports → ℕ → Result Rule ℕ
row_from p src dst sports dports act =
    if ltb any p then Err 1
    else if not src.good then Err 2
    else if not dst.good then Err 3
    else if not sports.good then Err 4
    else if not dports.good then Err 5
    else if ltb last_action act then Err 6
    else Ok (rule_of p src dst sports dports act)

-- what f makes of the six fields of a line
abbrev pub of_fields : {A : Type 0} → (ℕ → Address → Address → Ports → Ports → ℕ → A) → List ℕ → A
of_fields f s =
    let s2 = after tab s in
    let s3 = after tab s2 in
    let s4 = after tab s3 in
    let s5 = after tab s4 in
    let s6 = after tab s5 in
    f (protocol_of (before tab s)) (address_of (before tab s2)) (address_of (before tab s3)) (ports_of (before tab s4)) (ports_of (before tab s5)) (action_of s6)

-- six fields, parted by five tabs
unfoldable pub row_of : List ℕ → Result Rule ℕ
row_of s = if not (eqb (times tab s) 5) then Err 0 else of_fields row_from s

-- ---- as the code answers

-- document 02's number of a part: 0 for the line, where there are not six
abbrev pub part_number : Part → ℕ
part_number part.Line = 0
part_number part.Protocol = 1
part_number part.Source = 2
part_number part.Destination = 3
part_number part.SourcePorts = 4
part_number part.DestinationPorts = 5
part_number part.Action = 6

abbrev pub row_as : Result Rule Part → Result Rule ℕ
row_as (Ok r) = Ok r
row_as (Err p) = Err (part_number p)
