-- What is wrong with a rule list (document 01, "When the tablet says no": 5, 6 and 7), lowest number first. A list is well
-- formed when none of these applies.
use Rattle.std.specs.Prelude.{Bool, ◌&&◌, not, List, [], ◌∷◌, ℕ, ◌+◌, ◌/◌, ◌%◌, Option, None, Some, Result, Ok, Err, eqb, ltb, length, if◌then◌else◌}
use Rattle.answers.specs.Answers.{refused}
use Rattle.answers.specs.Refusals as refusal
use Rattle.answers.specs.declared.Answer.{Answer}
use Rattle.records.specs.Layout.{last_action, rule_limit, rule_size}
use Rattle.records.specs.Prefixes.{beyond?}
use Rattle.records.specs.Rules.{all_rules}
use Rattle.records.specs.declared.Rule.{Rule}
use Rattle.rules.specs.declared.faults.Field.{Field}
use Rattle.rules.specs.declared.faults.Field.TheVariants.{Flag, Spare, SourceLength, SourceBits, DestLength, DestBits, SourcePorts, DestPorts, Action}
use Rattle.rules.specs.declared.faults.ListFault.{ListFault}
use Rattle.rules.specs.declared.faults.ListFault.TheVariants.{Odd, Many, Bad}

-- a protocol stands under flag 1
abbrev pub spare? : Rule → Bool
spare? r = eqb r.flag 1 && not (eqb r.proto 0)

-- the tests of a rule's fields, in the order of their numbers from 1
abbrev pub faults : Rule → List Bool
faults r =
    ltb 1 r.flag
    ∷ spare? r
    ∷ ltb 32 r.slen
    ∷ beyond? r.src r.slen
    ∷ ltb 32 r.dlen
    ∷ beyond? r.dst r.dlen
    ∷ ltb r.shigh r.slow
    ∷ ltb r.dhigh r.dlow
    ∷ ltb last_action r.action
    ∷ []

-- the number of the first test that holds, the first of them having number i, or 0 where none does
unfoldable pub first_true : ℕ → List Bool → ℕ
first_true i [] = 0
first_true i (b ∷ bs) = if b then i else first_true (i + 1) bs

-- a rule's first bad field, or 0
unfoldable pub bad_field : Rule → ℕ
bad_field r = first_true 1 (faults r)

-- a field's number, and the field of a number from 1 to 9
abbrev pub field_number : Field → ℕ
field_number Flag = 1
field_number Spare = 2
field_number SourceLength = 3
field_number SourceBits = 4
field_number DestLength = 5
field_number DestBits = 6
field_number SourcePorts = 7
field_number DestPorts = 8
field_number Action = 9

unfoldable pub field_numbered : ℕ → Field
field_numbered n =
    if eqb n 1 then Flag
    else if eqb n 2 then Spare
    else if eqb n 3 then SourceLength
    else if eqb n 4 then SourceBits
    else if eqb n 5 then DestLength
    else if eqb n 6 then DestBits
    else if eqb n 7 then SourcePorts
    else if eqb n 8 then DestPorts
    else Action

-- the number of a field, or 0 where there is none
abbrev pub field_or_0 : Option Field → ℕ
field_or_0 None = 0
field_or_0 (Some f) = field_number f

-- the first bad rule, the first rule having number i
unfoldable pub first_bad : ℕ → List Rule → Result Unit ListFault
first_bad i [] = Ok tt
first_bad i (r ∷ rs) = if eqb (bad_field r) 0 then first_bad (i + 1) rs else Err (Bad i (field_numbered (bad_field r)))

unfoldable pub tested_rules : List ℕ → Result Unit ListFault
tested_rules l =
    if not (eqb (length l % rule_size) 0) then Err Odd
    else if ltb rule_limit (length l / rule_size) then Err Many
    else first_bad 0 (all_rules l)

-- document 01's number and values for each fault
abbrev pub list_fault_as : ListFault → Answer
list_fault_as Odd = refused refusal.odd 0 0
list_fault_as Many = refused refusal.many 0 0
list_fault_as (Bad i f) = refused refusal.rule i (field_number f)

-- what is answered where these tests come first
unfoldable pub behind_rules : Result Unit ListFault → Answer → Answer
behind_rules (Ok x) a = a
behind_rules (Err f) a = list_fault_as f
