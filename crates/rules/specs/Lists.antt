-- A rule list that has passed its tests: what it holds.
use Rattle.std.specs.Prelude.{List, [], ◌≡◌, ℕ, ◌<◌, Result, Ok, Err, get_or, length, map}
use Rattle.records.specs.Rules.{rule_at}
use Rattle.records.specs.declared.Rule.{Rule}
use Rattle.rules.specs.Faults.{bad_field}

-- the rules of a list of records
abbrev pub rules_in : List (List ℕ) → List Rule
rules_in records = map rule_at records

-- none of the rules has a bad field
abbrev pub NoneBad : List (List ℕ) → Type 0
NoneBad records = (i : ℕ) → i < length records → bad_field (rule_at (get_or records i [])) ≡ 0

-- what a test says, without what it hands out
abbrev pub tested_as : {A E : Type 0} → Result A E → Result Unit E
tested_as (Ok x) = Ok tt
tested_as (Err e) = Err e
