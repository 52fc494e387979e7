-- Finding a header in a rule list: what is answered on any bytes.
use Rattle.std.specs.Prelude.{not, List, ℕ, Option, None, Some, Result, eqb, length, if◌then◌else◌}
use Rattle.answers.specs.Answers.{answer_of, done, refused}
use Rattle.answers.specs.Refusals as refusal
use Rattle.answers.specs.declared.Answer.{Answer}
use Rattle.records.specs.Actions.{action_number}
use Rattle.records.specs.Keys.{key_at}
use Rattle.records.specs.Layout.{key_size}
use Rattle.records.specs.Rules.{all_rules}
use Rattle.rules.specs.Faults.{behind_rules, list_fault_as, tested_rules}
use Rattle.rules.specs.Meaning.{first_rule}
use Rattle.rules.specs.declared.faults.ListFault.{ListFault}
use Rattle.rules.specs.declared.finding.FindError.{FindError}
use Rattle.rules.specs.declared.finding.FindError.TheVariants.{Rules, Header}
use Rattle.rules.specs.declared.finding.Found.{Found}

-- document 01's number and values for each answer
abbrev pub rule_found : Option Found → Answer
rule_found None = done 0 0 0 0
rule_found (Some f) = done 1 f.rule (action_number f.action) 0

abbrev pub find_error_as : FindError → Answer
find_error_as (Rules f) = list_fault_as f
find_error_as Header = refused refusal.header 0 0

abbrev pub found_as : Result (Option Found) FindError → Answer
found_as = answer_of rule_found find_error_as

-- a list's fault as one of finding
abbrev pub find_fault : ListFault → FindError
find_fault f = Rules f

-- the answer on a well-formed list
unfoldable pub finding_good : List ℕ → List ℕ → Answer
finding_good l h =
    if not (eqb (length h) key_size) then refused refusal.header 0 0
    else first_rule 0 (all_rules l) (key_at h)

unfoldable pub finding : List ℕ → List ℕ → Answer
finding l h = behind_rules (tested_rules l) (finding_good l h)
