-- What the contract of `test_rules` says of an outcome, for the theorem that two outcomes of one input coincide.
use Rattle.std.specs.Prelude.{IfOk, List, ◌≡◌, ℕ, Result, Ok, Err}
use Rattle.records.specs.Rules.{all_rules}
use Rattle.records.specs.declared.Rule.{Rule}
use Rattle.rules.specs.Faults.{tested_rules}
use Rattle.rules.specs.Lists.{rules_in, tested_as}
use Rattle.rules.specs.declared.faults.ListFault.{ListFault}
use Rattle.rules.specs.declared.lists.RuleList.{RuleList}

-- its two clauses
pub record TestedAs (l : List ℕ) (r : Result RuleList ListFault) : Type 0 where
  pub says : tested_as r ≡ tested_rules l
  pub holds : IfOk r (λ (x : RuleList). rules_in x.records.now ≡ all_rules l)

-- the rules of the list that a test hands out, or its fault
abbrev pub rules_as : Result RuleList ListFault → Result (List Rule) ListFault
rules_as (Ok x) = Ok (rules_in x.records.now)
rules_as (Err f) = Err f
