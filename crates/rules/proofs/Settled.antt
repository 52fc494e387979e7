-- Any two outcomes of `find_rule`, and of `test_rules`, that the contracts allow for one input coincide.
-- Each answer can be read back from document 01's number and values, so equal numbers mean equal answers; and a refused list's
-- number is never 0. Assumes nothing.
use mathlib.Core.List.{List}
use mathlib.Core.Path.{◌≡◌, refl, sym, ap, ◌∙◌}
use Prim.Native.Nat.{ℕ}
use native.Mathlib.Omega.{arith}
use lib.Dec.{eqb}
use Rattle.std.specs.Prelude.{Option, None, Some, Result, Ok, Err, if◌then◌else◌}
use Rattle.answers.proofs.ReadBack.{back}
use Rattle.answers.specs.Refusals as refusal
use Rattle.answers.specs.declared.Answer.{Answer}
use Rattle.records.proofs.ReadBack.{action_back, action_from}
use Rattle.rules.specs.Faults.{field_numbered, list_fault_as}
use Rattle.rules.specs.Finding.{finding, found_as}
use Rattle.rules.specs.Outcomes.{TestedAs, rules_as}
use Rattle.rules.specs.declared.faults.ListFault.{ListFault}
use Rattle.rules.specs.declared.faults.ListFault.TheVariants.{Odd, Many, Bad}
use Rattle.rules.specs.declared.finding.FindError.{FindError}
use Rattle.rules.specs.declared.finding.FindError.TheVariants.{Rules, Header}
use Rattle.rules.specs.declared.finding.Found.{Found}
use Rattle.rules.specs.declared.lists.RuleList.{RuleList}
use Rattle.rules.proofs.Fields.{field_back}

-- ---- reading back

pub list_fault_from : Answer → ListFault
list_fault_from r =
    if eqb r.no refusal.odd then Odd
    else if eqb r.no refusal.many then Many
    else Bad r.a (field_numbered r.b)

found_from : Answer → Result (Option Found) FindError
found_from r =
    if eqb r.no 0 then (if eqb r.a 0 then Ok None else Ok (Some (record { rule = r.b; action = action_from r.c })))
    else if eqb r.no refusal.header then Err Header
    else Err (Rules (list_fault_from r))

pub fault_back : (f : ListFault) → list_fault_from (list_fault_as f) ≡ f
unfolding list_fault_from
fault_back Odd = refl
fault_back Many = refl
fault_back (Bad i f) = ap (Bad i) (field_back f)

found_back : (r : Result (Option Found) FindError) → found_from (found_as r) ≡ r
unfolding found_from
found_back (Ok None) = refl
found_back (Ok (Some f)) = rw (action_back f.action)
found_back (Err Header) = refl
found_back (Err (Rules Odd)) = ap (λ (f : ListFault). Err (Rules f)) (fault_back Odd)
found_back (Err (Rules Many)) = ap (λ (f : ListFault). Err (Rules f)) (fault_back Many)
found_back (Err (Rules (Bad i f))) = ap (λ (f : ListFault). Err (Rules f)) (fault_back (Bad i f))

-- a refusal's number is not that of an answer
pub fault_some : (f : ListFault) → (list_fault_as f).no ≡ 0 → ⊥
fault_some Odd e = omega arith
fault_some Many e = omega arith
fault_some (Bad i f) e = omega arith

-- ---- two outcomes

module _ (l : List ℕ) where
  pub one_test : (r s : Result RuleList ListFault) → TestedAs l r → TestedAs l s → rules_as r ≡ rules_as s
  one_test (Ok x) (Ok y) p q = ap Ok (p.holds ∙ sym q.holds)
  one_test (Ok x) (Err f) p q = cc
  one_test (Err e) (Ok y) p q = cc
  one_test (Err e) (Err f) p q = cc

pub one_find : (l h : List ℕ) (r s : Result (Option Found) FindError) → found_as r ≡ finding l h → found_as s ≡ finding l h → r ≡ s
one_find l h = back found_as found_from found_back (finding l h)
