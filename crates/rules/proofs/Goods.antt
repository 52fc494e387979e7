-- What a well-formed rule list has. Assumes nothing.
use mathlib.Core.Bool.{Bool, true, false}
use mathlib.Core.List.{List, [], ◌∷◌}
use mathlib.Core.Path.{◌≡◌, refl, sym, ◌∙◌}
use Prim.Native.Nat.{ℕ, zero, suc, ◌+◌, ◌-◌, ◌/◌, ◌%◌, ◌^◌, ◌≤◌, ◌<◌}
use native.Mathlib.Omega.{arith}
use lib.Dec.{eqb}
use lib.ListN.{get_or, length}
use borrow.Author.Tests.{eq-eqb, eqb-true, ltb-false, not-false}
use Rattle.std.specs.Prelude.{Ok, Err, if◌then◌else◌}
use Rattle.records.specs.Layout.{rule_limit, rule_size}
use Rattle.records.specs.Rules.{all_rules, rule_at}
use Rattle.records.specs.declared.Rule.{Rule}
use Rattle.rules.specs.Faults.{bad_field, faults, field_numbered, first_bad, first_true, tested_rules}
use Rattle.rules.specs.Lists.{NoneBad, rules_in}
use Rattle.rules.specs.declared.faults.ListFault.{ListFault}
use Rattle.rules.specs.declared.faults.ListFault.TheVariants.{Odd, Many, Bad}
use Rattle.rules.proofs.Testing.{tested_each, tested_past}

-- ---- a rule

abbrev AllFalse : List Bool → Type 0
AllFalse [] = Unit
AllFalse (b ∷ bs) = (b ≡ false) × AllFalse bs

all_false : (i : ℕ) (bs : List Bool) → 0 < i → first_true i bs ≡ 0 → AllFalse bs
unfolding first_true
all_false i [] h e = tt
all_false i (true ∷ bs) h e = absurd (omega arith)
all_false i (false ∷ bs) h e = (refl, all_false (i + 1) bs (omega arith) e)

-- no field of the rule is bad
pub record Fine (r : Rule) : Type 0 where
  pub flag : r.flag ≤ 1
  pub spare : r.flag ≡ 1 → r.proto ≡ 0
  pub slen : r.slen ≤ 32
  pub src : r.src % 2 ^ (32 - r.slen) ≡ 0
  pub dlen : r.dlen ≤ 32
  pub dst : r.dst % 2 ^ (32 - r.dlen) ≡ 0
  pub source : r.slow ≤ r.shigh
  pub dest : r.dlow ≤ r.dhigh
  pub action : r.action ≤ 3

pub fine : (r : Rule) → bad_field r ≡ 0 → Fine r
unfolding bad_field
fine r e =
    let a = all_false 1 (faults r) (omega arith) e in
    record {
      flag = ltb-false 1 r.flag a.0;
      spare = λ (h : r.flag ≡ 1). eqb-true r.proto 0 (not-false (eqb r.proto 0) (rw (eq-eqb r.flag 1 h) at a.1.0));
      slen = ltb-false 32 r.slen a.1.1.0;
      src = eqb-true (r.src % 2 ^ (32 - r.slen)) 0 (not-false (eqb (r.src % 2 ^ (32 - r.slen)) 0) a.1.1.1.0);
      dlen = ltb-false 32 r.dlen a.1.1.1.1.0;
      dst = eqb-true (r.dst % 2 ^ (32 - r.dlen)) 0 (not-false (eqb (r.dst % 2 ^ (32 - r.dlen)) 0) a.1.1.1.1.1.0);
      source = ltb-false r.shigh r.slow a.1.1.1.1.1.1.0;
      dest = ltb-false r.dhigh r.dlow a.1.1.1.1.1.1.1.0;
      action = ltb-false 3 r.action a.1.1.1.1.1.1.1.1.0;
    }

-- ---- rules

-- the first is good, and so are those after it
pub good_next : (i : ℕ) (r : Rule) (rs : List Rule) → first_bad i (r ∷ rs) ≡ Ok tt → (bad_field r ≡ 0) × (first_bad (i + 1) rs ≡ Ok tt)
unfolding first_bad
good_next i r rs e = go (eqb (bad_field r) 0) refl e
  where
    go : (b : Bool) → eqb (bad_field r) 0 ≡ b → (if b then first_bad (i + 1) rs else Err (Bad i (field_numbered (bad_field r)))) ≡ Ok tt
        → (bad_field r ≡ 0) × (first_bad (i + 1) rs ≡ Ok tt)
    go true z w = (eqb-true (bad_field r) 0 z, w)
    go false z w = cc

-- ---- the rules of records

-- where none is bad, each rule is fine
pub fine_at : (records : List (List ℕ)) → NoneBad records → (i : ℕ) → i < length records → Fine (rule_at (get_or records i []))
fine_at records g i h = fine (rule_at (get_or records i [])) (g i h)

-- a list whose test is passed has no bad rule
pub none_bad : (j : ℕ) (records : List (List ℕ)) → first_bad j (rules_in records) ≡ Ok tt → NoneBad records
none_bad j [] e i h = absurd (omega arith)
none_bad j (s ∷ ss) e zero h = (good_next j (rule_at s) (rules_in ss) e).0
none_bad j (s ∷ ss) e (suc i) h = none_bad (j + 1) ss (good_next j (rule_at s) (rules_in ss) e).1 i (omega arith)

-- ---- a list

-- no test of the list refuses it
pub record GoodList (l : List ℕ) : Type 0 where
  pub whole : length l % rule_size ≡ 0
  pub few : length l / rule_size ≤ rule_limit
  pub good : first_bad 0 (all_rules l) ≡ Ok tt

module _ (l : List ℕ) where
  not_refused : (f : ListFault) → tested_rules l ≡ Ok tt → tested_rules l ≡ Err f → ⊥
  not_refused f e g = cc

  pub good_list : tested_rules l ≡ Ok tt → GoodList l
  good_list e =
      let p = tested_past l (not_refused Odd e) (not_refused Many e) in
      record { whole = p.0; few = p.1; good = sym (tested_each l p.0 p.1) ∙ e }

  pub list_good : GoodList l → tested_rules l ≡ Ok tt
  list_good g = tested_each l g.whole g.few ∙ g.good
