-- The rule named by 7 is the lowest bad one, and its field the first bad one. Assumes nothing.
use mathlib.Core.Bool.{Bool, true, false}
use mathlib.Core.List.Memᴰ
use mathlib.Core.List.{List, [], ◌∷◌, Memᴰ}
use mathlib.Core.Logic.{◌⊎◌, inl, inr}
use mathlib.Core.Path.{◌≡◌, refl, sym, ap, ◌∙◌}
use Prim.Native.Nat.{ℕ, zero, suc, ◌+◌, ◌≤◌, ◌<◌}
use native.Mathlib.Omega.{arith}
use lib.Dec.{eqb}
use lib.ListN.{get_or, length}
use borrow.Author.Tests.{eqb-true, eqb-false}
use Rattle.std.specs.Prelude.{Err, if◌then◌else◌}
use Rattle.records.specs.Rules.{all_rules}
use Rattle.records.specs.declared.Rule.{Rule}
use Rattle.rules.specs.Faults.{bad_field, faults, field_number, field_numbered, first_bad, first_true, tested_rules}
use Rattle.rules.specs.Lowest.{FirstTest, LowestBad}
use Rattle.rules.specs.declared.faults.Field.{Field}
use Rattle.rules.specs.declared.faults.ListFault.TheVariants.{Odd, Many, Bad}
use Rattle.rules.proofs.Fields.{field_some, number_back}
use Rattle.rules.proofs.Testing.{tested_each, tested_past}

-- ---- the rule

-- a bad field's number is at most 9
first_true_within : (i : ℕ) (bs : List Bool) → 0 < i → first_true i bs < i + length bs
unfolding first_true
first_true_within i [] h = omega arith
first_true_within i (true ∷ bs) h = omega arith
first_true_within i (false ∷ bs) h = omega (arith, first_true_within (i + 1) bs (omega arith))

bad_within : (r : Rule) → bad_field r ≤ 9
unfolding bad_field
bad_within r = omega (arith, first_true_within 1 (faults r) (omega arith))

pub lowest_bad : (j : ℕ) (rs : List Rule) (i : ℕ) (f : Field) → first_bad j rs ≡ Err (Bad i f) → LowestBad rs j i (field_number f)
unfolding first_bad
lowest_bad j [] i f e = absurd (cc)
lowest_bad j (r ∷ rs) i f e = go (eqb (bad_field r) 0) refl e (lowest_bad (j + 1) rs i f)
  where
    go : (b : Bool) → eqb (bad_field r) 0 ≡ b
        → (if b then first_bad (j + 1) rs else Err (Bad j (field_numbered (bad_field r)))) ≡ Err (Bad i f)
        → (first_bad (j + 1) rs ≡ Err (Bad i f) → LowestBad rs (j + 1) i (field_number f)) → LowestBad (r ∷ rs) j i (field_number f)
    go false z w below =
        let p : j ≡ i = cc in
        let g : field_numbered (bad_field r) ≡ f = cc in
        let some : bad_field r ≡ 0 → ⊥ = eqb-false (bad_field r) 0 z in
        let q : bad_field r ≡ field_number f = sym (number_back (bad_field r) (omega arith) (bad_within r)) ∙ ap field_number g in
        record {
          before = [];
          bad = r;
          after = rs;
          splits = refl;
          number = omega arith;
          field = q;
          some = field_some f;
          fine = λ (s : Rule) (m : Memᴰ s []). absurd (Memᴰ.not-nil m);
        }
    go true z w below =
        let u = below w in
        record {
          before = r ∷ u.before;
          bad = u.bad;
          after = u.after;
          splits = ap (λ (x : List Rule). r ∷ x) u.splits;
          number = omega arith;
          field = u.field;
          some = u.some;
          fine = λ (s : Rule) (m : Memᴰ s (r ∷ u.before)). each s u.before (u.fine s) (Memᴰ.cases_cons m);
        }
      where
        each : (s : Rule) (ss : List Rule) → (Memᴰ s ss → bad_field s ≡ 0) → (s ≡ r) ⊎ Memᴰ s ss → bad_field s ≡ 0
        each s ss h (inl x) = ap bad_field x ∙ eqb-true (bad_field r) 0 z
        each s ss h (inr m) = h m

-- the same of the answer to a list of bytes
pub lowest_tested : (l : List ℕ) (i : ℕ) (f : Field) → tested_rules l ≡ Err (Bad i f) → LowestBad (all_rules l) 0 i (field_number f)
lowest_tested l i f e =
    let p = tested_past l (λ (a : tested_rules l ≡ Err Odd). cc) (λ (a : tested_rules l ≡ Err Many). cc) in
    lowest_bad 0 (all_rules l) i f (sym (tested_each l p.0 p.1) ∙ e)

-- ---- its field

first_test : (bs : List Bool) (i f : ℕ) → first_true i bs ≡ f → (f ≡ 0 → ⊥) → FirstTest bs i f
unfolding first_true
first_test [] i f e h = absurd (h (omega arith))
first_test (true ∷ bs) i f e h = record {
  place = 0;
  number = omega arith;
  within = omega arith;
  holds = refl;
  before = λ (k : ℕ) (l : k < 0). absurd (omega arith);
}
first_test (false ∷ bs) i f e h =
    let u = first_test bs (i + 1) f e h in
    record {
      place = suc u.place;
      number = omega arith;
      within = omega arith;
      holds = u.holds;
      before = each u.place u.before;
    }
  where
    each : (p : ℕ) → ((k : ℕ) → k < p → get_or bs k false ≡ false) → (k : ℕ) → k < suc p → get_or (false ∷ bs) k false ≡ false
    each p h zero l = refl
    each p h (suc k) l = h k (omega arith)

pub first_field : (r : Rule) (f : ℕ) → bad_field r ≡ f → (f ≡ 0 → ⊥) → FirstTest (faults r) 1 f
unfolding bad_field
first_field r = first_test (faults r) 1
