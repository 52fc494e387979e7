-- The tests of a rule list: each answer is one of their cases, those of the rules by the list's records. Assumes nothing.
use mathlib.Core.List.{List, []}
use mathlib.Core.Logic.{◌⊎◌, inl, inr}
use mathlib.Core.Path.{◌≡◌, sym, ap, ◌∙◌}
use Prim.Native.Nat.{ℕ, ◌/◌, ◌%◌, ◌≤◌, ◌<◌}
use native.Mathlib.Omega.{arith}
use lib.ListN.{length}
use borrow.Author.Tests.{eq-eqb, ne_eqb, lt-ltb, le-ltb}
use Rattle.std.specs.Prelude.{Ok, Err, drop, get_or}
use Rattle.std.specs.Simd.{first_chunks}
use Rattle.std.proofs.lemmas.List.{at_drop_all, at_drop_more}
use Rattle.bits.proofs.Orders.{le_or_lt}
use Rattle.records.specs.Layout.{rule_limit, rule_size}
use Rattle.records.specs.Rules.{all_rules, rule_at}
use Rattle.records.specs.declared.Rule.{Rule}
use Rattle.records.proofs.Chunks.{rules_chunks}
use Rattle.rules.specs.Faults.{bad_field, field_number, first_bad, tested_rules}
use Rattle.rules.specs.Lists.{rules_in}
use Rattle.rules.specs.declared.faults.Field.{Field}
use Rattle.rules.specs.declared.faults.ListFault.TheVariants.{Odd, Many, Bad}
use Rattle.rules.proofs.Fields.{field_back, field_some}

module _ (l : List ℕ) where
  pub tested_odd : 0 < length l % rule_size → tested_rules l ≡ Err Odd
  unfolding tested_rules
  tested_odd h = simp (ne_eqb (length l % rule_size) 0 (λ (z : length l % rule_size ≡ 0). omega arith))

  module _ (whole : length l % rule_size ≡ 0) where
    pub tested_many : rule_limit < length l / rule_size → tested_rules l ≡ Err Many
    unfolding tested_rules
    tested_many h = simp (eq-eqb (length l % rule_size) 0 whole, lt-ltb rule_limit (length l / rule_size) h)

    pub tested_each : length l / rule_size ≤ rule_limit → tested_rules l ≡ first_bad 0 (all_rules l)
    unfolding tested_rules
    tested_each h = simp (eq-eqb (length l % rule_size) 0 whole, le-ltb rule_limit (length l / rule_size) h)

    -- by its records
    pub tested_records : length l / rule_size ≤ rule_limit → (records : List (List ℕ)) → records ≡ first_chunks rule_size (length l / rule_size) l
        → tested_rules l ≡ first_bad 0 (rules_in records)
    tested_records h records e = tested_each h ∙ ap (first_bad 0) (rules_chunks (length l / rule_size) l ∙ ap rules_in (sym e))

  -- a list that is refused neither for its length nor for the number of its rules
  pub tested_past : (tested_rules l ≡ Err Odd → ⊥) → (tested_rules l ≡ Err Many → ⊥)
      → (length l % rule_size ≡ 0) × (length l / rule_size ≤ rule_limit)
  tested_past a b = go (le_or_lt (length l % rule_size) 0) (le_or_lt (length l / rule_size) rule_limit)
    where
      go : (length l % rule_size ≤ 0) ⊎ (0 < length l % rule_size) → (length l / rule_size ≤ rule_limit) ⊎ (rule_limit < length l / rule_size)
          → (length l % rule_size ≡ 0) × (length l / rule_size ≤ rule_limit)
      go (inr p) q = absurd (a (tested_odd p))
      go (inl p) (inr q) = absurd (b (tested_many (omega arith) q))
      go (inl p) (inl q) = (omega arith, q)

-- ---- record by record

module _ (records : List (List ℕ)) (i : ℕ) where
  -- record i has this bad field
  pub bad_here : i < length records → (r : Rule) → r ≡ rule_at (get_or records i []) → (f : Field) → field_number f ≡ bad_field r
      → first_bad i (rules_in (drop i records)) ≡ Err (Bad i f)
  unfolding first_bad
  bad_here h r e f q =
      at_drop_more (λ (ss : List (List ℕ)). first_bad i (rules_in ss)) records i [] h
      ∙ rw (← e, ← q, ne_eqb (field_number f) 0 (field_some f), field_back f)

  -- none is left
  pub bad_past : length records ≤ i → first_bad i (rules_in (drop i records)) ≡ Ok tt
  unfolding first_bad
  bad_past = at_drop_all (λ (ss : List (List ℕ)). first_bad i (rules_in ss)) records i
