-- A loop over the rules of a well-formed list: its start, one turn, and what each rule it meets is known to have.
-- Assumes nothing.
use mathlib.Core.List.{List}
use mathlib.Core.Path.{◌≡◌, sym, ap, ◌∙◌}
use Prim.Native.Nat.{ℕ, ◌+◌, ◌-◌, ◌*◌, ◌≤◌, ◌<◌}
use native.Mathlib.Omega.{arith}
use lib.ListN.{drop, length, take}
use Rattle.std.specs.Prelude.{Ok}
use Rattle.records.proofs.Reading.{rules_start, rules_turn, rules_from}
use Rattle.records.specs.Layout.{rule_size}
use Rattle.records.specs.Rules.{rule_at, rules_of}
use Rattle.records.specs.declared.Rule.{Rule}
use Rattle.rules.specs.Faults.{bad_field, first_bad}
use Rattle.rules.proofs.Goods.{Fine, fine, good_next}

-- of n rules the loop has come to rule i, at place at, and those from it on are good
pub record Going (l : List ℕ) (n i at : ℕ) : Type 0 where
  pub bound : i ≤ n
  pub place : at ≡ rule_size * i
  pub good : first_bad i (rules_from l n i at) ≡ Ok tt

-- the rule at place at was read as r
abbrev pub ReadAs : List ℕ → ℕ → Rule → Type 0
ReadAs l at r = r ≡ rule_at (take (length l - at) (drop at l))

module _ (l : List ℕ) (n : ℕ) where
  pub going_start : first_bad 0 (rules_of n l) ≡ Ok tt → Going l n 0 0
  going_start g = record { bound = omega arith; place = omega arith; good = ap (first_bad 0) (rules_start l n) ∙ g }

  module _ (i at : ℕ) (g : Going l n i at) (more : i < n) (r : Rule) (read : ReadAs l at r) where
    both : (bad_field r ≡ 0) × (first_bad (i + 1) (rules_from l n (i + 1) (at + rule_size)) ≡ Ok tt)
    both = good_next i r (rules_from l n (i + 1) (at + rule_size)) (sym (ap (first_bad i) (rules_turn l n i at r more read)) ∙ g.good)

    pub going_fine : Fine r
    going_fine = fine r both.0

    pub going_more : Going l n (i + 1) (at + rule_size)
    going_more = record { bound = omega arith; place = omega (arith, g.place); good = both.1 }
