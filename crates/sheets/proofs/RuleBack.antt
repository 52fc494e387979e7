-- Good rules can be read back from their bytes, and a list of them is one that document 01's tests do not refuse.
-- Assumes nothing.
use mathlib.Core.List.{List, [], ◌∷◌, ◌++◌}
use mathlib.Core.Path.{◌≡◌, refl}
use Prim.Native.Nat.{ℕ, ◌+◌, ◌/◌, ◌≤◌}
use native.Mathlib.Omega.{arith}
use lib.ListN.{length}
use lib.Seq.{drop_at}
use borrow.Author.Tests.{eq-eqb}
use Rattle.std.specs.Prelude.{Ok}
use Rattle.fields.proofs.Numbers.{at2_be2, at4_be4}
use Rattle.records.specs.Layout.{rule_limit, rule_size}
use Rattle.records.specs.Rules.{all_rules, list_bytes, rule_at, rule_bytes, rules_of}
use Rattle.records.specs.declared.Rule.{Rule}
use Rattle.rules.specs.Faults.{bad_field, first_bad, tested_rules}
use Rattle.rules.proofs.Goods.{list_good}
use Rattle.sheets.specs.Text.{AllGood, GoodRule}
use Rattle.sheets.proofs.RuleSizes.{length_rule, length_rules}

pub rule_back : {r : Rule} → GoodRule r → (rest : List ℕ) → rule_at (rule_bytes r ++ rest) ≡ r
unfolding rule_at rule_bytes
rule_back {r} g rest =
    rw (
      at4_be4 r.src g.fits.src,
      at4_be4 r.dst g.fits.dst,
      at2_be2 r.slow g.fits.slow,
      at2_be2 r.shigh g.fits.shigh,
      at2_be2 r.dlow g.fits.dlow,
      at2_be2 r.dhigh g.fits.dhigh,
    )

rules_of_lem : (rs : List Rule) → AllGood rs → rules_of (length rs) (list_bytes rs) ≡ rs
unfolding list_bytes rules_of
rules_of_lem [] g = refl
rules_of_lem (r ∷ rs) g =
    rw (rule_back g.0 (list_bytes rs), drop_at (rule_bytes r) (list_bytes rs) rule_size (length_rule r), rules_of_lem rs g.1)

module _ (rs : List Rule) where
  how_many : length (list_bytes rs) / rule_size ≡ length rs
  how_many = omega (arith, length_rules rs)

  pub rules_back : AllGood rs → all_rules (list_bytes rs) ≡ rs
  rules_back g = rw how_many (rules_of_lem rs g)

none_bad : (i : ℕ) (rs : List Rule) → AllGood rs → first_bad i rs ≡ Ok tt
unfolding first_bad
none_bad i [] g = refl
none_bad i (r ∷ rs) g = rw (eq-eqb (bad_field r) 0 g.0.fine) (none_bad (i + 1) rs g.1)

-- none of the refusals 5, 6 and 7
pub never_refused : (rs : List Rule) → AllGood rs → length rs ≤ rule_limit → tested_rules (list_bytes rs) ≡ Ok tt
never_refused rs g h =
    list_good (list_bytes rs) (record {
      whole = omega (arith, length_rules rs);
      few = rw (how_many rs) h;
      good = rw (rules_back rs g) (none_bad 0 rs g);
    })
