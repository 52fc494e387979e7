-- How many bytes rules have. Assumes nothing.
use mathlib.Core.List.{List, [], ◌∷◌}
use mathlib.Core.Path.{◌≡◌, refl}
use Prim.Native.Nat.{◌*◌}
use native.Mathlib.Omega.{arith}
use lib.ListN.{length, length-append}
use Rattle.records.specs.Layout.{rule_size}
use Rattle.records.specs.Rules.{list_bytes, rule_bytes}
use Rattle.records.specs.declared.Rule.{Rule}

pub length_rule : (r : Rule) → length (rule_bytes r) ≡ rule_size
unfolding rule_bytes
length_rule r = refl

pub length_rules : (rs : List Rule) → length (list_bytes rs) ≡ rule_size * length rs
unfolding list_bytes
length_rules [] = refl
length_rules (r ∷ rs) = omega (arith, length-append (rule_bytes r) (list_bytes rs), length_rule r, length_rules rs)
