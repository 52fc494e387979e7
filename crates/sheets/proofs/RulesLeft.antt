-- A turn of writing rules: those that are left complete what the memory holds in the end. Assumes nothing.
use mathlib.Core.List.{List}
use mathlib.Core.Path.{◌≡◌, ◌∙◌}
use Prim.Native.Nat.{ℕ, ◌+◌, ◌*◌, ◌≤◌, ◌<◌}
use native.Mathlib.Omega.{arith}
use lib.ListN.{drop, drop_of_length-le, get_or, length}
use Rattle.std.proofs.lemmas.List.{drop_more}
use Rattle.fields.proofs.Writing.{write_more, write_none}
use Rattle.fields.specs.Writes.{write_at}
use Rattle.records.specs.Layout.{rule_size}
use Rattle.records.specs.Rules.{list_bytes, rule_bytes}
use Rattle.records.specs.declared.Rule.{Rule}
use Rattle.sheets.proofs.RuleSizes.{length_rule}

-- i rules are written
module _ (rs : List Rule) (i : ℕ) (now whole : List ℕ) (l : write_at now (rule_size * i) (list_bytes (drop i rs)) ≡ whole) where
  pub written_more : (d : Rule) → i < length rs → rule_size * length rs ≤ length now → (bytes then : List ℕ) → bytes ≡ rule_bytes (get_or rs i d)
      → then ≡ write_at now (rule_size * i) bytes → write_at then (rule_size * (i + 1)) (list_bytes (drop (i + 1) rs)) ≡ whole
  unfolding list_bytes
  written_more d h room bytes then b w =
      let r = get_or rs i d in
      let size = length_rule r in
      let next : rule_size * (i + 1) ≡ rule_size * i + length (rule_bytes r) = omega arith in
      rw (w, b, next) (write_more now (rule_size * i) (rule_bytes r) (list_bytes (drop (i + 1) rs)) (omega arith)) ∙ (rw (drop_more rs i d h) at l)

  pub written_all : length rs ≤ i → now ≡ whole
  unfolding list_bytes
  written_all h = rw (drop_of_length-le rs h, write_none) at l
