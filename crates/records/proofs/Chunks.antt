-- A list of bytes cut into records: what is read at a record's start is read from its own bytes, a header too, and the rules of
-- the bytes are those of the records. Assumes nothing.
use mathlib.Core.List.{List}
use mathlib.Core.Path.{◌≡◌, refl, ap, ◌∙◌}
use Prim.Native.Nat.{ℕ, zero, suc, ◌-◌}
use native.Mathlib.Omega.{arith}
use Rattle.std.specs.Prelude.{drop, map, take}
use Rattle.std.specs.Simd.{first_chunks}
use Rattle.std.proofs.lemmas.List.{drop-take, get_or-take, take-take}
use Rattle.records.specs.Entries.{action_of, mask_of_record, number_of, value_of}
use Rattle.records.specs.Keys.{key_at}
use Rattle.records.specs.Layout.{action_at, key_size, number_at, record_size, rule_size}
use Rattle.records.specs.Rules.{rule_at, rules_of}

-- ---- rules

pub rule_at_take : (l : List ℕ) → rule_at (take rule_size l) ≡ rule_at l
unfolding rule_at
rule_at_take l = grind (arith, get_or-take)

pub rules_chunks : (n : ℕ) (l : List ℕ) → rules_of n l ≡ map rule_at (first_chunks rule_size n l)
unfolding rules_of
rules_chunks zero l = refl
rules_chunks (suc n) l = rw (rule_at_take l, rules_chunks n (drop rule_size l))

-- ---- headers

pub key_at_take : (l : List ℕ) → key_at (take key_size l) ≡ key_at l
unfolding key_at
key_at_take l = grind (arith, get_or-take)

-- ---- table records

module _ (t : List ℕ) where
  pub value_take : value_of (take record_size t) ≡ value_of t
  value_take = take-take key_size record_size t (omega arith)

  pub mask_take : mask_of_record (take record_size t) ≡ mask_of_record t
  mask_take = ap (take key_size) (drop-take key_size (record_size - key_size) t) ∙ take-take key_size (record_size - key_size) (drop key_size t) (omega arith)

  pub number_take : number_of (take record_size t) ≡ number_of t
  number_take = get_or-take record_size t number_at 0 (omega arith)

  pub action_take : action_of (take record_size t) ≡ action_of t
  action_take = get_or-take record_size t action_at 0 (omega arith)
