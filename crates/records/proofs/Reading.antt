-- What is read from bytes: a header's and a rule's numbers fit, a table's records stand behind each other, and one turn
-- of a loop over the rules. Assumes nothing.
use mathlib.Core.List.{List, [], ◌∷◌, ◌++◌, append_assoc}
use mathlib.Core.Path.{◌≡◌, refl, sym, ap, ◌∙◌}
use Prim.Native.Nat.{ℕ, suc, ◌+◌, ◌-◌, ◌*◌, ◌≤◌, ◌<◌}
use native.Mathlib.Nat.{sub-zero}
use native.Mathlib.Omega.{arith}
use lib.ListN.{length, take, drop}
use lib.Seq.{drop-drop}
use Rattle.fields.specs.Bytes.{Bytes}
use Rattle.fields.proofs.Numbers.{at2_small, at4_small}
use Rattle.fields.proofs.Writing.{rest_is}
use Rattle.records.specs.Entries.{entry_bytes, table_bytes}
use Rattle.records.specs.declared.Entry.{Entry}
use Rattle.records.specs.Keys.{KeyFits, key_at, key_bytes}
use Rattle.records.specs.Layout.{record_size, rule_size}
use Rattle.records.specs.Rules.{RuleFits, rule_at, rules_of}
use Rattle.records.specs.declared.Rule.{Rule}

-- ---- numbers that fit

pub key_fits : (l : List ℕ) → Bytes l → KeyFits (key_at l)
unfolding key_at
key_fits l b = record {
  proto = b 0;
  src = at4_small l 1 b;
  dst = at4_small l 5 b;
  sport = at2_small l 9 b;
  dport = at2_small l 11 b;
}

pub rule_fits : (l : List ℕ) → Bytes l → RuleFits (rule_at l)
unfolding rule_at
rule_fits l b = record {
  proto = b 1;
  src = at4_small l 2 b;
  dst = at4_small l 7 b;
  slow = at2_small l 12 b;
  shigh = at2_small l 14 b;
  dlow = at2_small l 16 b;
  dhigh = at2_small l 18 b;
  action = b 20;
}

-- ---- the bytes of a table

pub length_table : (es : List Entry) → length (table_bytes es) ≡ record_size * length es
unfolding key_bytes table_bytes
length_table [] = refl
length_table (e ∷ es) = omega (arith, length_table es)

pub table_append : (es fs : List Entry) → table_bytes (es ++ fs) ≡ table_bytes es ++ table_bytes fs
unfolding table_bytes
table_append [] fs = refl
table_append (e ∷ es) fs = ap (λ (l : List ℕ). entry_bytes e ++ l) (table_append es fs) ∙ sym (append_assoc (entry_bytes e) (table_bytes es) (table_bytes fs))

-- ---- one turn of a loop over the rules

-- of n rules those from the i-th on, which stands at place at
abbrev pub rules_from : List ℕ → ℕ → ℕ → ℕ → List Rule
rules_from l n i at = rules_of (n - i) (drop at l)

pub rules_start : (l : List ℕ) (n : ℕ) → rules_from l n 0 0 ≡ rules_of n l
rules_start l n = ap (λ (k : ℕ). rules_of k l) (sub-zero n)

pub rules_turn : (l : List ℕ) (n i at : ℕ) (r : Rule) → i < n → r ≡ rule_at (take (length l - at) (drop at l))
    → rules_from l n i at ≡ r ∷ rules_from l n (i + 1) (at + rule_size)
unfolding rules_of
rules_turn l n i at r h e =
    let k : n - i ≡ suc (n - (i + 1)) = omega arith in
    rw (k, e, rest_is l at) (ap (λ (x : List ℕ). rule_at (drop at l) ∷ rules_of (n - (i + 1)) x) (drop-drop rule_size at l))

pub rules_none : (l : List ℕ) (n i at : ℕ) → n ≤ i → rules_from l n i at ≡ []
unfolding rules_of
rules_none l n i at h = let k : n - i ≡ 0 = omega arith in rw k
