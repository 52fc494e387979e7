-- Where each rule's records stand: before its first are as many as the rules before it have together. Assumes nothing.
use mathlib.Core.List.{List, [], ◌∷◌, ◌++◌, append_assoc}
use mathlib.Core.Path.{◌≡◌, refl, sym, ap, ap₂, ◌∙◌}
use Prim.Native.Nat.{ℕ, suc, ◌+◌}
use native.Mathlib.Nat.{add-zero, zero-add}
use native.Mathlib.Omega.{arith}
use lib.ListN.{length, take, drop, length-append}
use lib.Seq.{take_at, drop_at}
use Rattle.records.specs.declared.Entry.{Entry}
use Rattle.records.specs.declared.Rule.{Rule}
use Rattle.entries.specs.Words.{entries_of, needed, rule_entries}
use Rattle.entries.proofs.RuleCounts.{length_rule}

pub entries_cons : (i : ℕ) (r : Rule) (rs : List Rule) → entries_of i (r ∷ rs) ≡ rule_entries i r ++ entries_of (i + 1) rs
unfolding entries_of
entries_cons i r rs = refl

pub entries_append : (i : ℕ) (rs ss : List Rule) → entries_of i (rs ++ ss) ≡ entries_of i rs ++ entries_of (i + length rs) ss
unfolding entries_of
entries_append i [] ss = ap (λ (k : ℕ). entries_of k ss) (sym (add-zero i))
entries_append i (r ∷ rs) ss =
    let k : (i + 1) + length rs ≡ i + suc (length rs) = omega arith in
    ap (λ (es : List Entry). rule_entries i r ++ es) (entries_append (i + 1) rs ss ∙ ap (λ (m : ℕ). entries_of (i + 1) rs ++ entries_of m ss) k)
    ∙ sym (append_assoc (rule_entries i r) (entries_of (i + 1) rs) (entries_of (i + suc (length rs)) ss))

pub length_entries : (i : ℕ) (rs : List Rule) → length (entries_of i rs) ≡ needed rs
unfolding entries_of needed
length_entries i [] = refl
length_entries i (r ∷ rs) =
    length-append (rule_entries i r) (entries_of (i + 1) rs) ∙ ap₂ (λ (x y : ℕ). x + y) (length_rule i 0 r) (length_entries (i + 1) rs)

-- the records from the first one of rule r on
pub span : (rs : List Rule) (r : Rule) (ss : List Rule)
    → drop (needed rs) (entries_of 0 (rs ++ (r ∷ ss))) ≡ rule_entries (length rs) r ++ entries_of (length rs + 1) ss
span rs r ss =
    ap (drop (needed rs)) (entries_append 0 rs (r ∷ ss))
    ∙ drop_at (entries_of 0 rs) (entries_of (0 + length rs) (r ∷ ss)) (needed rs) (length_entries 0 rs)
    ∙ ap (λ (i : ℕ). entries_of i (r ∷ ss)) (zero-add (length rs)) ∙ entries_cons (length rs) r ss

records_before : (rs ss : List Rule) → take (needed rs) (entries_of 0 (rs ++ ss)) ≡ entries_of 0 rs
records_before rs ss = ap (take (needed rs)) (entries_append 0 rs ss) ∙ take_at (entries_of 0 rs) (entries_of (0 + length rs) ss) (needed rs) (length_entries 0 rs)

-- replacing a rule does not touch the records before it
pub span_before : (rs : List Rule) (r s : Rule) (ss : List Rule)
    → take (needed rs) (entries_of 0 (rs ++ (r ∷ ss))) ≡ take (needed rs) (entries_of 0 (rs ++ (s ∷ ss)))
span_before rs r s ss = records_before rs (r ∷ ss) ∙ sym (records_before rs (s ∷ ss))
