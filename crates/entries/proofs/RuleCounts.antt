-- A rule has as many records as it has source port words times destination port words, whatever its number, and those are
-- 30 at most each. Assumes nothing.
use mathlib.Core.List.{List, [], ◌∷◌, append-nil, map}
use mathlib.Core.Path.{◌≡◌, sym, ap, ap₂, ◌∙◌}
use Prim.Native.Nat.{ℕ, ◌+◌, ◌*◌, ◌≤◌}
use native.Mathlib.Nat.{mul-le-mul}
use native.Mathlib.Omega.{arith}
use lib.ListN.{length, length-append, length-map}
use Rattle.blocks.specs.Blocks.{words_of}
use Rattle.blocks.specs.Counting.{count_of}
use Rattle.blocks.specs.declared.intervals.Interval.{Interval}
use Rattle.blocks.specs.declared.Word.{Word}
use Rattle.blocks.proofs.Walking.{words_counted, words_few}
use Rattle.records.specs.declared.Entry.{Entry}
use Rattle.records.specs.declared.Rule.{Rule}
use Rattle.entries.specs.Words.{WordCount, dest_words, each, entry_with, proto_word, proto_words, rule_entries, source_words}
use Rattle.blocks.specs.Walked.{Is}

-- the records of a source word
abbrev pub row : Rule → ℕ → Word → List Entry
row r i s = map (entry_with r i (proto_word r) s) (dest_words r)

-- there is one protocol word, and it gets the records of all source words
pub rule_rows : (r : Rule) (i : ℕ) → rule_entries i r ≡ each (source_words r) (row r i)
unfolding rule_entries proto_words each
rule_rows r i = append-nil (each (source_words r) (row r i))

-- lists of one length, joined
length_each : {A B : Type 0} (f : A → List B) (k : ℕ) → ((x : A) → length (f x) ≡ k) → (xs : List A) → length (each xs f) ≡ length xs * k
unfolding each
length_each f k h [] = omega arith
length_each f k h (x ∷ xs) = length-append (f x) (each xs f) ∙ ap₂ (λ (a b : ℕ). a + b) (h x) (length_each f k h xs) ∙ omega arith

rule_product : (i : ℕ) (r : Rule) → length (rule_entries i r) ≡ length (source_words r) * length (dest_words r)
rule_product i r =
    ap length (rule_rows r i)
    ∙ length_each (row r i) (length (dest_words r)) (λ (s : Word). length-map (dest_words r) (entry_with r i (proto_word r) s)) (source_words r)

-- the number does not count
pub length_rule : (i j : ℕ) (r : Rule) → length (rule_entries i r) ≡ length (rule_entries j r)
length_rule i j r = rule_product i r ∙ sym (rule_product j r)

-- ---- a port's words

module _ (low high : ℕ) (p : Interval) (o : Is 16 low high p) where
  -- they are those of the interval that the code makes
  pub port_words : words_of p.width p.low p.high ≡ words_of 16 low high
  port_words = rw (o.width, o.first, o.last)

  module _ (k : ℕ) (e : k ≡ count_of p.width p.low p.high) where
    port_count : k ≡ length (words_of 16 low high)
    port_count = e ∙ sym (words_counted p.width p.low p.high p.closed) ∙ ap length port_words

    port_most : k ≤ 30
    port_most = omega (arith, e, words_counted p.width p.low p.high p.closed, words_few p.width p.low p.high p.closed)

pub word_count : (r : Rule) (p q : Interval) (s d : ℕ) → Is 16 r.slow r.shigh p → Is 16 r.dlow r.dhigh q
    → s ≡ count_of p.width p.low p.high → d ≡ count_of q.width q.low q.high → WordCount r (s * d)
word_count r p q s d op oq es ed = record {
  is = ap₂ (λ (x y : ℕ). x * y) (port_count r.slow r.shigh p op s es) (port_count r.dlow r.dhigh q oq d ed) ∙ sym (rule_product 0 r);
  small = mul-le-mul (port_most r.slow r.shigh p op s es) (port_most r.dlow r.dhigh q oq d ed);
}
