-- For every header a compiled table finds what the rules find. Assumes nothing.
use mathlib.Core.Bool.{Bool, true, false, ◌||◌}
use mathlib.Core.List.{List, [], ◌∷◌, ◌++◌, append_assoc, Memᴰ}
use mathlib.Core.Path.{◌≡◌, refl, sym, ap, ap₂, ◌∙◌}
use Prim.Native.Nat.{ℕ, suc, ◌+◌}
use native.Mathlib.Nat.{add-zero}
use native.Mathlib.Omega.{arith}
use lib.ListN.{length}
use Rattle.answers.specs.Answers.{done}
use Rattle.answers.specs.declared.Answer.{Answer}
use Rattle.std.specs.Prelude.{if◌then◌else◌}
use Rattle.entries.specs.Words.{entries_of, rule_entries}
use Rattle.fields.specs.Bytes.{Bytes}
use Rattle.records.proofs.Reading.{key_fits}
use Rattle.records.specs.Entries.{entry_bytes, table_bytes}
use Rattle.records.specs.declared.Entry.{Entry}
use Rattle.records.specs.Keys.{KeyFits, key_at, key_bytes}
use Rattle.records.specs.Layout.{key_size}
use Rattle.records.specs.declared.Key.{Key}
use Rattle.records.specs.declared.Rule.{Rule}
use Rattle.rules.specs.Meaning.{first_rule}
use Rattle.tables.proofs.Headers.{key_match_lem}
use Rattle.tables.proofs.RuleRecords.{Of, rule_records}
use Rattle.tables.proofs.RuleWords.{words_match}
use Rattle.tables.specs.Looking.{bytes_match, first_record}
use Rattle.tables.specs.Meaning.{AllSound, any, entry_matches, forget}

-- the first of the records that matches the header, the first having index j: 1, its index, its rule and its action; or 0
unfoldable pub lookup : ℕ → List Entry → Key → Answer
lookup j [] h = done 0 0 0 0
lookup j (e ∷ es) h = if entry_matches h e then done 1 j e.rule e.action else lookup (j + 1) es h

-- ---- in bytes

first_record_lem : (e : Entry) (t h : List ℕ) (k j : ℕ)
    → first_record (suc k) j (entry_bytes e ++ t) h
    ≡ (if bytes_match (key_bytes e.value) (key_bytes e.mask) h then done 1 j e.rule e.action else first_record k (j + 1) t h)
unfolding first_record key_bytes
first_record_lem e t h k j = refl

-- the records of a table find what its entries find, whatever stands behind them
pub find_table : (h : List ℕ) → length h ≡ key_size → Bytes h → (es : List Entry) (j : ℕ) (rest : List ℕ)
    → first_record (length es) j (table_bytes es ++ rest) h ≡ lookup j es (key_at h)
unfolding first_record lookup table_bytes
find_table h l b [] j rest = refl
find_table h l b (e ∷ es) j rest =
    ap (λ (t : List ℕ). first_record (suc (length es)) j t h) (append_assoc (entry_bytes e) (table_bytes es) rest)
    ∙ first_record_lem e (table_bytes es ++ rest) h (length es) j
    ∙ ap₂ (λ (m : Bool) (a : Answer). if m then done 1 j e.rule e.action else a) (key_match_lem e.value e.mask h l b) (find_table h l b es (j + 1) rest)

-- ---- in numbers

-- the records of one rule before any others
rule_first : (h : Key) (i : ℕ) (r : Rule) (fs es : List Entry) → ((e : Entry) → Memᴰ e fs → Of i r e) → (j : ℕ)
    → forget (lookup j (fs ++ es) h) ≡ (if any (entry_matches h) fs then done 1 i r.action 0 else forget (lookup (j + length fs) es h))
unfolding any lookup
rule_first h i r [] es o j = ap (λ (k : ℕ). forget (lookup k es h)) (sym (add-zero j))
rule_first h i r (e ∷ fs) es o j =
    let k : j + 1 + length fs ≡ j + suc (length fs) = omega arith in
    go (entry_matches h e) (any (entry_matches h) fs) (lookup (j + 1) (fs ++ es) h) (forget (lookup (j + suc (length fs)) es h))
    (rw k at (rule_first h i r fs es (λ f m. o f (Memᴰ.tail m)) (j + 1)))
  where
    go : (m n : Bool) (x y : Answer) → forget x ≡ (if n then done 1 i r.action 0 else y)
        → forget (if m then done 1 j e.rule e.action else x) ≡ (if m || n then done 1 i r.action 0 else y)
    go true n x y f = let z = o e (Memᴰ.head refl) in rw (z.rule, z.action)
    go false n x y f = f

pub finds_rule : (h : Key) → KeyFits h → (rs : List Rule) → AllSound rs → (i j : ℕ) → forget (lookup j (entries_of i rs) h) ≡ first_rule i rs h
unfolding entries_of first_rule lookup
finds_rule h f [] s i j = refl
finds_rule h f (r ∷ rs) s i j =
    rule_first h i r (rule_entries i r) (entries_of (i + 1) rs) (rule_records i r s.0) j
    ∙ ap₂ (λ (m : Bool) (a : Answer). if m then done 1 i r.action 0 else a) (words_match r i h s.0 f)
    (finds_rule h f rs s.1 (i + 1) (j + length (rule_entries i r)))

-- ---- together

-- demand 2: without the record's index, a table of the rules' records answers what the rules answer
pub table_finds : (rs : List Rule) → AllSound rs → (h : List ℕ) → length h ≡ key_size → Bytes h → (rest : List ℕ)
    → forget (first_record (length (entries_of 0 rs)) 0 (table_bytes (entries_of 0 rs) ++ rest) h) ≡ first_rule 0 rs (key_at h)
table_finds rs s h l b rest = ap forget (find_table h l b (entries_of 0 rs) 0 rest) ∙ finds_rule (key_at h) (key_fits h b) rs s 0 0
