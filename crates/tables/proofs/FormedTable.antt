-- What compile writes is well formed. Assumes nothing.
use mathlib.Core.Bool.{true, ◌&&◌}
use mathlib.Core.List.{List, [], ◌∷◌, ◌++◌, append_assoc, Memᴰ}
use mathlib.Core.Logic.{⊎_elim}
use mathlib.Core.Path.{◌≡◌, refl, ◌∙◌}
use Prim.Native.Nat.{ℕ, suc, ◌+◌, ◌≤◌}
use lib.Dec.{leb}
use lib.ListN.{length}
use borrow.Author.Tests.{le-leb}
use Rattle.std.specs.Prelude.{None, Some, if◌then◌else◌}
use Rattle.entries.specs.Words.{entries_of, rule_entries}
use Rattle.records.specs.Entries.{entry_bytes, table_bytes}
use Rattle.records.specs.declared.Entry.{Entry}
use Rattle.records.specs.Keys.{key_bytes}
use Rattle.records.specs.declared.Rule.{Rule}
use Rattle.tables.proofs.Headers.{match_key}
use Rattle.tables.proofs.RuleRecords.{rule_records}
use Rattle.tables.specs.Looking.{bytes_match, first_ill}
use Rattle.tables.specs.Meaning.{AllSound, entry_matches}

record FormedEntry (e : Entry) : Type 0 where
  word : entry_matches e.value e ≡ true
  action : e.action ≤ 3

abbrev AllFormed : List Entry → Type 0
AllFormed es = (e : Entry) → Memᴰ e es → FormedEntry e

all_formed : (i : ℕ) (rs : List Rule) → AllSound rs → AllFormed (entries_of i rs)
unfolding entries_of
all_formed i [] s e m = absurd (mathlib.Core.List.Memᴰ.not-nil m)
all_formed i (r ∷ rs) s e m =
    ⊎_elim
    (λ (n : Memᴰ e (rule_entries i r)). let o = rule_records i r s.0 e n in record { word = o.formed; action = rw o.action s.0.action })
    (all_formed (i + 1) rs s.1 e) (mathlib.Core.List.Memᴰ.append_cases (rule_entries i r) m)

first_formed : (e : Entry) (t : List ℕ) (k j : ℕ)
    → first_ill (suc k) j (entry_bytes e ++ t)
    ≡ (if bytes_match (key_bytes e.value) (key_bytes e.mask) (key_bytes e.value) && leb e.action 3 then first_ill k (j + 1) t else Some j)
unfolding first_ill key_bytes
first_formed e t k j = refl

table_formed : (es : List Entry) → AllFormed es → (j : ℕ) (rest : List ℕ) → first_ill (length es) j (table_bytes es ++ rest) ≡ None
unfolding first_ill table_bytes
table_formed [] f j rest = refl
table_formed (e ∷ es) f j rest =
    let z = f e (mathlib.Core.List.Memᴰ.head refl) in
    let w = match_key e.value e.mask e.value ∙ z.word in
    let first = first_formed e (table_bytes es ++ rest) (length es) j in
    rw (append_assoc (entry_bytes e) (table_bytes es) rest, first, w, le-leb e.action 3 z.action) (table_formed es (λ g m. f g (mathlib.Core.List.Memᴰ.tail m)) (j + 1) rest)

pub compiled_formed : (i : ℕ) (rs : List Rule) → AllSound rs → (j : ℕ) (rest : List ℕ)
    → first_ill (length (entries_of i rs)) j (table_bytes (entries_of i rs) ++ rest) ≡ None
compiled_formed i rs s = table_formed (entries_of i rs) (all_formed i rs s)
