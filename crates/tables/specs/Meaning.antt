-- What the theorems about compiled tables speak of: the rules they are about, what a record matches, and what of an answer
-- a table and a rule list have in common.
use Rattle.std.specs.Prelude.{Bool, true, false, ◌&&◌, ◌||◌, List, [], ◌∷◌, ◌≡◌, ℕ, ◌+◌, ◌-◌, ◌*◌, ◌%◌, ◌^◌, ◌≤◌, length}
use Rattle.answers.specs.declared.Answer.{Answer}
use Rattle.blocks.specs.Tests.{matches?}
use Rattle.blocks.specs.Words.{word}
use Rattle.records.specs.declared.Entry.{Entry}
use Rattle.records.specs.Layout.{last_action}
use Rattle.records.specs.Rules.{RuleFits}
use Rattle.records.specs.declared.Key.{Key}
use Rattle.records.specs.declared.Rule.{Rule}

-- ---- rules

-- what is asked of a rule: its fields fit their bytes, no bit of an address is set beyond its length, and the action is known
pub record Sound (r : Rule) : Type 0 where
  pub fits : RuleFits r
  pub src : r.src % 2 ^ (32 - r.slen) ≡ 0
  pub dst : r.dst % 2 ^ (32 - r.dlen) ≡ 0
  pub action : r.action ≤ last_action

abbrev pub AllSound : List Rule → Type 0
AllSound [] = Unit {0}
AllSound (r ∷ rs) = Sound r × AllSound rs

-- ---- what a record matches

-- a value and a mask match a header, field by field
unfoldable pub key_match : Key → Key → Key → Bool
key_match v m h =
    matches? (word v.proto m.proto) h.proto
    && (matches? (word v.src m.src) h.src
    && (matches? (word v.dst m.dst) h.dst
    && (matches? (word v.sport m.sport) h.sport
    && matches? (word v.dport m.dport) h.dport)))

-- the record's word matches the header
abbrev pub entry_matches : Key → Entry → Bool
entry_matches h e = key_match e.value e.mask h

-- some member of the list passes the test
unfoldable pub any : {A : Type 0} → (A → Bool) → List A → Bool
any f [] = false
any f (x ∷ xs) = f x || any f xs

-- no two members at different places pass
abbrev pub AtMostOne : {A : Type 0} → (A → Bool) → List A → Type 0
AtMostOne f [] = Unit {0}
AtMostOne f (x ∷ xs) = (f x ≡ true → any f xs ≡ true → ⊥) × AtMostOne f xs

-- the big-endian number of all bytes: 104 bits for 13 bytes
unfoldable pub number : List ℕ → ℕ
number [] = 0
number (x ∷ xs) = x * 2 ^ (8 * length xs) + number xs

-- ---- an answer

-- the answer without the record's index
abbrev pub forget : Answer → Answer
forget r = record { no = r.no; a = r.a; b = r.c; c = r.d; d = 0 }
