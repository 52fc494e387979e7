-- A rule's words, and a table: all rules' words, joined (document 01: every source port word with every destination port
-- word, source in the outer order, both ascending; rules follow in their order).
use Rattle.std.specs.Prelude.{List, [], ◌∷◌, ◌++◌, map, ◌≡◌, ℕ, ◌+◌, ◌-◌, ◌≤◌, eqb, length, if◌then◌else◌}
use Rattle.bits.specs.Masks.{mask_of}
use Rattle.blocks.specs.Blocks.{words_of}
use Rattle.blocks.specs.Words.{word}
use Rattle.blocks.specs.declared.Word.{Word}
use Rattle.records.specs.Entries.{entry_of}
use Rattle.records.specs.declared.Entry.{Entry}
use Rattle.records.specs.Keys.{key}
use Rattle.records.specs.declared.Rule.{Rule}

-- ---- a rule's words, field by field

-- the word of the protocol: any, or exactly the rule's own
unfoldable pub proto_word : Rule → Word
proto_word r = if eqb r.flag 1 then word 0 0 else word r.proto 255

-- all of a rule's protocol words: just that one
unfoldable pub proto_words : Rule → List Word
proto_words r = proto_word r ∷ []

-- the word of an address with a prefix of len bits
abbrev pub addr_word : ℕ → ℕ → Word
addr_word a len = word a (mask_of 32 (32 - len))

abbrev pub source_words : Rule → List Word
source_words r = words_of 16 r.slow r.shigh

abbrev pub dest_words : Rule → List Word
dest_words r = words_of 16 r.dlow r.dhigh

-- ---- put together

-- what each entry of the list gives, joined
unfoldable pub each : {A B : Type 0} → List A → (A → List B) → List B
each [] f = []
each (x ∷ xs) f = f x ++ each xs f

-- the record of rule number i for a protocol word, a source port word and a destination port word
abbrev pub entry_with : Rule → ℕ → Word → Word → Word → Entry
entry_with r i p s d =
    let source = addr_word r.src r.slen in
    let dest = addr_word r.dst r.dlen in
    entry_of (key p.value source.value dest.value s.value d.value)
    (key p.mask source.mask dest.mask s.mask d.mask) i r.action

-- the record with these port words in place of its own
abbrev pub ported_entry : Entry → Word → Word → Entry
ported_entry e s d =
    entry_of (key e.value.proto e.value.src e.value.dst s.value d.value) (key e.mask.proto e.mask.src e.mask.dst s.mask d.mask) e.rule e.action

-- the records of rule number i: protocol words, with source port words, with destination port words, in that nesting
unfoldable pub rule_entries : ℕ → Rule → List Entry
rule_entries i r = each (proto_words r) (λ (p : Word). each (source_words r) (λ (s : Word). map (entry_with r i p s) (dest_words r)))

-- the records of all rules, the first of which has number i
unfoldable pub entries_of : ℕ → List Rule → List Entry
entries_of i [] = []
entries_of i (r ∷ rs) = rule_entries i r ++ entries_of (i + 1) rs

-- how many words the rules need
unfoldable pub needed : List Rule → ℕ
needed [] = 0
needed (r ∷ rs) = length (rule_entries 0 r) + needed rs

-- ---- what is asked and answered

-- what writing a rule asks of it: prefixes of at most 32 bits, and intervals in order
pub record Good (r : Rule) : Type 0 where
  pub slen : r.slen ≤ 32
  pub dlen : r.dlen ≤ 32
  pub source : r.slow ≤ r.shigh
  pub dest : r.dlow ≤ r.dhigh

-- k is the number of the rule's words; a rule has at most 30 source and 30 destination port words
pub record WordCount (r : Rule) (k : ℕ) : Type 0 where
  pub is : k ≡ length (rule_entries 0 r)
  pub small : k ≤ 900
