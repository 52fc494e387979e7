-- A table record as numbers and as bytes: value and mask laid out as a header, then rule number and action.
use Rattle.std.specs.Prelude.{List, [], ◌∷◌, ◌++◌, ℕ, drop, get_or, take}
use Rattle.records.specs.Keys.{key_bytes}
use Rattle.records.specs.Layout.{action_at, key_size, number_at}
use Rattle.records.specs.declared.Entry.{Entry}
use Rattle.records.specs.declared.Key.{Key}

-- a word of all five fields, the rule that it belongs to, and that rule's action
abbrev pub entry_of : Key → Key → ℕ → ℕ → Entry
entry_of value mask rule action = record { value = value; mask = mask; rule = rule; action = action }

-- the bytes of a rule number
abbrev pub number_bytes : ℕ → List ℕ
number_bytes i = i ∷ []

abbrev pub entry_bytes : Entry → List ℕ
entry_bytes e = key_bytes e.value ++ (key_bytes e.mask ++ (number_bytes e.rule ++ (e.action ∷ [])))

unfoldable pub table_bytes : List Entry → List ℕ
table_bytes [] = []
table_bytes (e ∷ es) = entry_bytes e ++ table_bytes es

-- the parts of the record at the start of a list of bytes
abbrev pub value_of : List ℕ → List ℕ
value_of t = take key_size t

abbrev pub mask_of_record : List ℕ → List ℕ
mask_of_record t = take key_size (drop key_size t)

abbrev pub number_of : List ℕ → ℕ
number_of t = get_or t number_at 0

abbrev pub action_of : List ℕ → ℕ
action_of t = get_or t action_at 0
