-- The sizes and limits of document 01's records, each named once.
use Rattle.std.specs.Prelude.{ℕ, ◌+◌, ◌*◌, ◌/◌, min}

-- bytes of a header, of a value and of a mask
abbrev pub key_size : ℕ
key_size = 13

-- bytes of a rule
abbrev pub rule_size : ℕ
rule_size = 21

-- the most rules of a list
abbrev pub rule_limit : ℕ
rule_limit = 256

-- bytes of a table record: value, mask, rule number, action
abbrev pub record_size : ℕ
record_size = 28

-- where a record's rule number and action stand
abbrev pub number_at : ℕ
number_at = 2 * key_size

abbrev pub action_at : ℕ
action_at = number_at + 1

-- the most words of a table
abbrev pub word_limit : ℕ
word_limit = 2048

-- how many records a table of so many bytes has room for
abbrev pub room_of : ℕ → ℕ
room_of bytes = min (bytes / record_size) word_limit

-- the last action: 0 permit, 1 deny, 2 permit and log, 3 deny and log
abbrev pub last_action : ℕ
last_action = 3
