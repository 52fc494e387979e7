-- A table record as a line of text (document 02, order 1): index, rule, value, mask, action, parted by tabs.
use Rattle.std.specs.Prelude.{List, [], ◌∷◌, ◌++◌, ◌≡◌, ℕ, ◌+◌, eqb, length, if◌then◌else◌}
use Rattle.fields.specs.Writes.{write_at}
use Rattle.records.specs.Entries.{action_of, mask_of_record, number_of, value_of}
use Rattle.texts.specs.Decimal.{decimal}
use Rattle.texts.specs.Hex.{hex_of}

abbrev pub tab : ℕ
tab = 9

abbrev pub line_feed : ℕ
line_feed = 10

-- permit
abbrev pub permit : List ℕ
permit = 112 ∷ 101 ∷ 114 ∷ 109 ∷ 105 ∷ 116 ∷ []

-- deny
abbrev pub deny : List ℕ
deny = 100 ∷ 101 ∷ 110 ∷ 121 ∷ []

-- permit-log
abbrev pub permit_log : List ℕ
permit_log = 112 ∷ 101 ∷ 114 ∷ 109 ∷ 105 ∷ 116 ∷ 45 ∷ 108 ∷ 111 ∷ 103 ∷ []

-- deny-log
abbrev pub deny_log : List ℕ
deny_log = 100 ∷ 101 ∷ 110 ∷ 121 ∷ 45 ∷ 108 ∷ 111 ∷ 103 ∷ []

abbrev pub action_text : ℕ → List ℕ
action_text a =
    if eqb a 0 then permit
    else if eqb a 1 then deny
    else if eqb a 2 then permit_log
    else deny_log

-- the line of the record at the start of t, which has index i
abbrev pub word_line : ℕ → List ℕ → List ℕ
word_line i t =
    decimal i ++ (tab
    ∷ (decimal (number_of t) ++ (tab
    ∷ (hex_of (value_of t) ++ (tab
    ∷ (hex_of (mask_of_record t) ++ (tab
    ∷ (action_text (action_of t) ++ (line_feed ∷ [])))))))))

-- no record's line is longer
abbrev pub line_size : ℕ
line_size = 80

-- s was written from place i on, and r is the place after it
pub record Puts (before : List ℕ) (i : ℕ) (s : List ℕ) (r : ℕ) (after : List ℕ) : Type 0 where
  pub next : r ≡ i + length s
  pub leaves : after ≡ write_at before i s
