-- Reading a sheet: what is answered, and what the lent memory holds afterwards (document 02, order 1).
use Rattle.std.specs.Prelude.{Bool, not, List, [], ◌∷◌, ◌≡◌, ℕ, zero, suc, ◌+◌, ◌*◌, Result, Ok, Err, eqb, ltb, length, if◌then◌else◌}
use Rattle.answers.specs.Answers.{answer_of, done, one_number, refused}
use Rattle.answers.specs.Lent.{Lent}
use Rattle.answers.specs.Refusals as refusal
use Rattle.answers.specs.declared.Answer.{Answer}
use Rattle.records.specs.Layout.{rule_limit, rule_size}
use Rattle.records.specs.Rules.{list_bytes}
use Rattle.records.specs.declared.Rule.{Rule}
use Rattle.sheets.specs.Cuts.{after, before}
use Rattle.sheets.specs.Rows.{part_number, row_of}
use Rattle.sheets.specs.declared.reading.BadLine.{BadLine}
use Rattle.sheets.specs.declared.reading.SheetError.{SheetError}
use Rattle.sheets.specs.declared.reading.SheetError.TheVariants.{Long, Many, Bad, Room}
use Rattle.texts.specs.Lines.{line_feed}

-- the most bytes of a sheet
abbrev pub sheet_limit : ℕ
sheet_limit = 65536

-- what stands after the first k line feeds
unfoldable pub after_lines : ℕ → List ℕ → List ℕ
after_lines zero s = s
after_lines (suc k) s = after_lines k (after line_feed s)

-- a byte stands after the last line that is allowed
abbrev pub many? : List ℕ → Bool
many? s = ltb 0 (length (after_lines rule_limit s))

-- a line feed ends the first line
abbrev pub ended? : List ℕ → Bool
ended? s = ltb (length (before line_feed s)) (length s)

-- a bad line's number from 1, and its first bad field, or 0 where it has not six
pub record BadAt : Type 0 where
  pub line : ℕ
  pub field : ℕ

abbrev pub bad_at : ℕ → ℕ → BadAt
bad_at line field = record { line = line; field = field }

-- line i is bad, or the rest decides
abbrev pub row_then : Result Rule ℕ → ℕ → Result ℕ BadAt → Result ℕ BadAt
row_then (Ok r) i rest = rest
row_then (Err k) i rest = Err (bad_at i k)

-- the first bad one of at most f lines, or how many lines are good, i before them being so
unfoldable pub rows_of : ℕ → ℕ → List ℕ → Result ℕ BadAt
rows_of zero i s = Ok i
rows_of (suc f) i s =
    let rest = rows_of f (i + 1) (after line_feed s) in
    if eqb (length s) 0 then Ok i
    else if not (ended? s) then Err (bad_at (i + 1) 0)
    else row_then (row_of (before line_feed s)) (i + 1) rest

-- the rule of a good line and those after it
abbrev pub rule_then : Result Rule ℕ → List Rule → List Rule
rule_then (Ok r) rest = r ∷ rest
rule_then (Err k) rest = []

-- the rules of at most f lines, as far as they are good
unfoldable pub rules_read : ℕ → List ℕ → List Rule
rules_read zero s = []
rules_read (suc f) s =
    let rest = rules_read f (after line_feed s) in
    if ended? s then rule_then (row_of (before line_feed s)) rest else []

-- the verdict of the loop over the lines, as the code answers, with n rules read
abbrev pub rows_as : ℕ → Result Unit BadLine → Result ℕ BadAt
rows_as n (Ok x) = Ok n
rows_as n (Err b) = Err (bad_at b.line (part_number b.part))

-- the promise of the loop over the lines: its verdict, and the rules as far as the lines are good
pub record ReadRows (s : List ℕ) (r : Result Unit BadLine) (rules : List Rule) : Type 0 where
  pub says : rows_as (length rules) r ≡ rows_of rule_limit 0 s
  pub holds : rules ≡ rules_read rule_limit s

-- the number and values of each answer
abbrev pub sheet_error_as : SheetError → Answer
sheet_error_as Long = refused refusal.long 0 0
sheet_error_as Many = refused refusal.many 0 0
sheet_error_as (Bad b) = refused refusal.line b.line (part_number b.part)
sheet_error_as (Room bytes) = refused refusal.room bytes 0

abbrev pub read_as : Result ℕ SheetError → Answer
read_as = answer_of one_number sheet_error_as

-- a bad line as an error of reading
abbrev pub line_error : BadLine → SheetError
line_error b = Bad b

-- the answer where the lines are tested, and so many bytes are lent
unfoldable pub behind_rows : Result ℕ BadAt → ℕ → Answer
behind_rows (Err b) bytes = refused refusal.line b.line b.field
behind_rows (Ok n) bytes =
    if ltb bytes (rule_size * n) then refused refusal.room (rule_size * n) 0 else done n 0 0 0

-- the answer, tested in document 02's order: the length, the number of lines, the lines, and then the room
unfoldable pub reading : List ℕ → ℕ → Answer
reading s bytes =
    if ltb sheet_limit (length s) then refused refusal.long 0 0
    else if many? s then refused refusal.many 0 0
    else behind_rows (rows_of rule_limit 0 s) bytes

-- the promise of `read`: what is answered, and the rules at the start of the memory lent
abbrev pub Reading : List ℕ → List ℕ → Answer → List ℕ → Type 0
Reading s lent = Lent (reading s (length lent)) (list_bytes (rules_read rule_limit s)) lent
