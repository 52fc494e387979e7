-- Finding a header in a table: what is answered on any bytes.
use Rattle.std.specs.Prelude.{Bool, true, ◌&&◌, not, List, [], ◌∷◌, ℕ, zero, suc, ◌+◌, Option, None, Some, Result, eqb, leb, ltb, drop, length, if◌then◌else◌}
use Rattle.std.specs.Int.Bits.{bit_and}
use Rattle.answers.specs.Answers.{answer_of, behind_ill, done, refused}
use Rattle.answers.specs.Refusals as refusal
use Rattle.answers.specs.declared.Answer.{Answer}
use Rattle.records.specs.Actions.{action_number}
use Rattle.records.specs.Entries.{action_of, mask_of_record, number_of, value_of}
use Rattle.records.specs.Layout.{key_size, last_action, record_size, room_of}
use Rattle.tables.specs.declared.finding.Found.{Found}
use Rattle.tables.specs.declared.finding.LookError.{LookError}
use Rattle.tables.specs.declared.finding.LookError.TheVariants.{Stated, Ill, Header}

-- document 01's number and values for each answer
abbrev pub record_found : Option Found → Answer
record_found None = done 0 0 0 0
record_found (Some f) = done 1 f.index f.rule (action_number f.action)

abbrev pub look_error_as : LookError → Answer
look_error_as Stated = refused refusal.stated 0 0
look_error_as (Ill j) = refused refusal.ill j 0
look_error_as Header = refused refusal.header 0 0

abbrev pub found_as : Result (Option Found) LookError → Answer
found_as = answer_of record_found look_error_as

-- a well-formed word matches a header, byte by byte: under the mask the header is the value
unfoldable pub bytes_match : List ℕ → List ℕ → List ℕ → Bool
bytes_match [] ms xs = true
bytes_match (v ∷ vs) [] xs = true
bytes_match (v ∷ vs) (m ∷ ms) [] = true
bytes_match (v ∷ vs) (m ∷ ms) (x ∷ xs) = eqb (bit_and x m) v && bytes_match vs ms xs

-- the record at the start of t matches the header h
abbrev pub record_matches? : List ℕ → List ℕ → Bool
record_matches? t h = bytes_match (value_of t) (mask_of_record t) h

-- The record at the start of t is well formed: no value bit stands where the mask is 0, that is, under the mask the value is
-- itself; and the action is at most 3.
abbrev pub record_formed? : List ℕ → Bool
record_formed? t = record_matches? t (value_of t) && leb (action_of t) last_action

-- the lowest index of an ill-formed record among the k from the start of t on, the first having index j
unfoldable pub first_ill : ℕ → ℕ → List ℕ → Option ℕ
first_ill zero j t = None
first_ill (suc k) j t = if record_formed? t then first_ill k (j + 1) (drop record_size t) else Some j

-- the first of those k records that matches: 1, its index, its rule number and its action; or 0 and zeros
unfoldable pub first_record : ℕ → ℕ → List ℕ → List ℕ → Answer
first_record zero j t h = done 0 0 0 0
first_record (suc k) j t h =
    if record_matches? t h then done 1 j (number_of t) (action_of t) else first_record k (j + 1) (drop record_size t) h

-- the answer where all counted records are well formed
unfoldable pub looking_formed : List ℕ → ℕ → List ℕ → Answer
looking_formed t k h =
    if not (eqb (length h) key_size) then refused refusal.header 0 0
    else first_record k 0 t h

unfoldable pub looking : List ℕ → ℕ → List ℕ → Answer
looking t k h =
    if ltb (room_of (length t)) k then refused refusal.stated 0 0
    else behind_ill (first_ill k 0 t) (looking_formed t k h)
