-- The records of a table as a list: the first that is ill formed, and the first that matches a header.
use Rattle.std.specs.Prelude.{true, List, [], ◌∷◌, ◌≡◌, ℕ, ◌+◌, ◌<◌, Option, None, Some, get_or, length, if◌then◌else◌}
use Rattle.answers.specs.Answers.{done}
use Rattle.answers.specs.declared.Answer.{Answer}
use Rattle.records.specs.Entries.{action_of, number_of}
use Rattle.tables.specs.Looking.{record_formed?, record_matches?}

-- every record is well formed
abbrev pub EachFormed : List (List ℕ) → Type 0
EachFormed rs = (i : ℕ) → i < length rs → record_formed? (get_or rs i []) ≡ true

-- the lowest index, counted from j, of an ill-formed record
unfoldable pub first_ill_among : ℕ → List (List ℕ) → Option ℕ
first_ill_among j [] = None
first_ill_among j (r ∷ rs) = if record_formed? r then first_ill_among (j + 1) rs else Some j

-- the first that matches, indices counted from j: 1, its index, its rule number and its action; or 0 and zeros
unfoldable pub first_among : ℕ → List (List ℕ) → List ℕ → Answer
first_among j [] h = done 0 0 0 0
first_among j (r ∷ rs) h =
    if record_matches? r h then done 1 j (number_of r) (action_of r) else first_among (j + 1) rs h
