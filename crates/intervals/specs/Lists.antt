-- Counting and listing: what is answered, and what a lent list of numbers holds afterwards (document 01, "Count" and the
-- paragraph on lists: value then mask, k words take 2k numbers, and later numbers stay as they were).
use Rattle.std.specs.Prelude.{List, [], ◌∷◌, ℕ, ◌*◌, Result, ltb, length, if◌then◌else◌}
use Rattle.answers.specs.Answers.{answer_of, done, one_number, refused}
use Rattle.answers.specs.Lent.{Lent}
use Rattle.answers.specs.Refusals as refusal
use Rattle.answers.specs.declared.Answer.{Answer}
use Rattle.blocks.specs.Blocks.{words_of}
use Rattle.blocks.specs.Counting.{count_of}
use Rattle.blocks.specs.declared.Word.{Word}
use Rattle.intervals.specs.Ends.{behind, fault_as, tested}
use Rattle.intervals.specs.declared.ends.Fault.{Fault}
use Rattle.intervals.specs.declared.lists.ListError.{ListError}
use Rattle.intervals.specs.declared.lists.ListError.TheVariants.{Ends, Room}

-- document 01's number and values for each answer
abbrev pub counted_as : Result ℕ Fault → Answer
counted_as = answer_of one_number fault_as

abbrev pub list_error_as : ListError → Answer
list_error_as (Ends f) = fault_as f
list_error_as (Room k) = refused refusal.room k 0

abbrev pub listed_as : Result ℕ ListError → Answer
listed_as = answer_of one_number list_error_as

-- a fault of the ends as one of listing
abbrev pub ends_refused : Fault → ListError
ends_refused f = Ends f

unfoldable pub counting : ℕ → ℕ → ℕ → Answer
counting n low high = behind (tested n low high) (done (count_of n low high) 0 0 0)

-- the answer where the list lent has so much room
unfoldable pub listing : ℕ → ℕ → ℕ → ℕ → Answer
listing n low high room =
    let k = count_of n low high in
    behind (tested n low high) (if ltb room (2 * k) then refused refusal.room k 0 else done k 0 0 0)

-- words as numbers: value, then mask
unfoldable pub numbers : List Word → List ℕ
numbers [] = []
numbers (w ∷ ws) = w.value ∷ w.mask ∷ numbers ws

abbrev pub numbers_of : ℕ → ℕ → ℕ → List ℕ
numbers_of n low high = numbers (words_of n low high)

-- the promise of `list`: what is answered, and the words at the start of the list lent
abbrev pub Listing : ℕ → ℕ → ℕ → List ℕ → Answer → List ℕ → Type 0
Listing n low high before = Lent (listing n low high (length before)) (numbers_of n low high) before
