-- Checking a list of ternary words against an interval (document 01, "Checking a list").
use Rattle.std.specs.Prelude.{Bool, ◌&&◌, List, [], ◌∷◌, ◌⊎◌, ℕ, zero, suc, ◌+◌, ◌*◌, ◌/◌, ◌^◌, ◌≤◌, Option, None, Some, Result, leb, ltb, get_or, length, map, if◌then◌else◌}
use Rattle.std.specs.Bool.{beq}
use Rattle.answers.specs.Answers.{answer_of, behind_ill, done, refused}
use Rattle.answers.specs.Refusals as refusal
use Rattle.answers.specs.declared.Answer.{Answer}
use Rattle.blocks.specs.Tests.{formed?, some?}
use Rattle.blocks.specs.Words as words
use Rattle.blocks.specs.Words.{word, word_in}
use Rattle.blocks.specs.declared.Word.{Word}
use Rattle.intervals.specs.Ends.{behind, fault_as, tested}
use Rattle.intervals.specs.declared.checks.CheckError.{CheckError}
use Rattle.intervals.specs.declared.checks.CheckError.TheVariants.{Ends, Stated, Ill}
use Rattle.intervals.specs.declared.ends.Fault.{Fault}

-- document 01's number and values for each answer: 1 for yes, or 0 and the value on which they disagree
abbrev pub verdict_as : Option ℕ → Answer
verdict_as None = done 1 0 0 0
verdict_as (Some x) = done 0 x 0 0

abbrev pub check_error_as : CheckError → Answer
check_error_as (Ends f) = fault_as f
check_error_as Stated = refused refusal.stated 0 0
check_error_as (Ill i) = refused refusal.ill i 0

abbrev pub checked_as : Result (Option ℕ) CheckError → Answer
checked_as = answer_of verdict_as check_error_as

-- a fault of the ends as one of checking
abbrev pub check_refused : Fault → CheckError
check_refused f = Ends f

-- words as pairs of numbers, value then mask
abbrev pub words_in : List (List ℕ) → List Word
words_in = map word_in

-- word i of a list of numbers, value then mask
abbrev pub word_at : List ℕ → ℕ → Word
word_at l i = word (get_or l (2 * i) 0) (get_or l (2 * i + 1) 0)

-- the k words of the list from word i on
unfoldable pub words_from : ℕ → ℕ → List ℕ → List Word
words_from i zero l = []
words_from i (suc k) l = word_at l i ∷ words_from (i + 1) k l

-- x is in the interval and no word matches it, or the other way round
abbrev pub Disagree : ℕ → ℕ → List Word → ℕ → Type 0
Disagree low high ws x = (((low ≤ x) × (x ≤ high)) × (words.Some ws x → ⊥)) ⊎ (((low ≤ x) × (x ≤ high) → ⊥) × words.Some ws x)

-- and whether they agree, as a test: x is in the interval exactly when some word matches it
abbrev pub agree? : ℕ → ℕ → List Word → ℕ → Bool
agree? low high ws x = beq (leb low x && leb x high) (some? ws x)

-- the lowest index, counted from i, of an ill-formed word
unfoldable pub first_ill : ℕ → ℕ → List Word → Option ℕ
first_ill n i [] = None
first_ill n i (w ∷ ws) = if formed? n w then first_ill n (i + 1) ws else Some i

-- yes, or the smallest of the d values from x on at which the interval and the words disagree
unfoldable pub verdict : ℕ → ℕ → ℕ → ℕ → List Word → Answer
verdict zero x low high ws = done 1 0 0 0
verdict (suc d) x low high ws =
    let on = verdict d (x + 1) low high ws in
    if agree? low high ws x then on else done 0 x 0 0

-- the answer on a good interval
unfoldable pub judged : ℕ → ℕ → ℕ → List ℕ → ℕ → Answer
judged n low high l k =
    let ws = words_from 0 k l in
    if ltb (length l / 2) k then refused refusal.stated 0 0
    else behind_ill (first_ill n 0 ws) (verdict (2 ^ n) 0 low high ws)

unfoldable pub checking : ℕ → ℕ → ℕ → List ℕ → ℕ → Answer
checking n low high l k = behind (tested n low high) (judged n low high l k)
