-- The two kinds of answer: done with up to four values, refused with a number and up to two values; and a call's outcome as one.
use Rattle.std.specs.Prelude.{ℕ, Option, None, Some, Result, Ok, Err}
use Rattle.answers.specs.Refusals as refusal
use Rattle.answers.specs.declared.Answer.{Answer}

abbrev pub done : ℕ → ℕ → ℕ → ℕ → Answer
done a b c d = record { no = 0; a = a; b = b; c = c; d = d }

abbrev pub refused : ℕ → ℕ → ℕ → Answer
refused number a b = record { no = number; a = a; b = b; c = 0; d = 0 }

-- what is answered where the lowest ill-formed word, if there is one, is refused first
unfoldable pub behind_ill : Option ℕ → Answer → Answer
behind_ill None a = a
behind_ill (Some i) a = refused refusal.ill i 0

-- the answer of an outcome: what it says where the call is done, or its refusal
abbrev pub answer_of : {A E : Type 0} → (A → Answer) → (E → Answer) → Result A E → Answer
answer_of says refuses (Ok x) = says x
answer_of says refuses (Err e) = refuses e

-- one number, as so many words or rules
abbrev pub one_number : ℕ → Answer
one_number k = done k 0 0 0
