-- A call that writes to memory it is lent: what it leaves there, and what is promised of it.
use Rattle.std.specs.Prelude.{List, ◌≡◌, ℕ, eqb, if◌then◌else◌}
use Rattle.answers.specs.declared.Answer.{Answer}
use Rattle.fields.specs.Writes.{write_at}

-- what the memory holds after an answer: what is written and then what stood behind it, or what it held where it is refused
unfoldable pub left_by : Answer → List ℕ → List ℕ → List ℕ
left_by answer written before = if eqb answer.no 0 then write_at before 0 written else before

-- the promise of a call that answers so and writes this: what comes back, and what the memory holds afterwards
pub record Lent (answer : Answer) (written before : List ℕ) (r : Answer) (after : List ℕ) : Type 0 where
  pub says : r ≡ answer
  pub leaves : after ≡ left_by answer written before
