-- The tests of an interval's width and ends (document 01, "When the tablet says no": 1, 2 and 3), lowest number first.
use Rattle.std.specs.Prelude.{◌||◌, ◌≡◌, ℕ, ◌^◌, IfOk, Result, Ok, Err, leb, ltb, if◌then◌else◌}
use Rattle.answers.specs.Answers.{refused}
use Rattle.answers.specs.Refusals as refusal
use Rattle.answers.specs.declared.Answer.{Answer}
use Rattle.intervals.specs.declared.ends.Fault.{Fault}
use Rattle.intervals.specs.declared.ends.Fault.TheVariants.{Width, Fit, Order}
use Rattle.blocks.specs.Walked.{Is}
use Rattle.blocks.specs.declared.intervals.Interval.{Interval}

abbrev pub number_of : Fault → ℕ
number_of Width = refusal.width
number_of Fit = refusal.fit
number_of Order = refusal.order

-- document 01's number for each
abbrev pub fault_as : Fault → Answer
fault_as f = refused (number_of f) 0 0

-- the test of a width alone
abbrev pub width_tested : ℕ → Result Unit Fault
width_tested n = if ltb n 1 || ltb 16 n then Err Width else Ok tt

unfoldable pub tested : ℕ → ℕ → ℕ → Result Unit Fault
tested n low high =
    if ltb n 1 || ltb 16 n then Err Width
    else if leb (2 ^ n) low || leb (2 ^ n) high then Err Fit
    else if ltb high low then Err Order
    else Ok tt

-- what is answered where these tests come first
unfoldable pub behind : Result Unit Fault → Answer → Answer
behind (Ok x) a = a
behind (Err f) a = fault_as f

-- what a test says, without the interval that it hands out
abbrev pub verdict_of : Result Interval Fault → Result Unit Fault
verdict_of (Ok i) = Ok tt
verdict_of (Err f) = Err f

-- the promise of the tests: what they say, and the interval that they hand out
pub record Tests (n low high : ℕ) (r : Result Interval Fault) : Type 0 where
  pub says : verdict_of r ≡ tested n low high
  pub gives : IfOk r (Is n low high)
