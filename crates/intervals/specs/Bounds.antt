-- Open bounds (A, B) and the closed interval A + 1 .. B - 1 (document 01, "Intervals and words").
use Rattle.std.specs.Prelude.{Bool, ◌&&◌, ◌||◌, not, Option, None, Some, Result, ℕ, zero, suc, ◌+◌, ◌^◌, ltb, ℤ, pos, negsuc, ◌+ℤ◌, nat_abs, if◌then◌else◌}
use Rattle.std.specs.Int.Signed.{le_z, lt_z}
use Rattle.answers.specs.Answers.{answer_of, done, refused}
use Rattle.answers.specs.Refusals as refusal
use Rattle.answers.specs.declared.Answer.{Answer}
use Rattle.intervals.specs.Ends.{fault_as}
use Rattle.intervals.specs.declared.bounds.Closed.{Closed}
use Rattle.intervals.specs.declared.ends.Fault.{Fault}

-- document 01's number and values for each answer
abbrev pub ends_as : Closed → Answer
ends_as c = done c.low c.high 0 0

abbrev pub closed_as : Result Closed Fault → Answer
closed_as = answer_of ends_as fault_as

-- the bound lies in -1 .. 2 ^ n
abbrev pub bound_fits? : ℕ → ℤ → Bool
bound_fits? n a = le_z (negsuc 0) a && le_z a (pos (2 ^ n))

-- B - A < 2 is asked as B < A + 2. In the last line neither A + 1 nor B - 1 is negative, so nat_abs is the number itself.
unfoldable pub closing : ℕ → ℤ → ℤ → Answer
closing n a b =
    if ltb n 1 || ltb 16 n then refused refusal.width 0 0
    else if not (bound_fits? n a && bound_fits? n b) then refused refusal.fit 0 0
    else if lt_z b (a +ℤ pos 2) then refused refusal.order 0 0
    else done (nat_abs (a +ℤ pos 1)) (nat_abs (b +ℤ negsuc 0)) 0 0

-- ---- as the code goes: each bound by how far it stands past -1

abbrev pub place : ℤ → ℕ → Option ℕ
place (pos k) top = if ltb top k then None else Some (k + 1)
place (negsuc zero) top = Some 0
place (negsuc (suc k)) top = None
