-- The loop of `sheets::numbers::digits`: the digits passed say x.
use Rattle.sheets.proofs.DigitsSoFar.{Said}
use Rattle.sheets.proofs.numbers.digits.Given as goal

abbrev pub invariant-loop-c : goal.invariant-loop-c
invariant-loop-c l = Said l.s l.x l.c-index
