-- `bits::highest` meets its contract: the leading zeros say which bit it is. Assumes nothing.
use native.Mathlib.Omega.{arith}
use Rattle.bits.proofs.Ends.{leading_law, leading_most}
use Rattle.bits.proofs.highest.Goals as goal

pub overflow_sub-result : goal.overflow_sub-result
overflow_sub-result c = leading_most c.args.x c.requires (omega arith)

pub returns : goal.returns
returns c = leading_law c.args.x c.requires (omega arith)
