-- `fields::put` meets its contract: the part that is written and what stands round it are what `write_at` says.
-- Assumes nothing.
use native.Mathlib.Omega.{arith}
use Rattle.fields.proofs.Writing.{mid_write}
use Rattle.fields.proofs.put.Goals as goal

pub returns : goal.returns
returns c = mid_write _ _ _ _ _ c.copy_from_slice.ensures.after (omega arith)
