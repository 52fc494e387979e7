-- `blocks::free_bits` meets its contract: where there is room the least of three is the answer, by `free_law`.
-- Assumes nothing.
use native.Mathlib.Omega.{arith}
use Rattle.blocks.proofs.Leaner.{free_law, free_none}
use Rattle.blocks.proofs.free_bits.Goals as goal

pub returns-then-end-next : goal.returns-then-end-next
returns-then-end-next c = free_none _ _ _ (omega arith)

pub returns : goal.returns
returns c =
    free_law _ _ _ _ (omega arith) c.low_zeros.ensures c.highest.ensures _ _ _ (omega arith)
    c.min.ensures c.min-2.ensures
