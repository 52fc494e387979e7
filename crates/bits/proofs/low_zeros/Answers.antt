-- `bits::low_zeros` meets its contract, by `trailing_law`. Assumes nothing.
use Rattle.bits.proofs.Ends.{trailing_law}
use Rattle.bits.proofs.low_zeros.Goals as goal

pub returns : goal.returns
returns c = trailing_law 32 c.args.x
