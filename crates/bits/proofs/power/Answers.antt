-- `bits::power` meets its contract, by `power_law`. Assumes nothing.
use Rattle.bits.proofs.Masks.{power_law}
use Rattle.bits.proofs.power.Goals as goal

pub returns : goal.returns
returns c = power_law c.args.k c.requires
