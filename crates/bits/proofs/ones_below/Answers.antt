-- `bits::ones_below` meets its contract, by `ones_law`. Assumes nothing.
use Rattle.bits.proofs.Ones.{ones_law}
use Rattle.bits.proofs.ones_below.Goals as goal

pub returns : goal.returns
returns c = ones_law _ _ _ c.power.ensures
