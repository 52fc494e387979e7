-- `bits::highest_apart` meets its contract: the highest 1 of the exclusive or is that bit. Assumes nothing.
use Rattle.bits.proofs.Differ.{apart_law, xor_some}
use Rattle.bits.proofs.highest_apart.Goals as goal

pub highest-requires : goal.highest-requires
highest-requires c = xor_some c.args.a c.args.b c.requires.0

pub returns : goal.returns
returns c = apart_law _ _ _ c.requires.0 c.requires.1 c.highest.ensures
