-- `blocks::Interval::first` meets its contract: the lowest word is that of the lowest largest block. Assumes nothing.
use Rattle.blocks.proofs.Walking.{first_is}
use Rattle.blocks.proofs.intervals.Interval.first.Goals as goal

pub returns : goal.returns
returns c = first_is _ _ _ c.args.self.closed _ _ _ c.free_bits-k.ensures c.mask.ensures c.power.ensures
