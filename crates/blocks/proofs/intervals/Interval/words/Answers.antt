-- `blocks::Interval::words` meets its contract: all words are to come, and they are few. Assumes nothing.
use mathlib.Core.Path.{refl}
use Rattle.blocks.proofs.Walking.{words_few}
use Rattle.blocks.proofs.intervals.Interval.words.Goals as goal

pub returns : goal.returns
returns c = record { are = refl; few = words_few _ _ _ c.args.self.closed }
