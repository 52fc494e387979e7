-- `sheets::cuts::halves` meets its contract: without a mark all of the text stands before it. Assumes nothing.
use mathlib.Core.Path.{refl}
use Rattle.sheets.proofs.Places.{parts_or}
use Rattle.sheets.proofs.cuts.halves.Goals as goal

pub returns : goal.returns
returns c = parts_or _ _ _ _ _ _ c.cut.ensures refl refl c.unwrap_or.ensures
