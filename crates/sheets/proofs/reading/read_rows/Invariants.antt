-- The loop of `sheets::reading::read_rows`: what is left of the text completes the verdict and the rules.
use Rattle.sheets.proofs.LinesLeft.{LinesLeft}
use Rattle.sheets.proofs.reading.read_rows.Given as goal

abbrev pub invariant-loop-i : goal.invariant-loop-i
invariant-loop-i l = LinesLeft l.text l.rules.items l.rest l.i
