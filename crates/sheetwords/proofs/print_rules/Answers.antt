-- `sheetwords::print_rules` is safe and ends: the words compiled are in the table. Assumes nothing.
use mathlib.Core.Path.{refl, sym}
use native.Mathlib.Omega.{arith}
use lib.Seq.{length-take-le}
use Rattle.tablet.proofs.Bounds.{compiled_few}
use Rattle.sheetwords.proofs.print_rules.Goals as goal

pub slice_bounds-print_words-end : goal.slice_bounds-print_words-end
slice_bounds-print_words-end g c =
    let few = compiled_few _ _ _ _ c.in-Ok.ensures refl in
    sym (length-take-le _ c.as_chunks.result.0.now (omega (arith, few, c.as_chunks.ensures.front_len)))
