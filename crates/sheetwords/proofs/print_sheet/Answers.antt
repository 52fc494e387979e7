-- `sheetwords::print_sheet` is safe and ends: the rules read are in the bytes lent. Assumes nothing.
use mathlib.Core.Path.{refl, sym}
use native.Mathlib.Omega.{arith}
use lib.Seq.{length-take-le}
use Rattle.tablet.proofs.Bounds.{read_fits}
use Rattle.sheetwords.proofs.print_sheet.Goals as goal

pub slice_bounds-rules-end : goal.slice_bounds-rules-end
slice_bounds-rules-end g c = omega (arith, read_fits _ _ _ _ c.in-Ok.ensures refl)

pub slice_bounds-print_rules-end : goal.slice_bounds-print_rules-end
slice_bounds-print_rules-end g c =
    sym (length-take-le _ c.read.new.rules (omega (arith, read_fits _ _ _ _ c.in-Ok.ensures refl)))
