-- The field that is named of a bad line is the first that is bad: field 0 where the line has not six fields, and else the
-- first of the six. Assumes nothing.
use mathlib.Core.List.{List}
use mathlib.Core.Path.{◌≡◌}
use Prim.Native.Nat.{ℕ}
use Rattle.std.specs.Prelude.{Err}
use Rattle.rules.specs.Lowest.{FirstTest}
use Rattle.sheets.specs.BadLines.{bad_fields, bad_parts}
use Rattle.sheets.specs.Rows.{row_from, row_of}
use Rattle.sheets.specs.Parts.{Address, Ports}
use Rattle.sheets.proofs.TestsInOrder.{tested, tested_bad}

pub first_field : (p : ℕ) (src dst : Address) (sports dports : Ports) (act k : ℕ) → row_from p src dst sports dports act ≡ Err k
    → FirstTest (bad_fields p src dst sports dports act) 1 k
unfolding row_from tested
first_field p src dst sports dports act k e = tested_bad 1 (bad_fields p src dst sports dports act) _ k e

pub first_part : (s : List ℕ) (k : ℕ) → row_of s ≡ Err k → FirstTest (bad_parts s) 0 k
unfolding row_from row_of tested
first_part s k e = tested_bad 0 (bad_parts s) _ k e
