-- How many words an interval has, as document 01 counts them ("Count"; source document 000, theorem 3.2).
use Rattle.std.specs.Prelude.{◌&&◌, ℕ, ◌+◌, ◌-◌, ◌^◌, eqb, if◌then◌else◌}
use Rattle.std.specs.Int.Count.{ones}
use Rattle.bits.specs.Digits.{ones_below, zeros_below, top_differ}

-- the zeros of a below s plus the ones of b below s
abbrev pub between : ℕ → ℕ → ℕ → ℕ
between s a b = zeros_below s a + ones_below s b

unfoldable pub count_of : ℕ → ℕ → ℕ → ℕ
count_of n low high =
    let a = low - 1 in
    let b = high + 1 in
    if eqb low 0 && eqb b (2 ^ n) then 1
    else if eqb low 0 then ones b
    else if eqb b (2 ^ n) then zeros_below n a
    else between (top_differ n a b) a b
