-- A bit of a word as a person reads it.
use Rattle.std.specs.Prelude.{ℕ, eqb, if◌then◌else◌}
use Rattle.bits.specs.Digits.{bit}
use Rattle.blocks.specs.declared.Word.{Word}

-- * where the bit is a don't care, else its digit
abbrev pub symbol_of : Word → ℕ → ℕ
symbol_of w i =
    if eqb (bit i w.mask) 0 then 42
    else if eqb (bit i w.value) 0 then 48
    else 49
