-- `texts::put_hex`: two digits are written for each byte passed, and those of the bytes left complete what is held in the end.
use Rattle.std.proofs.Common.{◌≡◌, ◌*◌, ◌+◌, drop}
use Rattle.fields.specs.Writes.{write_at}
use Rattle.texts.specs.Hex.{hex_of}
use Rattle.texts.proofs.put_hex.Given as goal

abbrev pub invariant-loop-i : goal.invariant-loop-i
invariant-loop-i l = write_at l.t (l.at + 2 * l.i) (hex_of (drop l.i l.s)) ≡ write_at l.initial.t l.at (hex_of l.s)
