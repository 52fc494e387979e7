-- `texts::push_hex`: two digits are added for each byte passed, and with those of the bytes left the line is what it will be.
use Rattle.std.specs.Prelude.{◌++◌, ◌≡◌, ◌*◌, ◌+◌, drop}
use Rattle.arrayvec.specs.ArrayVec.{array_vec_len}
use Rattle.texts.specs.Hex.{hex_of}
use Rattle.texts.proofs.push_hex.Given as goal

abbrev pub invariant-loop-byte : goal.invariant-loop-byte
invariant-loop-byte l = record {
  len : array_vec_len l.line ≡ array_vec_len l.initial.line + 2 * l.byte-index;
  ends : l.line.items ++ hex_of (drop l.byte-index l.s) ≡ l.initial.line.items ++ hex_of l.s;
}
