-- `texts::put_hex` meets its contract: the digits of the bytes that are left complete what is held in the end. Assumes nothing.
use native.Mathlib.Omega.{arith}
use Rattle.texts.proofs.HexLeft.{hex_end, hex_more, length_hex}
use Rattle.texts.proofs.put_hex.Goals as goal

pub loop-i-preserved : goal.loop-i-preserved
loop-i-preserved c = hex_more _ _ _ _ _ c.loop-i.invariant 0 c.loop-i-test.true (omega arith) _ _ c.hex_digit.ensures c.hex_digit-in-loop-i.ensures _ c.put.ensures

pub returns : goal.returns
returns c = record {
  next = omega (arith, length_hex c.args.s.now);
  leaves = hex_end _ _ _ _ _ c.loop-i.invariant c.loop-i-test.false;
}
