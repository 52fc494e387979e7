-- `sheets::parts::joined` meets its contract: four bytes and a length. Assumes nothing.
use native.Mathlib.Omega.{arith}
use Rattle.sheets.proofs.Joining.{joined_beyond, joined_good, joined_length}
use Rattle.sheets.proofs.parts.joined.Goals as goal

pub returns-then-len-gt32 : goal.returns-then-len-gt32
returns-then-len-gt32 c = joined_length _ _ _ _ _ (omega arith) (omega arith) (omega arith) (omega arith) (omega arith)

pub returns-then-beyond : goal.returns-then-beyond
returns-then-beyond c =
    joined_beyond _ _ _ _ _ (omega arith) (omega arith) (omega arith) (omega arith) _ (omega (arith, c.from_be_bytes.ensures)) (omega arith) c.if-beyond.ensures

pub returns : goal.returns
returns c =
    joined_good _ _ _ _ _ (omega arith) (omega arith) (omega arith) (omega arith) _ (omega (arith, c.from_be_bytes.ensures)) (omega arith) c.if-beyond.ensures
