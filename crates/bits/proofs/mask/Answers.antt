-- `bits::mask` meets its contract: the table's rule holds at every entry, and a narrower width's mask follows from it.
-- Assumes nothing.
use mathlib.Core.Path.{ap, ◌∙◌}
use mathlib.Core.List.{List, [], ◌∷◌}
use mathlib.Core.Bool.{Bool}
use Prim.Native.Nat.{ℕ, ◌-◌, ◌/◌, ◌^◌}
use native.Mathlib.Omega.{arith}
use lib.Dec.{eqb, eqb→eq}
use lib.ListN.{get_or}
use Rattle.bits.proofs.Masks.{mask_law}
use Rattle.bits.proofs.Tables.{at}
use Rattle.bits.proofs.mask.Goals as goal

masks : List ℕ
masks = 0 ∷ 32768 ∷ 49152 ∷ 57344 ∷ 61440 ∷ 63488 ∷ 64512 ∷ 65024 ∷ 65280 ∷ 65408 ∷ 65472 ∷ 65504 ∷ 65520 ∷ 65528 ∷ 65532 ∷ 65534 ∷ 65535 ∷ []

-- the table's rule: entry p has the top p of 16 bits set
right : ℕ → ℕ → Bool
right p x = eqb x (2 ^ 16 - 2 ^ (16 - p))

pub returns : goal.returns
unfolding masks right
returns c =
    let n = c.args.n in
    let p = n - c.args.k in
    ap (λ (x : ℕ). x / 2 ^ (16 - n)) (eqb→eq (get_or masks p 0) (2 ^ 16 - 2 ^ (16 - p)) (at right masks tt p (omega arith)))
    ∙ mask_law n c.args.k (omega arith) (omega arith)
