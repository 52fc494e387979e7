-- Closing open bounds gives A + 1 .. B - 1, and it is a good interval. Assumes nothing.
use mathlib.Core.Path.{◌≡◌}
use Prim.Native.Nat.{ℕ}
use native.Mathlib.Omega.{arith}
use lib.IntN.{ℤ, pos, negsuc, ◌+ℤ◌}
use Rattle.std.proofs.lemmas.Bool.Decides.{nat_tests}
use Rattle.std.proofs.lemmas.Int.{ints}
use Rattle.answers.specs.Answers.{done}
use Rattle.blocks.specs.Blocks.{Closed}
use Rattle.intervals.specs.Bounds.{closing}

module _ (n : ℕ) (a b : ℤ) (low high : ℕ) (c : closing n a b ≡ done low high 0 0) where
  closed : Closed n low high
  unfolding closing
  closed = record {
    some = grind (arith, ints, nat_tests);
    most = grind (arith, ints, nat_tests);
    fits = grind (arith, ints, nat_tests);
    order = grind (arith, ints, nat_tests);
  }

  -- an answer without a refusal is A + 1 .. B - 1, and it is a good interval
  pub closes_right : (pos low ≡ a +ℤ pos 1) × (pos high ≡ b +ℤ negsuc 0) × Closed n low high
  unfolding closing
  closes_right = (grind (arith, ints, nat_tests), grind (arith, ints, nat_tests), closed)
