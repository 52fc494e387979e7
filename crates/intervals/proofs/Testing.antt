-- The tests of an interval say Ok exactly where it is closed. Assumes nothing.
use mathlib.Core.Path.{◌≡◌}
use Prim.Native.Nat.{ℕ}
use native.Mathlib.Omega.{arith}
use Rattle.std.specs.Prelude.{Ok}
use Rattle.std.proofs.lemmas.Bool.Decides.{nat_tests}
use Rattle.blocks.specs.Blocks.{Closed}
use Rattle.intervals.specs.Ends.{tested}

module _ (n low high : ℕ) where
  pub good_tested : Closed n low high → tested n low high ≡ Ok tt
  unfolding tested
  good_tested c = grind (arith, nat_tests)

  pub tested_good : tested n low high ≡ Ok tt → Closed n low high
  unfolding tested
  tested_good e = record { some = grind (arith, nat_tests); most = grind (arith, nat_tests); fits = grind (arith, nat_tests); order = grind (arith, nat_tests) }
