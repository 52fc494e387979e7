-- Numbers and their big-endian bytes. Assumes nothing.
use mathlib.Core.List.{List}
use mathlib.Core.Path.{◌≡◌}
use Prim.Native.Nat.{ℕ, ◌+◌, ◌^◌, ◌<◌}
use native.Mathlib.Omega.{arith}
use Rattle.fields.specs.Bytes.{Bytes, at2, at4, be2, be4}

-- ---- read back

pub at2_be2 : (x : ℕ) → x < 2 ^ 16 → at2 (be2 x) 0 ≡ x
at2_be2 x h = omega arith

pub at4_be4 : (x : ℕ) → x < 2 ^ 32 → at4 (be4 x) 0 ≡ x
at4_be4 x h = omega arith

-- ---- their bounds

module _ (l : List ℕ) (i : ℕ) (b : Bytes l) where
  pub at2_small : at2 l i < 2 ^ 16
  at2_small = omega (arith, b i, b (i + 1))

  pub at4_small : at4 l i < 2 ^ 32
  at4_small = omega (arith, b i, b (i + 1), b (i + 2), b (i + 2 + 1))
