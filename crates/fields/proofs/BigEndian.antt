-- The standard library's big-endian bytes are this house's: those that it writes, and the number that it reads.
-- Assumes nothing.
use mathlib.Core.List.{[], ◌∷◌}
use mathlib.Core.Path.{◌≡◌}
use Prim.Native.Nat.{ℕ, ◌+◌, ◌*◌, ◌/◌, ◌%◌, ◌^◌, ◌<◌}
use native.Mathlib.Omega.{arith}
use Rattle.std.specs.Int.{w16, w32, from_be_bytes, to_be_bytes}
use Rattle.fields.specs.Bytes.{be2, be4}

pub bytes2 : (x : ℕ) → x < 2 ^ 16 → to_be_bytes w16 x ≡ be2 x
bytes2 x h = let e : x / 256 % 256 ≡ x / 256 = omega arith in rw e

pub bytes4 : (x : ℕ) → x < 2 ^ 32 → to_be_bytes w32 x ≡ be4 x
bytes4 x h =
    let e1 : x / 16777216 % 256 ≡ x / 65536 / 256 = omega arith in
    let e2 : x / 256 % 256 ≡ x % 65536 / 256 = omega arith in
    let e3 : x % 256 ≡ x % 65536 % 256 = omega arith in
    rw (e1, e2, e3)

pub number2 : (a b : ℕ) → from_be_bytes w16 (a ∷ b ∷ []) ≡ a * 256 + b
number2 a b = omega arith

pub number4 : (a b c d : ℕ) → from_be_bytes w32 (a ∷ b ∷ c ∷ d ∷ []) ≡ (a * 256 + b) * 65536 + (c * 256 + d)
number4 a b c d = omega arith
