-- Powers of two as the code makes them, and how the mask of a narrower width follows from the table. Assumes nothing.
use mathlib.Core.Path.{◌≡◌, sym, ap, ap₂, ◌∙◌}
use Prim.Native.Nat.{ℕ, ◌+◌, ◌-◌, ◌*◌, ◌/◌, ◌%◌, ◌^◌, ◌≤◌, ◌<◌}
use native.Mathlib.Omega.{arith}
use native.Mathlib.Nat.{mod-eq_of_lt, one-mul, mul-sub, mul_comm}
use lib.Pow.{pow_pos, pow_mono, pow-lt, pow-add, shl-shr}
use Rattle.bits.specs.Masks.{Power, mask_of}

-- a shift of 1 by k, at w bits
pub shift_is : (w k : ℕ) → k < w → (1 * 2 ^ k) % 2 ^ w ≡ 2 ^ k
shift_is w k h = ap (λ (x : ℕ). x % 2 ^ w) (one-mul (2 ^ k)) ∙ mod-eq_of_lt (pow-lt h)

-- at 32 bits, with its bounds
pub power_law : (k : ℕ) → k ≤ 16 → Power k ((1 * 2 ^ k) % 2 ^ 32)
power_law k h =
    let e = shift_is 32 k (omega arith) in
    record { is = e; some = omega (arith, pow_pos k); small = omega (arith, pow_mono h) }

sub_mul : (a b c : ℕ) → a * c - b * c ≡ (a - b) * c
sub_mul a b c = ap₂ (λ (x y : ℕ). x - y) (mul_comm a c) (mul_comm b c) ∙ sym (mul-sub c a b) ∙ mul_comm c (a - b)

-- the mask of width 16 with as many leading ones, moved down to width n
pub mask_law : (n k : ℕ) → n ≤ 16 → k ≤ n → (2 ^ 16 - 2 ^ (16 - (n - k))) / 2 ^ (16 - n) ≡ mask_of n k
mask_law n k h g =
    let a : 16 ≡ n + (16 - n) = omega arith in
    let b : 16 - (n - k) ≡ k + (16 - n) = omega arith in
    ap₂ (λ (x y : ℕ). (x - y) / 2 ^ (16 - n)) (ap (λ (x : ℕ). 2 ^ x) a ∙ pow-add 2 n (16 - n)) (ap (λ (x : ℕ). 2 ^ x) b ∙ pow-add 2 k (16 - n))
    ∙ ap (λ (x : ℕ). x / 2 ^ (16 - n)) (sub_mul (2 ^ n) (2 ^ k) (2 ^ (16 - n)))
    ∙ shl-shr (2 ^ n - 2 ^ k) (16 - n)
