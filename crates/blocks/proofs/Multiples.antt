-- Multiples of a power of two: how they are spaced, and the block of a width that holds a number. Assumes nothing.
use mathlib.Core.Path.{◌≡◌, sym, ap, ◌∙◌}
use Prim.Native.Nat.{ℕ, ◌+◌, ◌-◌, ◌*◌, ◌/◌, ◌%◌, ◌^◌, ◌≤◌, ◌<◌}
use native.Mathlib.Omega.{arith}
use native.Mathlib.Nat.{lt_of_mul-lt-mul_right, mul-le-mul_right, mul_assoc, div-add-mod', le-div_iff_mul-le}
use lib.Pow.{pow-add}

-- of two multiples of m the lower is at least m below the other
pub step_up : (q c m : ℕ) → q * m < c * m → q * m + m ≤ c * m
step_up q c m h = omega (arith, mul-le-mul_right m (lt_of_mul-lt-mul_right m h))

-- a multiple of 2 ^ m is one of 2 ^ k
pub finer : (c m k : ℕ) → k ≤ m → c * 2 ^ m ≡ (c * 2 ^ (m - k)) * 2 ^ k
finer c m k h =
    let e : m ≡ (m - k) + k = omega arith in
    ap (λ (x : ℕ). c * 2 ^ x) e ∙ ap (λ (x : ℕ). c * x) (pow-add 2 (m - k) k) ∙ sym (mul_assoc c (2 ^ (m - k)) (2 ^ k))

-- the multiple of m at or below w is at or above each multiple that w reaches
pub floor_low : (c m w : ℕ) → 0 < m → c * m ≤ w → c * m ≤ w - w % m
floor_low c m w p h =
    let e = div-add-mod' w m in
    let g : c ≤ w / m = (le-div_iff_mul-le p).1 h in
    omega (arith, mul-le-mul_right m g)

-- and at least m below each multiple above w
pub floor_high : (e m w : ℕ) → w < e * m → w - w % m + m ≤ e * m
floor_high e m w h =
    let d = div-add-mod' w m in
    omega (arith, step_up (w / m) e m (omega arith))
