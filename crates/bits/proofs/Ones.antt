-- How many binary digits are 1. Assumes nothing.
use mathlib.Core.Path.{◌≡◌, refl, sym, ap, ap₂, ◌∙◌}
use Prim.Native.Nat.{ℕ, zero, suc, ◌+◌, ◌-◌, ◌/◌, ◌%◌, ◌^◌, ◌<◌}
use native.Mathlib.Omega.{arith}
use native.Mathlib.Nat.{mod-lt, one-mul, add-zero}
use lib.Pow.{pow_pos}
use lib.Count.{ones, ones-le, ones_step, ones_cat}
use Rattle.bits.specs.Digits.{ones_below, Ones}
use Rattle.bits.specs.Masks.{Power}

pub ones_zero : ones 0 ≡ 0
unfolding ones
ones_zero = refl

pub ones_one : ones 1 ≡ 1
unfolding ones
ones_one = refl

-- a leading 1 before k digits
pub ones_lead : (k r : ℕ) → r < 2 ^ k → ones (2 ^ k + r) ≡ 1 + ones r
ones_lead k r h = ap (λ (x : ℕ). ones (x + r)) (sym (one-mul (2 ^ k))) ∙ ones_cat k 1 r h ∙ ap (λ (x : ℕ). x + ones r) ones_one

pub ones_pow : (k : ℕ) → ones (2 ^ k) ≡ 1
ones_pow k = ap ones (sym (add-zero (2 ^ k))) ∙ ones_lead k 0 (pow_pos k) ∙ ap (λ (x : ℕ). 1 + x) ones_zero

-- the ones of k digits turned over are the zeros
pub ones_not : (k r : ℕ) → r < 2 ^ k → ones (2 ^ k - 1 - r) + ones r ≡ k
ones_not zero r h =
    let e : r ≡ 0 = omega arith in
    ap₂ (λ (x y : ℕ). ones x + ones y) (omega arith) e ∙ ap₂ (λ (x y : ℕ). x + y) ones_zero ones_zero
ones_not (suc k) r h =
    let x = 2 ^ suc k - 1 - r in
    let e : x / 2 ≡ 2 ^ k - 1 - r / 2 = omega arith in
    omega (arith, ones_step x, ones_step r, ones_not k (r / 2) (omega arith), ap ones e)

-- the count of ones of a remainder, as the code takes it
pub ones_law : (s x p : ℕ) → Power s p → Ones s x (ones (x % p))
ones_law s x p h = record { is = ap (λ (z : ℕ). ones (x % z)) h.is; most = rw h.is (ones-le s (x % 2 ^ s) (mod-lt x (pow_pos s))) }

pub ones_self : (s x : ℕ) → Ones s x (ones_below s x)
ones_self s x = record { is = refl; most = ones-le s (x % 2 ^ s) (mod-lt x (pow_pos s)) }
