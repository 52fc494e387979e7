-- A number's two ends: the zeros below its lowest 1, and its highest 1, which the zeros above it say. Assumes nothing.
use mathlib.Core.Path.{◌≡◌, refl, sym, ap, ◌∙◌, subst}
use Prim.Native.Nat.{ℕ, zero, suc, ◌+◌, ◌-◌, ◌*◌, ◌/◌, ◌%◌, ◌^◌, ◌≤◌, ◌<◌}
use native.Mathlib.Omega.{arith}
use native.Mathlib.Numerals.{add-one}
use lib.Pow.{mod-pow-add}
use lib.Count.{leading_top, count_leading_zeros, count_trailing_zeros, under}

-- ---- the low end

-- the r lowest of x's n digits are 0, and the next, where there is one, is not
abbrev pub Zeros : ℕ → ℕ → ℕ → Type 0
Zeros n x r = (r ≤ n) × (x % 2 ^ r ≡ 0) × (r < n → x % 2 ^ suc r ≡ 0 → ⊥)

-- one digit more of a remainder: the lowest digit, and those of the half
half_mod : (x t : ℕ) → x % 2 ^ suc t ≡ x / 2 % 2 ^ t * 2 + x % 2
half_mod x t = ap (λ (y : ℕ). x % 2 ^ y) (sym (add-one t)) ∙ mod-pow-add x t 1

pub trailing_law : (n x : ℕ) → Zeros n x (count_trailing_zeros n x)
unfolding count_trailing_zeros
trailing_law zero x = (omega arith, omega arith, λ (h : 0 < 0) (e : x % 2 ^ 1 ≡ 0). omega arith)
trailing_law (suc n) x = go (x % 2) refl (count_trailing_zeros n (x / 2)) (trailing_law n (x / 2))
  where
    go : (d : ℕ) → x % 2 ≡ d → (t : ℕ) → Zeros n (x / 2) t → Zeros (suc n) x (under d t)
    go zero e t z = (
      omega (arith, z.0),
      omega (arith, half_mod x t, z.1),
      λ (h : suc t < suc n) (f : x % 2 ^ suc (suc t) ≡ 0). z.2 (omega arith) (omega (arith, half_mod x (suc t))),
    )
    go (suc d) e t z = (omega arith, omega arith, λ (h : 0 < suc n) (f : x % 2 ^ 1 ≡ 0). omega arith)

-- ---- the high end

-- bit r of x is its highest 1
abbrev pub Top : ℕ → ℕ → Type 0
Top x r = (2 ^ r ≤ x) × (x < 2 ^ suc r)

pub leading_most : (x : ℕ) → 0 < x → x < 2 ^ 32 → count_leading_zeros 32 x ≤ 31
leading_most x h f = omega (arith, (leading_top 32 x h f).1)

pub leading_law : (x : ℕ) → 0 < x → x < 2 ^ 32 → Top x (31 - count_leading_zeros 32 x)
leading_law x h f =
    let t = leading_top 32 x h f in
    let e : t.0 ≡ 31 - count_leading_zeros 32 x = omega (arith, t.1) in
    subst (λ (r : ℕ). Top x r) e (t.2, t.3)
