-- The highest bit at which two numbers differ: it is the top bit of their exclusive or. Assumes nothing.
use mathlib.Core.Path.{◌≡◌, sym, ap, ◌∙◌}
use mathlib.Core.Logic.{◌⊎◌, inl, inr}
use Prim.Native.Nat.{ℕ, zero, suc, ◌+◌, ◌-◌, ◌/◌, ◌%◌, ◌^◌, ◌≤◌, ◌<◌}
use native.Mathlib.Omega.{arith}
use native.Mathlib.Nat.{div-eq_of_lt, div-lt_iff_lt-mul}
use native.Mathlib.Numerals.{add-one}
use lib.Pow.{pow_pos, pow_mono, shr-shr}
use lib.Bits.{bit_xor, xor_add_and, and_le_l, and_le_r, xor_self, xor_shr, xor_lt}
use lib.Count.{leading_top, count_leading_zeros}
use borrow.Author.Tests.{eq-eqb, ne_eqb}
use Rattle.bits.specs.Digits.{bit, top_differ, Differ, Apart}
use Rattle.bits.proofs.Ends.{Top}
use Rattle.bits.proofs.Orders.{le_or_lt}

xor_eq : (a b : ℕ) → bit_xor a b ≡ 0 → a ≡ b
xor_eq a b e = omega (arith, xor_add_and a b, and_le_l a b, and_le_r a b)

pub half_shr : (a s : ℕ) → a / 2 ^ suc s ≡ a / 2 ^ s / 2
half_shr a s = ap (λ (x : ℕ). a / 2 ^ x) (sym (add-one s)) ∙ sym (shr-shr a s 1)

top_differs : (a b j : ℕ) → 2 ^ j ≤ bit_xor a b → bit_xor a b < 2 ^ suc j → Differ a b j
top_differs a b j l h =
    let up : a / 2 ^ suc j ≡ b / 2 ^ suc j = xor_eq (a / 2 ^ suc j) (b / 2 ^ suc j) (sym (xor_shr a b (suc j)) ∙ div-eq_of_lt h) in
    record {
      above = up;
      here = λ (e : bit j a ≡ bit j b).
          let u : a / 2 ^ j / 2 ≡ b / 2 ^ j / 2 = sym (half_shr a j) ∙ up ∙ half_shr b j in
          let same : a / 2 ^ j ≡ b / 2 ^ j = omega arith in
          let z : bit_xor a b / 2 ^ j ≡ 0 = xor_shr a b j ∙ ap (λ (x : ℕ). bit_xor x (b / 2 ^ j)) same ∙ xor_self (b / 2 ^ j) in
          let y : bit_xor a b / 2 ^ j < 1 = omega arith in
          omega (arith, (div-lt_iff_lt-mul (pow_pos j)).0 y);
    }

pub xor_some : (a b : ℕ) → a < b → 0 < bit_xor a b
xor_some a b h = go (le_or_lt (bit_xor a b) 0)
  where
    go : (bit_xor a b ≤ 0) ⊎ (0 < bit_xor a b) → 0 < bit_xor a b
    go (inl e) = omega (arith, xor_eq a b (omega arith))
    go (inr e) = e

-- two different numbers of n bits differ at some highest bit, and the leading zeros of their exclusive or say which
pub record Found (n a b j : ℕ) : Type 0 where
  pub place : count_leading_zeros n (bit_xor a b) + suc j ≡ n
  pub differ : Differ a b j

pub found : (n a b : ℕ) → a < b → b < 2 ^ n → (j : ℕ) × Found n a b j
found n a b h f =
    let t = leading_top n (bit_xor a b) (xor_some a b h) (xor_lt n a b (omega arith) f) in
    (t.0, record { place = t.1; differ = top_differs a b t.0 t.2 t.3 })

-- that bit is one of the n digits of the larger number
pub differ_lt : (n a b s : ℕ) → a < b → b < 2 ^ n → Differ a b s → s < n
differ_lt n a b s h f d = go (le_or_lt n s)
  where
    go : (n ≤ s) ⊎ (s < n) → s < n
    go (inr g) = g
    go (inl g) =
        let l = pow_mono g in
        absurd (d.here (ap (λ (x : ℕ). x % 2) (div-eq_of_lt (omega arith) ∙ sym (div-eq_of_lt (omega arith)))))

-- the same of numbers of 16 bits, from the exclusive or's highest 1
pub apart_law : (a b j : ℕ) → a < b → b < 2 ^ 16 → Top (bit_xor a b) j → Apart a b j
apart_law a b j h f t =
    let d = top_differs a b j t.0 t.1 in
    record { small = differ_lt 16 a b j h f d; differ = d }

same_above : (a b s d : ℕ) → a / 2 ^ suc s ≡ b / 2 ^ suc s → a / 2 ^ (suc s + d) ≡ b / 2 ^ (suc s + d)
same_above a b s d e = sym (shr-shr a (suc s) d) ∙ ap (λ (x : ℕ). x / 2 ^ d) e ∙ shr-shr b (suc s) d

-- the search from the k lowest bits down finds it
pub top_is : (k a b s : ℕ) → s < k → Differ a b s → top_differ k a b ≡ s
unfolding top_differ
top_is zero a b s h d = omega arith
top_is (suc k) a b s h d = go (le_or_lt k s) (top_is k a b s)
  where
    go : (k ≤ s) ⊎ (s < k) → (s < k → Differ a b s → top_differ k a b ≡ s) → top_differ (suc k) a b ≡ s
    go (inl p) ih =
        let e : k ≡ s = omega arith in
        let f : bit k a ≡ bit k b → ⊥ = rw e d.here in
        rw (ne_eqb (bit k a) (bit k b) f, top_differ) e
    go (inr p) ih =
        let x : suc s + (k - suc s) ≡ k = omega arith in
        let e : a / 2 ^ k ≡ b / 2 ^ k = rw x at (same_above a b s (k - suc s) d.above) in
        rw (eq-eqb (bit k a) (bit k b) (ap (λ (y : ℕ). y % 2) e), top_differ) (ih p d)
