-- The four cases of document 01's count as the code works them out, and how large the count can be. Assumes nothing.
use mathlib.Core.Path.{◌≡◌, sym, ap, ap₂, ◌∙◌}
use mathlib.Core.Logic.{◌⊎◌, inl, inr}
use Prim.Native.Nat.{ℕ, ◌+◌, ◌-◌, ◌*◌, ◌^◌, ◌≤◌, ◌<◌}
use native.Mathlib.Omega.{arith}
use lib.Count.{ones, ones-le}
use borrow.Author.Tests.{eq-eqb, ne_eqb}
use Rattle.bits.proofs.Differ.{found, top_is}
use Rattle.bits.proofs.Ones.{ones_self}
use Rattle.bits.proofs.Orders.{le_or_lt}
use Rattle.bits.specs.Digits.{Differ, Ones, ones_below}
use Rattle.blocks.specs.Counting.{between, count_of}

module _ (n low high : ℕ) where
  pub count_whole : low ≡ 0 → high + 1 ≡ 2 ^ n → 1 ≡ count_of n low high
  unfolding count_of
  count_whole l e = simp (eq-eqb low 0 l, eq-eqb (high + 1) (2 ^ n) e)

  pub count_low : low ≡ 0 → (high + 1 ≡ 2 ^ n → ⊥) → ones (high + 1) ≡ count_of n low high
  unfolding count_of
  count_low l e = simp (eq-eqb low 0 l, ne_eqb (high + 1) (2 ^ n) e)

  pub count_high : (low ≡ 0 → ⊥) → high + 1 ≡ 2 ^ n → (r : ℕ) → Ones n (low - 1) r → n - r ≡ count_of n low high
  unfolding count_of
  count_high l e r o = ap (λ (x : ℕ). n - x) o.is ∙ simp (ne_eqb low 0 l, eq-eqb (high + 1) (2 ^ n) e)

  pub count_mid : (low ≡ 0 → ⊥) → (high + 1 ≡ 2 ^ n → ⊥) → (s : ℕ) → s < n → Differ (low - 1) (high + 1) s
      → (z o : ℕ) → Ones s (low - 1) z → Ones s (high + 1) o → s - z + o ≡ count_of n low high
  unfolding count_of
  count_mid l e s h d z o a b =
      ap₂ (λ (x y : ℕ). s - x + y) a.is b.is
      ∙ simp (ne_eqb low 0 l, ne_eqb (high + 1) (2 ^ n) e) (ap (λ (x : ℕ). between x (low - 1) (high + 1)) (sym (top_is n (low - 1) (high + 1) s h d)))

-- ---- how large it can be

pub count_most : (n low high : ℕ) → 2 ≤ n → low ≤ high → high < 2 ^ n → count_of n low high ≤ 2 * n - 2
count_most n low high h o f = go (le_or_lt low 0) (le_or_lt (2 ^ n) (high + 1))
  where
    go : (low ≤ 0) ⊎ (0 < low) → (2 ^ n ≤ high + 1) ⊎ (high + 1 < 2 ^ n) → count_of n low high ≤ 2 * n - 2
    go (inl l) (inl e) = omega (arith, count_whole n low high (omega arith) (omega arith))
    go (inl l) (inr e) = omega (arith, count_low n low high (omega arith) (λ (x : high + 1 ≡ 2 ^ n). omega arith), ones-le n (high + 1) e)
    go (inr l) (inl e) =
        omega (arith, count_high n low high (λ (x : low ≡ 0). omega arith) (omega arith) (ones_below n (low - 1)) (ones_self n (low - 1)))
    go (inr l) (inr e) =
        let t = found n (low - 1) (high + 1) (omega arith) e in
        let s = t.0 in
        let z = ones_self s (low - 1) in
        let b = ones_self s (high + 1) in
        omega (
          arith,
          t.1.place,
          b.most,
          count_mid n low high (λ (x : low ≡ 0). omega arith) (λ (x : high + 1 ≡ 2 ^ n). omega arith) s
              (omega (arith, t.1.place)) t.1.differ (ones_below s (low - 1)) (ones_below s (high + 1)) z b,
        )

-- 2n - 2 would be 0 here, and one word is needed
pub count_one : (low high : ℕ) → low ≤ high → high < 2 ^ 1 → count_of 1 low high ≡ 1
unfolding count_of ones
count_one low high o f = go (le_or_lt low 0) (le_or_lt high 0)
  where
    go : (low ≤ 0) ⊎ (0 < low) → (high ≤ 0) ⊎ (0 < high) → count_of 1 low high ≡ 1
    go (inl l) (inl h) = let a : low ≡ 0 = omega arith in let b : high ≡ 0 = omega arith in ap₂ (count_of 1) a b
    go (inl l) (inr h) = let a : low ≡ 0 = omega arith in let b : high ≡ 1 = omega arith in ap₂ (count_of 1) a b
    go (inr l) (inl h) = omega arith
    go (inr l) (inr h) = let a : low ≡ 1 = omega arith in let b : high ≡ 1 = omega arith in ap₂ (count_of 1) a b
