-- The free bits of the lowest largest block with no search: they are the least of the width, the zeros that its low end
-- ends in and the highest bit of the room that is left. Assumes nothing.
use mathlib.Core.Path.{◌≡◌, sym, ap, ◌∙◌}
use mathlib.Core.Bool.{true, false}
use mathlib.Core.Logic.{◌⊎◌, inl, inr}
use Prim.Native.Nat.{ℕ, zero, suc, ◌+◌, ◌-◌, ◌%◌, ◌^◌, ◌≤◌, ◌<◌, min}
use native.Mathlib.Omega.{arith}
use native.Mathlib.Nat.{zero-mod}
use lib.Pow.{pow_pos, pow_mono, mod-mod-pow}
use Rattle.bits.proofs.Ends.{Zeros, Top}
use Rattle.bits.proofs.Orders.{le_or_lt}
use Rattle.blocks.specs.Lowest.{reaches?, free_of, Free}
use Rattle.blocks.proofs.Lowest.{reaches_true, reaches_false, free_stop, free_at, free_down}

-- a multiple of 2 ^ m is one of 2 ^ k
aligned_less : (x m k : ℕ) → k ≤ m → x % 2 ^ m ≡ 0 → x % 2 ^ k ≡ 0
aligned_less x m k h e =
    let s : m ≡ m - k + k = omega arith in
    sym (mod-mod-pow x (m - k) k) ∙ ap (λ (y : ℕ). y % 2 ^ k) (sym (ap (λ (y : ℕ). x % 2 ^ y) s) ∙ e) ∙ zero-mod (2 ^ k)

module _ (next end z t : ℕ) (h : next < end) (zeros : Zeros 32 next z) (top : Top (end - next) t) where
  reaches_least : (k : ℕ) → k ≤ min z t → reaches? next end k ≡ true
  reaches_least k g =
      let a : k ≤ t = omega arith in
      reaches_true next end k (aligned_less next z k (omega arith) zeros.1) (omega (arith, pow_mono a))

  reaches_more : (k : ℕ) → k ≤ 32 → min z t < k → reaches? next end k ≡ false
  reaches_more k l g = reaches_false next end k (λ (m : next % 2 ^ k ≡ 0) (f : next + 2 ^ k ≤ end). go m f (le_or_lt k z))
    where
      go : next % 2 ^ k ≡ 0 → next + 2 ^ k ≤ end → (k ≤ z) ⊎ (z < k) → ⊥
      go m f (inl p) = let a : suc t ≤ k = omega arith in omega (arith, pow_mono a)
      go m f (inr p) = zeros.2 (omega arith) (aligned_less next k (suc z) (omega arith) m)

  free_least : (n : ℕ) → n ≤ 32 → free_of n next end ≡ min n (min z t)
  free_least zero l = omega (arith, free_stop next end)
  free_least (suc n) l = go (le_or_lt (suc n) (min z t)) (free_least n (omega arith))
    where
      go : (suc n ≤ min z t) ⊎ (min z t < suc n) → free_of n next end ≡ min n (min z t) → free_of (suc n) next end ≡ min (suc n) (min z t)
      go (inl g) e = omega (arith, free_at n next end (reaches_least (suc n) g))
      go (inr g) e = omega (arith, free_down n next end (reaches_more (suc n) l g))

  -- as the code takes it, the lesser of two and then of two
  pub free_law : (n r s : ℕ) → n ≤ 16 → r ≡ min n z → s ≡ min r t → Free n next end s
  free_law n r s l e f = record { is = omega (arith, free_least n (omega arith)); most = omega arith }

-- where no room is left
free_zero : (n next end : ℕ) → end ≤ next → free_of n next end ≡ 0
free_zero zero next end h = free_stop next end
free_zero (suc n) next end h =
    free_down n next end (reaches_false next end (suc n) (λ (m : next % 2 ^ suc n ≡ 0) (f : next + 2 ^ suc n ≤ end). omega (arith, pow_pos (suc n))))
    ∙ free_zero n next end h

pub free_none : (n next end : ℕ) → end ≤ next → Free n next end 0
free_none n next end h = record { is = sym (free_zero n next end h); most = omega arith }
