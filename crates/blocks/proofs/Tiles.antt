-- Laws of `tiles`, by which everything else speaks of it: a block that the interval misses, one inside it, one that is split.
-- Assumes nothing.
use mathlib.Core.Path.{◌≡◌, sym, ap, ap₂, ◌∙◌}
use mathlib.Core.List.{List, [], ◌∷◌, ◌++◌}
use mathlib.Core.Bool.{true, false, and-false}
use mathlib.Core.Logic.{◌⊎◌, inl, inr}
use Prim.Native.Nat.{ℕ, zero, suc, ◌+◌, ◌-◌, ◌*◌, ◌%◌, ◌^◌, ◌≤◌, ◌<◌}
use native.Mathlib.Omega.{arith}
use native.Mathlib.Nat.{pow-suc}
use lib.Dec.{leb, ltb}
use lib.Arith.{digits_mod}
use lib.Pow.{pow_pos}
use borrow.Author.Tests.{lt-ltb, le-ltb, le-leb, lt-leb}
use Rattle.bits.proofs.Orders.{le_or_lt}
use Rattle.blocks.specs.Blocks.{Block, block, tiles, Inside, inside?, meets?}

-- ---- inside, by its test

module _ (low end v k : ℕ) where
  inside_true : Inside low end v k → inside? low end v k ≡ true
  inside_true h = rw (le-leb low v h.low_in) (le-leb (v + 2 ^ k) end h.end_in)

  inside_false : (Inside low end v k → ⊥) → inside? low end v k ≡ false
  inside_false h = go (le_or_lt low v) (le_or_lt (v + 2 ^ k) end)
    where
      go : (low ≤ v) ⊎ (v < low) → (v + 2 ^ k ≤ end) ⊎ (end < v + 2 ^ k) → inside? low end v k ≡ false
      go (inl p) (inl q) = absurd (h (record { low_in = p; end_in = q }))
      go (inl p) (inr q) = rw (lt-leb (v + 2 ^ k) end q) (and-false (leb low v))
      go (inr p) q = rw (lt-leb low v p)

  pub inside_dec : Inside low end v k ⊎ (Inside low end v k → ⊥)
  inside_dec = go (le_or_lt low v) (le_or_lt (v + 2 ^ k) end)
    where
      go : (low ≤ v) ⊎ (v < low) → (v + 2 ^ k ≤ end) ⊎ (end < v + 2 ^ k) → Inside low end v k ⊎ (Inside low end v k → ⊥)
      go (inl p) (inl q) = inl (record { low_in = p; end_in = q })
      go (inl p) (inr q) = inr (λ (h : Inside low end v k). omega (arith, h.end_in))
      go (inr p) q = inr (λ (h : Inside low end v k). omega (arith, h.low_in))

  meets_true : low < v + 2 ^ k → v < end → meets? low end v k ≡ true
  meets_true p q = rw (lt-ltb low (v + 2 ^ k) p) (lt-ltb v end q)

-- ---- the cases of tiles

pub miss_low : (k v low end : ℕ) → v + 2 ^ k ≤ low → tiles k v low end ≡ []
unfolding tiles
miss_low zero v low end h = rw (lt-leb low v (omega arith), tiles)
miss_low (suc k) v low end h = rw (le-ltb low (v + 2 ^ suc k) h, tiles)

pub miss_end : (k v low end : ℕ) → end ≤ v → tiles k v low end ≡ []
unfolding tiles
miss_end zero v low end h = rw (inside_false low end v zero (λ (i : Inside low end v zero). omega (arith, i.end_in)), tiles)
miss_end (suc k) v low end h = rw (le-ltb v end h, and-false (ltb low (v + 2 ^ suc k)), tiles)

pub whole : (k v low end : ℕ) → Inside low end v k → tiles k v low end ≡ block v k ∷ []
unfolding tiles
whole zero v low end h = rw (inside_true low end v zero h, tiles)
whole (suc k) v low end h =
    rw (meets_true low end v (suc k) (omega (arith, h.low_in, pow_pos (suc k))) (omega (arith, h.end_in, pow_pos (suc k))), inside_true low end v (suc k) h, tiles)

pub single : (v low end : ℕ) → (Inside low end v zero → ⊥) → tiles zero v low end ≡ []
unfolding tiles
single v low end h = rw (inside_false low end v zero h, tiles)

pub split : (k v low end : ℕ) → (Inside low end v (suc k) → ⊥) → tiles (suc k) v low end ≡ tiles k v low end ++ tiles k (v + 2 ^ k) low end
unfolding tiles
split k v low end h = go (le_or_lt (v + 2 ^ suc k) low) (le_or_lt end v)
  where
    go : (v + 2 ^ suc k ≤ low) ⊎ (low < v + 2 ^ suc k) → (end ≤ v) ⊎ (v < end) → tiles (suc k) v low end ≡ tiles k v low end ++ tiles k (v + 2 ^ k) low end
    go (inl p) q = miss_low (suc k) v low end p ∙ sym (ap₂ (λ (a b : List Block). a ++ b) (miss_low k v low end (omega arith)) (miss_low k (v + 2 ^ k) low end (omega arith)))
    go (inr p) (inl q) = miss_end (suc k) v low end q ∙ sym (ap₂ (λ (a b : List Block). a ++ b) (miss_end k v low end (omega arith)) (miss_end k (v + 2 ^ k) low end (omega arith)))
    go (inr p) (inr q) = rw (meets_true low end v (suc k) p q, inside_false low end v (suc k) h, tiles)

-- an empty interval has no blocks
pub tiles_none : (k v low end : ℕ) → end ≤ low → tiles k v low end ≡ []
tiles_none zero v low end h = single v low end (λ (i : Inside low end v zero). omega (arith, i.low_in, i.end_in))
tiles_none (suc k) v low end h =
    split k v low end (λ (i : Inside low end v (suc k)). omega (arith, i.low_in, i.end_in, pow_pos (suc k)))
    ∙ ap₂ (λ (x y : List Block). x ++ y) (tiles_none k v low end h) (tiles_none k (v + 2 ^ k) low end h)

-- ---- where the halves of an aligned block start

pub half_start : (q k : ℕ) → q * 2 ^ suc k ≡ (q * 2) * 2 ^ k
half_start q k = rw (pow-suc 2 k) (omega arith)

pub half_mid : (q k : ℕ) → q * 2 ^ suc k + 2 ^ k ≡ (q * 2 + 1) * 2 ^ k
half_mid q k = rw (pow-suc 2 k) (omega arith)

-- two multiples of m less than m apart are equal
pub no_between : (q m v x : ℕ) → v ≡ q * m → x % m ≡ 0 → v ≤ x → x < v + m → x ≡ v
no_between q m v x e a p h =
    let r : x - v < m = omega arith in
    let s : q * m + (x - v) ≡ x = omega arith in
    omega (arith, sym (digits_mod q r) ∙ ap (λ (y : ℕ). y % m) s ∙ a)
