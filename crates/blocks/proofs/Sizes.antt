-- The sizes of the listed blocks add up to the interval's size. Assumes nothing.
use mathlib.Core.Path.{◌≡◌}
use mathlib.Core.List.{List, [], ◌∷◌, ◌++◌}
use mathlib.Core.Logic.{◌⊎◌, inl, inr}
use Prim.Native.Nat.{ℕ, zero, suc, ◌+◌, ◌-◌, ◌^◌, ◌≤◌, ◌<◌, min}
use native.Mathlib.Omega.{arith}
use Rattle.bits.proofs.Orders.{le_or_lt}
use Rattle.blocks.specs.Blocks.{Block, tiles, sizes, Inside}
use Rattle.blocks.proofs.Tiles.{inside_dec, whole, split, miss_low, miss_end}

sizes_append : (bs cs : List Block) → sizes (bs ++ cs) ≡ sizes bs + sizes cs
unfolding sizes
sizes_append [] cs = omega arith
sizes_append (b ∷ bs) cs = omega (arith, sizes_append bs cs)

-- how many of the s values from v on are below t
below : ℕ → ℕ → ℕ → ℕ
below v s t = min (t - v) s

below_none : (v s t : ℕ) → t ≤ v → below v s t ≡ 0
unfolding below
below_none v s t h = omega arith

below_all : (v s t : ℕ) → v + s ≤ t → below v s t ≡ s
unfolding below
below_all v s t h = omega arith

below_halves : (k v t : ℕ) → below v (2 ^ suc k) t ≡ below v (2 ^ k) t + below (v + 2 ^ k) (2 ^ k) t
unfolding below
below_halves k v t = omega arith

-- the blocks of the block of k free bits from v on have the values of it that are below end and not below low
sizes_between : (k v low end : ℕ) → low ≤ end → below v (2 ^ k) low + sizes (tiles k v low end) ≡ below v (2 ^ k) end
unfolding sizes
sizes_between zero v low end o = go (le_or_lt low v) (le_or_lt (v + 1) end)
  where
    go : (low ≤ v) ⊎ (v < low) → (v + 1 ≤ end) ⊎ (end < v + 1) → below v 1 low + sizes (tiles zero v low end) ≡ below v 1 end
    go (inl p) (inl h) = rw (whole zero v low end (record { low_in = p; end_in = h })) (omega (arith, below_none v 1 low p, below_all v 1 end h))
    go (inl p) (inr h) = rw (miss_end zero v low end (omega arith)) (omega (arith, below_none v 1 low p, below_none v 1 end (omega arith)))
    go (inr p) _ = rw (miss_low zero v low end (omega arith)) (omega (arith, below_all v 1 low (omega arith), below_all v 1 end (omega arith)))
sizes_between (suc k) v low end o = go (inside_dec low end v (suc k)) (sizes_between k v low end o) (sizes_between k (v + 2 ^ k) low end o)
  where
    go : Inside low end v (suc k) ⊎ (Inside low end v (suc k) → ⊥) → below v (2 ^ k) low + sizes (tiles k v low end) ≡ below v (2 ^ k) end
        → below (v + 2 ^ k) (2 ^ k) low + sizes (tiles k (v + 2 ^ k) low end) ≡ below (v + 2 ^ k) (2 ^ k) end
        → below v (2 ^ suc k) low + sizes (tiles (suc k) v low end) ≡ below v (2 ^ suc k) end
    go (inl i) l r = rw (whole (suc k) v low end i) (omega (arith, below_none v (2 ^ suc k) low i.low_in, below_all v (2 ^ suc k) end i.end_in))
    go (inr i) l r = rw (split k v low end i, sizes_append) (omega (arith, below_halves k v low, below_halves k v end))

pub sizes_tiles : (n low end : ℕ) → low ≤ end → end ≤ 2 ^ n → low + sizes (tiles n 0 low end) ≡ end
unfolding below
sizes_tiles n low end o h = omega (arith, sizes_between n 0 low end o)
