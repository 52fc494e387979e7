-- The list of an interval begins with the block from its low end that has the most free bits. Assumes nothing.
use mathlib.Core.Path.{◌≡◌, refl, sym, ap, ap₂, ◌∙◌, subst}
use mathlib.Core.List.{List, ◌∷◌, ◌++◌}
use mathlib.Core.Bool.{Bool, true, false, ◌&&◌, and-false}
use mathlib.Core.Logic.{◌⊎◌, inl, inr}
use Prim.Native.Nat.{ℕ, zero, suc, ◌+◌, ◌*◌, ◌%◌, ◌^◌, ◌≤◌, ◌<◌}
use native.Mathlib.Omega.{arith}
use native.Mathlib.Nat.{mul-mod_left, zero-mul}
use lib.Dec.{leb, eqb}
use lib.Pow.{pow_pos}
use borrow.Author.Tests.{le-leb, lt-leb, eq-eqb, ne_eqb, leb-true}
use Rattle.bits.proofs.Orders.{le_or_lt}
use Rattle.blocks.specs.Blocks.{Block, block, tiles, Inside}
use Rattle.blocks.specs.Lowest.{reaches?, free_of}
use Rattle.blocks.proofs.Tiles.{inside_dec, miss_low, whole, single, split, half_start, half_mid, no_between}

-- ---- the test of one length

and_right : (a b : Bool) → (a && b) ≡ true → b ≡ true
and_right true b e = e
and_right false true e = refl
and_right false false e = e

module _ (next end k : ℕ) where
  pub reaches_true : next % 2 ^ k ≡ 0 → next + 2 ^ k ≤ end → reaches? next end k ≡ true
  reaches_true p q = rw (eq-eqb (next % 2 ^ k) 0 p) (le-leb (next + 2 ^ k) end q)

  reaches_end : reaches? next end k ≡ true → next + 2 ^ k ≤ end
  reaches_end e = leb-true (next + 2 ^ k) end (and_right (eqb (next % 2 ^ k) 0) (leb (next + 2 ^ k) end) e)

  pub reaches_false : (next % 2 ^ k ≡ 0 → next + 2 ^ k ≤ end → ⊥) → reaches? next end k ≡ false
  reaches_false h = go (le_or_lt (next + 2 ^ k) end) (le_or_lt (next % 2 ^ k) 0)
    where
      go : (next + 2 ^ k ≤ end) ⊎ (end < next + 2 ^ k) → (next % 2 ^ k ≤ 0) ⊎ (0 < next % 2 ^ k) → reaches? next end k ≡ false
      go (inr q) p = rw (lt-leb (next + 2 ^ k) end q) (and-false (eqb (next % 2 ^ k) 0))
      go (inl q) (inl p) = absurd (h (omega arith) q)
      go (inl q) (inr p) = rw (ne_eqb (next % 2 ^ k) 0 (λ (e : next % 2 ^ k ≡ 0). omega arith))

-- ---- the search from the widest down

pub free_stop : (next end : ℕ) → free_of zero next end ≡ 0
unfolding free_of
free_stop next end = refl

pub free_at : (k next end : ℕ) → reaches? next end (suc k) ≡ true → free_of (suc k) next end ≡ suc k
unfolding free_of
free_at k next end e = rw (e, free_of)

pub free_down : (k next end : ℕ) → reaches? next end (suc k) ≡ false → free_of (suc k) next end ≡ free_of k next end
unfolding free_of
free_down k next end e = rw (e, free_of)

-- the block found ends by end
pub free_end : (k next end : ℕ) → next < end → next + 2 ^ free_of k next end ≤ end
unfolding free_of
free_end zero next end h = omega arith
free_end (suc k) next end h = go (reaches? next end (suc k)) refl (free_end k next end h)
  where
    go : (b : Bool) → reaches? next end (suc k) ≡ b → next + 2 ^ free_of k next end ≤ end → next + 2 ^ free_of (suc k) next end ≤ end
    go true e ih = rw (e, free_of) (reaches_end next end (suc k) e)
    go false e ih = rw (e, free_of) ih

-- ---- the first of the tiles

-- where low lies below the block, it does not matter which low it is
low_same : (k v low low' end : ℕ) → low ≤ v → low' ≤ v → tiles k v low end ≡ tiles k v low' end
low_same zero v low low' end p q = go (inside_dec low end v zero)
  where
    go : Inside low end v zero ⊎ (Inside low end v zero → ⊥) → tiles zero v low end ≡ tiles zero v low' end
    go (inl h) = whole zero v low end h ∙ sym (whole zero v low' end (record { low_in = q; end_in = h.end_in }))
    go (inr h) = single v low end h ∙ sym (single v low' end (λ (i : Inside low' end v zero). h (record { low_in = p; end_in = i.end_in })))
low_same (suc k) v low low' end p q =
    go (low_same k v low low' end p q) (low_same k (v + 2 ^ k) low low' end (omega arith) (omega arith)) (inside_dec low end v (suc k))
  where
    go : tiles k v low end ≡ tiles k v low' end → tiles k (v + 2 ^ k) low end ≡ tiles k (v + 2 ^ k) low' end
        → Inside low end v (suc k) ⊎ (Inside low end v (suc k) → ⊥) → tiles (suc k) v low end ≡ tiles (suc k) v low' end
    go a b (inl h) = whole (suc k) v low end h ∙ sym (whole (suc k) v low' end (record { low_in = q; end_in = h.end_in }))
    go a b (inr h) = split k v low end h ∙ ap₂ (λ (x y : List Block). x ++ y) a b
        ∙ sym (split k v low' end (λ (i : Inside low' end v (suc k)). h (record { low_in = p; end_in = i.end_in })))

-- the tiles begin with the block of j free bits from low on, and go on with those of what is left
record First (k v low end j : ℕ) : Type 0 where
  tiled : tiles k v low end ≡ block low j ∷ tiles k v (low + 2 ^ j) end
  within : low + 2 ^ j ≤ v + 2 ^ k

module _ (k v low end q : ℕ) (e : v ≡ q * 2 ^ suc k) (p : v ≤ low) (h : low < v + 2 ^ suc k) where
  first_whole : Inside low end v (suc k) → First (suc k) v low end (free_of (suc k) low end)
  first_whole i =
      let s : low ≡ v = omega (arith, i.low_in) in
      let m : low % 2 ^ suc k ≡ 0 = ap (λ (x : ℕ). x % 2 ^ suc k) (s ∙ e) ∙ mul-mod_left q (2 ^ suc k) in
      subst (λ (j : ℕ). First (suc k) v low end j) (sym (free_at k low end (reaches_true low end (suc k) m (omega (arith, i.end_in))))) (record {
        tiled = whole (suc k) v low end i
            ∙ ap₂ (λ (x : ℕ) (y : List Block). block x (suc k) ∷ y) (sym s) (sym (miss_low (suc k) v (low + 2 ^ suc k) end (omega arith)));
        within = omega arith;
      })

  same_free : (Inside low end v (suc k) → ⊥) → free_of (suc k) low end ≡ free_of k low end
  same_free i =
      free_down k low end (reaches_false low end (suc k) (λ (m : low % 2 ^ suc k ≡ 0) (f : low + 2 ^ suc k ≤ end).
      let s : low ≡ v = no_between q (2 ^ suc k) v low e m p h in
      i (record { low_in = omega arith; end_in = omega arith })))

  first_left : (Inside low end v (suc k) → ⊥) → (j : ℕ) → First k v low end j → First (suc k) v low end j
  first_left i j a = record {
    tiled = split k v low end i
        ∙ ap₂ (λ (x y : List Block). x ++ y) a.tiled (low_same k (v + 2 ^ k) low (low + 2 ^ j) end (omega arith) a.within)
        ∙ ap (λ (x : List Block). block low j ∷ x) (sym (split k v (low + 2 ^ j) end
        (λ (g : Inside (low + 2 ^ j) end v (suc k)). omega (arith, g.low_in, pow_pos j))));
    within = omega (arith, a.within);
  }

  first_right : (Inside low end v (suc k) → ⊥) → (j : ℕ) → v + 2 ^ k ≤ low → First k (v + 2 ^ k) low end j → First (suc k) v low end j
  first_right i j c a = record {
    tiled = split k v low end i
        ∙ ap₂ (λ (x y : List Block). x ++ y) (miss_low k v low end c) a.tiled
        ∙ ap (λ (x : List Block). block low j ∷ x) (sym (split k v (low + 2 ^ j) end
        (λ (g : Inside (low + 2 ^ j) end v (suc k)). omega (arith, g.low_in, pow_pos j))
        ∙ ap (λ (x : List Block). x ++ tiles k (v + 2 ^ k) (low + 2 ^ j) end) (miss_low k v (low + 2 ^ j) end (omega arith))));
    within = omega (arith, a.within);
  }

first : (k v low end q : ℕ) → v ≡ q * 2 ^ k → v ≤ low → low < v + 2 ^ k → low < end → First k v low end (free_of k low end)
first zero v low end q e p h l =
    let s : v ≡ low = omega arith in
    subst (λ (j : ℕ). First zero v low end j) (sym (free_stop low end)) (record {
      tiled = whole zero v low end (record { low_in = omega arith; end_in = omega arith })
          ∙ ap₂ (λ (x : ℕ) (y : List Block). block x zero ∷ y) s (sym (miss_low zero v (low + 1) end (omega arith)));
      within = omega arith;
    })
first (suc k) v low end q e p h l = go (inside_dec low end v (suc k)) (le_or_lt (v + 2 ^ k) low) (first k v low end (q * 2) (e ∙ half_start q k) p)
    (first k (v + 2 ^ k) low end (q * 2 + 1) (ap (λ (x : ℕ). x + 2 ^ k) e ∙ half_mid q k))
  where
    go : Inside low end v (suc k) ⊎ (Inside low end v (suc k) → ⊥) → (v + 2 ^ k ≤ low) ⊎ (low < v + 2 ^ k)
        → (low < v + 2 ^ k → low < end → First k v low end (free_of k low end))
        → (v + 2 ^ k ≤ low → low < v + 2 ^ k + 2 ^ k → low < end → First k (v + 2 ^ k) low end (free_of k low end))
        → First (suc k) v low end (free_of (suc k) low end)
    go (inl i) c a b = first_whole k v low end q e p h i
    go (inr i) (inr c) a b = rw (same_free k v low end q e p h i) (first_left k v low end q e p h i (free_of k low end) (a c l))
    go (inr i) (inl c) a b = rw (same_free k v low end q e p h i) (first_right k v low end q e p h i (free_of k low end) c (b c (omega arith) l))

-- The list of an interval of width n: the lowest largest block, and then the list of what is left.
pub first_block : (n low end : ℕ) → low < end → end ≤ 2 ^ n
    → tiles n 0 low end ≡ block low (free_of n low end) ∷ tiles n 0 (low + 2 ^ free_of n low end) end
first_block n low end h f = (first n 0 low end 0 (sym (zero-mul (2 ^ n))) (omega arith) (omega arith) h).tiled
