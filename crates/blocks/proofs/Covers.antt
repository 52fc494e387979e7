-- The listed words are prefix words, together match exactly the interval, and no two of them overlap. Assumes nothing.
use mathlib.Core.Path.{◌≡◌, refl, sym, subst}
use mathlib.Core.List.Memᴰ
use mathlib.Core.List.{List, [], ◌∷◌, map, Memᴰ}
use mathlib.Core.Logic.{◌⊎◌, inl, inr}
use Prim.Native.Nat.{ℕ, zero, suc, ◌+◌, ◌^◌, ◌≤◌, ◌<◌}
use native.Mathlib.Omega.{arith}
use lib.Pow.{pow_pos}
use Rattle.bits.proofs.Orders.{le_or_lt}
use Rattle.blocks.specs.Words.{Matches, Some, Exactly, Disjoint, Prefix}
use Rattle.blocks.specs.declared.Word.{Word}
use Rattle.blocks.specs.Blocks.{Block, block, prefix_of, Inside, Ascends, tiles, blocks_of, words_of}
use Rattle.blocks.proofs.Held.{AllFit, Fits, Held, held_some, match_holds, rest_fit, some_held}
use Rattle.blocks.proofs.Matching.{prefix_of_lem}
use Rattle.blocks.proofs.Members.{starts_above, tiles_list}
use Rattle.blocks.proofs.Tiles.{inside_dec, whole, split}

-- ---- ascending blocks

ascends_disjoint : (n x y : ℕ) (bs : List Block) → AllFit n bs → Ascends x bs y → Disjoint n (map (prefix_of n) bs)
ascends_disjoint n x y [] f a = tt
ascends_disjoint n x y (c ∷ bs) f a = (apart, ascends_disjoint n (c.from + 2 ^ c.free) y bs (rest_fit n c bs f) a.1)
  where
    apart : (z : ℕ) → z < 2 ^ n → Matches (prefix_of n c) z → Some (map (prefix_of n) bs) z → ⊥
    apart z h m s =
        let p = match_holds n z c (f c (Memᴰ.head refl)) h m in
        let r = some_held n z bs (rest_fit n c bs f) h s in
        omega (arith, starts_above (c.from + 2 ^ c.free) y bs a.1 r.by r.listed)

-- ---- blocks that fit

words_prefix : (n : ℕ) (bs : List Block) → AllFit n bs → (w : Word) → Memᴰ w (map (prefix_of n) bs) → Prefix n w
words_prefix n [] f w m = absurd (Memᴰ.not-nil m)
words_prefix n (c ∷ bs) f w m = go (Memᴰ.cases_cons m) (words_prefix n bs (rest_fit n c bs f) w)
  where
    c_fits : Fits n c
    c_fits = f c (Memᴰ.head refl)

    go : (w ≡ prefix_of n c) ⊎ Memᴰ w (map (prefix_of n) bs) → (Memᴰ w (map (prefix_of n) bs) → Prefix n w) → Prefix n w
    go (inl e) r = subst (Prefix n) (sym e) (prefix_of_lem n c.free c.from c_fits.wide (omega (arith, c_fits.ends, pow_pos c.free)) c_fits.aligned)
    go (inr t) r = r t

-- ---- the tiles

-- a tile holds every value of the interval in the block of k free bits from v on
tiled : (k v low end x : ℕ) → v ≤ x → x < v + 2 ^ k → low ≤ x → x < end → Held (tiles k v low end) x
tiled zero v low end x p q l e =
    rw (whole zero v low end (record { low_in = omega arith; end_in = omega arith }))
    (record { by = block v zero; listed = Memᴰ.head refl; holds = record { start = p; stop = q } })
tiled (suc k) v low end x p q l e = go (inside_dec low end v (suc k)) (le_or_lt (v + 2 ^ k) x) (tiled k v low end x) (tiled k (v + 2 ^ k) low end x)
  where
    go : Inside low end v (suc k) ⊎ (Inside low end v (suc k) → ⊥) → (v + 2 ^ k ≤ x) ⊎ (x < v + 2 ^ k)
        → (v ≤ x → x < v + 2 ^ k → low ≤ x → x < end → Held (tiles k v low end) x)
        → (v + 2 ^ k ≤ x → x < v + 2 ^ k + 2 ^ k → low ≤ x → x < end → Held (tiles k (v + 2 ^ k) low end) x)
        → Held (tiles (suc k) v low end) x
    go (inl i) c left right =
        rw (whole (suc k) v low end i) (record { by = block v (suc k); listed = Memᴰ.head refl; holds = record { start = p; stop = q } })
    go (inr i) (inl c) left right =
        let r = right c (omega arith) l e in
        rw (split k v low end i) (record { by = r.by; listed = Memᴰ.append_right (tiles k v low end) r.listed; holds = r.holds })
    go (inr i) (inr c) left right =
        let r = left p c l e in
        rw (split k v low end i) (record { by = r.by; listed = Memᴰ.append_left (tiles k (v + 2 ^ k) low end) r.listed; holds = r.holds })

-- ---- the words of low .. high

module _ (n low high : ℕ) where
  tiles_fit : high < 2 ^ n → AllFit n (blocks_of n low high)
  tiles_fit h b m =
      let l = (tiles_list n low (high + 1) (omega arith)).only b m in
      record { wide = l.wide; aligned = l.aligned; ends = omega arith }

  pub exact : high < 2 ^ n → Exactly n low high (words_of n low high)
  exact h = record {
    covers = λ (x : ℕ) (p : low ≤ x) (q : x ≤ high).
        let r = tiled n 0 low (high + 1) x (omega arith) (omega arith) p (omega arith) in
        held_some n x (blocks_of n low high) (tiles_fit h) r.by r.listed r.holds;
    within = λ (x : ℕ) (f : x < 2 ^ n) (s : Some (words_of n low high) x).
        let r = some_held n x (blocks_of n low high) (tiles_fit h) f s in
        let i = ((tiles_list n low (high + 1) (omega arith)).only r.by r.listed).inside in
        (omega arith, omega arith);
  }

  pub prefixes : high < 2 ^ n → (w : Word) → Memᴰ w (words_of n low high) → Prefix n w
  prefixes h = words_prefix n (blocks_of n low high) (tiles_fit h)

  pub disjoint : high < 2 ^ n → Disjoint n (words_of n low high)
  disjoint h = ascends_disjoint n 0 (2 ^ n) (blocks_of n low high) (tiles_fit h) (tiles_list n low (high + 1) (omega arith)).order
