-- The count of document 01 is the number of the largest blocks, for every width. Assumes nothing.
use mathlib.Core.Path.{◌≡◌, refl, sym, ap, ap₂, ◌∙◌}
use mathlib.Core.List.{List, ◌++◌, append-nil}
use mathlib.Core.Logic.{◌⊎◌, inl, inr}
use Prim.Native.Nat.{ℕ, zero, suc, ◌+◌, ◌-◌, ◌*◌, ◌/◌, ◌%◌, ◌^◌, ◌≤◌, ◌<◌}
use native.Mathlib.Omega.{arith}
use native.Mathlib.Nat.{zero-mul, one-mul, add-zero, mod-eq_of_lt, div-add-mod', mod-lt}
use lib.ListN.{length, length-append}
use lib.Pow.{pow_pos, pow_mono, shr_mono}
use lib.Count.{ones}
use borrow.Author.Tests.{eq-eqb, ne_eqb}
use Rattle.bits.proofs.Differ.{half_shr, found, top_is}
use Rattle.bits.proofs.Ones.{ones_zero, ones_one, ones_lead, ones_pow, ones_not}
use Rattle.bits.proofs.Orders.{le_or_lt}
use Rattle.bits.specs.Digits.{Differ, top_differ}
use Rattle.blocks.specs.Blocks.{Block, tiles, Inside}
use Rattle.blocks.specs.Counting.{between, count_of}
use Rattle.blocks.proofs.Multiples.{step_up, finer}
use Rattle.blocks.proofs.Tiles.{miss_low, miss_end, whole, split, half_start, half_mid}

-- ---- an interval that begins with the block

one_tile : (k v low end : ℕ) → Inside low end v k → length (tiles k v low end) ≡ 1
one_tile k v low end h = ap length (whole k v low end h)

two_parts : (k v low end : ℕ) → (Inside low end v (suc k) → ⊥)
    → length (tiles (suc k) v low end) ≡ length (tiles k v low end) + length (tiles k (v + 2 ^ k) low end)
two_parts k v low end h = ap length (split k v low end h) ∙ length-append (tiles k v low end) (tiles k (v + 2 ^ k) low end)

prefix_length : (k v low end : ℕ) → low ≤ v → end ≤ v + 2 ^ k → length (tiles k v low end) ≡ ones (end - v)
prefix_length zero v low end p h = go (le_or_lt end v)
  where
    go : (end ≤ v) ⊎ (v < end) → length (tiles zero v low end) ≡ ones (end - v)
    go (inl e) = ap length (miss_end zero v low end e) ∙ sym ones_zero ∙ ap ones (omega arith)
    go (inr e) = one_tile zero v low end (record { low_in = p; end_in = omega arith }) ∙ sym ones_one ∙ ap ones (omega arith)
prefix_length (suc k) v low end p h =
    go (le_or_lt (v + 2 ^ suc k) end) (le_or_lt end (v + 2 ^ k)) (prefix_length k v low end p) (prefix_length k (v + 2 ^ k) low end (omega arith) (omega arith))
  where
    go : (v + 2 ^ suc k ≤ end) ⊎ (end < v + 2 ^ suc k) → (end ≤ v + 2 ^ k) ⊎ (v + 2 ^ k < end)
        → (end ≤ v + 2 ^ k → length (tiles k v low end) ≡ ones (end - v)) → length (tiles k (v + 2 ^ k) low end) ≡ ones (end - (v + 2 ^ k))
        → length (tiles (suc k) v low end) ≡ ones (end - v)
    go (inl e) q a b =
        let s : 2 ^ suc k ≡ end - v = omega arith in
        one_tile (suc k) v low end (record { low_in = p; end_in = e }) ∙ sym (ones_pow (suc k)) ∙ ap ones s
    go (inr e) (inl q) a b =
        two_parts k v low end (λ (i : Inside low end v (suc k)). omega (arith, i.end_in))
        ∙ ap₂ (λ (x y : ℕ). x + y) (a q) (ap length (miss_end k (v + 2 ^ k) low end q)) ∙ add-zero (ones (end - v))
    go (inr e) (inr q) a b =
        let r = end - (v + 2 ^ k) in
        let s : 2 ^ k + r ≡ end - v = omega arith in
        two_parts k v low end (λ (i : Inside low end v (suc k)). omega (arith, i.end_in))
        ∙ ap₂ (λ (x y : ℕ). x + y) (one_tile k v low end (record { low_in = p; end_in = omega arith })) b
        ∙ sym (ones_lead k r (omega arith)) ∙ ap ones s

-- ---- an interval that ends with the block

suffix_length : (k v low end : ℕ) → v + 2 ^ k ≤ end → v ≤ low → low ≤ v + 2 ^ k → length (tiles k v low end) ≡ ones (v + 2 ^ k - low)
suffix_length zero v low end e p h = go (le_or_lt low v)
  where
    go : (low ≤ v) ⊎ (v < low) → length (tiles zero v low end) ≡ ones (v + 1 - low)
    go (inl q) = one_tile zero v low end (record { low_in = q; end_in = e }) ∙ sym ones_one ∙ ap ones (omega arith)
    go (inr q) = ap length (miss_low zero v low end (omega arith)) ∙ sym ones_zero ∙ ap ones (omega arith)
suffix_length (suc k) v low end e p h =
    go (le_or_lt low v) (le_or_lt (v + 2 ^ k) low) (suffix_length k v low end (omega arith) p) (λ (q : v + 2 ^ k ≤ low). suffix_length k (v + 2 ^ k) low end (omega arith) q (omega arith))
  where
    go : (low ≤ v) ⊎ (v < low) → (v + 2 ^ k ≤ low) ⊎ (low < v + 2 ^ k)
        → (low ≤ v + 2 ^ k → length (tiles k v low end) ≡ ones (v + 2 ^ k - low))
        → (v + 2 ^ k ≤ low → length (tiles k (v + 2 ^ k) low end) ≡ ones (v + 2 ^ k + 2 ^ k - low))
        → length (tiles (suc k) v low end) ≡ ones (v + 2 ^ suc k - low)
    go (inl q) c a b =
        let s : 2 ^ suc k ≡ v + 2 ^ suc k - low = omega arith in
        one_tile (suc k) v low end (record { low_in = q; end_in = e }) ∙ sym (ones_pow (suc k)) ∙ ap ones s
    go (inr q) (inl c) a b =
        let s : v + 2 ^ k + 2 ^ k - low ≡ v + 2 ^ suc k - low = omega arith in
        two_parts k v low end (λ (i : Inside low end v (suc k)). omega (arith, i.low_in))
        ∙ ap₂ (λ (x y : ℕ). x + y) (ap length (miss_low k v low end c)) (b c ∙ ap ones s)
        ∙ omega arith
    go (inr q) (inr c) a b =
        let r = v + 2 ^ k - low in
        let s : 2 ^ k + r ≡ v + 2 ^ suc k - low = omega arith in
        two_parts k v low end (λ (i : Inside low end v (suc k)). omega (arith, i.low_in))
        ∙ ap₂ (λ (x y : ℕ). x + y) (a (omega arith)) (one_tile k (v + 2 ^ k) low end (record { low_in = omega arith; end_in = omega arith }))
        ∙ omega (arith, ones_lead k r (omega arith), ap ones s)

-- ---- an interval that lies in a smaller block

-- The interval lies in the block of k free bits from v on, which lies in the block of m free bits from u on: both have the same tiles.
narrow : (m u Q k v q low end : ℕ) → u ≡ Q * 2 ^ m → v ≡ q * 2 ^ k → k ≤ m → low < end → v ≤ low → end ≤ v + 2 ^ k
    → u ≤ v → v + 2 ^ k ≤ u + 2 ^ m → tiles m u low end ≡ tiles k v low end
narrow zero u Q k v q low end eu ev h l p e a b =
    let k0 : k ≡ 0 = omega arith in
    let s : v + 1 ≤ u + 1 = rw k0 at b in
    ap₂ (λ (x y : ℕ). tiles x y low end) (sym k0) (omega arith)
narrow (suc m) u Q k v q low end eu ev h l p e a b =
    go (le_or_lt k m) (le_or_lt (u + 2 ^ m) v)
    (λ (g : k ≤ m) (y : v + 2 ^ k ≤ u + 2 ^ m). narrow m u (Q * 2) k v q low end (eu ∙ half_start Q m) ev g l p e a y)
    (λ (g : k ≤ m) (c : u + 2 ^ m ≤ v). narrow m (u + 2 ^ m) (Q * 2 + 1) k v q low end mid ev g l p e c (omega arith))
  where
    mid : u + 2 ^ m ≡ (Q * 2 + 1) * 2 ^ m
    mid = ap (λ (x : ℕ). x + 2 ^ m) eu ∙ half_mid Q m

    out : k ≤ m → Inside low end u (suc m) → ⊥
    out g i = omega (arith, i.low_in, i.end_in, pow_mono g, pow_pos m)

    up : k ≤ m → v < u + 2 ^ m → v + 2 ^ k ≤ u + 2 ^ m
    up g c =
        let t : u + 2 ^ m ≡ ((Q * 2 + 1) * 2 ^ (m - k)) * 2 ^ k = mid ∙ finer (Q * 2 + 1) m k g in
        let z : q * 2 ^ k < ((Q * 2 + 1) * 2 ^ (m - k)) * 2 ^ k = rw (← t, ← ev) c in
        let y = step_up q ((Q * 2 + 1) * 2 ^ (m - k)) (2 ^ k) z in
        rw (t, ev) y

    go : (k ≤ m) ⊎ (m < k) → (u + 2 ^ m ≤ v) ⊎ (v < u + 2 ^ m)
        → (k ≤ m → v + 2 ^ k ≤ u + 2 ^ m → tiles m u low end ≡ tiles k v low end)
        → (k ≤ m → u + 2 ^ m ≤ v → tiles m (u + 2 ^ m) low end ≡ tiles k v low end)
        → tiles (suc m) u low end ≡ tiles k v low end
    go (inr g) c x y =
        let k0 : k ≡ suc m = omega arith in
        let s : v + 2 ^ suc m ≤ u + 2 ^ suc m = rw k0 at b in
        ap₂ (λ (i j : ℕ). tiles i j low end) (sym k0) (omega arith)
    go (inl g) (inl c) x y =
        split m u low end (out g) ∙ ap₂ (λ (i j : List Block). i ++ j) (miss_low m u low end (omega arith)) (y g c)
    go (inl g) (inr c) x y =
        split m u low end (out g)
        ∙ ap₂ (λ (i j : List Block). i ++ j) (x g (up g c)) (miss_end m (u + 2 ^ m) low end (omega (arith, up g c)))
        ∙ append-nil (tiles k v low end)

-- ---- an interval that touches neither end of the width

-- Where a and b part, at the digit j: below it a has a zero, and b a one. v is the start of the block of j + 1 free bits that holds both.
record Parts (a b j v : ℕ) : Type 0 where
  lower : a ≡ v + a % 2 ^ j
  upper : b ≡ v + 2 ^ j + b % 2 ^ j

parts : (a b j : ℕ) → a < b → Differ a b j → Parts a b j (b / 2 ^ suc j * 2 ^ suc j)
parts a b j h d =
    let q = b / 2 ^ suc j in
    let x = a / 2 ^ j in
    let y = b / 2 ^ j in
    let up : x / 2 ≡ q = sym (half_shr a j) ∙ d.above in
    let low : y / 2 ≡ q = sym (half_shr b j) in
    let le : x ≤ y = shr_mono j (omega arith) in
    let ne : x % 2 ≡ y % 2 → ⊥ = d.here in
    let ex : x ≡ q * 2 = omega arith in
    let ey : y ≡ q * 2 + 1 = omega arith in
    record {
      lower = sym (div-add-mod' a (2 ^ j)) ∙ ap (λ (z : ℕ). z * 2 ^ j + a % 2 ^ j) ex ∙ ap (λ (z : ℕ). z + a % 2 ^ j) (sym (half_start q j));
      upper = sym (div-add-mod' b (2 ^ j)) ∙ ap (λ (z : ℕ). z * 2 ^ j + b % 2 ^ j) ey ∙ ap (λ (z : ℕ). z + b % 2 ^ j) (sym (half_mid q j));
    }

module _ (n a b : ℕ) (h : a + 1 < b) (f : b < 2 ^ n) where
  -- the zeros of a and the ones of b below the digit where they part
  between_length : (j : ℕ) → j < n → Differ a b j → length (tiles n 0 (a + 1) b) ≡ between j a b
  between_length j l d =
      let q = b / 2 ^ suc j in
      let v = q * 2 ^ suc j in
      let p = parts a b j (omega arith) d in
      let ra : a % 2 ^ j < 2 ^ j = mod-lt a (pow_pos j) in
      let rb : b % 2 ^ j < 2 ^ j = mod-lt b (pow_pos j) in
      let top : v + 2 ^ suc j ≤ 2 ^ n = room j l (omega (arith, p.upper)) in
      let e1 : 2 ^ j - 1 - a % 2 ^ j ≡ v + 2 ^ j - (a + 1) = omega (arith, p.lower) in
      let e2 : b % 2 ^ j ≡ b - (v + 2 ^ j) = omega (arith, p.upper) in
      ap length (narrow n 0 0 (suc j) v q (a + 1) b (sym (zero-mul (2 ^ n))) refl l (omega (arith, p.lower, p.upper)) (omega (arith, p.lower)) (omega (arith, p.upper)) (omega arith) (omega arith))
      ∙ two_parts j v (a + 1) b (λ (i : Inside (a + 1) b v (suc j)). omega (arith, i.low_in, p.lower))
      ∙ ap₂ (λ (x y : ℕ). x + y)
      (suffix_length j v (a + 1) b (omega (arith, p.upper)) (omega (arith, p.lower)) (omega (arith, p.lower)) ∙ ap ones (sym e1) ∙ omega (arith, ones_not j (a % 2 ^ j) ra))
      (prefix_length j (v + 2 ^ j) (a + 1) b (omega (arith, p.lower)) (omega (arith, p.upper)) ∙ ap ones (sym e2))
    where
      room : (j : ℕ) → j < n → b / 2 ^ suc j * 2 ^ suc j ≤ b → b / 2 ^ suc j * 2 ^ suc j + 2 ^ suc j ≤ 2 ^ n
      room j l c =
          let x : 2 ^ n ≡ 2 ^ (n - suc j) * 2 ^ suc j = sym (one-mul (2 ^ n)) ∙ finer 1 n (suc j) l ∙ ap (λ (z : ℕ). z * 2 ^ suc j) (one-mul (2 ^ (n - suc j))) in
          omega (arith, step_up (b / 2 ^ suc j) (2 ^ (n - suc j)) (2 ^ suc j) (omega arith))

  between_count : length (tiles n 0 (a + 1) b) ≡ between (top_differ n a b) a b
  between_count =
      let t = found n a b (omega arith) f in
      let j : t.0 < n = omega (arith, t.1.place) in
      between_length t.0 j t.1.differ ∙ ap (λ (s : ℕ). between s a b) (sym (top_is n a b t.0 j t.1.differ))

-- ---- the count of document 01

-- The count is the number of the largest blocks, for every width.
pub count_tiles : (n low high : ℕ) → low ≤ high → high < 2 ^ n → count_of n low high ≡ length (tiles n 0 low (high + 1))
unfolding count_of
count_tiles n low high o f = go (le_or_lt low 0) (le_or_lt (2 ^ n) (high + 1))
  where
    go : (low ≤ 0) ⊎ (0 < low) → (2 ^ n ≤ high + 1) ⊎ (high + 1 < 2 ^ n) → count_of n low high ≡ length (tiles n 0 low (high + 1))
    go (inl l) (inl e) =
        let l0 : low ≡ 0 = omega arith in
        let e0 : high + 1 ≡ 2 ^ n = omega arith in
        simp (eq-eqb low 0 l0, eq-eqb (high + 1) (2 ^ n) e0) (sym (one_tile n 0 low (high + 1) (record { low_in = l; end_in = omega arith })))
    go (inl l) (inr e) =
        let l0 : low ≡ 0 = omega arith in
        simp (eq-eqb low 0 l0, ne_eqb (high + 1) (2 ^ n) (λ (x : high + 1 ≡ 2 ^ n). omega arith)) (sym (prefix_length n 0 low (high + 1) l (omega arith) ∙ ap ones (omega arith)))
    go (inr l) (inl e) =
        let e0 : high + 1 ≡ 2 ^ n = omega arith in
        let m : (low - 1) % 2 ^ n ≡ low - 1 = mod-eq_of_lt (omega arith) in
        let x : 2 ^ n - 1 - (low - 1) ≡ 0 + 2 ^ n - low = omega arith in
        simp (ne_eqb low 0 (λ (z : low ≡ 0). omega arith), eq-eqb (high + 1) (2 ^ n) e0)
        (omega (arith, ap ones m, ap ones x, ones_not n (low - 1) (omega arith), suffix_length n 0 low (high + 1) (omega arith) (omega arith) (omega arith)))
    go (inr l) (inr e) =
        let s : low - 1 + 1 ≡ low = omega arith in
        simp (ne_eqb low 0 (λ (z : low ≡ 0). omega arith), ne_eqb (high + 1) (2 ^ n) (λ (x : high + 1 ≡ 2 ^ n). omega arith))
        (sym (ap (λ (z : ℕ). length (tiles n 0 z (high + 1))) (sym s) ∙ between_count n (low - 1) (high + 1) (omega arith) e))
