-- No list of prefix words that matches exactly the interval is shorter than the list of its largest blocks: in a block that
-- is split every word of such a list lies in one half, so each half needs as many as its own list. Assumes nothing.
use mathlib.Core.Path.{◌≡◌, refl, sym, ap, ap₂, ◌∙◌}
use mathlib.Core.List.Memᴰ
use mathlib.Core.List.{List, [], ◌∷◌, map, Memᴰ}
use mathlib.Core.Logic.{◌⊎◌, inl, inr, ⊎_elim, ⊎_map}
use Prim.Native.Nat.{ℕ, zero, suc, ◌+◌, ◌-◌, ◌*◌, ◌%◌, ◌^◌, ◌≤◌, ◌<◌}
use native.Mathlib.Omega.{arith}
use native.Mathlib.Nat.{one-mul, zero-mul}
use lib.ListN.{length, length-append, length-map}
use lib.Pow.{pow_pos}
use Rattle.bits.proofs.Orders.{le_or_lt}
use Rattle.blocks.specs.Blocks.{Block, Inside, block, blocks_of, prefix_of, tiles}
use Rattle.blocks.specs.Words.{Exactly, Prefix, Some}
use Rattle.blocks.specs.declared.Word.{Word}
use Rattle.blocks.proofs.Held.{AllFit, Fits, Held, held_some, some_held}
use Rattle.blocks.proofs.Matching.{prefix_block}
use Rattle.blocks.proofs.Multiples.{finer, floor_high}
use Rattle.blocks.proofs.Tiles.{inside_dec, whole, single, split, half_start, half_mid}

-- an aligned block within the block of k free bits from v on
record Within (k v : ℕ) (b : Block) : Type 0 where
  depth : b.free ≤ k
  aligned : b.from % 2 ^ b.free ≡ 0
  start : v ≤ b.from
  stop : b.from + 2 ^ b.free ≤ v + 2 ^ k

some_block : (bs : List Block) (x : ℕ) → Held bs x → 1 ≤ length bs
some_block [] x r = absurd (Memᴰ.not-nil r.listed)
some_block (b ∷ bs) x r = omega arith

-- ---- a list in two parts: the blocks that start below m, and the others

record Parts (m : ℕ) (bs : List Block) : Type 0 where
  lows : List Block
  highs : List Block
  together : length lows + length highs ≡ length bs
  below : (b : Block) → Memᴰ b lows → Memᴰ b bs × (b.from < m)
  above : (b : Block) → Memᴰ b highs → Memᴰ b bs × (m ≤ b.from)
  either : (b : Block) → Memᴰ b bs → Memᴰ b lows ⊎ Memᴰ b highs

parts : (m : ℕ) (bs : List Block) → Parts m bs
parts m [] = record {
  lows = [];
  highs = [];
  together = refl;
  below = λ (b : Block) (h : Memᴰ b []). absurd (Memᴰ.not-nil h);
  above = λ (b : Block) (h : Memᴰ b []). absurd (Memᴰ.not-nil h);
  either = λ (b : Block) (h : Memᴰ b []). inl h;
}
parts m (c ∷ cs) = go (le_or_lt m c.from) (parts m cs)
  where
    go : (m ≤ c.from) ⊎ (c.from < m) → Parts m cs → Parts m (c ∷ cs)
    go (inl h) p = record {
      lows = p.lows;
      highs = c ∷ p.highs;
      together = omega (arith, p.together);
      below = λ (b : Block) (l : Memᴰ b p.lows). (Memᴰ.tail (p.below b l).0, (p.below b l).1);
      above = λ (b : Block) (l : Memᴰ b (c ∷ p.highs)).
          ⊎_elim (λ (e : b ≡ c). (Memᴰ.head e, rw e h)) (λ (t : Memᴰ b p.highs). (Memᴰ.tail (p.above b t).0, (p.above b t).1)) (Memᴰ.cases_cons l);
      either = λ (b : Block) (l : Memᴰ b (c ∷ cs)).
          ⊎_elim (λ (e : b ≡ c). inr (Memᴰ.head e)) (λ (t : Memᴰ b cs). ⊎_map (λ a. a) Memᴰ.tail (p.either b t)) (Memᴰ.cases_cons l);
    }
    go (inr h) p = record {
      lows = c ∷ p.lows;
      highs = p.highs;
      together = omega (arith, p.together);
      below = λ (b : Block) (l : Memᴰ b (c ∷ p.lows)).
          ⊎_elim (λ (e : b ≡ c). (Memᴰ.head e, rw e h)) (λ (t : Memᴰ b p.lows). (Memᴰ.tail (p.below b t).0, (p.below b t).1)) (Memᴰ.cases_cons l);
      above = λ (b : Block) (l : Memᴰ b p.highs). (Memᴰ.tail (p.above b l).0, (p.above b l).1);
      either = λ (b : Block) (l : Memᴰ b (c ∷ cs)).
          ⊎_elim (λ (e : b ≡ c). inl (Memᴰ.head e)) (λ (t : Memᴰ b cs). ⊎_map Memᴰ.tail (λ a. a) (p.either b t)) (Memᴰ.cases_cons l);
    }

-- ---- a block that is not the whole one lies in one half

module _ (k v q low end : ℕ) (ev : v ≡ q * 2 ^ suc k) (out : Inside low end v (suc k) → ⊥) (b : Block) (w : Within (suc k) v b) (i : Inside low end b.from b.free) where
  deeper : b.free ≤ k
  deeper = go (le_or_lt b.free k)
    where
      go : (b.free ≤ k) ⊎ (k < b.free) → b.free ≤ k
      go (inl l) = l
      go (inr l) =
          let x : b.free ≡ suc k = omega (arith, w.depth) in
          let s : b.from + 2 ^ suc k ≤ v + 2 ^ suc k = rw x at w.stop in
          let y : b.from ≡ v = omega (arith, w.start) in
          let i2 : Inside low end b.from (suc k) = rw x at i in
          absurd (out (rw y at i2))

  low_half : b.from < v + 2 ^ k → Within k v b
  low_half h =
      let m = 2 ^ b.free in
      let c = (q * 2 + 1) * 2 ^ (k - b.free) in
      let e : v + 2 ^ k ≡ c * m = ap (λ (y : ℕ). y + 2 ^ k) ev ∙ half_mid q k ∙ finer (q * 2 + 1) k b.free deeper in
      let hi : b.from - b.from % m + m ≤ v + 2 ^ k = rw e (floor_high c m b.from (rw e at h)) in
      record { depth = deeper; aligned = w.aligned; start = w.start; stop = omega (arith, w.aligned) }

  high_half : v + 2 ^ k ≤ b.from → Within k (v + 2 ^ k) b
  high_half h = record { depth = deeper; aligned = w.aligned; start = h; stop = omega (arith, w.stop) }

-- ---- the list is not the shorter one

-- a list of aligned blocks within the block of k free bits from v on that holds just the values of the interval there
record Covers (k v low end : ℕ) (bs : List Block) : Type 0 where
  within : (b : Block) → Memᴰ b bs → Within k v b
  inside : (b : Block) → Memᴰ b bs → Inside low end b.from b.free
  covers : (x : ℕ) → v ≤ x → x < v + 2 ^ k → low ≤ x → x < end → Held bs x

one_block : (k v low end : ℕ) (bs : List Block) → Covers k v low end bs → Inside low end v k → length (tiles k v low end) ≤ length bs
one_block k v low end bs c i =
    rw (whole k v low end i) (some_block bs v (c.covers v (omega arith) (omega (arith, pow_pos k)) i.low_in (omega (arith, i.end_in, pow_pos k))))

module _ (k v q low end : ℕ) (ev : v ≡ q * 2 ^ suc k) (out : Inside low end v (suc k) → ⊥) (bs : List Block) (c : Covers (suc k) v low end bs) (p : Parts (v + 2 ^ k) bs) where
  in_low : (b : Block) → Memᴰ b p.lows → Within k v b
  in_low b l = let m = (p.below b l).0 in low_half k v q low end ev out b (c.within b m) (c.inside b m) (p.below b l).1

  in_high : (b : Block) → Memᴰ b p.highs → Within k (v + 2 ^ k) b
  in_high b l = let m = (p.above b l).0 in high_half k v q low end ev out b (c.within b m) (c.inside b m) (p.above b l).1

  covers_low : Covers k v low end p.lows
  covers_low = record {
    within = in_low;
    inside = λ (b : Block) (l : Memᴰ b p.lows). c.inside b (p.below b l).0;
    covers = λ (x : ℕ) (s : v ≤ x) (t : x < v + 2 ^ k) (lo : low ≤ x) (hi : x < end). go x t (c.covers x s (omega arith) lo hi);
  }
    where
      go : (x : ℕ) → x < v + 2 ^ k → Held bs x → Held p.lows x
      go x t h =
          let b = h.by in
          ⊎_elim (λ (l : Memᴰ b p.lows). record { by = b; listed = l; holds = h.holds })
          (λ (l : Memᴰ b p.highs). absurd (omega (arith, (p.above b l).1, h.holds.start))) (p.either b h.listed)

  covers_high : Covers k (v + 2 ^ k) low end p.highs
  covers_high = record {
    within = in_high;
    inside = λ (b : Block) (l : Memᴰ b p.highs). c.inside b (p.above b l).0;
    covers = λ (x : ℕ) (s : v + 2 ^ k ≤ x) (t : x < v + 2 ^ k + 2 ^ k) (lo : low ≤ x) (hi : x < end). go x s (c.covers x (omega arith) (omega arith) lo hi);
  }
    where
      go : (x : ℕ) → v + 2 ^ k ≤ x → Held bs x → Held p.highs x
      go x s h =
          let b = h.by in
          ⊎_elim (λ (l : Memᴰ b p.lows). absurd (omega (arith, (in_low b l).stop, h.holds.stop)))
          (λ (l : Memᴰ b p.highs). record { by = b; listed = l; holds = h.holds }) (p.either b h.listed)

shortest : (k v q low end : ℕ) → v ≡ q * 2 ^ k → (bs : List Block) → Covers k v low end bs → length (tiles k v low end) ≤ length bs
shortest zero v q low end e bs c = go (inside_dec low end v zero)
  where
    go : Inside low end v zero ⊎ (Inside low end v zero → ⊥) → length (tiles zero v low end) ≤ length bs
    go (inl i) = one_block zero v low end bs c i
    go (inr i) = rw (single v low end i) (omega arith)
shortest (suc k) v q low end e bs c =
    go (inside_dec low end v (suc k)) (parts (v + 2 ^ k) bs) (shortest k v (q * 2) low end (e ∙ half_start q k))
    (shortest k (v + 2 ^ k) (q * 2 + 1) low end (ap (λ (x : ℕ). x + 2 ^ k) e ∙ half_mid q k))
  where
    go : Inside low end v (suc k) ⊎ (Inside low end v (suc k) → ⊥) → Parts (v + 2 ^ k) bs
        → ((cs : List Block) → Covers k v low end cs → length (tiles k v low end) ≤ length cs)
        → ((cs : List Block) → Covers k (v + 2 ^ k) low end cs → length (tiles k (v + 2 ^ k) low end) ≤ length cs)
        → length (tiles (suc k) v low end) ≤ length bs
    go (inl i) p l r = one_block (suc k) v low end bs c i
    go (inr i) p l r =
        let a = l p.lows (covers_low k v q low end e i bs c p) in
        let b = r p.highs (covers_high k v q low end e i bs c p) in
        rw (split k v low end i, length-append) (omega (arith, p.together))

-- ---- prefix words as blocks

-- the blocks of a list of prefix words
record Blocked (n : ℕ) (ws : List Word) : Type 0 where
  blocks : List Block
  fit : AllFit n blocks
  words : map (prefix_of n) blocks ≡ ws

word_fits : (n : ℕ) (w : Word) → (p : Prefix n w) → Fits n (block w.value (n - p.leading))
word_fits n w p =
    let k = n - p.leading in
    let e : 2 ^ n ≡ 2 ^ (n - k) * 2 ^ k = sym (one-mul (2 ^ n)) ∙ finer 1 n k (omega arith) ∙ ap (λ (z : ℕ). z * 2 ^ k) (one-mul (2 ^ (n - k))) in
    let a = (prefix_block n w p).1 in
    let h : w.value < 2 ^ (n - k) * 2 ^ k = rw e at p.formed.value_fits in
    record { wide = omega arith; aligned = a; ends = omega (arith, floor_high (2 ^ (n - k)) (2 ^ k) w.value h) }

blocked : (n : ℕ) (ws : List Word) → ((w : Word) → Memᴰ w ws → Prefix n w) → Blocked n ws
blocked n [] p = record { blocks = []; fit = λ (b : Block) (m : Memᴰ b []). absurd (Memᴰ.not-nil m); words = refl }
blocked n (w ∷ ws) p =
    let r = blocked n ws (λ (v : Word) (m : Memᴰ v ws). p v (Memᴰ.tail m)) in
    let q = p w (Memᴰ.head refl) in
    let c = block w.value (n - q.leading) in
    record {
      blocks = c ∷ r.blocks;
      fit = λ (b : Block) (m : Memᴰ b (c ∷ r.blocks)). ⊎_elim (λ (e : b ≡ c). rw e (word_fits n w q)) (r.fit b) (Memᴰ.cases_cons m);
      words = ap₂ (λ (v : Word) (vs : List Word). v ∷ vs) (sym (prefix_block n w q).0) r.words;
    }

-- No list of prefix words that matches exactly the interval is shorter than the list of largest blocks.
pub none_shorter : (n low high : ℕ) (ws : List Word) → ((w : Word) → Memᴰ w ws → Prefix n w) → Exactly n low high ws
    → length (blocks_of n low high) ≤ length ws
none_shorter n low high ws p x =
    let r = blocked n ws p in
    let bs = r.blocks in
    let covers : (y : ℕ) → low ≤ y → y ≤ high → Some (map (prefix_of n) bs) y = rw r.words x.covers in
    let only : (y : ℕ) → y < 2 ^ n → Some (map (prefix_of n) bs) y → (low ≤ y) × (y ≤ high) = rw r.words x.within in
    let l : length bs ≡ length ws = sym (length-map bs (prefix_of n)) ∙ ap length r.words in
    let short = shortest n 0 0 low (high + 1) (sym (zero-mul (2 ^ n))) bs (record {
      within = λ (b : Block) (m : Memᴰ b bs).
          let f = r.fit b m in
          record { depth = f.wide; aligned = f.aligned; start = omega arith; stop = omega arith };
      inside = λ (b : Block) (m : Memᴰ b bs).
          let f = r.fit b m in
          let s : 0 < 2 ^ b.free = pow_pos b.free in
          let y = b.from + 2 ^ b.free - 1 in
          let first = only b.from (omega arith) (held_some n b.from bs r.fit b m (record { start = omega arith; stop = omega arith })) in
          let last = only y (omega arith) (held_some n y bs r.fit b m (record { start = omega arith; stop = omega arith })) in
          record { low_in = first.0; end_in = omega (arith, last.1) };
      covers = λ (y : ℕ) (s : 0 ≤ y) (t : y < 0 + 2 ^ n) (lo : low ≤ y) (hi : y < high + 1). some_held n y bs r.fit (omega arith) (covers y lo (omega arith));
    }) in
    omega arith
