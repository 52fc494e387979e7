-- The tiles are the largest blocks, ascending, each once. Assumes nothing.
use mathlib.Core.Path.{◌≡◌, sym, ap, ap₂, ◌∙◌, subst}
use mathlib.Core.List.Memᴰ
use mathlib.Core.List.{List, [], ◌∷◌, ◌++◌, Memᴰ}
use mathlib.Core.Logic.{◌⊎◌, inl, inr, ⊎_elim}
use Prim.Native.Nat.{ℕ, zero, suc, ◌+◌, ◌-◌, ◌*◌, ◌%◌, ◌^◌, ◌≤◌, ◌<◌}
use native.Mathlib.Omega.{arith}
use native.Mathlib.Nat.{zero-mul, zero-add, mul-mod_left}
use lib.Arith.{digits_mod}
use lib.Pow.{pow_pos}
use Rattle.blocks.specs.Blocks.{Block, block, tiles, Inside, Largest, Ascends, Lists}
use Rattle.bits.proofs.Orders.{le_or_lt}
use Rattle.blocks.proofs.Tiles.{inside_dec, whole, single, split, half_start, half_mid}
use Rattle.blocks.proofs.Multiples.{finer, floor_low, floor_high}

-- a largest block among those of the block of k free bits from v on
pub record Node (k v low end w j : ℕ) : Type 0 where
  pub depth : j ≤ k
  pub aligned : w % 2 ^ j ≡ 0
  pub start : v ≤ w
  pub stop : w + 2 ^ j ≤ v + 2 ^ k
  pub inside : Inside low end w j
  pub largest : j < k → Inside low end (w - w % 2 ^ suc j) (suc j) → ⊥

module _ (k v q low end : ℕ) (ev : v ≡ q * 2 ^ suc k) (out : Inside low end v (suc k) → ⊥) where
  up_left : (w j : ℕ) → Node k v low end w j → Node (suc k) v low end w j
  up_left w j n = record {
    depth = omega (arith, n.depth);
    aligned = n.aligned;
    start = n.start;
    stop = omega (arith, n.stop);
    inside = n.inside;
    largest = λ (h : j < suc k) (i : Inside low end (w - w % 2 ^ suc j) (suc j)). go i (le_or_lt k j);
  }
    where
      go : Inside low end (w - w % 2 ^ suc j) (suc j) → (k ≤ j) ⊎ (j < k) → ⊥
      go i (inr l) = n.largest l i
      go i (inl l) =
          let e : j ≡ k = omega (arith, n.depth) in
          let s : w + 2 ^ k ≤ v + 2 ^ k = rw e at n.stop in
          let x : w ≡ v = omega (arith, n.start) in
          let z : w % 2 ^ suc k ≡ 0 = ap (λ (y : ℕ). y % 2 ^ suc k) (x ∙ ev) ∙ mul-mod_left q (2 ^ suc k) in
          let i2 : Inside low end (w - w % 2 ^ suc k) (suc k) = rw e at i in
          let y : w - w % 2 ^ suc k ≡ v = omega arith in
          out (rw y at i2)

  up_right : (w j : ℕ) → Node k (v + 2 ^ k) low end w j → Node (suc k) v low end w j
  up_right w j n = record {
    depth = omega (arith, n.depth);
    aligned = n.aligned;
    start = omega (arith, n.start);
    stop = omega (arith, n.stop);
    inside = n.inside;
    largest = λ (h : j < suc k) (i : Inside low end (w - w % 2 ^ suc j) (suc j)). go i (le_or_lt k j);
  }
    where
      go : Inside low end (w - w % 2 ^ suc j) (suc j) → (k ≤ j) ⊎ (j < k) → ⊥
      go i (inr l) = n.largest l i
      go i (inl l) =
          let e : j ≡ k = omega (arith, n.depth) in
          let s : w + 2 ^ k ≤ v + 2 ^ k + 2 ^ k = rw e at n.stop in
          let x : w ≡ v + 2 ^ k = omega (arith, n.start) in
          let z : w % 2 ^ suc k ≡ 2 ^ k = ap (λ (y : ℕ). y % 2 ^ suc k) (x ∙ ap (λ (y : ℕ). y + 2 ^ k) ev) ∙ digits_mod q (omega (arith, pow_pos k)) in
          let i2 : Inside low end (w - w % 2 ^ suc k) (suc k) = rw e at i in
          let y : w - w % 2 ^ suc k ≡ v = omega arith in
          out (rw y at i2)

whole_node : (k v q low end : ℕ) → v ≡ q * 2 ^ k → Inside low end v k → Node k v low end v k
whole_node k v q low end e i = record {
  depth = omega arith;
  aligned = ap (λ (y : ℕ). y % 2 ^ k) e ∙ mul-mod_left q (2 ^ k);
  start = omega arith;
  stop = omega arith;
  inside = i;
  largest = λ (h : k < k) (x : Inside low end (v - v % 2 ^ suc k) (suc k)). omega arith;
}

pub sound : (k v q low end : ℕ) → v ≡ q * 2 ^ k → (b : Block) → Memᴰ b (tiles k v low end) → Node k v low end b.from b.free
sound zero v q low end e b m = go (inside_dec low end v zero)
  where
    go : Inside low end v zero ⊎ (Inside low end v zero → ⊥) → Node zero v low end b.from b.free
    go (inl i) =
        let x : b ≡ block v zero = Memᴰ.eq_of_singleton (rw (whole zero v low end i) at m) in
        subst (λ (y : Block). Node zero v low end y.from y.free) (sym x) (whole_node zero v q low end e i)
    go (inr i) = absurd (Memᴰ.not-nil (rw (single v low end i) at m))
sound (suc k) v q low end e b m =
    go (inside_dec low end v (suc k)) (sound k v (q * 2) low end (e ∙ half_start q k) b)
    (sound k (v + 2 ^ k) (q * 2 + 1) low end (ap (λ (x : ℕ). x + 2 ^ k) e ∙ half_mid q k) b)
  where
    go : Inside low end v (suc k) ⊎ (Inside low end v (suc k) → ⊥)
        → (Memᴰ b (tiles k v low end) → Node k v low end b.from b.free)
        → (Memᴰ b (tiles k (v + 2 ^ k) low end) → Node k (v + 2 ^ k) low end b.from b.free)
        → Node (suc k) v low end b.from b.free
    go (inl i) l r =
        let x : b ≡ block v (suc k) = Memᴰ.eq_of_singleton (rw (whole (suc k) v low end i) at m) in
        subst (λ (y : Block). Node (suc k) v low end y.from y.free) (sym x) (whole_node (suc k) v q low end e i)
    go (inr i) l r =
        ⊎_elim (λ (x : Memᴰ b (tiles k v low end)). up_left k v q low end e i b.from b.free (l x))
        (λ (x : Memᴰ b (tiles k (v + 2 ^ k) low end)). up_right k v q low end e i b.from b.free (r x))
        (Memᴰ.append_cases (tiles k v low end) (rw (split k v low end i) at m))

-- ---- each largest block is a tile

-- in a block that is inside, only the block itself is largest
only_whole : (k v q low end w j : ℕ) → v ≡ q * 2 ^ k → Inside low end v k → Node k v low end w j → block w j ≡ block v k
only_whole k v q low end w j e i n = go (le_or_lt k j)
  where
    go : (k ≤ j) ⊎ (j < k) → block w j ≡ block v k
    go (inl l) =
        let x : j ≡ k = omega (arith, n.depth) in
        let s : w + 2 ^ k ≤ v + 2 ^ k = rw x at n.stop in
        ap₂ block (omega (arith, n.start)) x
    go (inr l) =
        let m = 2 ^ suc j in
        let a : v ≡ (q * 2 ^ (k - suc j)) * m = e ∙ finer q k (suc j) l in
        let b : v + 2 ^ k ≡ ((q + 1) * 2 ^ (k - suc j)) * m = ap (λ (y : ℕ). y + 2 ^ k) e ∙ omega arith ∙ finer (q + 1) k (suc j) l in
        let lo : v ≤ w - w % m = rw a (floor_low (q * 2 ^ (k - suc j)) m w (pow_pos (suc j)) (rw a at n.start)) in
        let wl : w < v + 2 ^ k = omega (arith, n.stop, pow_pos j) in
        let hi : w - w % m + m ≤ v + 2 ^ k = rw b (floor_high ((q + 1) * 2 ^ (k - suc j)) m w (rw b at wl)) in
        absurd (n.largest l (record { low_in = omega (arith, i.low_in); end_in = omega (arith, i.end_in) }))

module _ (k v q low end w j : ℕ) (ev : v ≡ q * 2 ^ suc k) (out : Inside low end v (suc k) → ⊥) (n : Node (suc k) v low end w j) where
  deeper : j ≤ k
  deeper = go (le_or_lt j k)
    where
      go : (j ≤ k) ⊎ (k < j) → j ≤ k
      go (inl l) = l
      go (inr l) =
          let x : j ≡ suc k = omega (arith, n.depth) in
          let s : w + 2 ^ suc k ≤ v + 2 ^ suc k = rw x at n.stop in
          let y : w ≡ v = omega (arith, n.start) in
          let i : Inside low end w j = n.inside in
          let i2 : Inside low end w (suc k) = rw x at i in
          absurd (out (rw y at i2))

  down_right : v + 2 ^ k ≤ w → Node k (v + 2 ^ k) low end w j
  down_right h = record {
    depth = deeper;
    aligned = n.aligned;
    start = h;
    stop = omega (arith, n.stop);
    inside = n.inside;
    largest = λ (l : j < k). n.largest (omega arith);
  }

  down_left : w < v + 2 ^ k → Node k v low end w j
  down_left h =
      let m = 2 ^ j in
      let b : v + 2 ^ k ≡ ((q * 2 + 1) * 2 ^ (k - j)) * m = ap (λ (y : ℕ). y + 2 ^ k) ev ∙ half_mid q k ∙ finer (q * 2 + 1) k j deeper in
      let hi : w - w % m + m ≤ v + 2 ^ k = rw b (floor_high ((q * 2 + 1) * 2 ^ (k - j)) m w (rw b at h)) in
      record {
        depth = deeper;
        aligned = n.aligned;
        start = n.start;
        stop = omega (arith, n.aligned);
        inside = n.inside;
        largest = λ (l : j < k). n.largest (omega arith);
      }

pub complete : (k v q low end w j : ℕ) → v ≡ q * 2 ^ k → Node k v low end w j → Memᴰ (block w j) (tiles k v low end)
complete zero v q low end w j e n = go (inside_dec low end v zero)
  where
    go : Inside low end v zero ⊎ (Inside low end v zero → ⊥) → Memᴰ (block w j) (tiles zero v low end)
    go (inl i) = rw (whole zero v low end i) (Memᴰ.head (only_whole zero v q low end w j e i n))
    go (inr i) =
        let x : j ≡ 0 = omega (arith, n.depth) in
        let s : w + 1 ≤ v + 1 = rw x at n.stop in
        let y : w ≡ v = omega (arith, n.start) in
        let i2 : Inside low end w 0 = rw x at n.inside in
        absurd (i (rw y at i2))
complete (suc k) v q low end w j e n =
    go (inside_dec low end v (suc k)) (le_or_lt (v + 2 ^ k) w) (complete k v (q * 2) low end w j (e ∙ half_start q k))
    (complete k (v + 2 ^ k) (q * 2 + 1) low end w j (ap (λ (x : ℕ). x + 2 ^ k) e ∙ half_mid q k))
  where
    go : Inside low end v (suc k) ⊎ (Inside low end v (suc k) → ⊥) → (v + 2 ^ k ≤ w) ⊎ (w < v + 2 ^ k)
        → (Node k v low end w j → Memᴰ (block w j) (tiles k v low end))
        → (Node k (v + 2 ^ k) low end w j → Memᴰ (block w j) (tiles k (v + 2 ^ k) low end))
        → Memᴰ (block w j) (tiles (suc k) v low end)
    go (inl i) c l r = rw (whole (suc k) v low end i) (Memᴰ.head (only_whole (suc k) v q low end w j e i n))
    go (inr i) (inl c) l r = rw (split k v low end i) (Memᴰ.append_right (tiles k v low end) (r (down_right k v q low end w j e i n c)))
    go (inr i) (inr c) l r = rw (split k v low end i) (Memᴰ.append_left (tiles k (v + 2 ^ k) low end) (l (down_left k v q low end w j e i n c)))

-- ---- ascending

lower : (x y z : ℕ) (bs : List Block) → x ≤ y → Ascends y bs z → Ascends x bs z
lower x y z [] h a = omega arith
lower x y z (b ∷ bs) h a = (omega (arith, a.0), a.1)

joined : (x y z : ℕ) (cs bs : List Block) → Ascends x cs y → Ascends y bs z → Ascends x (cs ++ bs) z
joined x y z [] bs h a = lower x y z bs h a
joined x y z (c ∷ cs) bs h a = (h.0, joined (c.from + 2 ^ c.free) y z cs bs h.1 a)

pub ascending : (k v low end : ℕ) → Ascends v (tiles k v low end) (v + 2 ^ k)
ascending zero v low end = go (inside_dec low end v zero)
  where
    go : Inside low end v zero ⊎ (Inside low end v zero → ⊥) → Ascends v (tiles zero v low end) (v + 1)
    go (inl i) = rw (whole zero v low end i) (omega arith)
    go (inr i) = rw (single v low end i) (omega arith)
ascending (suc k) v low end = go (inside_dec low end v (suc k)) (ascending k v low end) (ascending k (v + 2 ^ k) low end)
  where
    two : v + 2 ^ k + 2 ^ k ≡ v + 2 ^ suc k
    two = omega arith

    go : Inside low end v (suc k) ⊎ (Inside low end v (suc k) → ⊥) → Ascends v (tiles k v low end) (v + 2 ^ k)
        → Ascends (v + 2 ^ k) (tiles k (v + 2 ^ k) low end) (v + 2 ^ k + 2 ^ k) → Ascends v (tiles (suc k) v low end) (v + 2 ^ suc k)
    go (inl i) a b = rw (whole (suc k) v low end i) (omega arith)
    go (inr i) a b = rw (split k v low end i, ← two) (joined v (v + 2 ^ k) (v + 2 ^ k + 2 ^ k) (tiles k v low end) (tiles k (v + 2 ^ k) low end) a b)

-- so none starts below where the list does
pub starts_above : (x y : ℕ) (bs : List Block) → Ascends x bs y → (d : Block) → Memᴰ d bs → x ≤ d.from
starts_above x y [] s d m = absurd (Memᴰ.not-nil m)
starts_above x y (b ∷ bs) s d m = go (Memᴰ.cases_cons m) (starts_above (b.from + 2 ^ b.free) y bs s.1 d)
  where
    go : (d ≡ b) ⊎ Memᴰ d bs → (Memᴰ d bs → b.from + 2 ^ b.free ≤ d.from) → x ≤ d.from
    go (inl e) f = omega (arith, s.0, ap (λ (c : Block). c.from) e)
    go (inr t) f = omega (arith, s.0, f t)

-- ---- the list of document 01: the largest blocks of the interval, ascending, each once

pub tiles_list : (n low end : ℕ) → end ≤ 2 ^ n → Lists n low end (tiles n 0 low end)
tiles_list n low end h = record {
  only = λ (b : Block) (m : Memᴰ b (tiles n 0 low end)).
      let x = sound n 0 0 low end (sym (zero-mul (2 ^ n))) b m in
      record { wide = x.depth; aligned = x.aligned; inside = x.inside; largest = x.largest };
  all = λ (b : Block) (l : Largest n low end b.from b.free).
      complete n 0 0 low end b.from b.free (sym (zero-mul (2 ^ n)))
      (record { depth = l.wide; aligned = l.aligned; start = omega arith; stop = omega (arith, l.inside.end_in); inside = l.inside; largest = l.largest });
  order = rw (← (zero-add (2 ^ n))) (ascending n 0 low end);
}
