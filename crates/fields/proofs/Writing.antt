-- What is written to a list: writes that continue each other, a write to a part, its length. Assumes nothing.
use mathlib.Core.Path.{◌≡◌, sym, ap, ◌∙◌}
use mathlib.Core.List.{List, [], ◌∷◌, ◌++◌, append_assoc, append-nil}
use Prim.Native.Nat.{ℕ, suc, ◌+◌, ◌-◌, ◌≤◌, ◌<◌}
use native.Mathlib.Nat.{zero-add, add-zero, add_assoc}
use native.Mathlib.Omega.{arith}
use lib.ListN.{length, take, drop, set, length-append, length-drop, take-append-drop, drop_of_length-le}
use lib.Seq.{take_all, take_at, drop_at, drop-drop, length-take-le, set_split}
use borrow.Rule.Slice.PartMut.{put_mid}
use Rattle.fields.specs.Writes.{write_at}

-- ---- writes that continue each other

-- a second write right behind the first is one write of both
pub write_more : (d : List ℕ) (i : ℕ) (s u : List ℕ) → i + length s ≤ length d
    → write_at (write_at d i s) (i + length s) u ≡ write_at d i (s ++ u)
unfolding write_at
write_more d i s u h =
    let t : length (take i d) ≡ i = length-take-le i d (omega arith) in
    let l : length (take i d ++ s) ≡ i + length s = length-append (take i d) s ∙ ap (λ (k : ℕ). k + length s) t in
    let e : take i d ++ (s ++ drop (i + length s) d) ≡ (take i d ++ s) ++ drop (i + length s) d = sym (append_assoc (take i d) s _) in
    rw (e, take_at _ _ _ l, ← drop-drop (length u) (i + length s), drop_at _ _ _ l, drop-drop, length-append, ← add_assoc) (simp append_assoc)

-- the same of the lists before, between and after
pub write_then : (d e f : List ℕ) (i j : ℕ) (s u : List ℕ) → e ≡ write_at d i s → f ≡ write_at e j u → j ≡ i + length s → i + length s ≤ length d
    → f ≡ write_at d i (s ++ u)
write_then d e f i j s u p q z h = q ∙ rw (p, z) (write_more d i s u h)

pub write_none : (d : List ℕ) (i : ℕ) → write_at d i [] ≡ d
unfolding write_at
write_none d i = rw add-zero (take-append-drop i d)

-- one store
pub write_one : (d : List ℕ) (i x : ℕ) → i < length d → set d i x ≡ write_at d i (x ∷ [])
unfolding write_at
write_one d i x h = let e : i + 1 ≡ suc i = omega arith in rw (set_split d i x h, e)

-- ---- the length

pub length_write : (d : List ℕ) (i : ℕ) (s : List ℕ) → i + length s ≤ length d → length (write_at d i s) ≡ length d
unfolding write_at
length_write d i s h =
    let t : length (take i d) ≡ i = length-take-le i d (omega arith) in
    simp (length-append, t, length-drop) (omega arith)

pub write_length : (d e : List ℕ) (i : ℕ) (s : List ℕ) → e ≡ write_at d i s → i + length s ≤ length d → length e ≡ length d
write_length d e i s p h = ap length p ∙ length_write d i s h

-- ---- a part

-- what is lent from i on is the rest
pub rest_is : (l : List ℕ) (i : ℕ) → take (length l - i) (drop i l) ≡ drop i l
rest_is l i = take_all (length l - i) (drop i l) (omega (arith, length-drop i l))

-- a write at the start of what is lent from i on, said of the whole
pub write_part : (d : List ℕ) (i : ℕ) (s : List ℕ) → i ≤ length d
    → put_mid i (length d - i) d (write_at (take (length d - i) (drop i d)) 0 s) ≡ write_at d i s
unfolding write_at
write_part d i s h =
    let l : length (drop i d) ≡ length d - i = length-drop i d in
    rw (rest_is d i, drop_of_length-le (drop i d) {i = length d - i} (omega arith), append-nil, zero-add, drop-drop)

-- a part that is written whole
pub mid_write : (d s u : List ℕ) (i k : ℕ) → u ≡ s → k ≡ length s → put_mid i k d u ≡ write_at d i s
unfolding write_at
mid_write d s u i k e z = rw (e, z) (simp drop-drop)
