-- What differs is gathered: nothing differs exactly when every byte agrees. Assumes nothing.
use mathlib.Core.Bool.{Bool, true, false, ◌&&◌, and-true, and_assoc}
use mathlib.Core.List.{List, ◌∷◌}
use mathlib.Core.Path.{◌≡◌, refl, sym}
use Prim.Native.Nat.{ℕ, ◌+◌, ◌≤◌, ◌<◌}
use native.Mathlib.Numerals.{add-one}
use native.Mathlib.Omega.{arith}
use lib.Bits.{bit_and, bit_or, bit_xor, and_le_l, and_le_r, or_add_and, xor_add_and, xor_self}
use lib.Dec.{eqb}
use lib.ListN.{length, drop, get_or, length-drop, length-take, drop_of_length-le}
use lib.Seq.{drop-cons, get_or-take, get_or-drop, length-take-le}
use borrow.Author.Tests.{eqb-true, eqb-false, ne_eqb}
use Rattle.records.specs.Entries.{mask_of_record, value_of}
use Rattle.records.specs.Layout.{key_size, record_size}
use Rattle.tables.specs.Looking.{bytes_match, record_matches?}

-- ---- one byte

module _ (d a v : ℕ) where
  or_none : bit_or d (bit_xor a v) ≡ 0 → (d ≡ 0) × (a ≡ v)
  or_none e =
      let o = or_add_and d (bit_xor a v) in
      let l = and_le_l d (bit_xor a v) in
      let r = and_le_r d (bit_xor a v) in
      omega (arith, xor_add_and a v, and_le_l a v, and_le_r a v)

  pub gathers : eqb (bit_or d (bit_xor a v)) 0 ≡ (eqb d 0 && eqb a v)
  gathers = go (eqb d 0) refl (eqb a v) refl
    where
      go : (p : Bool) → eqb d 0 ≡ p → (q : Bool) → eqb a v ≡ q → eqb (bit_or d (bit_xor a v)) 0 ≡ (p && q)
      go true e true f = rw (eqb-true d 0 e, eqb-true a v f, xor_self)
      go true e false f = ne_eqb (bit_or d (bit_xor a v)) 0 (λ z. eqb-false a v f (or_none z).1)
      go false e q f = ne_eqb (bit_or d (bit_xor a v)) 0 (λ z. eqb-false d 0 e (or_none z).0)

-- ---- the bytes from j on

match_from : List ℕ → List ℕ → ℕ → Bool
match_from t h j = bytes_match (drop j (value_of t)) (drop j (mask_of_record t)) (drop j h)

-- nothing differs in d, and the bytes from j on agree
pub agreeing : ℕ → List ℕ → List ℕ → ℕ → Bool
agreeing d t h j = eqb d 0 && match_from t h j

pub agree_start : (t h : List ℕ) → record_matches? t h ≡ agreeing 0 t h 0
unfolding agreeing match_from
agree_start t h = refl

pub agree_end : (d : ℕ) (t h : List ℕ) (j : ℕ) → key_size ≤ j → agreeing d t h j ≡ eqb d 0
unfolding agreeing match_from bytes_match
agree_end d t h j s = rw (drop_of_length-le (value_of t) {i = j} (omega (arith, length-take key_size t))) (and-true (eqb d 0))

module _ (d r : ℕ) (t h : List ℕ) (j : ℕ) (room : record_size ≤ length t) (l : length h ≡ key_size) (s : j < key_size) where
  value_at : drop j (value_of t) ≡ get_or t j 0 ∷ drop (j + 1) (value_of t)
  value_at =
      let n : length (value_of t) ≡ key_size = length-take-le key_size t (omega arith) in
      rw (add-one, drop-cons (value_of t) j 0 (omega arith), get_or-take)

  mask_at : drop j (mask_of_record t) ≡ get_or t (key_size + j) 0 ∷ drop (j + 1) (mask_of_record t)
  mask_at =
      let n : length (mask_of_record t) ≡ key_size = length-take-le key_size (drop key_size t) (omega (arith, length-drop key_size t)) in
      rw (add-one, drop-cons (mask_of_record t) j 0 (omega arith), get_or-take, get_or-drop)

  match_turn : match_from t h j ≡ eqb (bit_and (get_or h j 0) (get_or t (key_size + j) 0)) (get_or t j 0) && match_from t h (j + 1)
  unfolding match_from bytes_match
  match_turn = rw (value_at, mask_at, drop-cons h j 0 (omega arith), add-one)

  -- one byte of h more, r being what differs after it
  pub agree_turn : eqb r 0 ≡ (eqb d 0 && eqb (bit_and (get_or h j 0) (get_or t (key_size + j) 0)) (get_or t j 0)) → agreeing d t h j ≡ agreeing r t h (j + 1)
  unfolding agreeing
  agree_turn e =
      rw (match_turn, e) (sym (and_assoc (eqb d 0) (eqb (bit_and (get_or h j 0) (get_or t (key_size + j) 0)) (get_or t j 0)) (match_from t h (j + 1))))
