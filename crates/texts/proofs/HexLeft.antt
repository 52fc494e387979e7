-- A turn of writing hex digits: those of the bytes that are left complete what the memory holds in the end. Assumes nothing.
use mathlib.Core.List.{List, [], ◌∷◌}
use mathlib.Core.Path.{◌≡◌, ◌∙◌}
use Prim.Native.Nat.{ℕ, ◌+◌, ◌*◌, ◌/◌, ◌%◌, ◌≤◌, ◌<◌}
use native.Mathlib.Omega.{arith}
use lib.ListN.{drop, drop_of_length-le, get_or, length}
use Rattle.std.proofs.lemmas.List.{drop_more}
use Rattle.fields.proofs.Writing.{write_more, write_none}
use Rattle.fields.specs.Writes.{write_at}
use Rattle.texts.specs.Hex.{hex_digit, hex_of}

pub length_hex : (s : List ℕ) → length (hex_of s) ≡ 2 * length s
unfolding hex_of
length_hex [] = omega arith
length_hex (b ∷ bs) = omega (arith, length_hex bs)

-- i bytes are written, from a place on
module _ (s : List ℕ) (i at : ℕ) (now whole : List ℕ) (l : write_at now (at + 2 * i) (hex_of (drop i s)) ≡ whole) where
  pub hex_more : (d : ℕ) → i < length s → at + 2 * length s ≤ length now → (x y : ℕ) → x ≡ hex_digit (get_or s i d / 16) → y ≡ hex_digit (get_or s i d % 16)
      → (then : List ℕ) → then ≡ write_at now (at + 2 * i) (x ∷ y ∷ []) → write_at then (at + 2 * (i + 1)) (hex_of (drop (i + 1) s)) ≡ whole
  unfolding hex_of
  hex_more d h room x y p q then w =
      let next : at + 2 * (i + 1) ≡ at + 2 * i + 2 = omega arith in
      rw (w, p, q, next)
      (write_more now (at + 2 * i) (hex_digit (get_or s i d / 16) ∷ hex_digit (get_or s i d % 16) ∷ []) (hex_of (drop (i + 1) s)) (omega arith))
      ∙ (rw (drop_more s i d h) at l)

  pub hex_end : length s ≤ i → now ≡ whole
  unfolding hex_of
  hex_end h = rw (drop_of_length-le s h, write_none) at l
