-- Texts that are put behind each other are one text. Assumes nothing.
use mathlib.Core.List.{List, [], ◌∷◌, ◌++◌}
use mathlib.Core.Path.{◌≡◌, refl}
use Prim.Native.Nat.{ℕ, ◌+◌, ◌≤◌}
use native.Mathlib.Omega.{arith}
use lib.ListN.{length, length-append}
use Rattle.fields.proofs.Writing.{write_then}
use Rattle.fields.specs.Writes.{write_at}
use Rattle.texts.specs.Lines.{Puts}

-- one byte
pub puts_one : (d e : List ℕ) (i r x : ℕ) → e ≡ write_at d i (x ∷ []) → r ≡ i + 1 → Puts d i (x ∷ []) r e
puts_one d e i r x h n = record { next = n; leaves = h }

module _ (d e : List ℕ) (i j : ℕ) (s : List ℕ) (p : Puts d i s j e) (room : j ≤ length d) where
  fits : i + length s ≤ length d
  fits = omega (arith, p.next)

  pub puts_then : (f : List ℕ) (k : ℕ) (u : List ℕ) → Puts e j u k f → Puts d i (s ++ u) k f
  puts_then f k u q = record {
    next = omega (arith, length-append s u, p.next, q.next);
    leaves = write_then d e f i j s u p.leaves q.leaves p.next fits;
  }

  -- a byte behind it
  pub puts_byte : (f : List ℕ) (x : ℕ) → f ≡ write_at e j (x ∷ []) → Puts d i (s ++ (x ∷ [])) (j + 1) f
  puts_byte f x h = puts_then f (j + 1) (x ∷ []) (puts_one e f j (j + 1) x h refl)
