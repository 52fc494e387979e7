-- What a list holds as words are written to it: value, then mask. Assumes nothing.
use mathlib.Core.List.{List, [], ◌∷◌}
use mathlib.Core.Path.{◌≡◌, refl, sym, ap, ◌∙◌}
use Prim.Native.Nat.{ℕ, ◌+◌, ◌*◌, ◌≤◌, ◌<◌}
use native.Mathlib.Omega.{arith}
use lib.ListN.{length, length-set, set}
use Rattle.blocks.specs.declared.Word.{Word}
use Rattle.fields.proofs.Writing.{write_more, write_none, write_one, write_then}
use Rattle.fields.specs.Writes.{write_at}
use Rattle.intervals.specs.Lists.{numbers}

two_stores : (l : List ℕ) (i a b : ℕ) → i + 1 < length l → set (set l i a) (i + 1) b ≡ write_at l i (a ∷ b ∷ [])
two_stores l i a b h =
    write_then l (set l i a) (set (set l i a) (i + 1) b) i (i + 1) (a ∷ []) (b ∷ []) (write_one l i a (omega arith))
    (write_one (set l i a) (i + 1) b (simp length-set h)) refl (omega arith)

-- i words are written, and the words ws are left: written behind them, they complete the list
pub record Filled (before whole out : List ℕ) (i : ℕ) (ws : List Word) : Type 0 where
  pub left : write_at out (2 * i) (numbers ws) ≡ write_at before 0 whole
  pub room : 2 * (i + length ws) ≤ length out

module _ (before whole : List ℕ) (out : List ℕ) (i : ℕ) (vs : List Word) (f : Filled before whole out i vs) where
  pub filled_end : vs ≡ [] → out ≡ write_at before 0 whole
  unfolding numbers
  filled_end e = sym (write_none out (2 * i)) ∙ ap (λ (ws : List Word). write_at out (2 * i) (numbers ws)) (sym e) ∙ f.left

  -- the next word is w, with its place and the place after it as the code counts them
  module _ (w : Word) (ws : List Word) (e : vs ≡ w ∷ ws) (j : ℕ) (d : j ≡ i) where
    filled_room : 2 * j + 1 < length out
    filled_room = omega (arith, f.room, ap length e)

    pub filled_more : (k : ℕ) → k ≡ i + 1 → Filled before whole (set (set out (2 * j) w.value) (2 * j + 1) w.mask) k ws
    unfolding numbers
    filled_more k g =
        let z : 2 * k ≡ 2 * j + 2 = omega arith in
        record {
          left =
              rw (z, two_stores out (2 * j) w.value w.mask filled_room, write_more out (2 * j) (w.value ∷ w.mask ∷ []) (numbers ws) (omega (arith, filled_room)), d)
              (ap (λ (ws : List Word). write_at out (2 * i) (numbers ws)) (sym e) ∙ f.left);
          room = simp length-set (omega (arith, f.room, ap length e));
        }
