-- A call that writes: two outcomes coincide, a refused call changes nothing, and one that is done leaves what is written.
-- Assumes nothing.
use mathlib.Core.Bool.{true, false}
use mathlib.Core.List.{List}
use mathlib.Core.Path.{◌≡◌, sym, ◌∙◌}
use Prim.Native.Nat.{ℕ}
use lib.Dec.{eqb}
use borrow.Author.Tests.{eq-eqb}
use Rattle.answers.proofs.ReadBack.{back}
use Rattle.answers.specs.Lent.{Lent, left_by}
use Rattle.answers.specs.declared.Answer.{Answer}
use Rattle.fields.specs.Writes.{write_at}

module _ {answer : Answer} {written before : List ℕ} where
  pub one_lent : (r s : Answer) (x y : List ℕ) → Lent answer written before r x → Lent answer written before s y → (r ≡ s) × (x ≡ y)
  one_lent r s x y p q = (p.says ∙ sym q.says, p.leaves ∙ sym q.leaves)

  -- the same of answers that can be read back from their number and values
  pub one_back : {A : Type 0} (f : A → Answer) (g : Answer → A) → ((x : A) → g (f x) ≡ x) → (r s : A) (x y : List ℕ)
      → Lent answer written before (f r) x → Lent answer written before (f s) y → (r ≡ s) × (x ≡ y)
  one_back f g h r s x y p q = (back f g h answer r s p.says q.says, p.leaves ∙ sym q.leaves)

  module _ {r : Answer} (e : r ≡ answer) where
    pub lent_refused : eqb r.no 0 ≡ false → Lent answer written before r before
    unfolding left_by
    lent_refused n = record { says = e; leaves = rw (← e, n) }

    pub lent_done : eqb r.no 0 ≡ true → (after : List ℕ) → after ≡ write_at before 0 written → Lent answer written before r after
    unfolding left_by
    lent_done z after w = record { says = e; leaves = rw (← e, z) w }

-- what is left by an answer that is done
pub left_done : (answer : Answer) (written before : List ℕ) → answer.no ≡ 0 → left_by answer written before ≡ write_at before 0 written
unfolding left_by
left_done answer written before z = rw (eq-eqb answer.no 0 z)
