-- A text and a mark in it: what stands before and after the first mark, how often it stands there, and equal texts.
-- Assumes nothing.
use mathlib.Core.Bool.{Bool, true, false, ◌&&◌}
use mathlib.Core.List.{List, [], ◌∷◌, ◌++◌}
use mathlib.Core.Logic.{◌⊎◌, inl, inr}
use mathlib.Core.Path.{◌≡◌, refl, ap, ap₂, ◌∙◌}
use Prim.Native.Nat.{ℕ, suc, ◌+◌, ◌≤◌, ◌<◌}
use native.Mathlib.Omega.{arith}
use lib.Dec.{eqb}
use borrow.Author.Tests.{eq-eqb, eqb-true, ne_eqb}
use Rattle.bits.proofs.Orders.{le_or_lt}
use Rattle.std.specs.Prelude.{if◌then◌else◌}
use Rattle.fields.specs.Same.{same?}
use Rattle.sheets.specs.Cuts.{after, before, times}

module _ (c : ℕ) where
  -- ---- how often it stands there

  pub times_append : (s t : List ℕ) → times c (s ++ t) ≡ times c s + times c t
  unfolding times
  times_append [] t = omega arith
  times_append (x ∷ s) t = go (eqb x c) (times_append s t)
    where
      go : (b : Bool) {k : ℕ} → k ≡ times c s + times c t → (if b then suc k else k) ≡ (if b then suc (times c s) else times c s) + times c t
      go true e = omega arith
      go false e = e

  -- a text that does not have it
  without : (x : ℕ) (s : List ℕ) → times c (x ∷ s) ≡ 0 → (eqb x c ≡ false) × (times c s ≡ 0)
  unfolding times
  without x s e = go (eqb x c) refl e
    where
      go : (b : Bool) → eqb x c ≡ b → (if b then suc (times c s) else times c s) ≡ 0 → (eqb x c ≡ false) × (times c s ≡ 0)
      go true z w = absurd (omega arith)
      go false z w = (z, w)

  -- ---- where it stands at a place

  pub before_mark : (s t : List ℕ) → times c s ≡ 0 → before c (s ++ (c ∷ t)) ≡ s
  unfolding before
  before_mark [] t e = rw (eq-eqb c c refl)
  before_mark (x ∷ s) t e = let w = without x s e in rw (w.0, before_mark s t w.1)

  pub after_mark : (s t : List ℕ) → times c s ≡ 0 → after c (s ++ (c ∷ t)) ≡ t
  unfolding after
  after_mark [] t e = rw (eq-eqb c c refl)
  after_mark (x ∷ s) t e = let w = without x s e in rw (w.0, after_mark s t w.1)

  pub times_mark : (s t : List ℕ) → times c s ≡ 0 → times c (s ++ (c ∷ t)) ≡ suc (times c t)
  unfolding times
  times_mark s t e = times_append s (c ∷ t) ∙ rw (e, eq-eqb c c refl) (omega arith)

  -- after another mark
  pub times_past : (s : List ℕ) (d : ℕ) (t : List ℕ) → times c s ≡ 0 → (d ≡ c → ⊥) → times c (s ++ (d ∷ t)) ≡ times c t
  unfolding times
  times_past s d t e n = times_append s (d ∷ t) ∙ rw (e, ne_eqb d c n) (omega arith)

  -- ---- where it stands nowhere

  pub before_none : (s : List ℕ) → times c s ≡ 0 → before c s ≡ s
  unfolding before
  before_none [] e = refl
  before_none (x ∷ s) e = let w = without x s e in rw (w.0, before_none s w.1)

  pub after_none : (s : List ℕ) → times c s ≡ 0 → after c s ≡ []
  unfolding after
  after_none [] e = refl
  after_none (x ∷ s) e = let w = without x s e in rw w.0 (after_none s w.1)

  -- ---- a text cut at it

  pub none_before : (s : List ℕ) → times c (before c s) ≡ 0
  unfolding before times
  none_before [] = refl
  none_before (x ∷ s) = go (eqb x c) refl (none_before s)
    where
      go : (b : Bool) → eqb x c ≡ b → times c (before c s) ≡ 0 → times c (if b then [] else x ∷ before c s) ≡ 0
      go true z e = refl
      go false z e = rw z e

  pub parted : (s : List ℕ) → 0 < times c s → s ≡ before c s ++ (c ∷ after c s)
  unfolding before after times
  parted [] h = absurd (omega arith)
  parted (x ∷ s) h = go (eqb x c) refl h (parted s)
    where
      go : (b : Bool) → eqb x c ≡ b → 0 < (if b then suc (times c s) else times c s) → (0 < times c s → s ≡ before c s ++ (c ∷ after c s))
          → x ∷ s ≡ (if b then [] else x ∷ before c s) ++ (c ∷ (if b then s else after c s))
      go true z l r = ap (λ (y : ℕ). y ∷ s) (eqb-true x c z)
      go false z l r = ap (λ (t : List ℕ). x ∷ t) (r l)

  pub times_after : (s : List ℕ) → 0 < times c s → times c s ≡ suc (times c (after c s))
  times_after s h = ap (times c) (parted s h) ∙ times_mark (before c s) (after c s) (none_before s)

  -- it stands in a text that has something behind it
  pub parted_some : (s : List ℕ) → (after c s ≡ [] → ⊥) → s ≡ before c s ++ (c ∷ after c s)
  parted_some s h = go (le_or_lt (times c s) 0)
    where
      go : (times c s ≤ 0) ⊎ (0 < times c s) → s ≡ before c s ++ (c ∷ after c s)
      go (inl a) = absurd (h (after_none s (omega arith)))
      go (inr a) = parted s a

-- ---- equal texts

pub same_true : (s t : List ℕ) → same? s t ≡ true → s ≡ t
unfolding same?
same_true [] [] e = refl
same_true [] (y ∷ t) e = let z : ◌≡◌ {A = ℕ} 0 1 = cc in absurd (omega arith)
same_true (x ∷ s) [] e = let z : ◌≡◌ {A = ℕ} 0 1 = cc in absurd (omega arith)
same_true (x ∷ s) (y ∷ t) e = go (eqb x y) refl e (same_true s t)
  where
    go : (b : Bool) → eqb x y ≡ b → (b && same? s t) ≡ true → (same? s t ≡ true → s ≡ t) → x ∷ s ≡ y ∷ t
    go true z w r = ap₂ (λ (a : ℕ) (l : List ℕ). a ∷ l) (eqb-true x y z) (r w)
    go false z w r = let n : ◌≡◌ {A = ℕ} 0 1 = cc in absurd (omega arith)
