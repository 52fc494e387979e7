-- A text by the standard library's words: where its first mark stands, the parts before and after it, and how often it
-- stands there. Assumes nothing.
use mathlib.Core.Bool.{Bool, true, false, cond, not}
use mathlib.Core.List.{List, [], ◌∷◌, ◌++◌}
use mathlib.Core.Logic.{◌⊎◌, inl, inr}
use mathlib.Core.Path.{◌≡◌, refl, sym, ap, ◌∙◌}
use Prim.Native.Nat.{ℕ, suc, ◌+◌, ◌-◌, ◌≤◌, ◌<◌}
use native.Mathlib.Numerals.{add-one, one-add}
use native.Mathlib.Omega.{arith}
use lib.Dec.{eqb, ltb}
use lib.ListN.{drop, length, length-append, take}
use lib.Seq.{take_all}
use borrow.Author.Tests.{ltb-true, ltb-false}
use Rattle.bits.proofs.Orders.{le_or_lt}
use Rattle.std.specs.Borrow.{Bor}
use Rattle.std.specs.List.{filter, position_or_len}
use Rattle.std.specs.Option.{unwrap_or}
use Rattle.std.specs.Prelude.{Option, None, Some, MatchOption, if◌then◌else◌}
use Rattle.fields.proofs.Writing.{rest_is}
use Rattle.sheets.specs.Cuts.{Cut, Halves, after, before, times}
use Rattle.sheets.proofs.Marks.{after_none, parted}

module _ (c : ℕ) where
  abbrev pub mark? : ℕ → Bool
  mark? x = eqb x c

  -- ---- by recursion

  pub times_is : (s : List ℕ) → length (filter mark? s) ≡ times c s
  unfolding times
  times_is [] = refl
  times_is (x ∷ s) = go (eqb x c) (times_is s)
    where
      go : (b : Bool) → length (filter mark? s) ≡ times c s → length (cond b (x ∷ filter mark? s) (filter mark? s)) ≡ (if b then suc (times c s) else times c s)
      go true e = omega arith
      go false e = e

  abbrev place : List ℕ → ℕ
  place s = position_or_len mark? s

  before_place : (s : List ℕ) → take (place s) s ≡ before c s
  unfolding before
  before_place [] = refl
  before_place (x ∷ s) = go (eqb x c) (before_place s)
    where
      go : (b : Bool) → take (place s) s ≡ before c s → take (cond (not b) (1 + place s) 0) (x ∷ s) ≡ (if b then [] else x ∷ before c s)
      go true e = refl
      go false e = rw one-add (ap (λ (l : List ℕ). x ∷ l) e)

  after_place : (s : List ℕ) → drop (place s + 1) s ≡ after c s
  unfolding after
  after_place [] = refl
  after_place (x ∷ s) = go (eqb x c) (after_place s)
    where
      go : (b : Bool) → drop (place s + 1) s ≡ after c s → drop (cond (not b) (1 + place s) 0 + 1) (x ∷ s) ≡ (if b then s else after c s)
      go true e = refl
      go false e = rw (one-add, add-one) (rw add-one at e)

  times_place : (s : List ℕ) → place s < length s → 0 < times c s
  unfolding times
  times_place [] h = absurd (omega arith)
  times_place (x ∷ s) h = go (eqb x c) h (times_place s)
    where
      go : (b : Bool) → cond (not b) (1 + place s) 0 < suc (length s) → (place s < length s → 0 < times c s) → 0 < (if b then suc (times c s) else times c s)
      go true h f = omega arith
      go false h f = f (omega arith)

  -- ---- what the search answers

  -- the parts that place i parts off
  abbrev PartedAt : List ℕ → ℕ → Type 0
  PartedAt s i =
      ((take i s ≡ before c s) × (take (length s - (i + 1)) (drop (i + 1) s) ≡ after c s)) × (s ≡ before c s ++ (c ∷ after c s))

  pub placed : (s : List ℕ) (r : Option ℕ) → r ≡ cond (ltb (place s) (length s)) (Some (place s)) None → MatchOption r (before c s ≡ s) (PartedAt s)
  placed s r e = go (ltb (place s) (length s)) refl e
    where
      go : (b : Bool) → ltb (place s) (length s) ≡ b → r ≡ cond b (Some (place s)) None → MatchOption r (before c s ≡ s) (PartedAt s)
      go true z w = rw w ((before_place s, rest_is s (place s + 1) ∙ after_place s), parted c s (times_place s (ltb-true (place s) (length s) z)))
      go false z w = rw w (sym (before_place s) ∙ take_all (place s) s (ltb-false (place s) (length s) z))

  -- ---- the two parts

  nothing_after : (s : List ℕ) → before c s ≡ s → after c s ≡ []
  nothing_after s e = go (le_or_lt (times c s) 0)
    where
      go : (times c s ≤ 0) ⊎ (0 < times c s) → after c s ≡ []
      go (inl h) = after_none c s (omega arith)
      go (inr h) = absurd (omega (arith, ap length e, ap length (parted c s h), length-append (before c s) (c ∷ after c s)))

  -- of a text without a mark: all of it, and nothing
  pub parts_or : (s : List ℕ) (r : Option (Bor (List ℕ) × Bor (List ℕ))) (x y : Bor (List ℕ)) (p : Bor (List ℕ) × Bor (List ℕ)) → Cut c s r
      → x.now ≡ s → y.now ≡ [] → p ≡ unwrap_or r (x, y) → Halves c s p
  parts_or s None x y p k m n e = rw e (m ∙ sym k, n ∙ sym (nothing_after s k))
  parts_or s (Some q) x y p k m n e = rw e k.0
