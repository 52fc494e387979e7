-- What the check finds is what its definitions say: that some word matches, the lowest ill-formed word, and the smallest
-- value on which the words and the interval disagree. Assumes nothing.
use mathlib.Core.Bool.{Bool, true, false, cond, not}
use mathlib.Core.List.{List, [], ◌∷◌, map}
use mathlib.Core.Path.{◌≡◌, refl, ◌∙◌}
use Prim.Native.Nat.{ℕ, zero, suc, ◌+◌}
use Rattle.std.proofs.lemmas.Iterator.Adapters.{position_from-zero}
use Rattle.std.specs.List.{find, list_any, position, position_from, range_with_len}
use Rattle.std.specs.Prelude.{Some, if◌then◌else◌}
use Rattle.answers.specs.Answers.{done}
use Rattle.blocks.specs.Tests.{formed?, matches?, some?}
use Rattle.blocks.specs.declared.Word.{Word}
use Rattle.intervals.specs.Checks.{agree?, first_ill, verdict, verdict_as}

-- ---- words, as h reads them from the items of a list

module _ {A : Type 0} (h : A → Word) where
  pub some_any : (x : ℕ) (ps : List A) → list_any (λ p. matches? (h p) x) ps ≡ some? (map h ps) x
  unfolding some?
  some_any x [] = refl
  some_any x (p ∷ ps) = rw (some_any x ps)

  ill_from : (n i : ℕ) (ps : List A) → position_from (λ p. not (formed? n (h p))) i ps ≡ first_ill n i (map h ps)
  unfolding first_ill
  ill_from n i [] = refl
  ill_from n i (p ∷ ps) = rw (ill_from n (i + 1) ps) (turned (formed? n (h p)) _ _)
    where
      turned : {B : Type 0} (b : Bool) (x y : B) → cond (not b) x y ≡ cond b y x
      turned true x y = refl
      turned false x y = refl

  pub ill_position : (n : ℕ) (ps : List A) → position (λ p. not (formed? n (h p))) ps ≡ first_ill n 0 (map h ps)
  ill_position n ps = position_from-zero (λ p. not (formed? n (h p))) ps ∙ ill_from n 0 ps

-- ---- the d values from x on

module _ (low high : ℕ) (ws : List Word) where
  pub verdict_find : (d x : ℕ) → verdict_as (find (λ y. not (agree? low high ws y)) (range_with_len x d)) ≡ verdict d x low high ws
  unfolding verdict
  verdict_find zero x = refl
  verdict_find (suc d) x = go (agree? low high ws x) (verdict_find d (x + 1))
    where
      go : (b : Bool) → verdict_as (find (λ y. not (agree? low high ws y)) (range_with_len (x + 1) d)) ≡ verdict d (x + 1) low high ws
          → verdict_as (cond (not b) (Some x) (find (λ y. not (agree? low high ws y)) (range_with_len (x + 1) d))) ≡ (if b then verdict d (x + 1) low high ws else done 0 x 0 0)
      go true e = e
      go false e = refl
