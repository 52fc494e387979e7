-- Some member of a list passes a test, and at most one does: of joined, mapped and nested lists. Assumes nothing.
use mathlib.Core.Bool.{Bool, true, false, ◌||◌, false≢true, or_assoc, or_self, or-false, or-true}
use mathlib.Core.List.{List, [], ◌∷◌, ◌++◌, map}
use mathlib.Core.Logic.{◌⊎◌, inl, inr}
use mathlib.Core.Path.{◌≡◌, refl, sym, ap, ap₂, ◌∙◌}
use Rattle.entries.specs.Words.{each}
use Rattle.tables.specs.Meaning.{AtMostOne, any}

or_cases : (a b : Bool) → (a || b) ≡ true → (a ≡ true) ⊎ (b ≡ true)
or_cases true b e = inl refl
or_cases false b e = inr e

any_append : {A : Type 0} (f : A → Bool) (xs ys : List A) → any f (xs ++ ys) ≡ any f xs || any f ys
unfolding any
any_append f [] ys = refl
any_append f (x ∷ xs) ys = ap (λ (b : Bool). f x || b) (any_append f xs ys) ∙ sym (or_assoc (f x) (any f xs) (any f ys))

once_append : {A : Type 0} (f : A → Bool) (xs ys : List A) → AtMostOne f xs → AtMostOne f ys → (any f xs ≡ true → any f ys ≡ true → ⊥) → AtMostOne f (xs ++ ys)
unfolding any
once_append f [] ys a b k = b
once_append f (x ∷ xs) ys a b k = (alone, once_append f xs ys a.1 b (λ p q. k (rw p (or-true (f x))) q))
  where
    alone : f x ≡ true → any f (xs ++ ys) ≡ true → ⊥
    alone p e = go (or_cases (any f xs) (any f ys) (sym (any_append f xs ys) ∙ e))
      where
        go : (any f xs ≡ true) ⊎ (any f ys ≡ true) → ⊥
        go (inl q) = a.0 p q
        go (inr q) = k (rw p) q

-- ---- both at once

-- whether some member passes is b, and at most one does
pub record Passes {A : Type 0} (f : A → Bool) (xs : List A) (b : Bool) : Type 0 where
  pub some : any f xs ≡ b
  pub once : AtMostOne f xs

pub one_passes : {A : Type 0} (f : A → Bool) (x : A) → Passes f (x ∷ []) (f x)
unfolding any
one_passes f x = record { some = or-false (f x); once = ((λ p q. false≢true q), tt) }

-- what f says of a member's list is c of what t says of the member, where c is false of false
module _ {A B : Type 0} (f : B → Bool) (t : A → Bool) (c : Bool → Bool) (strict : c false ≡ false) where
  true_in : (a : Bool) → c a ≡ true → a ≡ true
  true_in true e = refl
  true_in false e = absurd (false≢true (sym strict ∙ e))

  or_through : (a b : Bool) → c a || c b ≡ c (a || b)
  or_through false b = ap (λ (y : Bool). y || c b) strict
  or_through true true = or_self (c true)
  or_through true false = ap (λ (y : Bool). c true || y) strict ∙ or-false (c true)

  module _ (g : A → List B) (of : (x : A) → Passes f (g x) (c (t x))) where
    any_each : (xs : List A) → any f (each xs g) ≡ c (any t xs)
    unfolding any each
    any_each [] = sym strict
    any_each (x ∷ xs) = any_append f (g x) (each xs g) ∙ ap₂ (λ (a b : Bool). a || b) (of x).some (any_each xs) ∙ or_through (t x) (any t xs)

    once_each : (xs : List A) → AtMostOne t xs → AtMostOne f (each xs g)
    unfolding each
    once_each [] a = tt
    once_each (x ∷ xs) a =
        once_append f (g x) (each xs g) (of x).once (once_each xs a.1)
        (λ p q. a.0 (true_in (t x) (sym (of x).some ∙ p)) (true_in (any t xs) (sym (any_each xs) ∙ q)))

    pub each_passes : {xs : List A} {b : Bool} → Passes t xs b → Passes f (each xs g) (c b)
    each_passes {xs} p = record { some = any_each xs ∙ ap c p.some; once = once_each xs p.once }

  module _ (g : A → B) (of : (x : A) → f (g x) ≡ c (t x)) where
    each_map : (xs : List A) → map g xs ≡ each xs (λ (x : A). g x ∷ [])
    unfolding each
    each_map [] = refl
    each_map (x ∷ xs) = ap (λ (l : List B). g x ∷ l) (each_map xs)

    pub map_passes : {xs : List A} {b : Bool} → Passes t xs b → Passes f (map g xs) (c b)
    map_passes {xs} p = rw each_map (each_passes (λ (x : A). g x ∷ []) (λ (x : A). rw (← of x) (one_passes f (g x))) p)
