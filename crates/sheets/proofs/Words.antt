-- Fields of words: what comparing slices answers is whether the texts are the same, and each return of the code is one of the
-- tests' cases. Assumes nothing.
use mathlib.Core.Bool.{Bool, true, false, ◌&&◌}
use mathlib.Core.List.{List, [], ◌∷◌}
use mathlib.Core.Path.{◌≡◌, refl, sym, ap, ◌∙◌}
use Prim.Native.Nat.{ℕ}
use lib.Dec.{eqb}
use lib.Pointwise.{pointwise}
use Rattle.fields.specs.Same.{same?}
use Rattle.sheets.specs.Numbers.{number_of}
use Rattle.sheets.specs.Parts.{action_of, any, no_action, octet_of, protocol_of, star}
use Rattle.texts.specs.Lines.{deny, deny_log, permit, permit_log}

same_is : (s t : List ℕ) → same? s t ≡ pointwise eqb s t
unfolding same?
same_is [] [] = refl
same_is [] (y ∷ t) = refl
same_is (x ∷ s) [] = refl
same_is (x ∷ s) (y ∷ t) = ap (λ (b : Bool). eqb x y && b) (same_is s t)

-- u is the word t as a slice
pub compared : {b : Bool} (s t u : List ℕ) → u ≡ t → b ≡ pointwise eqb s u → same? s t ≡ b
compared s t u e p = same_is s t ∙ sym (rw e at p)

module _ (s : List ℕ) where
  pub protocol_any : same? s star ≡ true → any ≡ protocol_of s
  unfolding protocol_of
  protocol_any e = simp e

  pub protocol_other : same? s star ≡ false → octet_of (number_of s) ≡ protocol_of s
  unfolding protocol_of
  protocol_other e = simp e

  pub action_permit : same? s permit ≡ true → 0 ≡ action_of s
  unfolding action_of
  action_permit e = simp e

  module _ (p : same? s permit ≡ false) where
    pub action_deny : same? s deny ≡ true → 1 ≡ action_of s
    unfolding action_of
    action_deny e = simp (p, e)

    module _ (q : same? s deny ≡ false) where
      pub action_permit_log : same? s permit_log ≡ true → 2 ≡ action_of s
      unfolding action_of
      action_permit_log e = simp (p, q, e)

      module _ (r : same? s permit_log ≡ false) where
        pub action_deny_log : same? s deny_log ≡ true → 3 ≡ action_of s
        unfolding action_of
        action_deny_log e = simp (p, q, r, e)

        pub action_none : same? s deny_log ≡ false → no_action ≡ action_of s
        unfolding action_of
        action_none e = simp (p, q, r, e)
