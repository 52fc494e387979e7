-- What can be read back is determined: two answers with the same number and values are the same. Assumes nothing.
use mathlib.Core.Path.{◌≡◌, sym, ap, ◌∙◌}

-- f gives an answer's number and values, and g reads the answer back from them
pub back : {A B : Type 0} (f : A → B) (g : B → A) → ((x : A) → g (f x) ≡ x) → (y : B) (r s : A) → f r ≡ y → f s ≡ y → r ≡ s
back f g h y r s p q = sym (h r) ∙ ap g (p ∙ sym q) ∙ h s
