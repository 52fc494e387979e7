-- Whether two lists of numbers are the same.
use Rattle.std.specs.Prelude.{Bool, true, false, ◌&&◌, List, [], ◌∷◌, ℕ, eqb}

unfoldable pub same? : List ℕ → List ℕ → Bool
same? [] [] = true
same? [] (y ∷ t) = false
same? (x ∷ s) [] = false
same? (x ∷ s) (y ∷ t) = eqb x y && same? s t
