-- A decimal number of a field: digits only, no leading zero, at most 65535.
use Rattle.std.specs.Prelude.{Bool, ◌&&◌, not, List, [], ◌∷◌, ℕ, ◌+◌, ◌-◌, ◌*◌, Option, None, Some, eqb, leb, ltb, length, if◌then◌else◌}

-- what stands for no number: one above all numbers
abbrev pub none : ℕ
none = 65536

abbrev pub number_or_none : Option ℕ → ℕ
number_or_none None = none
number_or_none (Some x) = x

abbrev pub digit? : ℕ → Bool
digit? c = leb 48 c && leb c 57

-- the number said by more digits after x
unfoldable pub number_after : ℕ → List ℕ → ℕ
number_after x [] = x
number_after x (c ∷ s) =
    let y = x * 10 + (c - 48) in
    let rest = number_after y s in
    if digit? c && ltb y none then rest else none

-- the number that a text says: none where it is empty, or begins with a 0 that is not alone
unfoldable pub number_of : List ℕ → ℕ
number_of [] = none
number_of (c ∷ s) = if eqb c 48 && not (eqb (length s) 0) then none else number_after 0 (c ∷ s)
