-- Decimal numbers as text: digits with no leading zero.
use Rattle.std.specs.Prelude.{List, [], ◌∷◌, ◌++◌, ℕ, zero, suc, ◌+◌, ◌/◌, ◌%◌, ltb, if◌then◌else◌}

-- the digits of x, where f of them are enough
unfoldable pub digits_of : ℕ → ℕ → List ℕ
digits_of zero x = []
digits_of (suc f) x =
    let earlier = digits_of f (x / 10) in
    let last = (48 + x % 10) ∷ [] in
    if ltb x 10 then last else earlier ++ last

-- a number below 100,000
abbrev pub decimal : ℕ → List ℕ
decimal x = digits_of 5 x
