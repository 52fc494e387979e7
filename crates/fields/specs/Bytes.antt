-- Big-endian numbers of two and four bytes: as bytes, and read from a list of bytes.
use Rattle.std.specs.Prelude.{List, [], ◌∷◌, ◌++◌, ◌≡◌, ℕ, ◌+◌, ◌*◌, ◌/◌, ◌%◌, ◌<◌, get_or}

-- each number of the list is a byte
abbrev pub Bytes : List ℕ → Type 0
Bytes l = (i : ℕ) → get_or l i 0 < 256

abbrev pub be2 : ℕ → List ℕ
be2 x = x / 256 ∷ x % 256 ∷ []

abbrev pub be4 : ℕ → List ℕ
be4 x = be2 (x / 65536) ++ be2 (x % 65536)

-- the number in the two bytes from i on
abbrev pub at2 : List ℕ → ℕ → ℕ
at2 l i = get_or l i 0 * 256 + get_or l (i + 1) 0

-- the number in the four bytes from i on
abbrev pub at4 : List ℕ → ℕ → ℕ
at4 l i = at2 l i * 65536 + at2 l (i + 2)
