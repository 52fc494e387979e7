-- An address of which the first few of 32 bits count.
use Rattle.std.specs.Prelude.{Bool, not, ℕ, ◌-◌, ◌/◌, ◌%◌, ◌^◌, eqb}

-- a bit of the 32-bit address x is set beyond its first len
abbrev pub beyond? : ℕ → ℕ → Bool
beyond? x len = not (eqb (x % 2 ^ (32 - len)) 0)

-- the first len of 32 bits are the same
abbrev pub addr_match : ℕ → ℕ → ℕ → Bool
addr_match a len x = eqb (x / 2 ^ (32 - len)) (a / 2 ^ (32 - len))
