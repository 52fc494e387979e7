-- Binary digits of a number: one of them, how many are 1 or 0 below a place, and the highest at which two numbers differ.
use Rattle.std.specs.Prelude.{◌≡◌, ℕ, zero, suc, ◌-◌, ◌/◌, ◌%◌, ◌^◌, ◌≤◌, ◌<◌, eqb, if◌then◌else◌}
use Rattle.std.specs.Int.Count.{ones}

-- bit i of x, counted from 0 at the low end
abbrev pub bit : ℕ → ℕ → ℕ
bit i x = x / 2 ^ i % 2

-- how many of the s lowest bits of x are 1
abbrev pub ones_below : ℕ → ℕ → ℕ
ones_below s x = ones (x % 2 ^ s)

-- how many of the s lowest bits of x are 0
abbrev pub zeros_below : ℕ → ℕ → ℕ
zeros_below s x = s - ones_below s x

-- The highest of the k lowest bits at which a and b differ. It is 0 where none does, which nobody asks: the count of words
-- takes it of two numbers of which one is smaller.
unfoldable pub top_differ : ℕ → ℕ → ℕ → ℕ
top_differ zero a b = zero
top_differ (suc k) a b = if eqb (bit k a) (bit k b) then top_differ k a b else k

-- s is the highest bit at which a and b differ
pub record Differ (a b s : ℕ) : Type 0 where
  pub above : a / 2 ^ suc s ≡ b / 2 ^ suc s
  pub here : bit s a ≡ bit s b → ⊥

-- the same of numbers of 16 bits
pub record Apart (a b s : ℕ) : Type 0 where
  pub small : s < 16
  pub differ : Differ a b s

-- r is the number of ones of x below bit s
pub record Ones (s x r : ℕ) : Type 0 where
  pub is : r ≡ ones_below s x
  pub most : r ≤ s
