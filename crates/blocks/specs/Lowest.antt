-- The lowest largest block of an interval, by its number of free bits.
use Rattle.std.specs.Prelude.{Bool, ◌&&◌, ◌≡◌, ℕ, zero, suc, ◌+◌, ◌%◌, ◌^◌, ◌≤◌, leb, eqb, if◌then◌else◌}

-- the block of k free bits from next on is aligned and ends by end
abbrev pub reaches? : ℕ → ℕ → ℕ → Bool
reaches? next end k = eqb (next % 2 ^ k) 0 && leb (next + 2 ^ k) end

-- The most free bits, n at most, of a block that starts at next, is aligned and ends by end. It is 0 where no larger block
-- does: next alone is always aligned, and ends by end wherever next < end.
unfoldable pub free_of : ℕ → ℕ → ℕ → ℕ
free_of zero next end = zero
free_of (suc k) next end = if reaches? next end (suc k) then suc k else free_of k next end

-- r is that number
pub record Free (n next end r : ℕ) : Type 0 where
  pub is : r ≡ free_of n next end
  pub most : r ≤ n
