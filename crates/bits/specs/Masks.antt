-- Powers of two and prefix masks.
use Rattle.std.specs.Prelude.{◌≡◌, ℕ, ◌-◌, ◌^◌, ◌≤◌, ◌<◌}

-- r is 2 to the k, for a k of 16 at most
pub record Power (k r : ℕ) : Type 0 where
  pub is : r ≡ 2 ^ k
  pub some : 0 < r
  pub small : r ≤ 65536

-- the mask of width n with k free bits: the n bits less the k lowest of them
abbrev pub mask_of : ℕ → ℕ → ℕ
mask_of n k = 2 ^ n - 2 ^ k
