-- Aligned blocks and the largest ones inside an interval (document 01, "Intervals and words").
-- An interval low .. high stands here as low and end = high + 1: the values from low up to, and not with, end.
use Rattle.std.specs.Prelude.{Bool, ◌&&◌, not, ◌≡◌, ℕ, zero, suc, ◌+◌, ◌-◌, ◌%◌, ◌^◌, ◌≤◌, ◌<◌, leb, ltb, if◌then◌else◌}
use mathlib.Core.List.{List, [], ◌∷◌, ◌++◌, Memᴰ, map}
use Rattle.bits.specs.Masks.{mask_of}
use Rattle.blocks.specs.Words.{word}
use Rattle.blocks.specs.declared.Word.{Word}

-- a closed interval of width n
pub record Closed (n low high : ℕ) : Type 0 where
  pub some : 1 ≤ n
  pub most : n ≤ 16
  pub fits : high < 2 ^ n
  pub order : low ≤ high

-- an aligned block: 2 ^ free values from `from` on, which is a multiple of 2 ^ free
pub record Block : Type 0 where
  pub from : ℕ
  pub free : ℕ

abbrev pub block : ℕ → ℕ → Block
block v k = record { from = v; free = k }

-- the prefix word of width n that matches the block
abbrev pub prefix_of : ℕ → Block → Word
prefix_of n b = word b.from (mask_of n b.free)

-- the 2 ^ k values from v on all lie in the interval
pub record Inside (low end v k : ℕ) : Type 0 where
  pub low_in : low ≤ v
  pub end_in : v + 2 ^ k ≤ end

-- A largest block of width n in the interval, k free bits from v on: it is aligned and inside, and it is the whole width,
-- or the block with one leading bit fewer, which holds it, sticks out.
pub record Largest (n low end v k : ℕ) : Type 0 where
  pub wide : k ≤ n
  pub aligned : v % 2 ^ k ≡ 0
  pub inside : Inside low end v k
  pub largest : k < n → Inside low end (v - v % 2 ^ suc k) (suc k) → ⊥

-- each block starts at x or above and at or after the end of the one before it, and the last ends at y or below
abbrev pub Ascends : ℕ → List Block → ℕ → Type 0
Ascends x [] y = x ≤ y
Ascends x (b ∷ bs) y = (x ≤ b.from) × Ascends (b.from + 2 ^ b.free) bs y

-- the list of document 01: the largest blocks inside the interval, all of them, ascending and so each once
pub record Lists (n low end : ℕ) (bs : List Block) : Type 0 where
  pub only : (b : Block) → Memᴰ b bs → Largest n low end b.from b.free
  pub all : (b : Block) → Largest n low end b.from b.free → Memᴰ b bs
  pub order : Ascends 0 bs (2 ^ n)

-- ---- the list, worked out

abbrev pub inside? : ℕ → ℕ → ℕ → ℕ → Bool
inside? low end v k = leb low v && leb (v + 2 ^ k) end

abbrev pub meets? : ℕ → ℕ → ℕ → ℕ → Bool
meets? low end v k = ltb low (v + 2 ^ k) && ltb v end

-- The largest blocks in the part of the interval that lies in the block of k free bits from v on. A block that the interval
-- misses has none. A block inside the interval is one. Any other has those of its low half and then those of its high half.
unfoldable pub tiles : ℕ → ℕ → ℕ → ℕ → List Block
tiles zero v low end = if inside? low end v zero then block v zero ∷ [] else []
tiles (suc k) v low end =
    let halves = tiles k v low end ++ tiles k (v + 2 ^ k) low end in
    if not (meets? low end v (suc k)) then []
    else if inside? low end v (suc k) then block v (suc k) ∷ []
    else halves

-- the largest blocks of low .. high at width n
abbrev pub blocks_of : ℕ → ℕ → ℕ → List Block
blocks_of n low high = tiles n 0 low (high + 1)

-- their words
abbrev pub words_of : ℕ → ℕ → ℕ → List Word
words_of n low high = map (prefix_of n) (blocks_of n low high)

-- how many values the blocks have together
unfoldable pub sizes : List Block → ℕ
sizes [] = 0
sizes (b ∷ bs) = 2 ^ b.free + sizes bs
