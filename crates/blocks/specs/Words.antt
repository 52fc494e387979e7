-- Ternary words and what they match (document 01, "Intervals and words"; source document 002, section 2).
use Rattle.std.specs.Prelude.{◌⊎◌, ◌≡◌, ℕ, ◌-◌, ◌^◌, ◌≤◌, ◌<◌, get_or}
use mathlib.Core.List.{List, [], ◌∷◌, Memᴰ}
use Rattle.bits.specs.Digits.{bit}
use Rattle.bits.specs.Masks.{mask_of}
use Rattle.blocks.specs.declared.Word.{Word}

abbrev pub word : ℕ → ℕ → Word
word value mask = record { value = value; mask = mask }

-- a word as two numbers, value and mask
abbrev pub word_in : List ℕ → Word
word_in pair = word (get_or pair 0 0) (get_or pair 1 0)

-- x and the word's value agree at every 1 of the mask
abbrev pub Matches : Word → ℕ → Type 0
Matches w x = (i : ℕ) → bit i w.mask ≡ 1 → bit i x ≡ bit i w.value

-- a well-formed word of width n: the value is 0 where the mask is 0, and both are 0 at bit n and above
pub record Formed (n : ℕ) (w : Word) : Type 0 where
  pub clear : (i : ℕ) → bit i w.mask ≡ 0 → bit i w.value ≡ 0
  pub value_fits : w.value < 2 ^ n
  pub mask_fits : w.mask < 2 ^ n

-- every word of the list is well formed
abbrev pub AllFormed : ℕ → List Word → Type 0
AllFormed n ws = (w : Word) → Memᴰ w ws → Formed n w

-- a prefix word of width n: the top `leading` of its n mask bits are set, and no other
pub record Prefix (n : ℕ) (w : Word) : Type 0 where
  pub leading : ℕ
  pub short : leading ≤ n
  pub masked : w.mask ≡ mask_of n (n - leading)
  pub formed : Formed n w

-- some word of the list matches x
abbrev pub Some : List Word → ℕ → Type 0
Some [] x = ⊥
Some (w ∷ ws) x = Matches w x ⊎ Some ws x

-- together the words match every value of low .. high, and no other value of the width
pub record Exactly (n low high : ℕ) (ws : List Word) : Type 0 where
  pub covers : (x : ℕ) → low ≤ x → x ≤ high → Some ws x
  pub within : (x : ℕ) → x < 2 ^ n → Some ws x → (low ≤ x) × (x ≤ high)

-- no value of the width is matched by two words of the list
abbrev pub Disjoint : ℕ → List Word → Type 0
Disjoint n [] = Unit {0}
Disjoint n (w ∷ ws) = ((x : ℕ) → x < 2 ^ n → Matches w x → Some ws x → ⊥) × Disjoint n ws
