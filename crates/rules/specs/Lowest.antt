-- What the theorems about refusal 7 speak of: the lowest bad rule, and its first bad field.
use Rattle.std.specs.Prelude.{Bool, true, false, ◌≡◌, ℕ, ◌+◌, ◌<◌, get_or, length}
use mathlib.Core.List.{List, ◌∷◌, ◌++◌, Memᴰ}
use Rattle.records.specs.declared.Rule.{Rule}
use Rattle.rules.specs.Faults.{bad_field}

-- of rules that are numbered from j on, number i is the lowest bad one and f its first bad field
pub record LowestBad (rs : List Rule) (j i f : ℕ) : Type 0 where
  pub before : List Rule
  pub bad : Rule
  pub after : List Rule
  pub splits : rs ≡ before ++ (bad ∷ after)
  pub number : i ≡ j + length before
  pub field : bad_field bad ≡ f
  pub some : f ≡ 0 → ⊥
  pub fine : (r : Rule) → Memᴰ r before → bad_field r ≡ 0

-- of tests that are numbered from i on, number f is the first that holds
pub record FirstTest (bs : List Bool) (i f : ℕ) : Type 0 where
  pub place : ℕ
  pub number : f ≡ i + place
  pub within : place < length bs
  pub holds : get_or bs place false ≡ true
  pub before : (k : ℕ) → k < place → get_or bs k false ≡ false
