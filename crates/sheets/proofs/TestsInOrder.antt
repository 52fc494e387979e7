-- Tests in order: the bad field that is named is the number of the first that holds, and where a rule is given none holds.
-- Assumes nothing.
use mathlib.Core.Bool.{Bool, true, false}
use mathlib.Core.List.{List, [], ◌∷◌}
use mathlib.Core.Path.{◌≡◌, refl}
use Prim.Native.Nat.{ℕ, zero, suc, ◌+◌, ◌<◌}
use native.Mathlib.Omega.{arith}
use lib.ListN.{get_or}
use Rattle.std.specs.Prelude.{Result, Ok, Err, if◌then◌else◌}
use Rattle.records.specs.declared.Rule.{Rule}
use Rattle.rules.specs.Lowest.{FirstTest}

-- the rule, or the number of the first test that holds, those being numbered from i on
unfoldable pub tested : ℕ → List Bool → Rule → Result Rule ℕ
tested i [] r = Ok r
tested i (b ∷ bs) r = if b then Err i else tested (i + 1) bs r

pub tested_bad : (i : ℕ) (tests : List Bool) (r : Rule) (k : ℕ) → tested i tests r ≡ Err k → FirstTest tests i k
unfolding tested
tested_bad i [] r k e = let z : ◌≡◌ {A = ℕ} 0 1 = cc in absurd (omega arith)
tested_bad i (true ∷ bs) r k e =
    let same : i ≡ k = cc in
    record { place = 0; number = omega arith; within = omega arith; holds = refl; before = λ (j : ℕ) (h : j < 0). absurd (omega arith) }
tested_bad i (false ∷ bs) r k e = go (tested_bad (i + 1) bs r k e)
  where
    go : FirstTest bs (i + 1) k → FirstTest (false ∷ bs) i k
    go f = record { place = suc f.place; number = omega arith; within = omega arith; holds = f.holds; before = early }
      where
        early : (j : ℕ) → j < suc f.place → get_or (false ∷ bs) j false ≡ false
        early zero h = refl
        early (suc j) h = f.before j (omega arith)

pub tested_good : (i : ℕ) (tests : List Bool) (q r : Rule) → tested i tests q ≡ Ok r → (q ≡ r) × ((j : ℕ) → get_or tests j false ≡ false)
unfolding tested
tested_good i [] q r e = (cc, λ j. refl)
tested_good i (true ∷ bs) q r e = let z : ◌≡◌ {A = ℕ} 0 1 = cc in absurd (omega arith)
tested_good i (false ∷ bs) q r e = let u = tested_good (i + 1) bs q r e in (u.0, each u.1)
  where
    each : ((j : ℕ) → get_or bs j false ≡ false) → (j : ℕ) → get_or (false ∷ bs) j false ≡ false
    each h zero = refl
    each h (suc j) = h j
