-- Decimal numbers: the digits before i say x, and the number is what those from i on make of it. Assumes nothing.
use mathlib.Core.Bool.{true, false, and-false}
use mathlib.Core.List.{List, [], ◌∷◌}
use mathlib.Core.Path.{◌≡◌, refl, sym, ap, ◌∙◌}
use Prim.Native.Nat.{ℕ, suc, ◌+◌, ◌-◌, ◌*◌, ◌≤◌, ◌<◌}
use native.Mathlib.Numerals.{add-one}
use native.Mathlib.Omega.{arith}
use lib.Dec.{eqb}
use lib.ListN.{length, drop, get_or, drop_of_length-le}
use lib.Seq.{drop-cons}
use borrow.Author.Tests.{le-ltb, lt-ltb, eq-eqb, ne_eqb}
use Rattle.sheets.specs.Numbers.{digit?, none, number_after, number_of}

-- the digits before i say x
pub record Said (s : List ℕ) (x i : ℕ) : Type 0 where
  pub small : x < none
  pub rest : number_after 0 s ≡ number_after x (drop i s)

module _ (s : List ℕ) (x i : ℕ) (f : Said s x i) where
  pub said_end : length s ≤ i → x ≡ number_after 0 s
  unfolding number_after
  said_end h = sym (f.rest ∙ rw (drop_of_length-le s {i = i} h))

  pub said_other : i < length s → digit? (get_or s i 0) ≡ false → none ≡ number_after 0 s
  unfolding number_after
  said_other h n = sym (f.rest ∙ rw (drop-cons s i 0 h) (simp n))

  module _ (h : i < length s) (d : digit? (get_or s i 0) ≡ true) (y : ℕ) (e : y ≡ get_or s i 0 - 48) where
    pub said_large : none ≤ x * 10 + y → none ≡ number_after 0 s
    unfolding number_after
    said_large n = sym (f.rest ∙ rw (drop-cons s i 0 h) (simp (d, ← e, le-ltb (x * 10 + y) none n)))

    pub said_more : x * 10 + y < none → Said s (x * 10 + y) (i + 1)
    unfolding number_after
    said_more n = record { small = n; rest = f.rest ∙ rw (drop-cons s i 0 h) (simp (d, ← e, lt-ltb (x * 10 + y) none n, add-one i)) }

-- ---- no leading zero

pub no_number : (s : List ℕ) → length s ≡ 0 → none ≡ number_of s
unfolding number_of
no_number [] e = refl
no_number (x ∷ s) e = absurd (omega arith)

pub leading_zero : (s : List ℕ) → get_or s 0 0 ≡ 48 → (length s ≡ 1 → ⊥) → none ≡ number_of s
unfolding number_of
leading_zero [] e m = refl
leading_zero (x ∷ s) e m = rw (eq-eqb x 48 e, ne_eqb (length s) 0 (λ z. m (ap suc z)))

pub number_zero : (s : List ℕ) → length s ≡ 1 → number_after 0 s ≡ number_of s
unfolding number_of
number_zero [] e = absurd (omega arith)
number_zero (x ∷ s) e =
    let z : length s ≡ 0 = omega arith in
    rw (eq-eqb (length s) 0 z, and-false (eqb x 48))

pub number_other : (s : List ℕ) → (length s ≡ 0 → ⊥) → (get_or s 0 0 ≡ 48 → ⊥) → number_after 0 s ≡ number_of s
unfolding number_of
number_other [] n e = absurd (n refl)
number_other (x ∷ s) n e = rw (ne_eqb x 48 e)

-- what `number` answers, by its tests
pub ruleset number_tests = (no_number, leading_zero, number_zero, number_other)
