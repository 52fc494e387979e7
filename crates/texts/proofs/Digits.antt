-- The digits of a number: how many they are, that they are its text in Rust, and that the last one goes behind those of a tenth
-- of it. Assumes nothing.
use mathlib.Core.List.{List, [], ◌∷◌, ◌++◌}
use mathlib.Core.Logic.{inl, inr}
use mathlib.Core.Path.{◌≡◌, sym, ap, ◌∙◌}
use Prim.Native.Nat.{ℕ, zero, suc, ◌+◌, ◌/◌, ◌%◌, ◌≤◌, ◌<◌, ◌^◌}
use native.Mathlib.Nat.{pow-suc}
use native.Mathlib.Omega.{arith}
use borrow.Author.Tests.{le-ltb, lt-ltb}
use lib.ListN.{length}
use Rattle.std.proofs.lemmas.Grind.{common_steps}
use Rattle.std.proofs.lemmas.Fmt.{decimal_digit, decimal_step}
use Rattle.std.specs.Fmt.{decimal as text}
use Rattle.std.proofs.lemmas.Bool.{cases_lt}
use Rattle.texts.specs.Decimal.{decimal, digits_of}

-- ---- one digit, and more

pub digits_last : (f x : ℕ) → x < 10 → digits_of (suc f) x ≡ (48 + x % 10) ∷ []
unfolding digits_of
digits_last f x h = rw (lt-ltb x 10 h)

pub digits_more : (f x : ℕ) → 10 ≤ x → digits_of (suc f) x ≡ digits_of f (x / 10) ++ ((48 + x % 10) ∷ [])
unfolding digits_of
digits_more f x h = rw (le-ltb x 10 h)

-- ---- their number

digits_few : (f x : ℕ) → length (digits_of f x) ≤ f
unfolding digits_of
digits_few zero x = omega arith
digits_few (suc f) x = grind (arith, common_steps, digits_few f (x / 10))

-- ---- the number's text in Rust

digits_one : (f x : ℕ) → x < 10 → text x ≡ digits_of (suc f) x
digits_one f x h = decimal_digit x h ∙ ap (λ (d : ℕ). (48 + d) ∷ []) (omega arith) ∙ sym (digits_last f x h)

-- where so many digits are enough, they are those of the number's text in Rust
digits_same : (f x : ℕ) → x < 10 ^ suc f → x < 2 ^ 64 → text x ≡ digits_of (suc f) x
digits_same zero x h w = digits_one 0 x (omega arith)
digits_same (suc f) x h w =
    elim (cases_lt x 10) [
      | inl l ↦ digits_one (suc f) x l
      | inr m ↦
          decimal_step x m w
          ∙ ap (λ (s : List ℕ). s ++ ((48 + x % 10) ∷ [])) (digits_same f (x / 10) (omega (arith, pow-suc 10 (suc f))) (omega arith))
          ∙ sym (digits_more (suc f) x m)
    ]

-- ---- a number below 100,000

pub decimal_few : (x : ℕ) → length (decimal x) ≤ 5
decimal_few x = digits_few 5 x

-- it is its text in Rust
pub decimal_same : (x : ℕ) → x < 100000 → text x ≡ decimal x
decimal_same x h = digits_same 4 x (omega arith) (omega arith)

pub decimal_last : (x : ℕ) → x < 10 → decimal x ≡ (48 + x % 10) ∷ []
decimal_last x h = digits_last 4 x h

pub decimal_more : (x : ℕ) → 10 ≤ x → x < 100000 → decimal x ≡ decimal (x / 10) ++ ((48 + x % 10) ∷ [])
decimal_more x m h =
    sym (decimal_same x h)
    ∙ decimal_step x m (omega arith)
    ∙ ap (λ (s : List ℕ). s ++ ((48 + x % 10) ∷ [])) (decimal_same (x / 10) (omega arith))
