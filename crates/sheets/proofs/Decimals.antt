-- A text says a number exactly where it is the digits of that number. Assumes nothing.
use mathlib.Core.Bool.{Bool, true, false, ◌&&◌}
use mathlib.Core.List.{List, [], ◌∷◌, ◌++◌, append_assoc, append-nil}
use mathlib.Core.Logic.{◌⊎◌, inl, inr}
use mathlib.Core.Path.{◌≡◌, refl, sym, ap, ap₂, subst, ◌∙◌}
use Prim.Native.Nat.{ℕ, zero, suc, ◌+◌, ◌-◌, ◌*◌, ◌/◌, ◌%◌, ◌^◌, ◌≤◌, ◌<◌}
use native.Mathlib.Omega.{arith}
use lib.Dec.{eqb, eqb-suc-zero, leb, ltb}
use lib.ListN.{get_or, length}
use borrow.Author.Tests.{eqb-true, eqb-false, ne_eqb, le-leb, le-ltb, leb-true, lt-ltb, ltb-true}
use Rattle.bits.proofs.Orders.{le_or_lt}
use Rattle.std.specs.Prelude.{if◌then◌else◌}
use Rattle.sheets.specs.Cuts.{times}
use Rattle.sheets.specs.Numbers.{digit?, none, number_after, number_of}
use Rattle.texts.proofs.Digits.{decimal_last, decimal_more, digits_last, digits_more}
use Rattle.texts.specs.Decimal.{decimal, digits_of}
use Rattle.sheets.proofs.Marks.{times_append}

-- ---- the digits of a number

-- the first of them
first_more : (s t : List ℕ) → 48 < get_or s 0 0 → 48 < get_or (s ++ t) 0 0
first_more [] t h = absurd (omega arith)
first_more (x ∷ s) t h = h

first_digit : (f x : ℕ) → 0 < x → x < 10 ^ f → 48 < get_or (digits_of f x) 0 0
first_digit zero x p h = absurd (omega arith)
first_digit (suc f) x p h = go (le_or_lt 10 x) (first_digit f (x / 10))
  where
    go : (10 ≤ x) ⊎ (x < 10) → (0 < x / 10 → x / 10 < 10 ^ f → 48 < get_or (digits_of f (x / 10)) 0 0) → 48 < get_or (digits_of (suc f) x) 0 0
    go (inl m) r = rw (digits_more f x m) (first_more (digits_of f (x / 10)) ((48 + x % 10) ∷ []) (r (omega arith) (omega arith)))
    go (inr m) r = rw (digits_last f x m) (omega arith)

module _ (c : ℕ) (low : c < 48) where
  digits_without : (f x : ℕ) → times c (digits_of f x) ≡ 0
  unfolding times digits_of
  digits_without zero x = refl
  digits_without (suc f) x = go (le_or_lt 10 x) (digits_without f (x / 10))
    where
      last : times c ((48 + x % 10) ∷ []) ≡ 0
      last = rw (ne_eqb (48 + x % 10) c (λ (e : 48 + x % 10 ≡ c). omega arith))

      go : (10 ≤ x) ⊎ (x < 10) → times c (digits_of f (x / 10)) ≡ 0 → times c (digits_of (suc f) x) ≡ 0
      go (inl m) r =
          ap (times c) (digits_more f x m)
          ∙ times_append c (digits_of f (x / 10)) ((48 + x % 10) ∷ [])
          ∙ omega (arith, last)
      go (inr m) r = ap (times c) (digits_last f x m) ∙ last

  -- a mark below the digits is none of them
  pub decimal_without : (x : ℕ) → times c (decimal x) ≡ 0
  decimal_without x = digits_without 5 x

-- ---- what digits say

number_next : (x c : ℕ) (s : List ℕ) → 48 ≤ c → c ≤ 57 → x * 10 + (c - 48) < none → number_after x (c ∷ s) ≡ number_after (x * 10 + (c - 48)) s
unfolding number_after
number_next x c s l h y = rw (le-leb 48 c l, le-leb c 57 h, lt-ltb (x * 10 + (c - 48)) none y)

number_none : (s : List ℕ) → number_after none s ≡ none
unfolding number_after
number_none [] = refl
number_none (c ∷ s) = go (digit? c)
  where
    go : (b : Bool) → (if b && ltb (none * 10 + (c - 48)) none then number_after (none * 10 + (c - 48)) s else none) ≡ none
    go true = rw (le-ltb (none * 10 + (c - 48)) none (omega arith))
    go false = refl

number_append : (x : ℕ) (s t : List ℕ) → number_after x (s ++ t) ≡ number_after (number_after x s) t
unfolding number_after
number_append x [] t = refl
number_append x (c ∷ s) t = go (digit? c && ltb (x * 10 + (c - 48)) none) (number_append (x * 10 + (c - 48)) s t)
  where
    go : (b : Bool) {k : ℕ} → k ≡ number_after (number_after (x * 10 + (c - 48)) s) t
        → (if b then k else none) ≡ number_after (if b then number_after (x * 10 + (c - 48)) s else none) t
    go true e = e
    go false e = sym (number_none t)

number_digits : (f x : ℕ) → x < 10 ^ f → x < none → number_after 0 (digits_of f x) ≡ x
unfolding number_after digits_of
number_digits zero x h l = omega arith
number_digits (suc f) x h l = go (le_or_lt 10 x) (number_digits f (x / 10))
  where
    go : (10 ≤ x) ⊎ (x < 10) → (x / 10 < 10 ^ f → x / 10 < none → number_after 0 (digits_of f (x / 10)) ≡ x / 10) → number_after 0 (digits_of (suc f) x) ≡ x
    go (inl m) r =
        ap (number_after 0) (digits_more f x m)
        ∙ number_append 0 (digits_of f (x / 10)) ((48 + x % 10) ∷ [])
        ∙ ap (λ (y : ℕ). number_after y ((48 + x % 10) ∷ [])) (r (omega arith) (omega arith))
        ∙ number_next (x / 10) (48 + x % 10) [] (omega arith) (omega arith) (omega arith)
        ∙ omega arith
    go (inr m) r =
        ap (number_after 0) (digits_last f x m)
        ∙ number_next 0 (48 + x % 10) [] (omega arith) (omega arith) (omega arith)
        ∙ omega arith

-- a text that does not begin with 0
number_plain : (c : ℕ) (s : List ℕ) → (c ≡ 48 → ⊥) → number_of (c ∷ s) ≡ number_after 0 (c ∷ s)
unfolding number_of
number_plain c s h = rw (ne_eqb c 48 h)

number_first : (s : List ℕ) → 48 < get_or s 0 0 → number_of s ≡ number_after 0 s
number_first [] h = absurd (omega arith)
number_first (c ∷ s) h = number_plain c s (λ (e : c ≡ 48). omega arith)

pub number_decimal : (x : ℕ) → x < 65536 → number_of (decimal x) ≡ x
unfolding number_of number_after digits_of
number_decimal zero h = refl
number_decimal (suc x) h =
    number_first (decimal (suc x)) (first_digit 5 (suc x) (omega arith) (omega arith))
    ∙ number_digits 5 (suc x) (omega arith) h

-- ---- the text of what digits say

-- one digit more
decimal_next : (x d : ℕ) → 0 < x → d < 10 → x * 10 + d < 65536 → decimal (x * 10 + d) ≡ decimal x ++ ((48 + d) ∷ [])
decimal_next x d p h l =
    let q : (x * 10 + d) / 10 ≡ x = omega arith in
    let m : (x * 10 + d) % 10 ≡ d = omega arith in
    decimal_more (x * 10 + d) (omega arith) (omega arith) ∙ ap₂ (λ (y z : ℕ). decimal y ++ ((48 + z) ∷ [])) q m

-- c is a digit after which the number stays in range
record Taken (x c : ℕ) (s : List ℕ) : Type 0 where
  pub low : 48 ≤ c
  pub high : c ≤ 57
  pub range : x * 10 + (c - 48) < 65536
  pub rest : number_after x (c ∷ s) ≡ number_after (x * 10 + (c - 48)) s

taken : (x c : ℕ) (s : List ℕ) → number_after x (c ∷ s) < 65536 → Taken x c s
unfolding number_after
taken x c s h = go (leb 48 c) (leb c 57) (ltb (x * 10 + (c - 48)) none) refl refl refl h
  where
    go : (a b d : Bool) → leb 48 c ≡ a → leb c 57 ≡ b → ltb (x * 10 + (c - 48)) none ≡ d
        → (if (a && b) && d then number_after (x * 10 + (c - 48)) s else none) < 65536 → Taken x c s
    go true true true p q r w = record {
      low = leb-true 48 c p;
      high = leb-true c 57 q;
      range = ltb-true (x * 10 + (c - 48)) none r;
      rest = rw (p, q, r);
    }
    go true true false p q r w = absurd (omega arith)
    go true false d p q r w = absurd (omega arith)
    go false b d p q r w = absurd (omega arith)

decimal_after : (x : ℕ) (s : List ℕ) → 0 < x → number_after x s < 65536 → decimal (number_after x s) ≡ decimal x ++ s
unfolding number_after
decimal_after x [] p h = sym (append-nil (decimal x))
decimal_after x (c ∷ s) p h =
    let t = taken x c s h in
    let e : 48 + (c - 48) ≡ c = omega arith in
    ap decimal t.rest
    ∙ decimal_after (x * 10 + (c - 48)) s (omega arith) (omega arith)
    ∙ ap (λ (l : List ℕ). l ++ s) (decimal_next x (c - 48) p (omega arith) t.range)
    ∙ append_assoc (decimal x) ((48 + (c - 48)) ∷ []) s
    ∙ ap (λ (y : ℕ). decimal x ++ (y ∷ s)) e

decimal_zero : (s : List ℕ) → number_of (48 ∷ s) < 65536 → 48 ∷ s ≡ decimal (number_of (48 ∷ s))
unfolding number_of number_after digits_of
decimal_zero [] h = refl
decimal_zero (d ∷ s) h = absurd (omega (arith, rw (eqb-suc-zero (length s)) at h))

decimal_plain : (c : ℕ) (s : List ℕ) → (c ≡ 48 → ⊥) → number_after 0 (c ∷ s) < 65536 → c ∷ s ≡ decimal (number_after 0 (c ∷ s))
decimal_plain c s n h =
    let t = taken 0 c s h in
    let p : 0 < c - 48 = go (le_or_lt c 48) t.low in
    let e : 48 + (0 * 10 + (c - 48)) % 10 ≡ c = omega arith in
    sym (ap decimal t.rest
    ∙ decimal_after (0 * 10 + (c - 48)) s (omega arith) (omega arith)
    ∙ ap (λ (l : List ℕ). l ++ s) (decimal_last (0 * 10 + (c - 48)) (omega arith))
    ∙ ap (λ (y : ℕ). y ∷ s) e)
  where
    go : (c ≤ 48) ⊎ (48 < c) → 48 ≤ c → 0 < c - 48
    go (inl a) b = absurd (n (omega arith))
    go (inr a) b = omega arith

pub decimal_number : (s : List ℕ) → number_of s < 65536 → s ≡ decimal (number_of s)
unfolding number_of
decimal_number [] h = absurd (omega arith)
decimal_number (c ∷ s) h = go (eqb c 48) refl
  where
    go : (b : Bool) → eqb c 48 ≡ b → c ∷ s ≡ decimal (number_of (c ∷ s))
    go true z =
        let e : c ∷ s ≡ 48 ∷ s = ap (λ (y : ℕ). y ∷ s) (eqb-true c 48 z) in
        e ∙ decimal_zero s (subst (λ (l : List ℕ). number_of l < 65536) e h) ∙ ap (λ (l : List ℕ). decimal (number_of l)) (sym e)
    go false z = let e = number_plain c s (eqb-false c 48 z) in decimal_plain c s (eqb-false c 48 z) (omega arith) ∙ ap decimal (sym e)
