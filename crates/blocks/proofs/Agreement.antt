-- To agree at every 1 of the mask is to be equal under `&` with it. Assumes nothing.
use mathlib.Core.Path.{◌≡◌, sym, ap, ◌∙◌}
use mathlib.Core.Logic.{◌⊎◌, inl, inr}
use Prim.Native.Nat.{ℕ, suc, ◌+◌, ◌/◌, ◌%◌, ◌^◌, ◌≤◌, ◌<◌, min}
use native.Mathlib.Omega.{arith}
use native.Mathlib.Nat.{div-one}
use native.Mathlib.Numerals.{one-add}
use lib.Arith.{bin_ind}
use lib.Pow.{shr-shr}
use lib.Bits.{bit_and, and_step, and_shr}
use Rattle.bits.specs.Digits.{bit}
use Rattle.bits.proofs.Orders.{le_or_lt}
use Rattle.blocks.specs.Words.{Matches, Formed}
use Rattle.blocks.specs.declared.Word.{Word}

-- ---- bits

half_bit : (i x : ℕ) → bit i (x / 2) ≡ bit (suc i) x
half_bit i x = ap (λ (y : ℕ). y % 2) (shr-shr x 1 i ∙ ap (λ (n : ℕ). x / 2 ^ n) (one-add i))

low_bit : (x : ℕ) → bit 0 x ≡ x % 2
low_bit x = ap (λ (y : ℕ). y % 2) (div-one x)

-- numbers with the same bits are equal
same_bits : (a b : ℕ) → ((i : ℕ) → bit i a ≡ bit i b) → a ≡ b
same_bits a b =
    bin_ind (λ (n : ℕ). (a b : ℕ) → a + b ≤ n → ((i : ℕ) → bit i a ≡ bit i b) → a ≡ b) (λ a b h s. omega arith) step (a + b) a b (omega arith)
  where
    step : (n : ℕ) → ((a b : ℕ) → a + b ≤ n / 2 → ((i : ℕ) → bit i a ≡ bit i b) → a ≡ b)
        → (a b : ℕ) → a + b ≤ n → ((i : ℕ) → bit i a ≡ bit i b) → a ≡ b
    step n ih a b h s =
        let low : a % 2 ≡ b % 2 = sym (low_bit a) ∙ s 0 ∙ low_bit b in
        omega (arith, ih (a / 2) (b / 2) (omega arith) (λ (i : ℕ). half_bit i a ∙ s (suc i) ∙ sym (half_bit i b)))

bit_and_lem : (x m i : ℕ) → bit i (bit_and x m) ≡ min (bit i x) (bit i m)
bit_and_lem x m i = ap (λ (z : ℕ). z % 2) (and_shr x m i) ∙ omega (arith, and_step (x / 2 ^ i) (m / 2 ^ i))

-- ---- what a word matches

module _ (w : Word) (x : ℕ) where
  pub match_and : Matches w x → bit_and x w.mask ≡ bit_and w.value w.mask
  match_and a =
      same_bits (bit_and x w.mask) (bit_and w.value w.mask)
      (λ (i : ℕ). bit_and_lem x w.mask i ∙ go i (le_or_lt (bit i w.mask) 0) ∙ sym (bit_and_lem w.value w.mask i))
    where
      go : (i : ℕ) → (bit i w.mask ≤ 0) ⊎ (0 < bit i w.mask) → min (bit i x) (bit i w.mask) ≡ min (bit i w.value) (bit i w.mask)
      go i (inl z) = omega arith
      go i (inr o) = ap (λ (y : ℕ). min y (bit i w.mask)) (a i (omega arith))

  pub and_match : bit_and x w.mask ≡ bit_and w.value w.mask → Matches w x
  and_match e i o = omega (arith, sym (bit_and_lem x w.mask i) ∙ ap (bit i) e ∙ bit_and_lem w.value w.mask i)

-- ---- well-formed words

module _ (n : ℕ) (w : Word) where
  pub formed_and : Formed n w → bit_and w.value w.mask ≡ w.value
  formed_and f = same_bits (bit_and w.value w.mask) w.value (λ (i : ℕ). bit_and_lem w.value w.mask i ∙ go i (le_or_lt (bit i w.mask) 0))
    where
      go : (i : ℕ) → (bit i w.mask ≤ 0) ⊎ (0 < bit i w.mask) → min (bit i w.value) (bit i w.mask) ≡ bit i w.value
      go i (inl z) = omega (arith, f.clear i (omega arith))
      go i (inr o) = omega arith

  pub and_formed : bit_and w.value w.mask ≡ w.value → w.value < 2 ^ n → w.mask < 2 ^ n → Formed n w
  and_formed e v m = record {
    clear = λ (i : ℕ) (z : bit i w.mask ≡ 0). omega (arith, sym (ap (bit i) e) ∙ bit_and_lem w.value w.mask i);
    value_fits = v;
    mask_fits = m;
  }

  pub match_value : (x : ℕ) → Formed n w → Matches w x → bit_and x w.mask ≡ w.value
  match_value x f a = match_and w x a ∙ formed_and f

  pub value_match : (x : ℕ) → Formed n w → bit_and x w.mask ≡ w.value → Matches w x
  value_match x f e = and_match w x (e ∙ sym (formed_and f))
