-- The prefix word of an aligned block matches the block and nothing else. Assumes nothing.
use mathlib.Core.Path.{◌≡◌, sym, ap, ◌∙◌}
use Prim.Native.Nat.{ℕ, ◌+◌, ◌-◌, ◌*◌, ◌/◌, ◌%◌, ◌^◌, ◌≤◌, ◌<◌}
use native.Mathlib.Omega.{arith}
use native.Mathlib.Nat.{div-add-mod', mod-lt}
use lib.Arith.{digits_mod}
use lib.Pow.{pow_pos, shr_mod}
use lib.Bits.{bit_and, and_high}
use Rattle.bits.specs.Masks.{mask_of}
use Rattle.blocks.specs.Words.{word, Matches, Formed, Prefix}
use Rattle.blocks.specs.declared.Word.{Word}
use Rattle.blocks.proofs.Agreement.{match_and, and_match, formed_and, and_formed}

-- the mask of k free bits keeps what stands above them
pub mask_keeps : (n k x : ℕ) → k ≤ n → x < 2 ^ n → bit_and x (mask_of n k) ≡ x / 2 ^ k * 2 ^ k
mask_keeps n k x h f =
    let e : n ≡ (n - k) + k = omega arith in
    ap (λ (y : ℕ). bit_and x (2 ^ y - 2 ^ k)) e ∙ and_high x (n - k) k ∙ ap (λ (y : ℕ). y * 2 ^ k) (shr_mod (n - k) k (rw e at f))

module _ (n k v x : ℕ) (h : k ≤ n) (fv : v < 2 ^ n) (fx : x < 2 ^ n) (a : v % 2 ^ k ≡ 0) where
  pub match_block : Matches (word v (mask_of n k)) x → (v ≤ x) × (x < v + 2 ^ k)
  match_block m =
      let e : x / 2 ^ k * 2 ^ k ≡ v / 2 ^ k * 2 ^ k = sym (mask_keeps n k x h fx) ∙ match_and (word v (mask_of n k)) x m ∙ mask_keeps n k v h fv in
      let dx = div-add-mod' x (2 ^ k) in
      let dv = div-add-mod' v (2 ^ k) in
      let r = mod-lt x (pow_pos k) in
      (omega arith, omega arith)

  pub block_match : v ≤ x → x < v + 2 ^ k → Matches (word v (mask_of n k)) x
  block_match p q =
      let dx = div-add-mod' x (2 ^ k) in
      let dv = div-add-mod' v (2 ^ k) in
      let s : v / 2 ^ k * 2 ^ k + (x - v) ≡ x = omega arith in
      let z : x % 2 ^ k ≡ x - v = sym (ap (λ (y : ℕ). y % 2 ^ k) s) ∙ digits_mod (v / 2 ^ k) (omega arith) in
      let e : x / 2 ^ k * 2 ^ k ≡ v / 2 ^ k * 2 ^ k = omega arith in
      and_match (word v (mask_of n k)) x (mask_keeps n k x h fx ∙ e ∙ sym (mask_keeps n k v h fv))

module _ (n k v : ℕ) (h : k ≤ n) (f : v < 2 ^ n) (a : v % 2 ^ k ≡ 0) where
  pub prefix_formed : Formed n (word v (mask_of n k))
  prefix_formed =
      and_formed n (word v (mask_of n k)) (mask_keeps n k v h f ∙ omega (arith, div-add-mod' v (2 ^ k))) f (omega (arith, pow_pos k, pow_pos n))

  pub prefix_of_lem : Prefix n (word v (mask_of n k))
  prefix_of_lem = record { leading = n - k; short = omega arith; masked = ap (mask_of n) (omega arith); formed = prefix_formed }

-- every prefix word is that of an aligned block
pub prefix_block : (n : ℕ) (w : Word) (p : Prefix n w) → (w ≡ word w.value (mask_of n (n - p.leading))) × (w.value % 2 ^ (n - p.leading) ≡ 0)
prefix_block n w p =
    let k = n - p.leading in
    let e : w.value / 2 ^ k * 2 ^ k ≡ w.value =
    sym (mask_keeps n k w.value (omega arith) p.formed.value_fits) ∙ ap (bit_and w.value) (sym p.masked) ∙ formed_and n w p.formed in
    (ap (word w.value) p.masked, omega (arith, div-add-mod' w.value (2 ^ k)))
