-- A word matches a number exactly when its high part matches the number's high part and its low part the low part.
-- Assumes nothing.
use mathlib.Core.Bool.{Bool, true, false, ◌&&◌, and_assoc, and-eq-true_iff}
use mathlib.Core.Path.{◌≡◌, refl, sym, ap, ap₂, ◌∙◌}
use Prim.Native.Nat.{ℕ, ◌+◌, ◌*◌, ◌/◌, ◌%◌, ◌^◌, ◌<◌}
use native.Mathlib.Nat.{mod-lt}
use lib.Bits.{bit_and, and_block, and_lt}
use lib.Dec.{eqb}
use lib.Pow.{high, low, pow_pos, split}
use borrow.Author.Tests.{eq-eqb, eqb-true}
use Rattle.blocks.specs.Tests.{matches?}
use Rattle.blocks.specs.Words.{word}

-- tests that hold together are the same test
pub same_test : {a b : Bool} → (a ≡ true → b ≡ true) → (b ≡ true → a ≡ true) → a ≡ b
same_test {a = true} f g = sym (f refl)
same_test {a = false} {b = true} f g = g refl
same_test {a = false} {b = false} f g = refl

pub equal_parts : (k p q r s : ℕ) → q < 2 ^ k → s < 2 ^ k → eqb (p * 2 ^ k + q) (r * 2 ^ k + s) ≡ eqb p r && eqb q s
equal_parts k p q r s hq hs = same_test parts whole
  where
    parts : eqb (p * 2 ^ k + q) (r * 2 ^ k + s) ≡ true → (eqb p r && eqb q s) ≡ true
    parts e =
        let x = eqb-true (p * 2 ^ k + q) (r * 2 ^ k + s) e in
        let y : p ≡ r = sym (high p k hq) ∙ ap (λ (z : ℕ). z / 2 ^ k) x ∙ high r k hs in
        let w : q ≡ s = sym (low p k hq) ∙ ap (λ (z : ℕ). z % 2 ^ k) x ∙ low r k hs in
        rw (eq-eqb p r y, eq-eqb q s w)

    whole : (eqb p r && eqb q s) ≡ true → eqb (p * 2 ^ k + q) (r * 2 ^ k + s) ≡ true
    whole e =
        let x = (and-eq-true_iff (eqb p r) (eqb q s)).0 e in
        eq-eqb (p * 2 ^ k + q) (r * 2 ^ k + s) (ap₂ (λ (y z : ℕ). y * 2 ^ k + z) (eqb-true p r x.0) (eqb-true q s x.1))

-- of numbers that are given by their parts, the low ones of k bits
pub match_parts : (k v w m n x y : ℕ) → w < 2 ^ k → n < 2 ^ k → y < 2 ^ k
    → matches? (word (v * 2 ^ k + w) (m * 2 ^ k + n)) (x * 2 ^ k + y) ≡ matches? (word v m) x && matches? (word w n) y
match_parts k v w m n x y hw hn hy =
    ap (λ (z : ℕ). eqb z (v * 2 ^ k + w)) (and_block k x m y n hy hn) ∙ equal_parts k (bit_and x m) (bit_and y n) v w (and_lt k y n hy hn) hw

-- of any numbers, and then more
pub match_split : (k v m x : ℕ) (b : Bool)
    → matches? (word (v / 2 ^ k) (m / 2 ^ k)) (x / 2 ^ k) && (matches? (word (v % 2 ^ k) (m % 2 ^ k)) (x % 2 ^ k) && b) ≡ matches? (word v m) x && b
match_split k v m x b =
    let lt : (n : ℕ) → n % 2 ^ k < 2 ^ k = λ (n : ℕ). mod-lt n (pow_pos k) in
    let e = match_parts k (v / 2 ^ k) (v % 2 ^ k) (m / 2 ^ k) (m % 2 ^ k) (x / 2 ^ k) (x % 2 ^ k) (lt v) (lt m) (lt x) in
    let f = simp (split x k, split m k, split v k) at e in
    rw (f, and_assoc)
