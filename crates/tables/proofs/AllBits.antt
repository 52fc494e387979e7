-- Byte by byte is bit by bit: a word's bytes match a header's bytes exactly when the word of all their bits, read as one
-- number, matches the header's number; and they match their own value exactly when that word is well formed.
-- Assumes nothing.
use mathlib.Core.Bool.{Bool, true, ◌&&◌}
use mathlib.Core.List.{List, [], ◌∷◌}
use mathlib.Core.Path.{◌≡◌, refl, sym, ap, ◌∙◌}
use Prim.Native.Nat.{ℕ, suc, ◌+◌, ◌*◌, ◌^◌, ◌<◌}
use native.Mathlib.Nat.{mul-le-mul_right}
use native.Mathlib.Omega.{arith}
use lib.Bits.{bit_and}
use lib.ListN.{length}
use lib.Pow.{pow-add}
use borrow.Author.Tests.{eq-eqb, eqb-true}
use Rattle.blocks.proofs.Agreement.{and_formed, and_match, formed_and, match_and}
use Rattle.blocks.specs.Tests.{matches?}
use Rattle.blocks.specs.Words.{Formed, Matches, word}
use Rattle.fields.specs.Bytes.{Bytes}
use Rattle.tables.proofs.Parts.{match_parts}
use Rattle.tables.specs.Looking.{bytes_match}
use Rattle.tables.specs.Meaning.{number}

rest_bytes : (x : ℕ) (xs : List ℕ) → Bytes (x ∷ xs) → Bytes xs
rest_bytes x xs b i = b (suc i)

number_small : (xs : List ℕ) → Bytes xs → number xs < 2 ^ (8 * length xs)
unfolding number
number_small [] b = omega arith
number_small (x ∷ xs) b =
    let k = 8 * length xs in
    let e : 8 * suc (length xs) ≡ 8 + k = omega arith in
    rw e (omega (arith, pow-add 2 8 k, mul-le-mul_right (2 ^ k) (b 0), number_small xs (rest_bytes x xs b)))

match_number : (v m x : List ℕ) → length m ≡ length v → length x ≡ length v → Bytes v → Bytes m → Bytes x
    → bytes_match v m x ≡ matches? (word (number v) (number m)) (number x)
unfolding bytes_match number
match_number [] [] [] lm lx bv bm bx = refl
match_number [] [] (x ∷ xs) lm lx bv bm bx = absurd (omega arith)
match_number [] (m ∷ ms) x lm lx bv bm bx = absurd (omega arith)
match_number (v ∷ vs) [] x lm lx bv bm bx = absurd (omega arith)
match_number (v ∷ vs) (m ∷ ms) [] lm lx bv bm bx = absurd (omega arith)
match_number (v ∷ vs) (m ∷ ms) (x ∷ xs) lm lx bv bm bx =
    let em : length ms ≡ length vs = omega arith in
    let ex : length xs ≡ length vs = omega arith in
    let cv = rest_bytes v vs bv in
    let cm = rest_bytes m ms bm in
    let cx = rest_bytes x xs bx in
    let sm : number ms < 2 ^ (8 * length vs) = rw em at (number_small ms cm) in
    let sx : number xs < 2 ^ (8 * length vs) = rw ex at (number_small xs cx) in
    rw (em, ex)
    (ap (λ (b : Bool). matches? (word v m) x && b) (match_number vs ms xs em ex cv cm cx)
    ∙ sym (match_parts (8 * length vs) v (number vs) m (number ms) x (number xs) (number_small vs cv) sm sx))

-- ---- a word that matches its own value is well formed, and no other is

module _ (v m : List ℕ) (lm : length m ≡ length v) (bv : Bytes v) (bm : Bytes m) where
  own : bytes_match v m v ≡ true → bit_and (number v) (number m) ≡ number v
  own e = eqb-true (bit_and (number v) (number m)) (number v) (sym (match_number v m v lm refl bv bm bv) ∙ e)

  pub formed_bits : bytes_match v m v ≡ true → Formed (8 * length v) (word (number v) (number m))
  formed_bits e = and_formed (8 * length v) (word (number v) (number m)) (own e) (number_small v bv) (rw lm at (number_small m bm))

  pub bits_formed : Formed (8 * length v) (word (number v) (number m)) → bytes_match v m v ≡ true
  bits_formed f =
      match_number v m v lm refl bv bm bv
      ∙ eq-eqb (bit_and (number v) (number m)) (number v) (formed_and (8 * length v) (word (number v) (number m)) f)

-- ---- what a well-formed word matches

module _ (v m x : List ℕ) (lm : length m ≡ length v) (lx : length x ≡ length v) (bv : Bytes v) (bm : Bytes m) (bx : Bytes x)
    (formed : bytes_match v m v ≡ true) where
  pub bytes_bits : bytes_match v m x ≡ true → Matches (word (number v) (number m)) (number x)
  bytes_bits e =
      and_match (word (number v) (number m)) (number x)
      (eqb-true (bit_and (number x) (number m)) (number v) (sym (match_number v m x lm lx bv bm bx) ∙ e) ∙ sym (own v m lm bv bm formed))

  pub bits_bytes : Matches (word (number v) (number m)) (number x) → bytes_match v m x ≡ true
  bits_bytes a =
      match_number v m x lm lx bv bm bx
      ∙ eq-eqb (bit_and (number x) (number m)) (number v) (match_and (word (number v) (number m)) (number x) a ∙ own v m lm bv bm formed)
