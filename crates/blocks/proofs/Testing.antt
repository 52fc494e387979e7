-- The tests of a word say what the definitions say: well formed, and some word of a list matches. Assumes nothing.
use mathlib.Core.Path.{◌≡◌, refl}
use mathlib.Core.Bool.{Bool, true, false, ◌&&◌, ◌||◌, false≢true, and-eq-true_iff, or-true}
use mathlib.Core.List.Memᴰ
use mathlib.Core.List.{List, [], ◌∷◌}
use mathlib.Core.Logic.{inl, inr}
use Prim.Native.Nat.{ℕ, ◌^◌}
use lib.Bits.{bit_and}
use lib.Dec.{eqb, ltb}
use borrow.Author.Tests.{lt-ltb, ltb-true, eq-eqb, eqb-true}
use Rattle.blocks.specs.Tests.{formed?, matches?, some?}
use Rattle.blocks.specs.Words.{AllFormed, Formed, Some}
use Rattle.blocks.specs.declared.Word.{Word}
use Rattle.blocks.proofs.Agreement.{formed_and, and_formed, match_value, value_match}

module _ (n : ℕ) (w : Word) where
  pub formed_test : formed? n w ≡ true → Formed n w
  formed_test e =
      let v = ltb w.value (2 ^ n) in
      let m = ltb w.mask (2 ^ n) in
      let a = (and-eq-true_iff (v && m) (eqb (bit_and w.value w.mask) w.value)).0 e in
      let b = (and-eq-true_iff v m).0 a.0 in
      and_formed n w (eqb-true (bit_and w.value w.mask) w.value a.1) (ltb-true w.value (2 ^ n) b.0) (ltb-true w.mask (2 ^ n) b.1)

  pub test_formed : Formed n w → formed? n w ≡ true
  test_formed f =
      rw
      (lt-ltb w.value (2 ^ n) f.value_fits, lt-ltb w.mask (2 ^ n) f.mask_fits, eq-eqb (bit_and w.value w.mask) w.value (formed_and n w f))

pub some_test : (n : ℕ) (ws : List Word) (x : ℕ) → AllFormed n ws → some? ws x ≡ true → Some ws x
unfolding some?
some_test n [] x f e = absurd (false≢true e)
some_test n (w ∷ ws) x f e = go (matches? w x) refl e (some_test n ws x (λ v m. f v (Memᴰ.tail m)))
  where
    go : (b : Bool) → matches? w x ≡ b → (b || some? ws x) ≡ true → (some? ws x ≡ true → Some ws x) → Some (w ∷ ws) x
    go true p q r = inl (value_match n w x (f w (Memᴰ.head refl)) (eqb-true (bit_and x w.mask) w.value p))
    go false p q r = inr (r q)

pub test_some : (n : ℕ) (ws : List Word) (x : ℕ) → AllFormed n ws → Some ws x → some? ws x ≡ true
unfolding some?
test_some n [] x f s = absurd s
test_some n (w ∷ ws) x f (inl m) = rw (eq-eqb (bit_and x w.mask) w.value (match_value n w x (f w (Memᴰ.head refl)) m), some?)
test_some n (w ∷ ws) x f (inr s) = rw (test_some n ws x (λ v m. f v (Memᴰ.tail m)) s, some?) (or-true (matches? w x))
