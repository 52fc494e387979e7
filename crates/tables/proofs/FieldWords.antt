-- What the words of each of a rule's fields match: together what the field matches, each its own value, and no two port words the
-- same port. Assumes nothing.
use mathlib.Core.Bool.{Bool, true, false, ◌||◌, and-eq-true_iff, and-true}
use mathlib.Core.List.Memᴰ
use mathlib.Core.List.{List, [], ◌∷◌}
use mathlib.Core.Path.{◌≡◌, refl, sym, ap, ap₂, ◌∙◌, subst}
use Prim.Native.Nat.{ℕ, ◌+◌, ◌-◌, ◌*◌, ◌/◌, ◌%◌, ◌^◌, ◌<◌}
use native.Mathlib.Nat.{add-zero, div-add-mod', mod-eq_of_lt}
use native.Mathlib.Omega.{arith}
use lib.Bits.{bit_and, and_mask, and_zero_r}
use lib.Dec.{eqb, leb}
use lib.Pow.{pow_pos}
use borrow.Author.Tests.{eq-eqb, eqb-true, le-leb, leb-true}
use Rattle.blocks.proofs.Agreement.{value_match}
use Rattle.blocks.proofs.Covers.{disjoint, exact}
use Rattle.blocks.proofs.Matching.{mask_keeps, prefix_formed}
use Rattle.blocks.proofs.Members.{tiles_list}
use Rattle.blocks.proofs.Testing.{some_test, test_some}
use Rattle.blocks.specs.Blocks.{blocks_of, prefix_of, words_of}
use Rattle.blocks.specs.Tests.{matches?, some?}
use Rattle.blocks.specs.Words.{AllFormed, Disjoint, Formed}
use Rattle.blocks.specs.declared.Word.{Word}
use Rattle.entries.specs.Words.{addr_word, proto_word, proto_words}
use Rattle.records.specs.declared.Rule.{Rule}
use Rattle.records.specs.Prefixes.{addr_match}
use Rattle.rules.specs.Meaning.{port_match, proto_match}
use Rattle.tables.specs.Meaning.{AtMostOne, any}
use Rattle.tables.proofs.Any.{Passes, one_passes}
use Rattle.tables.proofs.Parts.{equal_parts, same_test}

-- the word matches x
abbrev pub hit : ℕ → Word → Bool
hit x w = matches? w x

-- ---- the protocol

module _ (r : Rule) where
  proto_hit : (x : ℕ) → x < 2 ^ 8 → hit x (proto_word r) ≡ proto_match r x
  unfolding proto_word
  proto_hit x h = go (eqb r.flag 1) refl
    where
      go : (b : Bool) → eqb r.flag 1 ≡ b → hit x (proto_word r) ≡ proto_match r x
      go true e = rw (e, proto_word) (eq-eqb (bit_and x 0) 0 (and_zero_r x))
      go false e = rw (e, proto_word) (ap (λ (y : ℕ). eqb y r.proto) (and_mask x 8 ∙ mod-eq_of_lt h))

  pub proto_passes : (x : ℕ) → x < 2 ^ 8 → Passes (hit x) (proto_words r) (proto_match r x)
  unfolding proto_words
  proto_passes x h = rw (← proto_hit x h) (one_passes (hit x) (proto_word r))

  pub proto_own : r.proto < 2 ^ 8 → hit (proto_word r).value (proto_word r) ≡ true
  unfolding proto_word
  proto_own h = go (eqb r.flag 1) refl
    where
      go : (b : Bool) → eqb r.flag 1 ≡ b → hit (proto_word r).value (proto_word r) ≡ true
      go true e = rw (e, proto_word) refl
      go false e = rw (e, proto_word) (eq-eqb (bit_and r.proto 255) r.proto (and_mask r.proto 8 ∙ mod-eq_of_lt h))

-- ---- an address

eqb_scaled : (k a b : ℕ) → eqb (a * 2 ^ k) (b * 2 ^ k) ≡ eqb a b
eqb_scaled k a b = (simp add-zero at (equal_parts k a 0 b 0 (pow_pos k) (pow_pos k))) ∙ and-true (eqb a b)

pub addr_hit : (a len x : ℕ) → a % 2 ^ (32 - len) ≡ 0 → x < 2 ^ 32 → hit x (addr_word a len) ≡ addr_match a len x
addr_hit a len x z h =
    let k = 32 - len in
    let e : a ≡ a / 2 ^ k * 2 ^ k = omega (arith, div-add-mod' a (2 ^ k)) in
    ap₂ eqb (mask_keeps 32 k x (omega arith) h) e ∙ eqb_scaled k (x / 2 ^ k) (a / 2 ^ k)

pub addr_own : (a len : ℕ) → a % 2 ^ (32 - len) ≡ 0 → a < 2 ^ 32 → hit a (addr_word a len) ≡ true
addr_own a len z h = addr_hit a len a z h ∙ eq-eqb (a / 2 ^ (32 - len)) (a / 2 ^ (32 - len)) refl

-- ---- ports: the words of an interval

any_some : (ws : List Word) (x : ℕ) → any (hit x) ws ≡ some? ws x
unfolding any some?
any_some [] x = refl
any_some (w ∷ ws) x = ap (λ (b : Bool). hit x w || b) (any_some ws x)

disjoint_once : (n x : ℕ) → x < 2 ^ n → (ws : List Word) → AllFormed n ws → Disjoint n ws → AtMostOne (hit x) ws
disjoint_once n x h [] f d = tt
disjoint_once n x h (w ∷ ws) f d =
    let g : AllFormed n ws = λ v m. f v (Memᴰ.tail m) in (
      λ p q. d.0 x h (value_match n w x (f w (Memᴰ.head refl)) (eqb-true (bit_and x w.mask) w.value p))
          (some_test n ws x g (sym (any_some ws x) ∙ q)),
      disjoint_once n x h ws g d.1,
    )

module _ (n low high : ℕ) (fits : high < 2 ^ n) where
  pub words_formed : AllFormed n (words_of n low high)
  words_formed w m =
      let s = Memᴰ.of_map (prefix_of n) (blocks_of n low high) m in
      let b = s.0 in
      let l = (tiles_list n low (high + 1) (omega arith)).only b s.1 in
      subst (Formed n) s.2 (prefix_formed n b.free b.from l.wide (omega (arith, l.inside.end_in, pow_pos b.free)) l.aligned)

  module _ (x : ℕ) (small : x < 2 ^ n) where
    some_port : some? (words_of n low high) x ≡ port_match low high x
    some_port = same_test inside found
      where
        inside : some? (words_of n low high) x ≡ true → port_match low high x ≡ true
        inside e =
            let i = (exact n low high fits).within x small (some_test n (words_of n low high) x words_formed e) in
            rw (le-leb low x i.0, le-leb x high i.1)

        found : port_match low high x ≡ true → some? (words_of n low high) x ≡ true
        found e =
            let i = (and-eq-true_iff (leb low x) (leb x high)).0 e in
            test_some n (words_of n low high) x words_formed ((exact n low high fits).covers x (leb-true low x i.0) (leb-true x high i.1))

    pub port_passes : Passes (hit x) (words_of n low high) (port_match low high x)
    port_passes = record {
      some = any_some (words_of n low high) x ∙ some_port;
      once = disjoint_once n x small (words_of n low high) words_formed (disjoint n low high fits);
    }
