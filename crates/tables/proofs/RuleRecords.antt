-- Each record of a rule names the rule and its action, and its word is well formed. Assumes nothing.
use mathlib.Core.Bool.{true}
use mathlib.Core.List.{List, [], ◌∷◌, map, Memᴰ}
use mathlib.Core.Logic.{⊎_elim}
use mathlib.Core.Path.{◌≡◌, refl, subst}
use Prim.Native.Nat.{ℕ}
use lib.Bits.{bit_and}
use borrow.Author.Tests.{eq-eqb}
use Rattle.blocks.proofs.Agreement.{formed_and}
use Rattle.blocks.specs.Words.{AllFormed}
use Rattle.blocks.specs.declared.Word.{Word}
use Rattle.entries.specs.Words.{dest_words, each, entry_with, proto_words, rule_entries, source_words}
use Rattle.records.specs.declared.Entry.{Entry}
use Rattle.records.specs.declared.Rule.{Rule}
use Rattle.tables.specs.Meaning.{Sound, entry_matches, key_match}
use Rattle.tables.proofs.FieldWords.{addr_own, hit, proto_own, words_formed}

-- the record is one of rule number i; a word is well formed when it matches its own value
pub record Of (i : ℕ) (r : Rule) (e : Entry) : Type 0 where
  pub rule : e.rule ≡ i
  pub action : e.action ≡ r.action
  pub formed : entry_matches e.value e ≡ true

of_each : {A B : Type 0} (g : A → List B) (xs : List A) {b : B} → Memᴰ b (each xs g) → (x : A) × Memᴰ x xs × Memᴰ b (g x)
unfolding each
of_each g [] m = absurd (mathlib.Core.List.Memᴰ.not-nil m)
of_each g (x ∷ xs) {b} m =
    ⊎_elim (λ (n : Memᴰ b (g x)). (x, mathlib.Core.List.Memᴰ.head refl, n))
    (λ (n : Memᴰ b (each xs g)). let s = of_each g xs n in (s.0, mathlib.Core.List.Memᴰ.tail s.1, s.2)) (mathlib.Core.List.Memᴰ.append_cases (g x) m)

word_own : (n : ℕ) (ws : List Word) → AllFormed n ws → (w : Word) → Memᴰ w ws → hit w.value w ≡ true
word_own n ws f w m = eq-eqb (bit_and w.value w.mask) w.value (formed_and n w (f w m))

module _ (i : ℕ) (r : Rule) (z : Sound r) where
  made_of : (p s d : Word) → Memᴰ p (proto_words r) → Memᴰ s (source_words r) → Memᴰ d (dest_words r) → Of i r (entry_with r i p s d)
  unfolding key_match proto_words
  made_of p s d mp ms md =
      let ep : hit p.value p ≡ true = rw (mathlib.Core.List.Memᴰ.eq_of_singleton mp) (proto_own r z.fits.proto) in
      let es = word_own 16 (source_words r) (words_formed 16 r.slow r.shigh z.fits.shigh) s ms in
      let ed = word_own 16 (dest_words r) (words_formed 16 r.dlow r.dhigh z.fits.dhigh) d md in
      record {
        rule = refl;
        action = refl;
        formed = rw (ep, addr_own r.src r.slen z.src z.fits.src, addr_own r.dst r.dlen z.dst z.fits.dst, es, ed);
      }

  pub rule_records : (e : Entry) → Memᴰ e (rule_entries i r) → Of i r e
  unfolding rule_entries
  rule_records e m =
      let a = of_each (λ (p : Word). each (source_words r) (λ (s : Word). map (entry_with r i p s) (dest_words r))) (proto_words r) m in
      let b = of_each (λ (s : Word). map (entry_with r i a.0 s) (dest_words r)) (source_words r) a.2 in
      let c = mathlib.Core.List.Memᴰ.of_map (entry_with r i a.0 b.0) (dest_words r) b.2 in
      subst (Of i r) c.2 (made_of a.0 b.0 c.0 a.1 b.1 c.1)
