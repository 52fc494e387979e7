-- A word matches 13 bytes as it matches their five fields. Assumes nothing.
use mathlib.Core.Bool.{Bool, ◌&&◌, and-true}
use mathlib.Core.List.{List, [], ◌∷◌, ◌++◌}
use mathlib.Core.Path.{◌≡◌, refl, sym, ap, ◌∙◌}
use Prim.Native.Nat.{ℕ, suc, ◌+◌, ◌/◌, ◌%◌, ◌≤◌, ◌<◌}
use native.Mathlib.Omega.{arith}
use lib.ListN.{drop, get_or, length}
use lib.Pow.{high, low}
use lib.Seq.{drop-cons, drop-length}
use Rattle.blocks.specs.Tests.{matches?}
use Rattle.blocks.specs.Words.{word}
use Rattle.fields.specs.Bytes.{Bytes, at2, at4, be2, be4}
use Rattle.records.specs.Keys.{key_at, key_bytes}
use Rattle.records.specs.Layout.{key_size}
use Rattle.records.specs.declared.Key.{Key}
use Rattle.tables.specs.Looking.{bytes_match}
use Rattle.tables.specs.Meaning.{key_match}
use Rattle.tables.proofs.Parts.{match_split}

-- ---- bytes of one field, and then more

-- c behind the two bytes of each number, one after the other
abbrev by_two : ℕ → ℕ → ℕ → Bool → Bool
by_two v m x c = matches? (word (v / 256) (m / 256)) (x / 256) && (matches? (word (v % 256) (m % 256)) (x % 256) && c)

-- and behind the four
abbrev by_four : ℕ → ℕ → ℕ → Bool → Bool
by_four v m x c = by_two (v / 65536) (m / 65536) (x / 65536) (by_two (v % 65536) (m % 65536) (x % 65536) c)

two : {c b : Bool} (v m x : ℕ) → c ≡ b → by_two v m x c ≡ matches? (word v m) x && b
two {c} {b} v m x e = match_split 8 v m x c ∙ ap (λ (y : Bool). matches? (word v m) x && y) e

four : {c b : Bool} (v m x : ℕ) → c ≡ b → by_four v m x c ≡ matches? (word v m) x && b
four {c} {b} v m x e =
    two (v / 65536) (m / 65536) (x / 65536) (two (v % 65536) (m % 65536) (x % 65536) e) ∙ match_split 16 v m x b

pub match_key : (v m x : Key) → bytes_match (key_bytes v) (key_bytes m) (key_bytes x) ≡ key_match v m x
unfolding bytes_match key_bytes key_match
match_key v m x =
    ap (λ (y : Bool). matches? (word v.proto m.proto) x.proto && y)
    (four v.src m.src x.src
    (four v.dst m.dst x.dst
    (two v.sport m.sport x.sport
    (two v.dport m.dport x.dport refl ∙ and-true _))))

-- ---- 13 bytes are the bytes of their fields

module _ (h : List ℕ) (b : Bytes h) where
  two_from : (i : ℕ) → i + 2 ≤ length h → be2 (at2 h i) ++ drop (i + 2) h ≡ drop i h
  two_from i l =
      let e : i + 2 ≡ suc (suc i) = omega arith in
      let f : i + 1 ≡ suc i = omega arith in
      let p : at2 h i / 256 ≡ get_or h i 0 = high (get_or h i 0) 8 (b (i + 1)) in
      let q : at2 h i % 256 ≡ get_or h (i + 1) 0 = low (get_or h i 0) 8 (b (i + 1)) in
      rw (p, q, e, f, ← drop-cons h (suc i) 0 (omega arith), ← drop-cons h i 0 (omega arith))

  four_from : (i : ℕ) → i + 4 ≤ length h → be4 (at4 h i) ++ drop (i + 4) h ≡ drop i h
  four_from i l =
      let e : i + 2 + 2 ≡ i + 4 = omega arith in
      let s : at2 h (i + 2) < 65536 = omega (arith, b (i + 2), b (i + 2 + 1)) in
      rw (high (at2 h i) 16 s, low (at2 h i) 16 s, ← e) (ap (λ (l : List ℕ). be2 (at2 h i) ++ l) (two_from (i + 2) (omega arith)) ∙ two_from i (omega arith))

  key_bytes_lem : length h ≡ key_size → key_bytes (key_at h) ≡ h
  unfolding key_bytes key_at
  key_bytes_lem l =
      let z : drop 13 h ≡ [] = rw l at (drop-length h) in
      let e11 : be2 (at2 h 11) ≡ drop 11 h = ap (λ (t : List ℕ). be2 (at2 h 11) ++ t) (sym z) ∙ two_from 11 (omega arith) in
      let e9 : be2 (at2 h 9) ++ be2 (at2 h 11) ≡ drop 9 h = ap (λ (t : List ℕ). be2 (at2 h 9) ++ t) e11 ∙ two_from 9 (omega arith) in
      let e5 : be4 (at4 h 5) ++ (be2 (at2 h 9) ++ be2 (at2 h 11)) ≡ drop 5 h = ap (λ (t : List ℕ). be4 (at4 h 5) ++ t) e9 ∙ four_from 5 (omega arith) in
      ap (λ (t : List ℕ). get_or h 0 0 ∷ (be4 (at4 h 1) ++ t)) e5 ∙ ap (λ (t : List ℕ). get_or h 0 0 ∷ t) (four_from 1 (omega arith)) ∙ sym (drop-cons h 0 0 (omega arith))

pub key_match_lem : (v m : Key) (h : List ℕ) → length h ≡ key_size → Bytes h → bytes_match (key_bytes v) (key_bytes m) h ≡ key_match v m (key_at h)
key_match_lem v m h l b = ap (bytes_match (key_bytes v) (key_bytes m)) (sym (key_bytes_lem h b l)) ∙ match_key v m (key_at h)
