-- An address is good exactly where it is the text of an address in range. Assumes nothing.
use mathlib.Core.Bool.{Bool, true, false, ◌&&◌, not}
use mathlib.Core.List.{List, [], ◌∷◌, ◌++◌}
use mathlib.Core.Path.{◌≡◌, refl, sym, ap, subst, ◌∙◌}
use Prim.Native.Nat.{ℕ, ◌/◌, ◌%◌, ◌^◌, ◌≤◌, ◌<◌}
use native.Mathlib.Omega.{arith}
use lib.Dec.{leb}
use borrow.Author.Tests.{le-leb, leb-true, not-true}
use Rattle.std.specs.Prelude.{if◌then◌else◌}
use Rattle.records.specs.Prefixes.{beyond?}
use Rattle.sheets.specs.Cuts.{after, before, times}
use Rattle.sheets.specs.Numbers.{number_of}
use Rattle.sheets.specs.Parts.{address_of, bad_address, bits_of, dot, joined, slash}
use Rattle.sheets.specs.Text.{AddressSaid, address_text}
use Rattle.sheets.specs.Parts.{Address}
use Rattle.texts.specs.Decimal.{decimal}
use Rattle.sheets.proofs.Decimals.{decimal_number, decimal_without, number_decimal}
use Rattle.sheets.proofs.FieldText.{both, number_parted, some_number}
use Rattle.sheets.proofs.Marks.{after_mark, before_mark, times_past}

-- ---- four numbers and a length

abbrev good_address : ℕ → ℕ → Address
good_address bits len = record { good = true; bits = bits; len = len }

-- they are in range
record Ranged (a b c d len : ℕ) : Type 0 where
  pub first : a ≤ 255
  pub second : b ≤ 255
  pub third : c ≤ 255
  pub fourth : d ≤ 255
  pub short : len ≤ 32
  pub within : beyond? (bits_of a b c d) len ≡ false

module _ (a b c d len : ℕ) where
  -- their text
  abbrev numbers_text : List ℕ
  numbers_text = decimal a ++ (dot ∷ (decimal b ++ (dot ∷ (decimal c ++ (dot ∷ (decimal d ++ (slash ∷ decimal len)))))))

  joined_ranged : Ranged a b c d len → joined a b c d len ≡ good_address (bits_of a b c d) len
  unfolding joined
  joined_ranged r =
      rw (
        le-leb a 255 r.first,
        le-leb b 255 r.second,
        le-leb c 255 r.third,
        le-leb d 255 r.fourth,
        le-leb len 32 r.short,
        r.within,
      )

  ranged_joined : (joined a b c d len).good ≡ true → Ranged a b c d len
  unfolding joined
  ranged_joined h =
      go (leb a 255 && (leb b 255 && (leb c 255 && (leb d 255 && (leb len 32 && not (beyond? (bits_of a b c d) len)))))) refl h
    where
      go : (x : Bool) → (leb a 255 && (leb b 255 && (leb c 255 && (leb d 255 && (leb len 32 && not (beyond? (bits_of a b c d) len)))))) ≡ x
          → (if x then good_address (bits_of a b c d) len else bad_address).good ≡ true → Ranged a b c d len
      go false y z = let n : ◌≡◌ {A = ℕ} 0 1 = cc in absurd (omega arith)
      go true y z =
          let t1 = both _ _ y in
          let t2 = both _ _ t1.1 in
          let t3 = both _ _ t2.1 in
          let t4 = both _ _ t3.1 in
          let t5 = both _ _ t4.1 in
          record {
            first = leb-true a 255 t1.0;
            second = leb-true b 255 t2.0;
            third = leb-true c 255 t3.0;
            fourth = leb-true d 255 t4.0;
            short = leb-true len 32 t5.0;
            within = not-true (beyond? (bits_of a b c d) len) t5.1;
          }

  numbers_text_lem : Ranged a b c d len → numbers_text ≡ address_text (bits_of a b c d) len
  numbers_text_lem r =
      let e1 : bits_of a b c d / 16777216 ≡ a = omega arith in
      let e2 : bits_of a b c d / 65536 % 256 ≡ b = omega arith in
      let e3 : bits_of a b c d / 256 % 256 ≡ c = omega arith in
      let e4 : bits_of a b c d % 256 ≡ d = omega arith in
      cc

-- ---- a text as its parts

module _ (p q r t u : List ℕ) (n1 : times dot p ≡ 0) (n2 : times dot q ≡ 0) (n3 : times dot r ≡ 0) (n4 : times slash t ≡ 0) where
  address_parts : address_of (p ++ (dot ∷ (q ++ (dot ∷ (r ++ (dot ∷ (t ++ (slash ∷ u))))))))
      ≡ joined (number_of p) (number_of q) (number_of r) (number_of t) (number_of u)
  unfolding address_of
  address_parts = simp (before_mark, after_mark)

-- ---- an address

pub address_text_lem : (a len : ℕ) → a < 2 ^ 32 → len ≤ 32 → beyond? a len ≡ false
    → address_of (address_text a len) ≡ record { good = true; bits = a; len = len }
address_text_lem a len h l w =
    let e : bits_of (a / 16777216) (a / 65536 % 256) (a / 256 % 256) (a % 256) ≡ a = omega arith in
    address_parts (decimal (a / 16777216)) (decimal (a / 65536 % 256)) (decimal (a / 256 % 256)) (decimal (a % 256)) (decimal len)
    (decimal_without dot (omega arith) (a / 16777216)) (decimal_without dot (omega arith) (a / 65536 % 256))
    (decimal_without dot (omega arith) (a / 256 % 256)) (decimal_without slash (omega arith) (a % 256))
    ∙ rw (
      number_decimal (a / 16777216) (omega arith),
      number_decimal (a / 65536 % 256) (omega arith),
      number_decimal (a / 256 % 256) (omega arith),
      number_decimal (a % 256) (omega arith),
      number_decimal len (omega arith),
    )
    (joined_ranged (a / 16777216) (a / 65536 % 256) (a / 256 % 256) (a % 256) len
    (record {
      first = omega arith;
      second = omega arith;
      third = omega arith;
      fourth = omega arith;
      short = l;
      within = rw e w;
    })
    ∙ ap (λ (x : ℕ). good_address x len) e)

some_before : (c : ℕ) (s : List ℕ) → number_of (before c s) < 65536 → s ≡ [] → ⊥
unfolding before
some_before c s h e = some_number (before c s) h (ap (before c) e)

pub address_said : (s : List ℕ) → (address_of s).good ≡ true → AddressSaid s (address_of s)
unfolding address_of
address_said s h =
    let s2 = after dot s in
    let s3 = after dot s2 in
    let s4 = after dot s3 in
    let a = number_of (before dot s) in
    let b = number_of (before dot s2) in
    let c = number_of (before dot s3) in
    let d = number_of (before slash s4) in
    let len = number_of (after slash s4) in
    let r = ranged_joined a b c d len h in
    let t4 =
    number_parted slash s4 (decimal len) (omega arith) (some_number (after slash s4) (omega arith)) (decimal_number (after slash s4) (omega arith)) in
    let t3 = number_parted dot s3 (decimal d ++ (slash ∷ decimal len)) (omega arith) (some_before slash s4 (omega arith)) t4 in
    let t2 = number_parted dot s2 (decimal c ++ (dot ∷ (decimal d ++ (slash ∷ decimal len)))) (omega arith) (some_before dot s3 (omega arith)) t3 in
    let t1 = number_parted dot s (decimal b ++ (dot ∷ (decimal c ++ (dot ∷ (decimal d ++ (slash ∷ decimal len)))))) (omega arith) (some_before dot s2 (omega arith)) t2 in
    subst (λ (x : Address). AddressSaid s x) (sym (joined_ranged a b c d len r))
    (record {
      text = t1 ∙ numbers_text_lem a b c d len r;
      fits = omega arith;
      short = r.short;
      within = r.within;
    })

pub address_without : (c a len : ℕ) → c < 42 → times c (address_text a len) ≡ 0
address_without c a len h =
    number_past (a / 16777216) dot _ (omega arith)
    ∙ number_past (a / 65536 % 256) dot _ (omega arith)
    ∙ number_past (a / 256 % 256) dot _ (omega arith)
    ∙ number_past (a % 256) slash _ (omega arith)
    ∙ decimal_without c (omega arith) len
  where
    number_past : (x d : ℕ) (t : List ℕ) → 42 ≤ d → times c (decimal x ++ (d ∷ t)) ≡ times c t
    number_past x d t l = times_past c (decimal x) d t (decimal_without c (omega arith) x) (λ (e : d ≡ c). omega arith)
