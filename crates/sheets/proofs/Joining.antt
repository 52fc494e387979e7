-- The numbers of an address or of a port interval put together: each return of the code is one of the tests' cases.
-- Assumes nothing.
use mathlib.Core.Bool.{true, false, and-false}
use mathlib.Core.List.{List}
use mathlib.Core.Logic.{⊎_elim}
use mathlib.Core.Path.{◌≡◌, refl, ◌∙◌}
use Prim.Native.Nat.{ℕ, ◌≤◌, ◌<◌}
use native.Mathlib.Omega.{arith}
use borrow.Author.Tests.{le-leb, lt-leb}
use Rattle.bits.proofs.Orders.{le_or_lt}
use Rattle.records.specs.Prefixes.{beyond?}
use Rattle.sheets.specs.Cuts.{after, before}
use Rattle.sheets.specs.Numbers.{none, number_of}
use Rattle.sheets.specs.Parts.{address_of, bad_address, bad_ports, bits_of, dash, dot, joined, octet_of, paired, ports_of, slash}

-- ---- addresses

module _ (a b c d len : ℕ) (p : a ≤ 255) (q : b ≤ 255) (r : c ≤ 255) (s : d ≤ 255) where
  pub joined_length : 32 < len → bad_address ≡ joined a b c d len
  unfolding joined
  joined_length h = simp (le-leb a 255 p, le-leb b 255 q, le-leb c 255 r, le-leb d 255 s, lt-leb len 32 h)

  module _ (x : ℕ) (e : x ≡ bits_of a b c d) (l : len ≤ 32) where
    pub joined_beyond : true ≡ beyond? x len → bad_address ≡ joined a b c d len
    unfolding joined
    joined_beyond h =
        rw (le-leb a 255 p, le-leb b 255 q, le-leb c 255 r, le-leb d 255 s, le-leb len 32 l, ← e, ← h)

    pub joined_good : false ≡ beyond? x len → record { good = true; bits = x; len = len } ≡ joined a b c d len
    unfolding joined
    joined_good h =
        rw (le-leb a 255 p, le-leb b 255 q, le-leb c 255 r, le-leb d 255 s, le-leb len 32 l, ← e, ← h)

-- where one of them is none
pub first_none : (b c d len : ℕ) → bad_address ≡ joined none b c d len
unfolding joined
first_none b c d len = refl

pub second_none : (a c d len : ℕ) → bad_address ≡ joined a none c d len
unfolding joined
second_none a c d len = simp and-false

pub third_none : (a b d len : ℕ) → bad_address ≡ joined a b none d len
unfolding joined
third_none a b d len = simp and-false

pub fourth_none : (a b c len : ℕ) → bad_address ≡ joined a b c none len
unfolding joined
fourth_none a b c len = simp and-false

pub length_none : (a b c d : ℕ) → bad_address ≡ joined a b c d none
unfolding joined
length_none a b c d = simp and-false

-- a number that is none as an octet is none of an address
module _ (a b c d len : ℕ) where
  first_octet : joined (octet_of a) b c d len ≡ joined a b c d len
  unfolding joined
  first_octet = ⊎_elim (λ (h : a ≤ 255). simp (le-leb a 255 h)) (λ (h : 255 < a). simp (lt-leb a 255 h)) (le_or_lt a 255)

  second_octet : joined a (octet_of b) c d len ≡ joined a b c d len
  unfolding joined
  second_octet = ⊎_elim (λ (h : b ≤ 255). simp (le-leb b 255 h)) (λ (h : 255 < b). simp (lt-leb b 255 h, and-false)) (le_or_lt b 255)

  third_octet : joined a b (octet_of c) d len ≡ joined a b c d len
  unfolding joined
  third_octet = ⊎_elim (λ (h : c ≤ 255). simp (le-leb c 255 h)) (λ (h : 255 < c). simp (lt-leb c 255 h, and-false)) (le_or_lt c 255)

  fourth_octet : joined a b c (octet_of d) len ≡ joined a b c d len
  unfolding joined
  fourth_octet = ⊎_elim (λ (h : d ≤ 255). simp (le-leb d 255 h)) (λ (h : 255 < d). simp (lt-leb d 255 h, and-false)) (le_or_lt d 255)

octets : (a b c d len : ℕ) → joined (octet_of a) (octet_of b) (octet_of c) (octet_of d) len ≡ joined a b c d len
octets a b c d len =
    first_octet a (octet_of b) (octet_of c) (octet_of d) len
    ∙ second_octet a b (octet_of c) (octet_of d) len
    ∙ third_octet a b c (octet_of d) len
    ∙ fourth_octet a b c d len

module _ (s : List ℕ) {p p' q q' r r' t t' : List ℕ} (h : (p ≡ before dot s) × (p' ≡ after dot s)) (i : (q ≡ before dot p') × (q' ≡ after dot p'))
    (j : (r ≡ before dot q') × (r' ≡ after dot q')) (k : (t ≡ before slash r') × (t' ≡ after slash r')) {a b c d len : ℕ} where
  pub address_parts : a ≡ octet_of (number_of p) → b ≡ octet_of (number_of q) → c ≡ octet_of (number_of r) → d ≡ octet_of (number_of t)
      → len ≡ number_of t' → joined a b c d len ≡ address_of s
  unfolding address_of
  address_parts e f g m n =
      rw (e, f, g, m, n, octets (number_of p) (number_of q) (number_of r) (number_of t) (number_of t'), k.0, k.1, j.0, j.1, i.0, i.1, h.0, h.1)

-- ---- port intervals

module _ (low high : ℕ) where
  pub paired_good : low ≤ high → high ≤ 65535 → record { good = true; low = low; high = high } ≡ paired low high
  unfolding paired
  paired_good h k = simp (le-leb low high h, le-leb high 65535 k)

  pub paired_order : high < low → bad_ports ≡ paired low high
  unfolding paired
  paired_order h = simp (lt-leb low high h)

pub high_none : (low : ℕ) → bad_ports ≡ paired low none
unfolding paired
high_none low = simp and-false

pub low_none : (high : ℕ) → bad_ports ≡ paired none high
unfolding paired
low_none high =
    ⊎_elim (λ (h : none ≤ high). simp (lt-leb high 65535 (omega arith), and-false)) (λ (h : high < none). simp (lt-leb none high h)) (le_or_lt none high)

module _ (s : List ℕ) {p p' : List ℕ} (h : (p ≡ before dash s) × (p' ≡ after dash s)) {low high : ℕ} where
  pub ports_parts : low ≡ number_of p → high ≡ number_of p' → paired low high ≡ ports_of s
  unfolding ports_of
  ports_parts e f = rw (e, f, h.0, h.1)
