-- A protocol, ports and an action are good exactly where they are the text of values in range. Assumes nothing.
use mathlib.Core.Bool.{Bool, true, false, ◌&&◌}
use mathlib.Core.List.{List, [], ◌∷◌, ◌++◌}
use mathlib.Core.Logic.{◌⊎◌, inl, inr}
use mathlib.Core.Path.{◌≡◌, refl, ap, ◌∙◌}
use Prim.Native.Nat.{ℕ, zero, suc, ◌+◌, ◌*◌, ◌/◌, ◌%◌, ◌≤◌, ◌<◌}
use native.Mathlib.Omega.{arith}
use lib.Dec.{eqb, leb}
use borrow.Author.Tests.{eq-eqb, le-leb, leb-true, ne_eqb}
use Rattle.bits.proofs.Orders.{le_or_lt}
use Rattle.std.specs.Prelude.{if◌then◌else◌}
use Rattle.fields.specs.Same.{same?}
use Rattle.sheets.specs.Cuts.{after, before, times}
use Rattle.sheets.specs.Numbers.{none, number_after, number_of}
use Rattle.sheets.specs.Parts.{action_of, any, bad_ports, dash, no_action, paired, ports_of, protocol_of, star}
use Rattle.sheets.specs.Text.{PortsSaid, ports_text, protocol_text}
use Rattle.texts.specs.Decimal.{decimal}
use Rattle.texts.specs.Lines.{action_text, deny, deny_log, permit, permit_log}
use Rattle.sheets.proofs.Decimals.{decimal_number, decimal_without, number_decimal}
use Rattle.sheets.proofs.Marks.{after_mark, before_mark, parted_some, same_true, times_past}

-- ---- two tests

pub both : (a b : Bool) → (a && b) ≡ true → (a ≡ true) × (b ≡ true)
both true b e = (refl, e)
both false b e = let z : ◌≡◌ {A = ℕ} 0 1 = cc in absurd (omega arith)

-- ---- a number before a mark

-- s is a number and the mark c before what stands behind it
pub number_parted : (c : ℕ) (s t : List ℕ) → number_of (before c s) < 65536 → (after c s ≡ [] → ⊥) → after c s ≡ t
    → s ≡ decimal (number_of (before c s)) ++ (c ∷ t)
number_parted c s t h n e = let p = parted_some c s n in let q = decimal_number (before c s) h in cc

-- a text that says a number has a byte
pub some_number : (s : List ℕ) → number_of s < 65536 → s ≡ [] → ⊥
unfolding number_of
some_number s h e = omega (arith, ap number_of e)

-- ---- a word

-- every byte is 42 at least
above? : List ℕ → Bool
above? [] = true
above? (x ∷ s) = leb 42 x && above? s

above_without : (c : ℕ) (s : List ℕ) → c < 42 → above? s ≡ true → times c s ≡ 0
unfolding times above?
above_without c [] h e = refl
above_without c (x ∷ s) h e =
    let w = both (leb 42 x) (above? s) e in
    let l = leb-true 42 x w.0 in
    rw (ne_eqb x c (λ (z : x ≡ c). omega arith)) (above_without c s h w.1)

-- ---- the protocol

pub protocol_said : (s : List ℕ) → protocol_of s ≤ any → s ≡ protocol_text (protocol_of s / any) (protocol_of s % any)
unfolding protocol_of
protocol_said s h = go (same? s star) (leb (number_of s) 255) refl refl h
  where
    go : (a b : Bool) → same? s star ≡ a → leb (number_of s) 255 ≡ b → (if a then any else if b then number_of s else none) ≤ any
        → s ≡ protocol_text ((if a then any else if b then number_of s else none) / any) ((if a then any else if b then number_of s else none) % any)
    go true b y z l = same_true s star y
    go false true y z l =
        let p = leb-true (number_of s) 255 z in
        let q : number_of s % any ≡ number_of s = omega arith in
        rw (ne_eqb (number_of s / any) 1 (λ (e : number_of s / any ≡ 1). omega arith), q) (decimal_number s (omega arith))
    go false false y z l = absurd (omega arith)

protocol_number : (s : List ℕ) → number_of s ≤ 255 → protocol_of s ≡ number_of s
unfolding protocol_of number_of number_after
protocol_number s h = go (same? s star) refl
  where
    go : (a : Bool) → same? s star ≡ a → (if a then any else if leb (number_of s) 255 then number_of s else none) ≡ number_of s
    go true y = absurd (omega (arith, ap number_of (same_true s star y)))
    go false y = rw (le-leb (number_of s) 255 h)

pub protocol_text_lem : (flag proto : ℕ) → flag ≤ 1 → (flag ≡ 1 → proto ≡ 0) → proto < 256 → protocol_of (protocol_text flag proto) ≡ flag * any + proto
unfolding protocol_of same?
protocol_text_lem flag proto l z h = go (le_or_lt 1 flag)
  where
    go : (1 ≤ flag) ⊎ (flag < 1) → protocol_of (protocol_text flag proto) ≡ flag * any + proto
    go (inl a) =
        let f : flag ≡ 1 = omega arith in
        ap (λ (b : Bool). protocol_of (if b then star else decimal proto)) (eq-eqb flag 1 f) ∙ omega (arith, z f)
    go (inr a) =
        let n : number_of (decimal proto) ≡ proto = number_decimal proto (omega arith) in
        ap (λ (b : Bool). protocol_of (if b then star else decimal proto)) (ne_eqb flag 1 (λ (e : flag ≡ 1). omega arith))
        ∙ protocol_number (decimal proto) (omega arith)
        ∙ omega arith

pub protocol_without : (c flag proto : ℕ) → c < 42 → times c (protocol_text flag proto) ≡ 0
unfolding above?
protocol_without c flag proto h = go (eqb flag 1)
  where
    go : (b : Bool) → times c (if b then star else decimal proto) ≡ 0
    go true = above_without c star h refl
    go false = decimal_without c (omega arith) proto

-- ---- ports

pub ports_said : (s : List ℕ) → (ports_of s).good ≡ true → PortsSaid s (ports_of s)
unfolding ports_of paired
ports_said s h = go (leb low high && leb high 65535) refl h
  where
    low : ℕ
    low = number_of (before dash s)

    high : ℕ
    high = number_of (after dash s)

    go : (b : Bool) → (leb low high && leb high 65535) ≡ b → (if b then record { good = true; low = low; high = high } else bad_ports).good ≡ true
        → PortsSaid s (if b then record { good = true; low = low; high = high } else bad_ports)
    go true y z =
        let w = both (leb low high) (leb high 65535) y in
        let o = leb-true low high w.0 in
        let f = leb-true high 65535 w.1 in
        record {
          text = number_parted dash s (decimal high) (omega arith) (some_number (after dash s) (omega arith)) (decimal_number (after dash s) (omega arith));
          order = o;
          fits = omega arith;
        }
    go false y z = let n : ◌≡◌ {A = ℕ} 0 1 = cc in absurd (omega arith)

pub ports_text_lem : (low high : ℕ) → low ≤ high → high < 65536 → ports_of (ports_text low high) ≡ record { good = true; low = low; high = high }
unfolding ports_of paired
ports_text_lem low high l h =
    let w = decimal_without dash (omega arith) low in
    rw (
      before_mark dash (decimal low) (decimal high) w,
      after_mark dash (decimal low) (decimal high) w,
      number_decimal low (omega arith),
      number_decimal high h,
      le-leb low high l,
      le-leb high 65535 (omega arith),
    )

pub ports_without : (c low high : ℕ) → c < 42 → times c (ports_text low high) ≡ 0
ports_without c low high h =
    times_past c (decimal low) dash (decimal high) (decimal_without c (omega arith) low) (λ (e : dash ≡ c). omega arith)
    ∙ decimal_without c (omega arith) high

-- ---- the action

pub action_said : (s : List ℕ) → action_of s ≤ 3 → s ≡ action_text (action_of s)
unfolding action_of
action_said s h = go (same? s permit) (same? s deny) (same? s permit_log) (same? s deny_log) refl refl refl refl h
  where
    go : (a b c d : Bool) → same? s permit ≡ a → same? s deny ≡ b → same? s permit_log ≡ c → same? s deny_log ≡ d
        → (if a then 0 else if b then 1 else if c then 2 else if d then 3 else no_action) ≤ 3
        → s ≡ action_text (if a then 0 else if b then 1 else if c then 2 else if d then 3 else no_action)
    go true b c d p q r t l = same_true s permit p
    go false true c d p q r t l = same_true s deny q
    go false false true d p q r t l = same_true s permit_log r
    go false false false true p q r t l = same_true s deny_log t
    go false false false false p q r t l = absurd (omega arith)

pub action_text_lem : (a : ℕ) → a ≤ 3 → action_of (action_text a) ≡ a
unfolding action_of same?
action_text_lem zero h = refl
action_text_lem (suc zero) h = refl
action_text_lem (suc (suc zero)) h = refl
action_text_lem (suc (suc (suc zero))) h = refl
action_text_lem (suc (suc (suc (suc a)))) h = absurd (omega arith)

pub action_without : (c a : ℕ) → c < 42 → times c (action_text a) ≡ 0
unfolding above?
action_without c a h = go (eqb a 0) (eqb a 1) (eqb a 2)
  where
    go : (x y z : Bool) → times c (if x then permit else if y then deny else if z then permit_log else deny_log) ≡ 0
    go true y z = above_without c permit h refl
    go false true z = above_without c deny h refl
    go false false true = above_without c permit_log h refl
    go false false false = above_without c deny_log h refl
