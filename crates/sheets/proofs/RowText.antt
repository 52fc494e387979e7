-- A line says a rule exactly where it is the text of that rule, and the rule is good. Assumes nothing.
use mathlib.Core.Bool.{Bool, true, false, not}
use mathlib.Core.List.{List, ◌∷◌, ◌++◌}
use mathlib.Core.Logic.{◌⊎◌, inl, inr}
use mathlib.Core.Path.{◌≡◌, refl, ap, subst, ◌∙◌}
use Prim.Native.Nat.{ℕ, ◌+◌, ◌-◌, ◌*◌, ◌/◌, ◌%◌, ◌^◌, ◌≤◌, ◌<◌}
use native.Mathlib.Omega.{arith}
use lib.Dec.{eqb}
use borrow.Author.Tests.{eq-eqb, eqb-true, le-ltb, ltb-false, not-false}
use Rattle.bits.proofs.Orders.{le_or_lt}
use Rattle.std.specs.Prelude.{Ok, Err, if◌then◌else◌}
use Rattle.records.specs.declared.Rule.{Rule}
use Rattle.rules.proofs.Goods.{fine}
use Rattle.rules.specs.Faults.{bad_field, first_true, spare?}
use Rattle.records.specs.Prefixes.{beyond?}
use Rattle.sheets.specs.BadLines.{bad_fields}
use Rattle.sheets.specs.Cuts.{after, before, times}
use Rattle.sheets.specs.Parts.{action_of, address_of, any, ports_of, protocol_of}
use Rattle.sheets.specs.Rows.{of_fields, row_from, row_of, rule_of}
use Rattle.sheets.specs.Text.{AddressSaid, GoodRule, PortsSaid, address_text, ports_text, protocol_text, rule_text}
use Rattle.sheets.specs.Parts.{Address, Ports}
use Rattle.texts.specs.Lines.{action_text, line_feed, tab}
use Rattle.sheets.proofs.AddressText.{address_said, address_text_lem, address_without}
use Rattle.sheets.proofs.FieldText.{action_said, action_text_lem, action_without, ports_said, ports_text_lem, ports_without, protocol_said, protocol_text_lem, protocol_without}
use Rattle.sheets.proofs.Marks.{after_mark, before_mark, parted, times_after, times_mark, times_past}
use Rattle.sheets.proofs.TestsInOrder.{tested, tested_good}

-- ---- six fields and five tabs

module _ (p q r t u v : List ℕ) (n1 : times tab p ≡ 0) (n2 : times tab q ≡ 0) (n3 : times tab r ≡ 0) (n4 : times tab t ≡ 0)
    (n5 : times tab u ≡ 0) (n6 : times tab v ≡ 0) where
  row_parts : row_of (p ++ (tab ∷ (q ++ (tab ∷ (r ++ (tab ∷ (t ++ (tab ∷ (u ++ (tab ∷ v))))))))))
      ≡ row_from (protocol_of p) (address_of q) (address_of r) (ports_of t) (ports_of u) (action_of v)
  unfolding row_of
  row_parts = simp (times_mark, before_mark, after_mark, n6)

-- ---- the line of a rule

protocol_most : (flag proto : ℕ) → flag ≤ 1 → (flag ≡ 1 → proto ≡ 0) → proto < 256 → flag * any + proto ≤ any
protocol_most flag proto l z h = go (le_or_lt 1 flag)
  where
    go : (1 ≤ flag) ⊎ (flag < 1) → flag * any + proto ≤ any
    go (inl a) = omega (arith, z (omega arith))
    go (inr a) = omega arith

pub row_text : {r : Rule} → GoodRule r → row_of (rule_text r) ≡ Ok r
unfolding rule_text row_from
row_text {r} g =
    let f = fine r g.fine in
    let e : (r.flag * any + r.proto) / any ≡ r.flag = omega arith in
    let m : (r.flag * any + r.proto) % any ≡ r.proto = omega arith in
    row_parts (protocol_text r.flag r.proto) (address_text r.src r.slen) (address_text r.dst r.dlen) (ports_text r.slow r.shigh)
    (ports_text r.dlow r.dhigh) (action_text r.action)
    (protocol_without tab r.flag r.proto (omega arith))
    (address_without tab r.src r.slen (omega arith))
    (address_without tab r.dst r.dlen (omega arith))
    (ports_without tab r.slow r.shigh (omega arith))
    (ports_without tab r.dlow r.dhigh (omega arith))
    (action_without tab r.action (omega arith))
    ∙ rw (
      protocol_text_lem r.flag r.proto f.flag f.spare g.fits.proto,
      address_text_lem r.src r.slen g.fits.src f.slen (rw (eq-eqb (r.src % 2 ^ (32 - r.slen)) 0 f.src)),
      address_text_lem r.dst r.dlen g.fits.dst f.dlen (rw (eq-eqb (r.dst % 2 ^ (32 - r.dlen)) 0 f.dst)),
      ports_text_lem r.slow r.shigh f.source g.fits.shigh,
      ports_text_lem r.dlow r.dhigh f.dest g.fits.dhigh,
      action_text_lem r.action f.action,
      le-ltb any (r.flag * any + r.proto) (protocol_most r.flag r.proto f.flag f.spare g.fits.proto),
      le-ltb 3 r.action f.action,
      e,
      m,
    )

pub text_no_feed : {r : Rule} → GoodRule r → times line_feed (rule_text r) ≡ 0
unfolding rule_text
text_no_feed {r} g =
    past (protocol_text r.flag r.proto) _ (protocol_without line_feed r.flag r.proto (omega arith))
    ∙ past (address_text r.src r.slen) _ (address_without line_feed r.src r.slen (omega arith))
    ∙ past (address_text r.dst r.dlen) _ (address_without line_feed r.dst r.dlen (omega arith))
    ∙ past (ports_text r.slow r.shigh) _ (ports_without line_feed r.slow r.shigh (omega arith))
    ∙ past (ports_text r.dlow r.dhigh) _ (ports_without line_feed r.dlow r.dhigh (omega arith))
    ∙ action_without line_feed r.action (omega arith)
  where
    past : (s t : List ℕ) → times line_feed s ≡ 0 → times line_feed (s ++ (tab ∷ t)) ≡ times line_feed t
    past s t h = times_past line_feed s tab t h (λ (e : tab ≡ line_feed). omega arith)

-- ---- the rule of a line

-- the six fields are good, and r is their rule
record Fields (p : ℕ) (src dst : Address) (sports dports : Ports) (act : ℕ) (r : Rule) : Type 0 where
  pub protocol : p ≤ any
  pub source : src.good ≡ true
  pub dest : dst.good ≡ true
  pub source_ports : sports.good ≡ true
  pub dest_ports : dports.good ≡ true
  pub action : act ≤ 3
  pub rule : rule_of p src dst sports dports act ≡ r

fields_good : (p : ℕ) (src dst : Address) (sports dports : Ports) (act : ℕ) (r : Rule) → row_from p src dst sports dports act ≡ Ok r
    → Fields p src dst sports dports act r
unfolding row_from tested
fields_good p src dst sports dports act r h =
    let t = tested_good 1 (bad_fields p src dst sports dports act) _ r h in
    record {
      protocol = ltb-false any p (t.1 0);
      source = not-false src.good (t.1 1);
      dest = not-false dst.good (t.1 2);
      source_ports = not-false sports.good (t.1 3);
      dest_ports = not-false dports.good (t.1 4);
      action = ltb-false 3 act (t.1 5);
      rule = t.0;
    }

-- a rule of good fields is good
module _ (p : ℕ) (src dst : Address) (sports dports : Ports) (act : ℕ) where
  spare_none : p ≤ any → spare? (rule_of p src dst sports dports act) ≡ false
  spare_none h = go (le_or_lt any p)
    where
      go : (any ≤ p) ⊎ (p < any) → spare? (rule_of p src dst sports dports act) ≡ false
      go (inl l) =
          let a : p / any ≡ 1 = omega arith in
          let b : p % any ≡ 0 = omega arith in
          rw (a, b)
      go (inr l) = let a : p / any ≡ 0 = omega arith in rw a

  -- a rule whose tests are all passed
  all_fine : p / any ≤ 1 → spare? (rule_of p src dst sports dports act) ≡ false → src.len ≤ 32 → beyond? src.bits src.len ≡ false → dst.len ≤ 32
      → beyond? dst.bits dst.len ≡ false → sports.low ≤ sports.high → dports.low ≤ dports.high → act ≤ 3
      → bad_field (rule_of p src dst sports dports act) ≡ 0
  unfolding bad_field first_true
  all_fine a b c d e f g h k =
      rw (le-ltb 1 (p / any) a, b, le-ltb 32 src.len c, d, le-ltb 32 dst.len e, f, le-ltb sports.high sports.low g, le-ltb dports.high dports.low h, le-ltb 3 act k)

  rule_good : (s2 s3 s4 s5 : List ℕ) → p ≤ any → AddressSaid s2 src → AddressSaid s3 dst → PortsSaid s4 sports → PortsSaid s5 dports → act ≤ 3
      → GoodRule (rule_of p src dst sports dports act)
  rule_good s2 s3 s4 s5 h a b c d k =
      let r = rule_of p src dst sports dports act in
      record {
        fine = all_fine (omega arith) (spare_none h) a.short a.within b.short b.within c.order d.order k;
        fits = record {
          proto = omega arith;
          src = a.fits;
          dst = b.fits;
          slow = omega arith;
          shigh = c.fits;
          dlow = omega arith;
          dhigh = d.fits;
          action = omega arith;
        };
      }

module _ (s : List ℕ) where
  abbrev s2 : List ℕ
  s2 = after tab s

  abbrev s3 : List ℕ
  s3 = after tab s2

  abbrev s4 : List ℕ
  s4 = after tab s3

  abbrev s5 : List ℕ
  s5 = after tab s4

  abbrev s6 : List ℕ
  s6 = after tab s5

  five_tabs : (r : Rule) → row_of s ≡ Ok r → (times tab s ≡ 5) × (of_fields row_from s ≡ Ok r)
  unfolding row_of
  five_tabs r h = go (eqb (times tab s) 5) refl h
    where
      go : (b : Bool) → eqb (times tab s) 5 ≡ b → (if not b then Err 0 else of_fields row_from s) ≡ Ok r → (times tab s ≡ 5) × (of_fields row_from s ≡ Ok r)
      go true z w = (eqb-true (times tab s) 5 z, w)
      go false z w = let n : ◌≡◌ {A = ℕ} 0 1 = cc in absurd (omega arith)

  line_parts : times tab s ≡ 5
      → s ≡ before tab s ++ (tab ∷ (before tab s2 ++ (tab ∷ (before tab s3 ++ (tab ∷ (before tab s4 ++ (tab ∷ (before tab s5 ++ (tab ∷ s6)))))))))
  line_parts h =
      let t2 = times_after tab s (omega arith) in
      let t3 = times_after tab s2 (omega arith) in
      let t4 = times_after tab s3 (omega arith) in
      let t5 = times_after tab s4 (omega arith) in
      let p1 = parted tab s (omega arith) in
      let p2 = parted tab s2 (omega arith) in
      let p3 = parted tab s3 (omega arith) in
      let p4 = parted tab s4 (omega arith) in
      let p5 = parted tab s5 (omega arith) in
      cc

pub text_row : {s : List ℕ} {r : Rule} → row_of s ≡ Ok r → (s ≡ rule_text r) × GoodRule r
unfolding rule_text
text_row {s} {r} h =
    let t = five_tabs s r h in
    let p = protocol_of (before tab s) in
    let src = address_of (before tab (s2 s)) in
    let dst = address_of (before tab (s3 s)) in
    let sports = ports_of (before tab (s4 s)) in
    let dports = ports_of (before tab (s5 s)) in
    let act = action_of (s6 s) in
    let f = fields_good p src dst sports dports act r t.1 in
    let f1 = protocol_said (before tab s) f.protocol in
    let f2 = address_said (before tab (s2 s)) f.source in
    let f3 = address_said (before tab (s3 s)) f.dest in
    let f4 = ports_said (before tab (s4 s)) f.source_ports in
    let f5 = ports_said (before tab (s5 s)) f.dest_ports in
    let f6 = action_said (s6 s) f.action in
    let l : s ≡ rule_text (rule_of p src dst sports dports act) = line_parts s t.0 ∙ cc in (
      l ∙ ap rule_text f.rule,
      subst GoodRule f.rule
          (rule_good p src dst sports dports act (before tab (s2 s)) (before tab (s3 s)) (before tab (s4 s)) (before tab (s5 s)) f.protocol f2 f3 f4 f5 f.action),
    )
