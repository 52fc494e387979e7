-- Sheets and rules. A sheet that is accepted is the text of the rules that are read from it, and these are good. The text
-- of good rules, where it is not too long, is accepted and gives the rules back. Two lists of good rules with the same
-- text are the same. Assumes nothing.
use mathlib.Core.Bool.{Bool, true, false}
use mathlib.Core.List.{List, [], ◌∷◌, append-nil}
use mathlib.Core.Path.{◌≡◌, refl, sym, ap, ◌∙◌}
use Prim.Native.Nat.{ℕ, zero, suc, ◌+◌, ◌*◌, ◌≤◌}
use native.Mathlib.Omega.{arith}
use lib.Dec.{ltb}
use lib.ListN.{length, length-append}
use borrow.Author.Tests.{le-ltb, lt-ltb, ltb-false, ltb-true, ne_eqb}
use Rattle.answers.specs.Answers.{done, refused}
use Rattle.answers.specs.Refusals as refusal
use Rattle.std.specs.Prelude.{Result, Ok, Err, if◌then◌else◌}
use Rattle.records.specs.Layout.{rule_limit, rule_size}
use Rattle.records.specs.Rules.{list_bytes}
use Rattle.records.specs.declared.Rule.{Rule}
use Rattle.rules.specs.Faults.{tested_rules}
use Rattle.sheets.specs.Cuts.{after, before}
use Rattle.sheets.specs.Reading.{BadAt, after_lines, behind_rows, ended?, many?, reading, rows_of, rules_read, sheet_limit}
use Rattle.sheets.specs.Rows.{row_of}
use Rattle.sheets.specs.Text.{Accepted, AllGood, rule_text, sheet_text}
use Rattle.sheets.proofs.Marks.{after_mark, before_mark}
use Rattle.sheets.proofs.RowText.{row_text, text_no_feed}
use Rattle.sheets.proofs.RuleBack.{never_refused}
use Rattle.sheets.proofs.Unread.{Parts, lines_none, parts, unread}
use Rattle.texts.specs.Lines.{line_feed}

-- ---- a sheet that is accepted

empty : (l : List ℕ) → length l ≤ 0 → l ≡ []
empty [] h = refl
empty (x ∷ l) h = absurd (omega arith)

pub accepted : (s : List ℕ) (bytes : ℕ) → (reading s bytes).no ≡ 0 → Accepted s (rules_read rule_limit s)
unfolding behind_rows reading
accepted s bytes e = go (ltb sheet_limit (length s)) (many? s) (rows_of rule_limit 0 s) refl refl (parts rule_limit 0 s) e
  where
    go : (long many : Bool) (v : Result ℕ BadAt) → ltb sheet_limit (length s) ≡ long → many? s ≡ many → Parts rule_limit 0 s (rules_read rule_limit s) (unread rule_limit s) v
        → (if long then refused refusal.long 0 0 else if many then refused refusal.many 0 0 else behind_rows v bytes).no ≡ 0
        → Accepted s (rules_read rule_limit s)
    go true many v p q t e = absurd (omega arith)
    go false true v p q t e = absurd (omega arith)
    go false false (Err b) p q t e = absurd (omega arith)
    go false false (Ok n) p q t e =
        let none : after_lines rule_limit s ≡ [] = empty (after_lines rule_limit s) (ltb-false 0 (length (after_lines rule_limit s)) q) in
        record {
          text = t.text ∙ rw (t.says.1, none) (append-nil (sheet_text (rules_read rule_limit s)));
          good = t.good;
          few = t.few;
          short = ltb-false sheet_limit (length s) p;
        }

-- its rules get none of the refusals 5, 6 and 7
pub accepted_formed : (s : List ℕ) (bytes : ℕ) → (reading s bytes).no ≡ 0 → tested_rules (list_bytes (rules_read rule_limit s)) ≡ Ok tt
accepted_formed s bytes e = let a = accepted s bytes e in never_refused (rules_read rule_limit s) a.good a.few

-- ---- the text of good rules

-- the first f lines of s are all there are, and say the rules rs
record Read (f i : ℕ) (s : List ℕ) (rs : List Rule) : Type 0 where
  pub all : rows_of f i s ≡ Ok (i + length rs)
  pub back : rules_read f s ≡ rs
  pub none : after_lines f s ≡ []

read_none : (f i : ℕ) → Read f i [] []
unfolding before rows_of rules_read
read_none zero i = record { all = ap Ok (omega arith); back = refl; none = lines_none zero }
read_none (suc f) i = record { all = ap Ok (omega arith); back = refl; none = lines_none (suc f) }

read_line : (f i : ℕ) (s u : List ℕ) (r : Rule) (rs : List Rule) → ended? s ≡ true → row_of (before line_feed s) ≡ Ok r → after line_feed s ≡ u
    → Read f (i + 1) u rs → Read (suc f) i s (r ∷ rs)
unfolding after_lines rows_of rules_read
read_line f i s u r rs e g a p =
    let some : length s ≡ 0 → ⊥ = λ (z : length s ≡ 0). omega (arith, ltb-true (length (before line_feed s)) (length s) e) in
    record {
      all = rw (ne_eqb (length s) 0 some, e, g, a) (p.all ∙ ap Ok (omega arith));
      back = rw (e, g, a, p.back);
      none = rw a p.none;
    }

read_text : (f i : ℕ) (rs : List Rule) → AllGood rs → length rs ≤ f → Read f i (sheet_text rs) rs
unfolding sheet_text
read_text f i [] g h = read_none f i
read_text zero i (r ∷ rs) g h = absurd (omega arith)
read_text (suc f) i (r ∷ rs) g h =
    let b = before_mark line_feed (rule_text r) (sheet_text rs) (text_no_feed g.0) in
    read_line f i (sheet_text (r ∷ rs)) (sheet_text rs) r rs
    (lt-ltb (length (before line_feed (sheet_text (r ∷ rs)))) (length (sheet_text (r ∷ rs))) (omega (arith, ap length b, length-append (rule_text r) (line_feed ∷ sheet_text rs))))
    (ap row_of b ∙ row_text g.0) (after_mark line_feed (rule_text r) (sheet_text rs) (text_no_feed g.0)) (read_text f (i + 1) rs g.1 (omega arith))

pub text_accepted : (rs : List Rule) (bytes : ℕ) → AllGood rs → length rs ≤ rule_limit → length (sheet_text rs) ≤ sheet_limit → rule_size * length rs ≤ bytes
    → (reading (sheet_text rs) bytes ≡ done (length rs) 0 0 0) × (rules_read rule_limit (sheet_text rs) ≡ rs)
unfolding behind_rows reading
text_accepted rs bytes g few short room =
    let p = read_text rule_limit 0 rs g few in
    let all : rows_of rule_limit 0 (sheet_text rs) ≡ Ok (length rs) = p.all ∙ ap Ok (omega arith) in
    (rw (le-ltb sheet_limit (length (sheet_text rs)) short, p.none, all, le-ltb bytes (rule_size * length rs) room), p.back)

pub same_text : (a b : List Rule) → AllGood a → AllGood b → sheet_text a ≡ sheet_text b → a ≡ b
same_text a b g h e =
    let f = length a + length b in
    sym (read_text f 0 a g (omega arith)).back ∙ ap (rules_read f) e ∙ (read_text f 0 b h (omega arith)).back
