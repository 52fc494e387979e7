-- A turn of reading lines: what is left of the text completes the verdict and the rules. Assumes nothing.
use mathlib.Core.Bool.{true, false}
use mathlib.Core.List.{List, [], ◌∷◌, ◌++◌, append_assoc, append-nil}
use mathlib.Core.Path.{◌≡◌, refl, sym, ap, ◌∙◌}
use Prim.Native.Nat.{ℕ, suc, ◌+◌, ◌-◌, ◌<◌}
use native.Mathlib.Omega.{arith}
use lib.Dec.{eqb}
use lib.ListN.{length, length-append}
use borrow.Author.Tests.{eqb-false, eqb-true}
use Rattle.std.specs.Borrow.{Bor}
use Rattle.std.specs.Prelude.{MatchResult, Option, None, Some, Result, Ok, Err, is_ok}
use Rattle.records.specs.Layout.{rule_limit}
use Rattle.records.specs.declared.Rule.{Rule}
use Rattle.sheets.specs.Cuts.{Cut, after, before}
use Rattle.sheets.specs.Reading.{ReadRows, rows_of, rules_read}
use Rattle.sheets.specs.Rows.{part_number, row_of}
use Rattle.sheets.specs.declared.reading.BadLine.{BadLine}
use Rattle.sheets.specs.declared.rows.Part.{Part}
use Rattle.sheets.specs.declared.rows.Part.TheVariants.{Line}
use Rattle.sheets.proofs.Lines.{rows_all, rows_bad, rows_good, rows_none, rows_open, rules_all, rules_bad, rules_good, rules_none, rules_open}
use Rattle.texts.specs.Lines.{line_feed}

-- a line whose rule `map_err` leaves is good
pub mapped_good : (Q : Part → Type 0) (r : Result Rule Part) (y : Rule) → MatchResult r (λ x. ◌≡◌ {A = Result Rule BadLine} (Ok y) (Ok x)) Q → true ≡ is_ok r → r ≡ Ok y
mapped_good Q (Ok x) y e v = cc
mapped_good Q (Err p) y e v = cc

-- and one whose part it changes is bad
pub mapped_bad : (P : Rule → Type 0) (Q : Part → Type 0) (r : Result Rule Part) → MatchResult r P Q → false ≡ is_ok r → (p : Part) × (r ≡ Err p) × Q p
mapped_bad P Q (Ok x) e v = cc
mapped_bad P Q (Err p) e v = (p, refl, e)

-- i lines are read into rules, and the rest is left
pub record LinesLeft (s : List ℕ) (rules : List Rule) (rest : List ℕ) (i : ℕ) : Type 0 where
  pub says : rows_of rule_limit 0 s ≡ rows_of (rule_limit - i) i rest
  pub holds : rules_read rule_limit s ≡ rules ++ rules_read (rule_limit - i) rest
  pub counts : length rules ≡ i

module _ (s rest : List ℕ) (rules : List Rule) (i : ℕ) (l : LinesLeft s rules rest i) where
  -- no other rule is read
  held : rules_read (rule_limit - i) rest ≡ [] → rules ≡ rules_read rule_limit s
  held z = sym (l.holds ∙ rw z (append-nil rules))

  -- no line is left
  stop : rows_of (rule_limit - i) i rest ≡ Ok i → rules_read (rule_limit - i) rest ≡ [] → ReadRows s (Ok tt) rules
  stop e z = record { says = ap Ok l.counts ∙ sym (l.says ∙ e); holds = held z }

  -- all lines that are allowed are read
  pub lines_all : i ≡ rule_limit → ReadRows s (Ok tt) rules
  lines_all h =
      let e : rule_limit - i ≡ 0 = omega arith in
      stop (rw e (rows_all i rest)) (rw e (rules_all rest))

  -- there is no other line
  pub lines_end : true ≡ eqb (length rest) 0 → ReadRows s (Ok tt) rules
  lines_end e =
      let z = eqb-true (length rest) 0 (sym e) in
      stop (rows_none (rule_limit - i) i rest z) (rules_none (rule_limit - i) rest z)

  module _ (h : i < rule_limit) where
    more : rule_limit - i ≡ suc (rule_limit - (i + 1))
    more = omega arith

    -- the next line has no end
    pub lines_open : false ≡ eqb (length rest) 0 → (o : Option (Bor (List ℕ) × Bor (List ℕ))) → Cut line_feed rest o → o ≡ None → ReadRows s (Err (record { line = i + 1; part = Line })) rules
    lines_open n (Some x) e z = cc
    lines_open n None e z =
        record {
          says = sym (l.says ∙ rw more (rows_open (rule_limit - (i + 1)) i rest (eqb-false (length rest) 0 (sym n)) (ap length e)));
          holds = held (rules_open (rule_limit - i) rest (ap length e));
        }

    module _ {row others : List ℕ}
        (p : ((row ≡ before line_feed rest) × (others ≡ after line_feed rest)) × (rest ≡ before line_feed rest ++ (line_feed ∷ after line_feed rest))) where
      ends : length (before line_feed rest) < length rest
      ends = omega (arith, ap length p.1, length-append (before line_feed rest) (line_feed ∷ after line_feed rest))

      -- it is bad
      pub lines_bad : (part : Part) → Err (part_number part) ≡ row_of row → ReadRows s (Err (record { line = i + 1; part = part })) rules
      lines_bad part b =
          let line : row_of (before line_feed rest) ≡ Err (part_number part) = sym (b ∙ ap row_of p.0.0) in
          record { says = sym (l.says ∙ rw more (rows_bad (rule_limit - (i + 1)) rest ends i (part_number part) line)); holds = held (rw more (rules_bad (rule_limit - (i + 1)) rest ends (part_number part) line)) }

      -- it is good, and its rule is held
      pub lines_more : (y : Rule) → Ok y ≡ row_of row → (now : List Rule) → now ≡ rules ++ (y ∷ []) → LinesLeft s now others (i + 1)
      lines_more y g now a =
          let f = rule_limit - (i + 1) in
          let line : row_of (before line_feed rest) ≡ Ok y = sym (g ∙ ap row_of p.0.0) in
          record {
            says = l.says ∙ rw (more, p.0.1) (rows_good f rest ends i y line);
            holds = l.holds ∙ rw (a, append_assoc, more, p.0.1, rules_good f rest ends y line);
            counts = omega (arith, ap length a, length-append rules (y ∷ []), l.counts);
          }
