-- A sheet is the text of the rules that are read from it, and then what is left unread. The verdict on its lines says how
-- many rules were read, and why what is left was not. Assumes nothing.
use mathlib.Core.Bool.{Bool, true, false, not}
use mathlib.Core.List.{List, [], ◌∷◌, ◌++◌, append_assoc}
use mathlib.Core.Logic.{◌⊎◌, inl, inr}
use mathlib.Core.Path.{◌≡◌, refl, sym, ap, ◌∙◌}
use Prim.Native.Nat.{ℕ, zero, suc, ◌+◌, ◌≤◌, ◌<◌}
use native.Mathlib.Omega.{arith}
use lib.ListN.{length}
use borrow.Author.Tests.{ltb-true, ne_eqb}
use Rattle.bits.proofs.Orders.{le_or_lt}
use Rattle.std.specs.Prelude.{Result, Ok, Err, if◌then◌else◌}
use Rattle.records.specs.declared.Rule.{Rule}
use Rattle.sheets.specs.BadLines.{Unended, Wrong}
use Rattle.sheets.specs.Cuts.{after, before, times}
use Rattle.sheets.specs.Reading.{BadAt, after_lines, bad_at, ended?, row_then, rows_of, rule_then, rules_read}
use Rattle.sheets.specs.Rows.{row_of}
use Rattle.sheets.specs.Text.{AllGood, rule_text, sheet_text}
use Rattle.sheets.proofs.Marks.{before_none, parted}
use Rattle.sheets.proofs.RowText.{text_row}
use Rattle.texts.specs.Lines.{line_feed}

abbrev left_then : Result Rule ℕ → List ℕ → List ℕ → List ℕ
left_then (Ok r) rest s = rest
left_then (Err k) rest s = s

-- what is left of s from its first bad line on, or behind f lines where these are good
unfoldable pub unread : ℕ → List ℕ → List ℕ
unread zero s = s
unread (suc f) s =
    let rest = unread f (after line_feed s) in
    if ended? s then left_then (row_of (before line_feed s)) rest s else s

-- ---- why the rest was not read

-- what the verdict on f lines from the i-th on says where k rules were read from s
abbrev Says : ℕ → ℕ → List ℕ → ℕ → List ℕ → Result ℕ BadAt → Type 0
Says f i s k rest (Ok n) = (n ≡ i + k) × (rest ≡ after_lines f s)
Says f i s k rest (Err b) = (b.line ≡ i + k + 1) × (Unended rest b.field ⊎ Wrong rest b.field)

pub record Parts (f i : ℕ) (s : List ℕ) (rs : List Rule) (rest : List ℕ) (v : Result ℕ BadAt) : Type 0 where
  pub text : s ≡ sheet_text rs ++ rest
  pub good : AllGood rs
  pub few : length rs ≤ f
  pub says : Says f i s (length rs) rest v

-- ---- one line

pub lines_none : (f : ℕ) → after_lines f [] ≡ []
unfolding after_lines after
lines_none zero = refl
lines_none (suc f) = lines_none f

-- a line that is ended is the text before its line feed
line_parted : (s : List ℕ) → ended? s ≡ true → s ≡ before line_feed s ++ (line_feed ∷ after line_feed s)
line_parted s e = parted line_feed s (go (le_or_lt (times line_feed s) 0))
  where
    go : (times line_feed s ≤ 0) ⊎ (0 < times line_feed s) → 0 < times line_feed s
    go (inl h) = absurd (omega (arith, ltb-true (length (before line_feed s)) (length s) e, ap length (before_none line_feed s (omega arith))))
    go (inr h) = h

none_read : (f i : ℕ) (s : List ℕ) (v : Result ℕ BadAt) → Says f i s 0 s v → Parts f i s [] s v
unfolding sheet_text
none_read f i s v h = record { text = refl; good = tt; few = omega arith; says = h }

module _ (f i : ℕ) (s : List ℕ) where
  says_next : (k : ℕ) (rest : List ℕ) (v : Result ℕ BadAt) → Says f (i + 1) (after line_feed s) k rest v → Says (suc f) i s (suc k) rest v
  unfolding after_lines
  says_next k rest (Ok n) h = (omega arith, h.1)
  says_next k rest (Err b) h = (omega arith, h.1)

  line_read : (r : Rule) (rs : List Rule) (rest : List ℕ) (v : Result ℕ BadAt) → ended? s ≡ true → row_of (before line_feed s) ≡ Ok r
      → Parts f (i + 1) (after line_feed s) rs rest v → Parts (suc f) i s (r ∷ rs) rest v
  unfolding sheet_text
  line_read r rs rest v e g p =
      let t = text_row g in
      record {
        text = line_parted s e ∙ rw (p.text, t.0) (sym (append_assoc (rule_text r) (line_feed ∷ sheet_text rs) rest));
        good = (t.1, p.good);
        few = omega arith;
        says = says_next (length rs) rest v p.says;
      }

rows_next : (f i x : ℕ) (s : List ℕ) → rows_of (suc f) i (x ∷ s)
    ≡ (if not (ended? (x ∷ s)) then Err (bad_at (i + 1) 0) else row_then (row_of (before line_feed (x ∷ s))) (i + 1) (rows_of f (i + 1) (after line_feed (x ∷ s))))
unfolding rows_of
rows_next f i x s = rw (ne_eqb (suc (length s)) 0 (λ (z : suc (length s) ≡ 0). omega arith))

-- ---- all lines

pub parts : (f i : ℕ) (s : List ℕ) → Parts f i s (rules_read f s) (unread f s) (rows_of f i s)
unfolding after_lines before rows_of rules_read unread
parts zero i s = none_read zero i s (Ok i) (omega arith, refl)
parts (suc f) i [] = none_read (suc f) i [] (Ok i) (omega arith, sym (lines_none (suc f)))
parts (suc f) i (x ∷ s) = rw (rows_next f i x s) (go (ended? t) (row_of (before line_feed t)) refl refl (parts f (i + 1) u))
  where
    t : List ℕ
    t = x ∷ s

    u : List ℕ
    u = after line_feed t

    go : (b : Bool) (r : Result Rule ℕ) → ended? t ≡ b → row_of (before line_feed t) ≡ r → Parts f (i + 1) u (rules_read f u) (unread f u) (rows_of f (i + 1) u)
        → Parts (suc f) i t (if b then rule_then r (rules_read f u) else []) (if b then left_then r (unread f u) t else t)
        (if not b then Err (bad_at (i + 1) 0) else row_then r (i + 1) (rows_of f (i + 1) u))
    go false r e g p = none_read (suc f) i t (Err (bad_at (i + 1) 0)) (omega arith, inl (record { some = omega arith; endless = e; whole = refl }))
    go true (Err k) e g p = none_read (suc f) i t (Err (bad_at (i + 1) k)) (omega arith, inr (record { ended = e; says = g }))
    go true (Ok r) e g p = line_read f i t r (rules_read f u) (unread f u) (rows_of f (i + 1) u) e g p
