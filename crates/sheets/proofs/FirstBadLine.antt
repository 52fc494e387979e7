-- The line that a refusal names is the first that is not the text of a good rule, ended by a line feed. Assumes nothing.
use mathlib.Core.Bool.{Bool, true, false}
use mathlib.Core.List.{List}
use mathlib.Core.Path.{◌≡◌, ap, ap₂}
use Prim.Native.Nat.{ℕ, ◌*◌}
use native.Mathlib.Omega.{arith}
use lib.Dec.{ltb}
use lib.ListN.{length}
use Rattle.answers.specs.Answers.{done, refused}
use Rattle.answers.specs.Refusals as refusal
use Rattle.answers.specs.declared.Answer.{Answer}
use Rattle.std.specs.Prelude.{Result, Ok, Err, if◌then◌else◌}
use Rattle.records.specs.Layout.{rule_limit, rule_size}
use Rattle.records.specs.declared.Rule.{Rule}
use Rattle.sheets.specs.BadLines.{FirstBadLine, Wrong}
use Rattle.sheets.specs.Cuts.{before}
use Rattle.sheets.specs.Reading.{BadAt, bad_at, behind_rows, many?, reading, rows_of, rules_read, sheet_limit}
use Rattle.sheets.specs.Text.{GoodRule, rule_text}
use Rattle.sheets.proofs.RowText.{row_text}
use Rattle.sheets.proofs.Unread.{parts, unread}
use Rattle.texts.specs.Lines.{line_feed}

pub bad_line : (s : List ℕ) (line field : ℕ) → rows_of rule_limit 0 s ≡ Err (bad_at line field) → FirstBadLine s (rules_read rule_limit s) line field
bad_line s line field e =
    let p = rw e at (parts rule_limit 0 s) in
    record { rest = unread rule_limit s; text = p.text; good = p.good; number = omega (arith, p.says.0); bad = p.says.1 }

-- the same of the answer
pub refused_line : (s : List ℕ) (bytes line field : ℕ) → reading s bytes ≡ refused refusal.line line field → FirstBadLine s (rules_read rule_limit s) line field
unfolding behind_rows reading
refused_line s bytes line field e = bad_line s line field (go (ltb sheet_limit (length s)) (many? s) (rows_of rule_limit 0 s) e)
  where
    other : (a : Answer) → (a.no ≡ refusal.line → ⊥) → a ≡ refused refusal.line line field → ⊥
    other a h e = h (ap (λ (x : Answer). x.no) e)

    room : (n : ℕ) (b : Bool) → (if b then refused refusal.room (rule_size * n) 0 else done n 0 0 0) ≡ refused refusal.line line field → ⊥
    room n true = other _ (λ (z : refusal.room ≡ refusal.line). omega arith)
    room n false = other _ (λ (z : 0 ≡ refusal.line). omega arith)

    go : (long many : Bool) (v : Result ℕ BadAt)
        → (if long then refused refusal.long 0 0 else if many then refused refusal.many 0 0 else behind_rows v bytes) ≡ refused refusal.line line field
        → v ≡ Err (bad_at line field)
    go true many v e = absurd (other _ (λ (z : refusal.long ≡ refusal.line). omega arith) e)
    go false true v e = absurd (other _ (λ (z : refusal.many ≡ refusal.line). omega arith) e)
    go false false (Ok n) e = absurd (room n (ltb bytes (rule_size * n)) e)
    go false false (Err b) e = ap₂ (λ (l k : ℕ). Err (bad_at l k)) (ap (λ (x : Answer). x.a) e) (ap (λ (x : Answer). x.b) e)

-- a line that is ended and named is no good rule's text
pub wrong_text : (rest : List ℕ) (field : ℕ) (r : Rule) → Wrong rest field → GoodRule r → before line_feed rest ≡ rule_text r → ⊥
wrong_text rest field r w g e = let z : ◌≡◌ {A = ℕ} 0 1 = cc (row_text g) in omega arith
