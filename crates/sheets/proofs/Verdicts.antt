-- Reading a sheet: what is answered at each return, and what the lent memory holds then. Assumes nothing.
use mathlib.Core.Bool.{true, false}
use mathlib.Core.List.{List}
use mathlib.Core.Path.{◌≡◌, refl, ap, ◌∙◌}
use Prim.Native.Nat.{ℕ, ◌*◌, ◌≤◌, ◌<◌}
use lib.ListN.{length}
use borrow.Author.Tests.{le-ltb, lt-ltb}
use Rattle.std.specs.Prelude.{Result, Ok, Err}
use Rattle.answers.proofs.Lending.{lent_done, lent_refused}
use Rattle.answers.specs.Answers.{done, refused}
use Rattle.answers.specs.Refusals as refusal
use Rattle.fields.specs.Writes.{write_at}
use Rattle.records.specs.Layout.{rule_size}
use Rattle.records.specs.Rules.{list_bytes}
use Rattle.records.specs.declared.Rule.{Rule}
use Rattle.sheets.specs.Reading.{BadAt, ReadRows, Reading, behind_rows, line_error, many?, read_as, reading, rows_as, sheet_limit}
use Rattle.sheets.specs.declared.reading.BadLine.{BadLine}

module _ (s lent : List ℕ) where
  pub sheet_long : sheet_limit < length s → Reading s lent (refused refusal.long 0 0) lent
  unfolding reading
  sheet_long h = lent_refused (simp (lt-ltb sheet_limit (length s) h)) refl

  module _ (h : length s ≤ sheet_limit) where
    pub sheet_many : true ≡ many? s → Reading s lent (refused refusal.many 0 0) lent
    unfolding reading
    sheet_many m = lent_refused (simp (le-ltb sheet_limit (length s) h, ← m)) refl

    module _ (m : false ≡ many? s) where
      behind : {x : Result Unit BadLine} {rules : List Rule} → ReadRows s x rules → behind_rows (rows_as (length rules) x) (length lent) ≡ reading s (length lent)
      unfolding reading
      behind r = simp (le-ltb sheet_limit (length s) h, ← m) (ap (λ (y : Result ℕ BadAt). behind_rows y (length lent)) r.says)

      pub sheet_bad : (b : BadLine) (rules : List Rule) → ReadRows s (Err b) rules → Reading s lent (read_as (Err (line_error b))) lent
      unfolding behind_rows
      sheet_bad b rules r = lent_refused (behind r) refl

      module _ (rules : List Rule) (r : ReadRows s (Ok tt) rules) (n : ℕ) (e : n ≡ length rules) where
        pub sheet_room : length lent < rule_size * n → Reading s lent (refused refusal.room (rule_size * n) 0) lent
        unfolding behind_rows
        sheet_room l = lent_refused (rw (← behind r, ← e) (simp (lt-ltb (length lent) (rule_size * n) l))) refl

        pub sheet_rules : rule_size * n ≤ length lent → (left : List ℕ) → left ≡ write_at lent 0 (list_bytes rules) → Reading s lent (done n 0 0 0) left
        unfolding behind_rows
        sheet_rules l left w =
            lent_done (rw (← behind r, ← e) (simp (le-ltb (length lent) (rule_size * n) l))) refl left
            (w ∙ ap (λ (rs : List Rule). write_at lent 0 (list_bytes rs)) r.holds)
