-- What a call says it wrote lies within what it was lent. Assumes nothing.
use mathlib.Core.Bool.{Bool, true, false}
use mathlib.Core.List.{List}
use mathlib.Core.Path.{◌≡◌, refl, sym, ap, ◌∙◌}
use Prim.Native.Nat.{ℕ, ◌*◌, ◌≤◌}
use native.Mathlib.Omega.{arith}
use lib.Dec.{ltb}
use lib.ListN.{length}
use borrow.Author.Tests.{ltb-false}
use Rattle.answers.specs.Answers.{done, refused}
use Rattle.answers.specs.Refusals as refusal
use Rattle.answers.specs.declared.Answer.{Answer}
use Rattle.std.specs.Prelude.{if◌then◌else◌}
use Rattle.records.specs.Layout.{rule_limit, rule_size, word_limit}
use Rattle.std.specs.Prelude.{Result, Ok, Err}
use Rattle.sheets.specs.Reading.{BadAt, Reading, behind_rows, many?, reading, rows_of, sheet_limit}
use Rattle.tables.proofs.CompiledFinds.{taken, was_taken}
use Rattle.tables.specs.Compiling.{Compiling}

-- the words of a compiled list are at most those of a table
pub compiled_few : (l before after : List ℕ) (r : Answer) → Compiling l before r after → r.no ≡ 0 → r.a ≤ word_limit
compiled_few l before after r c z =
    let t = was_taken l (length before) (sym (ap (λ (a : Answer). a.no) c.says) ∙ z) in
    omega (arith, t.room, ap (λ (a : Answer). a.a) (c.says ∙ taken l (length before) t.good t.room))

module _ (bytes n : ℕ) where
  fits_room : (b : Bool) → ltb bytes (rule_size * n) ≡ b
      → (if b then refused refusal.room (rule_size * n) 0 else done n 0 0 0).no ≡ 0
      → rule_size * (if b then refused refusal.room (rule_size * n) 0 else done n 0 0 0).a ≤ bytes
  fits_room true p e = absurd (omega arith)
  fits_room false p e = ltb-false bytes (rule_size * n) p

fits_tested : (bytes : ℕ) (long many : Bool) (v : Result ℕ BadAt)
    → (if long then refused refusal.long 0 0 else if many then refused refusal.many 0 0 else behind_rows v bytes).no ≡ 0
    → rule_size * (if long then refused refusal.long 0 0 else if many then refused refusal.many 0 0 else behind_rows v bytes).a ≤ bytes
unfolding behind_rows
fits_tested bytes true many v e = absurd (omega arith)
fits_tested bytes false true v e = absurd (omega arith)
fits_tested bytes false false (Err b) e = absurd (omega arith)
fits_tested bytes false false (Ok n) e = fits_room bytes n (ltb bytes (rule_size * n)) refl e

fits : (s : List ℕ) (bytes : ℕ) → (reading s bytes).no ≡ 0 → rule_size * (reading s bytes).a ≤ bytes
unfolding reading
fits s bytes e = fits_tested bytes (ltb sheet_limit (length s)) (many? s) (rows_of rule_limit 0 s) e

-- the rules read lie in the bytes lent
pub read_fits : (s before after : List ℕ) (r : Answer) → Reading s before r after → r.no ≡ 0 → rule_size * r.a ≤ length before
read_fits s before after r c z = rw c.says (fits s (length before) (ap (λ (a : Answer). a.no) (sym c.says) ∙ z))
