-- What is left to be written completes the job: when a run of records is written, the others are left, and when none is
-- left, all are written. Assumes nothing.
use mathlib.Core.List.{List, [], ◌∷◌, ◌++◌, append-nil}
use mathlib.Core.Path.{◌≡◌, refl, sym, ap, ◌∙◌}
use Prim.Native.Nat.{ℕ, ◌+◌, ◌*◌, ◌≤◌}
use native.Mathlib.Omega.{arith}
use lib.ListN.{length, length-append}
use Rattle.fields.specs.Writes.{write_at}
use Rattle.fields.proofs.Writing.{write_length, write_more, write_none}
use Rattle.records.specs.Entries.{entry_bytes, table_bytes}
use Rattle.records.specs.declared.Entry.{Entry}
use Rattle.records.specs.Layout.{record_size}
use Rattle.records.proofs.Reading.{length_table, table_append}
use Rattle.entries.specs.Written.{Wrote}

-- writing es from free on completes what was to be written, all from the start on
pub record Left (before : List ℕ) (all : List Entry) (now : List ℕ) (free : ℕ) (es : List Entry) : Type 0 where
  pub same : length now ≡ length before
  pub count : free + record_size * length es ≡ record_size * length all
  pub room : record_size * length all ≤ length before
  pub left : write_at now free (table_bytes es) ≡ write_at before 0 (table_bytes all)

module _ (before : List ℕ) (all : List Entry) where
  pub left_start : record_size * length all ≤ length before → (es : List Entry) → es ≡ all → Left before all before 0 es
  left_start h es e = rw e (record { same = refl; count = omega arith; room = h; left = refl })

  module _ (now : List ℕ) (free : ℕ) where
    module _ (es fs : List Entry) (l : Left before all now free (es ++ fs)) where
      -- there is room for a run of records
      pub left_room : free + record_size * length es ≤ length now
      left_room = omega (arith, l.count, l.room, l.same, length-append es fs)

      -- and after it is written, the others are left
      pub left_more : (after : List ℕ) (free' : ℕ) → after ≡ write_at now free (table_bytes es) → free' ≡ free + record_size * length es → Left before all after free' fs
      left_more after free' e z =
          let n : length (es ++ fs) ≡ length es + length fs = length-append es fs in
          let b = length_table es in
          let r : free + length (table_bytes es) ≤ length now = omega (arith, left_room) in
          let y : free' ≡ free + length (table_bytes es) = omega arith in
          record {
            same = write_length now after free (table_bytes es) e r ∙ l.same;
            count = omega (arith, l.count);
            room = l.room;
            left = rw (e, y) (write_more now free (table_bytes es) (table_bytes fs) r ∙ ap (write_at now free) (sym (table_append es fs)) ∙ l.left);
          }

    -- the same of one record
    pub left_one : (e : Entry) (es : List Entry) → Left before all now free (e ∷ es) → (after : List ℕ) → after ≡ write_at now free (entry_bytes e)
        → Left before all after (free + record_size) es
    unfolding table_bytes
    left_one e es l after w = left_more (e ∷ []) es l after (free + record_size) (w ∙ ap (write_at now free) (sym (append-nil (entry_bytes e)))) refl

    pub left_end : (es : List Entry) → es ≡ [] → Left before all now free es → Wrote before now 0 all free
    unfolding table_bytes
    left_end es e l =
        let l0 : Left before all now free [] = rw e at l in
        record { is = sym (write_none now free) ∙ l0.left; free = omega (arith, l0.count); same = l0.same }
