-- A turn of writing the records of all rules: writing those of the rules that are left completes the table.
-- Assumes nothing.
use mathlib.Core.List.{List, [], ◌∷◌, ◌++◌}
use mathlib.Core.Path.{◌≡◌, sym, ap, ◌∙◌, subst}
use Prim.Native.Nat.{ℕ, ◌+◌, ◌-◌, ◌*◌, ◌≤◌, ◌<◌}
use native.Mathlib.Omega.{arith}
use lib.ListN.{drop, get_or, length, take}
use borrow.Rule.Slice.PartMut.{put_mid}
use Rattle.std.proofs.lemmas.List.{at_drop_more}
use Rattle.entries.proofs.Left.{Left, left_more, left_room}
use Rattle.entries.proofs.Spans.{entries_cons}
use Rattle.entries.specs.Words.{entries_of, rule_entries}
use Rattle.entries.specs.Written.{Wrote}
use Rattle.fields.proofs.Writing.{write_part}
use Rattle.records.specs.Entries.{table_bytes}
use Rattle.records.specs.declared.Entry.{Entry}
use Rattle.records.specs.Layout.{record_size}
use Rattle.records.specs.Rules.{rule_at}
use Rattle.records.specs.declared.Rule.{Rule}
use Rattle.rules.specs.Lists.{rules_in}

module _ (before now : List ℕ) (all : List Entry) (records : List (List ℕ)) (i at : ℕ) (l : Left before all now at (entries_of i (rules_in (drop i records))))
    (h : i < length records) (r : Rule) (e : r ≡ rule_at (get_or records i [])) where
  abbrev after : List Entry
  after = entries_of (i + 1) (rules_in (drop (i + 1) records))

  next_left : Left before all now at (rule_entries i r ++ after)
  next_left =
      subst (λ (es : List Entry). Left before all now at es)
      (at_drop_more (λ (ss : List (List ℕ)). entries_of i (rules_in ss)) records i [] h
      ∙ ap (λ (q : Rule). entries_of i (q ∷ rules_in (drop (i + 1) records))) (sym e) ∙ entries_cons i r (rules_in (drop (i + 1) records))) l

  -- there is room for the next rule's records
  filling_room : at + record_size * length (rule_entries i r) ≤ length now
  filling_room = left_room before all now at (rule_entries i r) after next_left

  -- and after they are written to the part from at on, the others are left
  pub filling_more : (part : List ℕ) (x : ℕ) → Wrote (take (length now - at) (drop at now)) part 0 (rule_entries i r) x
      → Left before all (put_mid at (length now - at) now part) (at + x) after
  filling_more part x w =
      left_more before all now at (rule_entries i r) after next_left (put_mid at (length now - at) now part) (at + x)
      (ap (put_mid at (length now - at) now) w.is ∙ write_part now at (table_bytes (rule_entries i r)) (omega (arith, filling_room)))
      (omega (arith, w.free))
