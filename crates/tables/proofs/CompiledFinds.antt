-- Demand 2, said of what the calls return: looking up a compiled table with the returned count finds, for every header, what
-- reading the rule list finds; and a well-formed list is turned down exactly where its words outnumber the room.
-- Assumes nothing.
use mathlib.Core.Bool.{Bool, true, false}
use mathlib.Core.List.{List, ◌++◌}
use mathlib.Core.Logic.{◌⊎◌, inl, inr}
use mathlib.Core.Path.{◌≡◌, refl, sym, ap, ap₂, ◌∙◌}
use Prim.Native.Nat.{ℕ, zero, suc, ◌+◌, ◌/◌, ◌≤◌, ◌<◌}
use native.Mathlib.Omega.{arith}
use lib.Dec.{eqb, ltb}
use lib.ListN.{drop, length}
use lib.Seq.{get_or-drop}
use borrow.Author.Tests.{eqb-true, le-ltb, lt-ltb}
use Rattle.answers.proofs.Lending.{left_done}
use Rattle.answers.specs.Answers.{behind_ill, done, refused}
use Rattle.answers.specs.Refusals as refusal
use Rattle.answers.specs.declared.Answer.{Answer}
use Rattle.bits.proofs.Orders.{le_or_lt}
use Rattle.std.specs.Prelude.{Option, None, Result, Ok, Err, if◌then◌else◌}
use Rattle.entries.proofs.Spans.{length_entries}
use Rattle.entries.specs.Words.{entries_of, needed}
use Rattle.fields.proofs.Writing.{length_write}
use Rattle.fields.specs.Bytes.{Bytes}
use Rattle.fields.specs.Writes.{write_at}
use Rattle.records.proofs.Reading.{length_table, rule_fits}
use Rattle.records.specs.Entries.{table_bytes}
use Rattle.records.specs.declared.Entry.{Entry}
use Rattle.records.specs.Layout.{key_size, room_of, rule_size}
use Rattle.records.specs.Rules.{all_rules, rule_at, rules_of}
use Rattle.rules.proofs.Goods.{fine, good_list, good_next}
use Rattle.rules.proofs.Settled.{fault_some}
use Rattle.rules.specs.Faults.{behind_rules, first_bad, tested_rules}
use Rattle.rules.specs.Finding as rule
use Rattle.rules.specs.declared.faults.ListFault.{ListFault}
use Rattle.rules.specs.declared.finding.FindError.{FindError}
use Rattle.rules.specs.declared.finding.Found as rule_found
use Rattle.tables.specs.Compiling.{Compiling, Taken, compiled_as, compiling}
use Rattle.tables.specs.Looking.{first_ill, first_record, found_as, looking, looking_formed}
use Rattle.tables.specs.Meaning.{AllSound, forget}
use Rattle.tables.specs.declared.finding.Found.{Found}
use Rattle.tables.specs.declared.finding.LookError.{LookError}
use Rattle.tables.proofs.Demand2.{table_finds}
use Rattle.tables.proofs.FormedTable.{compiled_formed}

-- ---- a well-formed list

all_sound : (n i : ℕ) (l : List ℕ) → Bytes l → first_bad i (rules_of n l) ≡ Ok tt → AllSound (rules_of n l)
unfolding rules_of
all_sound zero i l b e = tt
all_sound (suc n) i l b e =
    let g = good_next i (rule_at l) (rules_of n (drop rule_size l)) e in
    let f = fine (rule_at l) g.0 in (
      record { fits = rule_fits l b; src = f.src; dst = f.dst; action = f.action },
      all_sound n (i + 1) (drop rule_size l) (λ (j : ℕ). rw get_or-drop (b (rule_size + j))) g.1,
    )

-- so what the laws about a rule's words ask of a rule holds of each rule of a well-formed list
pub rules_sound : (l : List ℕ) → Bytes l → tested_rules l ≡ Ok tt → AllSound (all_rules l)
rules_sound l b e = all_sound (length l / rule_size) 0 l b (good_list l e).good

-- ---- what compiling answers

module _ (l : List ℕ) (bytes : ℕ) (good : tested_rules l ≡ Ok tt) where
  -- turned down, with the number of words needed, where they outnumber the room
  pub turned_down : room_of bytes < needed (all_rules l) → compiling l bytes ≡ refused refusal.space (needed (all_rules l)) 0
  unfolding compiling behind_rules
  turned_down h = simp (good, lt-ltb (room_of bytes) (needed (all_rules l)) h)

  -- and taken where they do not
  pub taken : needed (all_rules l) ≤ room_of bytes → compiling l bytes ≡ done (needed (all_rules l)) 0 0 0
  unfolding compiling behind_rules
  taken h = simp (good, le-ltb (room_of bytes) (needed (all_rules l)) h)

-- and only such a list is taken
pub was_taken : (l : List ℕ) (bytes : ℕ) → (compiling l bytes).no ≡ 0 → Taken l bytes
unfolding compiling behind_rules
was_taken l bytes e = go (tested_rules l) refl (le_or_lt (needed (all_rules l)) (room_of bytes)) e
  where
    go : (t : Result Unit ListFault) → tested_rules l ≡ t → (needed (all_rules l) ≤ room_of bytes) ⊎ (room_of bytes < needed (all_rules l))
        → (behind_rules t (if ltb (room_of bytes) (needed (all_rules l)) then refused refusal.space (needed (all_rules l)) 0 else done (needed (all_rules l)) 0 0 0)).no ≡ 0
        → Taken l bytes
    go (Err f) p q z = absurd (fault_some f z)
    go (Ok x) p (inl q) z = record { good = p; room = q }
    go (Ok x) p (inr q) z = absurd (omega (arith, rw (lt-ltb (room_of bytes) (needed (all_rules l)) q) at z))

-- ---- the compiled table

module _ (l before : List ℕ) (bl : Bytes l) (r : Answer) (t : List ℕ) (c : Compiling l before r t) (ok : r.no ≡ 0) where
  entries : List Entry
  entries = entries_of 0 (all_rules l)

  holds : Taken l (length before)
  holds = was_taken l (length before) (sym (ap (λ (a : Answer). a.no) c.says) ∙ ok)

  count : r.a ≡ needed (all_rules l)
  count = ap (λ (a : Answer). a.a) (c.says ∙ taken l (length before) holds.good holds.room)

  length_is : length entries ≡ needed (all_rules l)
  unfolding entries
  length_is = length_entries 0 (all_rules l)

  sound : AllSound (all_rules l)
  sound = rules_sound l bl holds.good

  fits : 0 + length (table_bytes entries) ≤ length before
  fits = omega (arith, length_table entries, length_is, holds.room)

  rest : List ℕ
  rest = drop (0 + length (table_bytes entries)) before

  written : t ≡ table_bytes entries ++ rest
  unfolding write_at entries rest
  written = c.leaves ∙ left_done (compiling l (length before)) (table_bytes (entries_of 0 (all_rules l))) before (sym (ap (λ (a : Answer). a.no) c.says) ∙ ok)

  same_length : length t ≡ length before
  unfolding write_at rest
  same_length = ap length written ∙ length_write before 0 (table_bytes entries) fits

  -- what compile writes is never refused with 9 or 10 under the returned count
  pub never_stated : r.a ≤ room_of (length t)
  never_stated = omega (arith, count, holds.room, ap room_of same_length)

  pub never_ill : first_ill r.a 0 t ≡ None
  unfolding entries
  never_ill = rw (count, ← length_is, written) (compiled_formed 0 (all_rules l) sound 0 rest)

  looked : (h : List ℕ) → looking t r.a h ≡ looking_formed t r.a h
  unfolding looking behind_ill
  looked h = rw (le-ltb (room_of (length t)) r.a never_stated, never_ill)

  -- the rule list's answer, as the list is well formed
  read : (h : List ℕ) → rule.finding l h ≡ rule.finding_good l h
  unfolding rule.finding behind_rules
  read h = simp holds.good

  -- the one equation: whatever the header, the table's answer without the record's index is the rule list's answer
  pub finds_same : (h : List ℕ) → Bytes h → forget (looking t r.a h) ≡ rule.finding l h
  unfolding rule.finding_good looking_formed entries
  finds_same h bh = go (eqb (length h) key_size) refl
    where
      go : (b : Bool) → eqb (length h) key_size ≡ b → forget (looking t r.a h) ≡ rule.finding l h
      go true e =
          let z : length h ≡ key_size = eqb-true (length h) key_size e in
          let f : looking_formed t r.a h ≡ first_record r.a 0 t h = simp e in
          ap forget (looked h ∙ f)
          ∙ ap forget (ap₂ (λ (k : ℕ) (u : List ℕ). first_record k 0 u h) (count ∙ sym length_is) written)
          ∙ table_finds (all_rules l) sound h z bh rest
          ∙ sym (read h ∙ simp e)
      go false e =
          let f : looking_formed t r.a h ≡ refused refusal.header 0 0 = simp e in
          ap forget (looked h ∙ f) ∙ sym (read h ∙ simp e)

-- and so it is of what the calls return: where `compile` returns k words, `find_word` finds what `find_rule` finds
pub calls_agree : (l before : List ℕ) → Bytes l → (k : ℕ) (t : List ℕ) → Compiling l before (compiled_as (Ok k)) t
    → (h : List ℕ) → Bytes h → (f : Result (Option Found) LookError) (g : Result (Option rule_found.Found) FindError) → found_as f ≡ looking t k h → rule.found_as g ≡ rule.finding l h
    → forget (found_as f) ≡ rule.found_as g
calls_agree l before bl k t c h bh f g ef eg = ap forget ef ∙ finds_same l before bl (compiled_as (Ok k)) t c refl h bh ∙ sym eg
