-- A key, a rule and a record between numbers and bytes: numbers that are read at their places, parts that are written behind
-- each other. Assumes nothing.
use mathlib.Core.List.{List, [], ◌∷◌, ◌++◌, append-nil}
use mathlib.Core.Path.{◌≡◌, refl, ◌∙◌}
use Prim.Native.Nat.{ℕ, ◌+◌, ◌≤◌}
use native.Mathlib.Omega.{arith}
use lib.ListN.{length, drop_of_length-le, get_or}
use Rattle.fields.specs.Bytes.{at2, at4}
use Rattle.fields.specs.Writes.{write_at}
use Rattle.fields.proofs.Writing.{write_then}
use Rattle.records.specs.Entries.{entry_bytes}
use Rattle.records.specs.Keys.{key, key_at, key_bytes}
use Rattle.records.specs.Layout.{action_at, key_size, number_at, record_size}
use Rattle.records.specs.Rules.{rule_at}
use Rattle.records.specs.declared.Entry.{Entry}

-- ---- read

pub key_read : (l : List ℕ) (src dst sport dport : ℕ) → src ≡ at4 l 1 → dst ≡ at4 l 5 → sport ≡ at2 l 9 → dport ≡ at2 l 11
    → key (get_or l 0 0) src dst sport dport ≡ key_at l
unfolding key_at
key_read l src dst sport dport a b c d = rw (a, b, c, d)

pub rule_read : (l : List ℕ) (src dst slow shigh dlow dhigh : ℕ) → src ≡ at4 l 2 → dst ≡ at4 l 7 → slow ≡ at2 l 12 → shigh ≡ at2 l 14
    → dlow ≡ at2 l 16 → dhigh ≡ at2 l 18 → record {
      flag = get_or l 0 0;
      proto = get_or l 1 0;
      src = src;
      slen = get_or l 6 0;
      dst = dst;
      dlen = get_or l 11 0;
      slow = slow;
      shigh = shigh;
      dlow = dlow;
      dhigh = dhigh;
      action = get_or l 20 0;
    } ≡ rule_at l
unfolding rule_at
rule_read l src dst slow shigh dlow dhigh a b c d e f = rw (a, b, c, d, e, f)

-- ---- written

-- the value, mask, rule number and action of a record, d1 to d4 what the list holds after each
record_written : (d d1 d2 d3 d4 v m : List ℕ) (at : ℕ) (e : Entry) → at + record_size ≤ length d → v ≡ key_bytes e.value → m ≡ key_bytes e.mask
    → d1 ≡ write_at d at v → d2 ≡ write_at d1 (at + key_size) m → d3 ≡ write_at d2 (at + number_at) (e.rule ∷ [])
    → d4 ≡ write_at d3 (at + action_at) (e.action ∷ []) → d4 ≡ write_at d at (entry_bytes e)
unfolding key_bytes
record_written d d1 d2 d3 d4 v m at e h ev em e1 e2 e3 e4 =
    let f1 : d1 ≡ write_at d at (key_bytes e.value) = rw (← ev) e1 in
    let g2 : d2 ≡ write_at d1 (at + key_size) (key_bytes e.mask) = rw (← em) e2 in
    let f2 = write_then d d1 d2 at (at + key_size) (key_bytes e.value) (key_bytes e.mask) f1 g2 refl (omega arith) in
    let f3 = write_then d d2 d3 at (at + number_at) (key_bytes e.value ++ key_bytes e.mask) (e.rule ∷ []) f2 e3 refl (omega arith) in
    write_then d d3 d4 at (at + action_at) (key_bytes e.value ++ (key_bytes e.mask ++ (e.rule ∷ []))) (e.action ∷ []) f3 e4 refl (omega arith)

-- a list as long as what is written at its start holds nothing else
write_whole : (d s : List ℕ) → length d ≡ length s → write_at d 0 s ≡ s
unfolding write_at
write_whole d s h = rw (drop_of_length-le d {i = 0 + length s} (omega arith)) (append-nil s)

-- a record's parts fill it
pub record_filled : (d d1 d2 d3 d4 v m : List ℕ) (e : Entry) → length d ≡ record_size → v ≡ key_bytes e.value → m ≡ key_bytes e.mask
    → d1 ≡ write_at d 0 v → d2 ≡ write_at d1 key_size m → d3 ≡ write_at d2 number_at (e.rule ∷ [])
    → d4 ≡ write_at d3 action_at (e.action ∷ []) → d4 ≡ entry_bytes e
unfolding key_bytes
record_filled d d1 d2 d3 d4 v m e h ev em e1 e2 e3 e4 =
    record_written d d1 d2 d3 d4 v m 0 e (omega arith) ev em e1 e2 e3 e4 ∙ write_whole d (entry_bytes e) h
