-- A rule's words match exactly the headers that the rule matches, and no two of them overlap. Assumes nothing.
use mathlib.Core.Bool.{Bool, false, ◌&&◌, and-false}
use mathlib.Core.List.{map}
use mathlib.Core.Path.{◌≡◌, refl}
use Prim.Native.Nat.{ℕ}
use Rattle.blocks.specs.declared.Word.{Word}
use Rattle.entries.specs.Words.{addr_word, dest_words, each, entry_with, rule_entries, source_words}
use Rattle.records.specs.Keys.{KeyFits}
use Rattle.records.specs.declared.Key.{Key}
use Rattle.records.specs.declared.Rule.{Rule}
use Rattle.rules.specs.Meaning.{port_match, rule_match}
use Rattle.tables.specs.Meaning.{AtMostOne, Sound, any, entry_matches, key_match}
use Rattle.tables.proofs.Any.{Passes, each_passes, map_passes}
use Rattle.tables.proofs.FieldWords.{addr_hit, hit, port_passes, proto_passes}

module _ (r : Rule) (i : ℕ) (h : Key) where
  -- the five tests, those of the protocol and the ports being given
  fields : Bool → Bool → Bool → Bool
  fields p s d = p && (hit h.src (addr_word r.src r.slen) && (hit h.dst (addr_word r.dst r.dlen) && (s && d)))

  no_source : (p d : Bool) → fields p false d ≡ false
  unfolding fields
  no_source p d = simp and-false

  no_dest : (p s : Bool) → fields p s false ≡ false
  unfolding fields
  no_dest p s = simp and-false

  with_dest : (p s d : Word) → entry_matches h (entry_with r i p s d) ≡ fields (hit h.proto p) (hit h.sport s) (hit h.dport d)
  unfolding key_match fields
  with_dest p s d = refl

  dests : Sound r → KeyFits h → (p s : Word)
      → Passes (entry_matches h) (map (entry_with r i p s) (dest_words r)) (fields (hit h.proto p) (hit h.sport s) (port_match r.dlow r.dhigh h.dport))
  dests z k p s =
      map_passes (entry_matches h) (hit h.dport) (fields (hit h.proto p) (hit h.sport s)) (no_dest (hit h.proto p) (hit h.sport s))
      (entry_with r i p s) (with_dest p s) (port_passes 16 r.dlow r.dhigh z.fits.dhigh h.dport k.dport)

  words_pass : Sound r → KeyFits h → Passes (entry_matches h) (rule_entries i r) (rule_match r h)
  unfolding rule_entries rule_match fields
  words_pass z k =
      rw (← addr_hit r.src r.slen h.src z.src k.src, ← addr_hit r.dst r.dlen h.dst z.dst k.dst)
      (each_passes (entry_matches h) (hit h.proto)
      (λ (p : Bool). fields p (port_match r.slow r.shigh h.sport) (port_match r.dlow r.dhigh h.dport)) refl
      (λ (p : Word). each (source_words r) (λ (s : Word). map (entry_with r i p s) (dest_words r)))
      (λ (p : Word).
      each_passes (entry_matches h) (hit h.sport) (λ (s : Bool). fields (hit h.proto p) s (port_match r.dlow r.dhigh h.dport))
      (no_source (hit h.proto p) (port_match r.dlow r.dhigh h.dport)) (λ (s : Word). map (entry_with r i p s) (dest_words r)) (dests z k p)
      (port_passes 16 r.slow r.shigh z.fits.shigh h.sport k.sport))
      (proto_passes r h.proto k.proto))

  pub words_match : Sound r → KeyFits h → any (entry_matches h) (rule_entries i r) ≡ rule_match r h
  words_match z k = (words_pass z k).some

  pub words_apart : Sound r → KeyFits h → AtMostOne (entry_matches h) (rule_entries i r)
  words_apart z k = (words_pass z k).once
