-- The loop of `tables::finding::matches_record`: what was gathered, and the bytes that are left, say what all bytes do.
use mathlib.Core.Path.{◌≡◌}
use Rattle.tables.specs.Looking.{record_matches?}
use Rattle.tables.proofs.Gathering.{agreeing}
use Rattle.tables.proofs.finding.matches_record.Given as goal

abbrev pub invariant-loop-j : goal.invariant-loop-j
invariant-loop-j l = record_matches? l.bytes l.header ≡ agreeing l.d l.bytes l.header l.j
