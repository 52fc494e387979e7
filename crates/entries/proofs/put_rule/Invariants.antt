-- The loops of `entries::put_rule`: at each turn the records of the source words that are left are left, and within a source
-- word those of the destination words that are left, before them.
use Rattle.std.proofs.Common.{map}
use mathlib.Core.List.{◌++◌}
use Rattle.blocks.specs.Walked.{words_left}
use Rattle.entries.specs.Words.{each, entry_with, proto_word, rule_entries}
use Rattle.entries.proofs.Left.{Left}
use Rattle.entries.proofs.RuleCounts.{row}
use Rattle.entries.proofs.put_rule.Given as goal

abbrev pub invariant-loop-dest : goal.invariant-loop-dest
invariant-loop-dest l =
    Left l.fn.t (rule_entries l.number l.r) l.t l.free
    (map (entry_with l.r l.number (proto_word l.r) l.source) (words_left l.dest-iterator) ++ each (words_left l.source-iterator) (row l.r l.number))

abbrev pub invariant-loop-source : goal.invariant-loop-source
invariant-loop-source l =
    Left l.fn.t (rule_entries l.number l.r) l.t l.free (each (words_left l.source-iterator) (row l.r l.number))
