-- `entries::put_rule` meets its contract: each turn writes the first of the records that are left. Assumes nothing.
use mathlib.Core.Path.{sym, ap, ◌∙◌}
use Rattle.fields.specs.Writes.{write_at}
use Rattle.records.specs.Entries.{entry_bytes}
use Rattle.records.specs.declared.Entry.{Entry}
use Rattle.entries.specs.Words.{each, ported_entry}
use Rattle.entries.proofs.Left.{left_start, left_one, left_end}
use Rattle.entries.proofs.RuleCounts.{row, rule_rows, port_words}
use Rattle.entries.proofs.put_rule.Goals as goal

pub loop-source-init : goal.loop-source-init
loop-source-init c =
    left_start _ _ c.requires.room _
    (rw (c.into_iter-source-iterator.ensures.into_iter_gives, c.words-source-items.ensures.are, port_words _ _ _ c.ports.ensures) (sym (rule_rows _ _)))

pub loop-dest-init : goal.loop-dest-init
unfolding each
loop-dest-init c =
    rw (c.into_iter-dest-iterator.ensures.into_iter_gives, c.words-dest-items.ensures.are, port_words _ _ _ c.ports-in-loop-source.ensures)
    (rw c.in-Some.ensures.steps at c.loop-source.invariant)

pub loop-dest-preserved : goal.loop-dest-preserved
loop-dest-preserved c =
    let ported = c.ported.ensures ∙ ap (λ (e : Entry). ported_entry e c.in-Some.source c.in-Some-dest.dest) c.unported-entry.ensures in
    left_one _ _ _ _ _ _ (rw c.in-Some-dest.ensures.steps at c.loop-dest.invariant) _
    (c.put.ensures ∙ ap (write_at c.loop-dest.t c.loop-dest.free) (c.to_bytes.ensures ∙ ap entry_bytes ported))

pub returns : goal.returns
unfolding each
returns c = left_end _ _ _ _ _ (ap (λ ws. each ws (row c.args.r c.args.number)) c.in-None.ensures.steps.0) c.loop-source.invariant
