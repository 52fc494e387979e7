-- `tables::finding::first_ill` meets its contract: what is found is the first ill-formed record. Assumes nothing.
use Rattle.std.proofs.Common.{rules, tests, not, ◌∙◌}
use Rattle.std.proofs.lemmas.Iterator.{YieldsList-from_slice}
use Rattle.std.proofs.lemmas.Iterator.Search.{position_from_yields_List}
use Rattle.tables.specs.Looking.{record_formed?}
use Rattle.tables.proofs.Chunked.{ill_position}
use Rattle.tables.proofs.finding.first_ill.Goals as goal

pub returns : goal.returns
returns c =
    position_from_yields_List (λ r. not (record_formed? r)) _ _ _ c.position.ensures.ran (YieldsList-from_slice c.args.records.now cc) (λ x b q k. search (rules, tests))
    ∙ ill_position _
