-- `tables::finding::find_word` meets its contract: an ill-formed record's index is below the count. Assumes nothing.
use mathlib.Core.Path.{sym, ◌∙◌}
use native.Mathlib.Omega.{arith}
use Rattle.tables.proofs.Chunked.{ill_in}
use Rattle.tables.proofs.Indices.{ill_lowest}
use Rattle.tables.proofs.finding.find_word.Goals as goal

pub overflow_cast-result : goal.overflow_cast-result
overflow_cast-result c =
    omega (arith, (ill_lowest _ _ _ (ill_in _ _ (omega arith) _ c.as_chunks.ensures.front ∙ sym c.first_ill.ensures ∙ c.in-Some.is)).within)
