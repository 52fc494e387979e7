-- `intervals::checks::first_ill` meets its contract: what is found is the first ill-formed word. Assumes nothing.
use Rattle.std.proofs.Common.{rules, tests, not, ◌∙◌}
use Rattle.std.proofs.lemmas.Iterator.{YieldsList-from_slice}
use Rattle.std.proofs.lemmas.Iterator.Search.{position_from_yields_List}
use Rattle.blocks.specs.Tests.{formed?}
use Rattle.blocks.specs.Words.{word_in}
use Rattle.intervals.proofs.Found.{ill_position}
use Rattle.intervals.proofs.checks.first_ill.Goals as goal

pub returns : goal.returns
returns c =
    position_from_yields_List (λ p. not (formed? c.args.n (word_in p))) _ _ _ c.position.ensures.ran (YieldsList-from_slice c.args.words.now cc) (λ x b q k. search (rules, tests))
    ∙ ill_position word_in _ _
