-- `intervals::checks::some_match` meets its contract: one of the list's pairs is a word that matches.
-- Assumes nothing.
use Rattle.std.proofs.Common.{rules, tests, ◌∙◌}
use Rattle.std.proofs.lemmas.Iterator.{YieldsList-from_slice}
use Rattle.std.proofs.lemmas.Iterator.Search.{any_from_yields_List}
use Rattle.blocks.specs.Tests.{matches?}
use Rattle.blocks.specs.Words.{word_in}
use Rattle.intervals.proofs.Found.{some_any}
use Rattle.intervals.proofs.checks.some_match.Goals as goal

pub returns : goal.returns
returns c =
    any_from_yields_List (λ p. matches? (word_in p) c.args.x) _ _ _ c.any.ensures.ran (YieldsList-from_slice c.args.words.now cc) (λ x b q k. search (rules, tests))
    ∙ some_any word_in _ _
