-- `blocks::Words::next` meets its contract: the lowest word is given, and those behind it are left. Assumes nothing.
use mathlib.Core.Path.{ap, ◌∙◌}
use native.Mathlib.Omega.{arith}
use lib.ListN.{length}
use Rattle.blocks.specs.Walked.{left_words}
use Rattle.blocks.proofs.Walking.{words_behind}
use Rattle.blocks.proofs.words.WordsIterator.next.Goals as goal

pub returns-clause-steps : goal.returns-clause-steps
returns-clause-steps c =
    ap left_words c.in_ok-interval.was ∙ words_behind _ _ _ c.in_ok-interval.interval.closed _ _ c.first-size.ensures c.behind-self.ensures

pub returns-clause-goes : goal.returns-clause-goes
returns-clause-goes c =
    let e = ap left_words c.in_ok-interval.was ∙ words_behind _ _ _ c.in_ok-interval.interval.closed _ _ c.first-size.ensures c.behind-self.ensures in
    record { on = λ _. (tt, tt, omega (arith, ap length e)); keeps = tt; rests = λ _. tt }
