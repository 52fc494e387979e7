-- `intervals::checks::first_difference` meets its contract: what is found over the width's values is the verdict.
-- Assumes nothing.
use Rattle.std.proofs.Common.{arith, rules, tests, refl, not, ap, sym, ◌∙◌}
use Rattle.std.proofs.lemmas.Iterator.{YieldsList-from_range}
use Rattle.std.proofs.lemmas.Iterator.Search.{find_from_yields_List}
use Rattle.std.proofs.lemmas.Iterator.Adapters.{option_map_id}
use Rattle.intervals.specs.Checks.{agree?, verdict_as, words_in}
use Rattle.intervals.proofs.Found.{verdict_find}
use Rattle.intervals.proofs.checks.first_difference.Goals as goal

pub returns : goal.returns
returns c =
    rw (← c.power.ensures.is)
    (ap verdict_as
    (sym (option_map_id _)
    ∙ find_from_yields_List (λ x. not (agree? c.args.interval.low c.args.interval.high (words_in c.args.words.now) x)) _ _ _ c.find.ensures.ran (YieldsList-from_range 0 c.power.result c.power.result refl (omega arith)) (λ x b q k. search (rules, tests)))
    ∙ verdict_find c.args.interval.low c.args.interval.high (words_in c.args.words.now) c.power.result 0)
