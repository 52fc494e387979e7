-- `sheets::cuts::count` meets its contract: what the filter leaves is counted. Assumes nothing.
use mathlib.Core.Path.{◌∙◌}
use borrow.Author.Rules.{rules}
use borrow.Author.Tests.{tests}
use Rattle.std.proofs.lemmas.Iterator.{YieldsList-from_slice}
use Rattle.std.proofs.lemmas.Iterator.Consumers.{YieldsList-at, YieldsList-from_filter, count_from_yields_List}
use Rattle.sheets.proofs.Places.{mark?, times_is}
use Rattle.sheets.proofs.cuts.count.Goals as goal

pub returns : goal.returns
returns c =
    count_from_yields_List c.filter.result c.count.result c.count.ensures.ran
    (YieldsList-from_filter _ (mark? c.args.c) (YieldsList-at c.filter.ensures.source (YieldsList-from_slice c.args.s.now cc)) c.filter.ensures.closure (λ x r q k. search (rules, tests)))
    ∙ times_is c.args.c c.args.s.now
