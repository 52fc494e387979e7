-- `entries::words` meets its contract: the counts of source and destination port words, multiplied. Assumes nothing.
use native.Mathlib.Omega.{arith}
use Rattle.entries.proofs.RuleCounts.{word_count}
use Rattle.entries.proofs.words.Goals as goal

pub returns : goal.returns
returns c = word_count _ _ _ _ _ c.ports.ensures c.ports-2.ensures c.count.ensures c.count-2.ensures

pub overflow_mul-result : goal.overflow_mul-result
overflow_mul-result c = omega (arith, (word_count c.args.r _ _ _ _ c.ports.ensures c.ports-2.ensures c.count.ensures c.count-2.ensures).small)
