-- `sheetwords::read_full` ends: each read but the last puts a byte at least into what is left of the buffer.
use Rattle.std.proofs.Common.{◌-◌, ◌≤◌, length}
use Rattle.sheetwords.proofs.read_full.Given as goal

abbrev pub invariant-loop-n : goal.invariant-loop-n
invariant-loop-n g l = l.n ≤ length l.sheet

abbrev pub decreases-loop-n : goal.decreases-loop-n
decreases-loop-n g l = length l.initial.sheet - l.n
