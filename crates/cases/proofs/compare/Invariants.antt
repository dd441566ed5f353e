-- Each turn passes two of the list's NULs, and counts one pair.
use Rattle.std.proofs.Common.{◌+◌, ◌≤◌, length}
use Rattle.cases.proofs.compare.Given as goal

abbrev pub invariant-loop-input : goal.invariant-loop-input
invariant-loop-input g l = l.count + length l.rest ≤ length l.list

abbrev pub decreases-loop-input : goal.decreases-loop-input
decreases-loop-input g l = length l.rest
