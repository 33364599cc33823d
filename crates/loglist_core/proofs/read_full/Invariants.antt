-- Each read gives a byte or more; the space left is the measure.
use Rattle.std.proofs.Common.{◌≤◌, ◌-◌, length}
use Rattle.loglist_core.proofs.read_full.Given as goal

abbrev pub invariant-loop-filled : goal.invariant-loop-filled
invariant-loop-filled g l = l.filled ≤ length l.space

abbrev pub decreases-loop-filled : goal.decreases-loop-filled
decreases-loop-filled g l = length l.space - l.filled
