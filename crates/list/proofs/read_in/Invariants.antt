-- `read_in` never counts past the buffer: a read gives at most the bytes that were left, and each turn leaves fewer.
use Rattle.std.proofs.Common.{◌-◌, ◌≤◌, length}
use Rattle.list.proofs.read_in.Given as goal

abbrev pub invariant-loop-length : goal.invariant-loop-length
invariant-loop-length l = l.length ≤ length l.text

abbrev pub decreases-loop-length : goal.decreases-loop-length
decreases-loop-length l = length l.text - l.length
