-- `operand_at` is right because it leads over blanks and `!` alone, and flips the sense at each `!`.
use Rattle.std.proofs.Common.{◌+◌}
use Rattle.text.specs.Code.Readers.{Passed}
use Rattle.text.proofs.readers.operand_at.Given as goal

abbrev pub invariant-loop-i : goal.invariant-loop-i
invariant-loop-i l = Passed l.text l.at l.sense (l.at + l.i) l.turned
