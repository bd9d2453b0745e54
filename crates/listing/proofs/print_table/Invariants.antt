-- The line of the counts is written, then the lines of the gates in their order, then the line of the ends, one behind the other.
use Rattle.std.proofs.Common.{◌*◌}
use Rattle.listing.specs.Lines.{gate_lines}
use Rattle.listing.specs.Code.Written.{WrittenWithin}
use Rattle.listing.proofs.print_table.Given as goal

abbrev pub invariant-loop-k : goal.invariant-loop-k
invariant-loop-k l = WrittenWithin (26 * l.k) l.initial.page l.page (gate_lines l.table l.k)
