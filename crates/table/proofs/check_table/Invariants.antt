-- The loop has seen every gate before k fit, so the first record that does not is the first at fault.
use Rattle.std.proofs.Common.{◌≡◌, true, ℕ, ◌<◌}
use Rattle.table.specs.Twins.Faults.{gate_fits}
use Rattle.table.proofs.check_table.Given as goal

abbrev pub invariant-loop-k : goal.invariant-loop-k
invariant-loop-k l = (j : ℕ) → j < l.k → gate_fits l.table j ≡ true
