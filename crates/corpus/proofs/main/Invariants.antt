-- Each turn compares one record at most, and finds one difference at most.
use Rattle.std.proofs.Common.{◌≤◌}
use Rattle.corpus.proofs.main.Given as goal

abbrev pub invariant-loop : goal.invariant-loop
invariant-loop l = (l.differences ≤ l.texts) × (l.texts ≤ l.counter)
