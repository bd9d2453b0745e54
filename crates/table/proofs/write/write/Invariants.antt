-- The header is stored, then a record for each gate in turn, then the end, each where the one before it ended.
use Rattle.std.proofs.Common.{length}
use Rattle.terms.specs.Laid.{primitives_of, senses_of, owns_of, on_trues_of, on_falses_of}
use Rattle.table.proofs.WriteBytes.{Writing}
use Rattle.table.proofs.write.write.Given as goal

abbrev pub invariant-loop-k : goal.invariant-loop-k
invariant-loop-k l =
    Writing l.initial.out (length l.gates) l.labels (primitives_of l.gates) (senses_of l.gates) (owns_of l.gates) (on_trues_of l.gates)
    (on_falses_of l.gates) l.ends.on_true.0 l.ends.on_false.0 l.k l.out
