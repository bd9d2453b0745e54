-- `label` takes the gates in order, and at each of them what is left to do is what the definition says of the gates that are left;
-- at the end nothing is left.
use Rattle.std.proofs.Common.{length}
use Rattle.terms.specs.Laid.{true_places_of, false_places_of, owns_of, on_trues_of, on_falses_of}
use Rattle.weaving.specs.Code.Laid.{SameLiterals, SamePlaces}
use Rattle.weaving.specs.Code.Kept.{numbers_of}
use Rattle.weaving.proofs.CodeLabel.{Midway}
use Rattle.weaving.proofs.label.label.Given as goal

abbrev pub invariant-loop-k : goal.invariant-loop-k
invariant-loop-k l =
    record {
      midway : Midway (true_places_of l.initial.gates) (false_places_of l.initial.gates) (length l.initial.gates) (owns_of l.initial.gates)
          (on_trues_of l.initial.gates) (on_falses_of l.initial.gates) l.keeper.store (numbers_of l.keeper.held) l.k (owns_of l.gates)
          (on_trues_of l.gates) (on_falses_of l.gates);
      literals_kept : SameLiterals l.initial.gates l.gates;
      places_kept : SamePlaces l.initial.gates l.gates;
    }
