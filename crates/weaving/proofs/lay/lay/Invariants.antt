-- `lay` takes slot after slot downwards, and at each of them what is left leads to the same end.
use Rattle.std.proofs.Common.{suc}
use Rattle.formula.specs.Code.Held.{kinds_of, spans_of}
use Rattle.weaving.specs.Code.Laid.{laying_of, SameLabels}
use Rattle.weaving.proofs.CodeLay.{Onward}
use Rattle.weaving.proofs.lay.lay.Given as goal

abbrev pub invariant-loop-i : goal.invariant-loop-i
invariant-loop-i l =
    record {
      onward : Onward (kinds_of l.slots) (spans_of l.slots) l.marks l.n (suc l.root) (laying_of l.initial.firsts l.initial.gates) (suc l.i)
          (laying_of l.firsts l.gates);
      labels_kept : SameLabels l.fn.gates l.gates;
    }
