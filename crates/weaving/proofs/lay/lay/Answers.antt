-- `lay` hands the root the whole and takes all slots, the root first; each slot taken leaves fewer slots, and the same to come of
-- them. That writes the gates of the arrangement.
use Rattle.std.proofs.Common.{rules, arith, refl}
use Rattle.std.proofs.lemmas.List.{length-map}
use Rattle.terms.specs.declared.LaidGate.{LaidGate}
use Rattle.weaving.proofs.CodeLay.{layable_some, pending_start, onward_step, onward_end, all_laid}
use Rattle.weaving.proofs.Rows.{long_places}
use Rattle.weaving.proofs.lay.lay.Goals as goal

pub overflow_sub-root : goal.overflow_sub-root
overflow_sub-root c = omega (arith, layable_some c.requires)

pub hand-requires-clause-b_in_bounds : goal.hand-requires-clause-b_in_bounds
hand-requires-clause-b_in_bounds c = omega (arith, layable_some c.requires)

pub loop-i-init : goal.loop-i-init
loop-i-init c = record {
  onward = record {
    pending = pending_start c.requires (long_places 2047) (omega (arith, layable_some c.requires)) c.hand.ensures.handed;
    same = refl;
  };
  labels_kept = search rules;
}

pub lay_slot-requires-clause-pending : goal.lay_slot-requires-clause-pending
lay_slot-requires-clause-pending c = rw (c.loop-i.auto.gates, c.hand.auto.gates) c.loop-i.invariant.onward.pending

pub loop-i-preserved : goal.loop-i-preserved
loop-i-preserved c = record {
  onward = onward_step c.lay_slot.ensures.laid c.loop-i.invariant.onward (omega arith);
  labels_kept = search rules;
}

pub returns-2-clause-laid : goal.returns-2-clause-laid
returns-2-clause-laid c =
    all_laid c.requires.few (long_places 2047)
    (length-map _ (λ (g : LaidGate). g.true_place.0))
    (length-map _ (λ (g : LaidGate). g.false_place.0))
    (omega arith)
    c.hand.ensures.handed
    c.hand.ensures.literals_kept.primitives
    c.hand.ensures.literals_kept.senses
    (onward_end (onward_step c.lay_slot.ensures.laid c.loop-i.invariant.onward (omega arith)))
    (omega (arith, layable_some c.requires))
