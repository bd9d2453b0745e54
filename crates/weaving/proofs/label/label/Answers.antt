-- What is left to do stands at each gate as the invariant says of it, and at the end nothing is left.
use Rattle.std.proofs.Common.{rules, ℕ, List, get_or, ap, arith}
use Rattle.std.proofs.lemmas.List.{length-map}
use Rattle.terms.specs.declared.LaidGate.{LaidGate}
use Rattle.weaving.proofs.CodeLabel.{midway_none, midway_asked, midway_on, midway_ends, midway_labelled}
use Rattle.weaving.proofs.label.label.Goals as goal

pub loop-k-init : goal.loop-k-init
loop-k-init c = record { midway = midway_none 1026 c.all_free.ensures; literals_kept = search rules; places_kept = search rules }

pub step-requires : goal.step-requires
step-requires c =
    midway_asked c.requires c.loop-k.invariant.midway c.loop-k-test.true
    (ap (λ (l : List ℕ). get_or l c.loop-k.k 0) c.loop-k.invariant.places_kept.true_places)
    (ap (λ (l : List ℕ). get_or l c.loop-k.k 0) c.loop-k.invariant.places_kept.false_places)
    (omega (arith, length-map c.loop-k.gates (λ (g : LaidGate). g.own.0)))
    (omega (arith, length-map c.loop-k.gates (λ (g : LaidGate). g.on_true.0)))
    (omega (arith, length-map c.loop-k.gates (λ (g : LaidGate). g.on_false.0)))

pub loop-k-preserved : goal.loop-k-preserved
loop-k-preserved c =
    record {
      midway = midway_on c.requires c.loop-k.invariant.midway c.loop-k-test.true
          (ap (λ (l : List ℕ). get_or l c.loop-k.k 0) c.loop-k.invariant.places_kept.true_places)
          (ap (λ (l : List ℕ). get_or l c.loop-k.k 0) c.loop-k.invariant.places_kept.false_places) c.step.ensures.stepped;
      literals_kept = search rules;
      places_kept = search rules;
    }

pub ends-requires : goal.ends-requires
ends-requires c = midway_ends c.requires c.loop-k.invariant.midway (omega arith)

pub returns-clause-labelled : goal.returns-clause-labelled
returns-clause-labelled c =
    midway_labelled c.requires c.loop-k.invariant.midway (omega arith) c.ends.ensures.on_true_value c.ends.ensures.on_false_value
