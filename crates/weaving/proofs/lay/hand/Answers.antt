-- `hand` writes the slot's first gate, and there the two places alone.
use Rattle.std.proofs.Common.{refl}
use Rattle.std.proofs.lemmas.List.{map-set}
use Rattle.terms.specs.declared.LaidGate.{LaidGate}
use Rattle.terms.specs.declared.Place.{Place}
use Rattle.weaving.proofs.Rows.{literals_kept, labels_kept}
use Rattle.weaving.proofs.lay.hand.Goals as goal

pub returns-clause-handed : goal.returns-clause-handed
returns-clause-handed c = record {
  first = map-set (λ (p : Place). p.0) c.args.firsts.now c.args.at c.args.b;
  true_place = rw c.from.ensures (map-set (λ (g : LaidGate). g.true_place.0) c.args.gates.now _ _);
  false_place = rw c.from.ensures (map-set (λ (g : LaidGate). g.false_place.0) c.args.gates.now _ _);
}

pub returns-clause-literals_kept : goal.returns-clause-literals_kept
returns-clause-literals_kept c = literals_kept _ _ _ _ refl refl

pub returns-clause-labels_kept : goal.returns-clause-labels_kept
returns-clause-labels_kept c = labels_kept _ _ _ _ refl refl refl
