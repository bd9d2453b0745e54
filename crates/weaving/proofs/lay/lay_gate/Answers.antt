-- `lay_gate` writes what the literal carries, and leaves the gate's places and labels.
use Rattle.std.proofs.Common.{◌≡◌, refl, rules}
use Rattle.std.proofs.lemmas.List.{map-set}
use Rattle.terms.specs.declared.LaidGate.{LaidGate}
use Rattle.weaving.specs.Code.Laid.{sense_byte}
use Rattle.weaving.proofs.Rows.{places_kept, labels_kept}
use Rattle.weaving.proofs.lay.lay_gate.Goals as goal

pub returns-clause-laid : goal.returns-clause-laid
returns-clause-laid c = record {
  primitive = rw c.from.ensures (map-set (λ (g : LaidGate). g.primitive.0) c.args.gates.now _ _);
  sense_put = let told : c.from-gate.result ≡ sense_byte c.args.sense = search rules in rw (c.from.ensures, told) (map-set (λ (g : LaidGate). g.sense) c.args.gates.now _ _);
}

pub returns-clause-places_kept : goal.returns-clause-places_kept
returns-clause-places_kept c = places_kept _ _ _ _ refl refl

pub returns-clause-labels_kept : goal.returns-clause-labels_kept
returns-clause-labels_kept c = labels_kept _ _ _ _ refl refl refl
