-- `step` has the gate give its label back, and labels its true place and then its false place; their labels are those that stand
-- after all of that, and what the gate's literal carries and its places are left.
use Rattle.std.proofs.Common.{refl}
use Rattle.std.proofs.lemmas.List.{map-set}
use Rattle.terms.specs.declared.LaidGate.{LaidGate}
use Rattle.weaving.proofs.Rows.{true_place_at, false_place_at, literals_kept, places_kept}
use Rattle.weaving.proofs.CodeLabel.{steppable_at, leave_asked, first_asked, second_asked, both_asked, stepped}
use Rattle.weaving.proofs.label.Keeper.step.Goals as goal

pub leave-own-requires : goal.leave-own-requires
leave-own-requires c = leave_asked c.requires

pub hold-requires-clause-some_free : goal.hold-requires-clause-some_free
hold-requires-clause-some_free c = first_asked c.requires c.leave-own.ensures.gave_back

pub hold-requires-2-clause-some_free : goal.hold-requires-2-clause-some_free
hold-requires-2-clause-some_free c = second_asked (steppable_at _ c.from-at.ensures c.requires) c.leave-own.ensures.gave_back c.hold.ensures

pub ends-requires : goal.ends-requires
ends-requires c =
    both_asked (steppable_at _ c.from-at.ensures c.requires) c.leave-own.ensures.gave_back c.hold.ensures c.hold-2.ensures

pub returns-clause-stepped : goal.returns-clause-stepped
returns-clause-stepped c =
    rw (true_place_at c.args.gates.now c.from-at.ensures, false_place_at c.args.gates.now c.from-at.ensures)
    (stepped _ _ _ c.leave-own.ensures.first c.leave-own.ensures.later c.ends.ensures.on_true_value c.ends.ensures.on_false_value
    c.leave-own.ensures.gave_back
    c.hold.ensures
    c.hold-2.ensures
    (rw c.from-at.ensures (map-set (λ (g : LaidGate). g.own.0) c.args.gates.now _ _))
    (rw c.from-at.ensures (map-set (λ (g : LaidGate). g.on_true.0) c.args.gates.now _ _))
    (rw c.from-at.ensures (map-set (λ (g : LaidGate). g.on_false.0) c.args.gates.now _ _)))

pub returns-clause-literals_kept : goal.returns-clause-literals_kept
returns-clause-literals_kept c = literals_kept _ _ _ _ refl refl

pub returns-clause-places_kept : goal.returns-clause-places_kept
returns-clause-places_kept c = places_kept _ _ _ _ refl refl
