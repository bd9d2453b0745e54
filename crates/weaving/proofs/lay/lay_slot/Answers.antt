-- `lay_slot` reads the node and does by its kind what `slot_laid` does; the slot's expression has room.
use Rattle.std.proofs.Common.{◌∙◌, arith}
use Rattle.std.proofs.lemmas.List.{length-map}
use Rattle.formula.specs.declared.Slot.{Slot}
use Rattle.weaving.proofs.CodeLay.{pending_slot, pending_gate, operating, operator_laid, literal_laid}
use Rattle.weaving.proofs.Rows.{place_at}
use Rattle.weaving.proofs.lay.lay_slot.Goals as goal

pub lay_gate-requires : goal.lay_gate-requires
lay_gate-requires c = rw (← place_at c.args.firsts.now c.args.i) (pending_gate c.requires.pending)

pub bounds-marks-i : goal.bounds-marks-i
bounds-marks-i c = omega (arith, (pending_slot c.requires.pending).0, length-map c.args.slots.now (λ (s : Slot). s.kind))

pub lay_operator-requires-clause-operating : goal.lay_operator-requires-clause-operating
lay_operator-requires-clause-operating c =
    operating _ _ c.args.marks.now _ c.node_at-kind.ensures c.in_order-operands.ensures c.in_default.not-Literal
    (place_at c.args.firsts.now c.args.i)
    (length-map c.args.slots.now (λ (s : Slot). s.span) ∙ c.told-slots)
    c.requires.pending

pub returns-in-Literal-clause-laid : goal.returns-in-Literal-clause-laid
returns-in-Literal-clause-laid c =
    literal_laid _ _ _ _ c.node_at-kind.ensures (place_at c.args.firsts.now c.args.i) c.in-Literal.is c.lay_gate.ensures.laid
    c.lay_gate.ensures.places_kept.true_places
    c.lay_gate.ensures.places_kept.false_places

pub returns-in_default-clause-laid : goal.returns-in_default-clause-laid
returns-in_default-clause-laid c =
    operator_laid _ _ _ _ c.node_at-kind.ensures c.in_order-operands.ensures c.in_default.not-Literal (place_at c.args.firsts.now c.args.i)
    c.lay_operator.ensures.handed
    c.lay_operator.ensures.literals_kept.primitives
    c.lay_operator.ensures.literals_kept.senses
