-- The kind that is tested is that of the slot, the operands stand where its node tells, and settling the operator over both
-- turned operands and putting its mark into its own slot turns it.
use Rattle.std.proofs.Common.{ap, ◌∙◌, ◌<◌, length, arith}
use Rattle.formula.specs.declared.Node.{Node}
use Rattle.formula.specs.Code.Held.{kinds_of, spans_of}
use Rattle.turning.specs.Code.Coded.{meant, intersecting}
use Rattle.turning.proofs.CodedWalk.{tested, turned_at_literal, left_site, right_site, Walked, before_settle, after_settle}
use Rattle.turning.proofs.turn.+turn.Goals as goal

pub returns-then-is_literal : goal.returns-then-is_literal
returns-then-is_literal t c = turned_at_literal _ _ _ _ _ (tested (kinds_of c.args.slots.now) (spans_of c.args.slots.now) c.args.i c.if-is_literal.ensures c.node_at-kind.ensures) c.leaf.ensures

pub turn-l-requires : goal.turn-l-requires
turn-l-requires t c =
    left_site _ _ _ c.requires (tested (kinds_of c.args.slots.now) (spans_of c.args.slots.now) c.args.i c.if-is_literal.ensures c.node_at-kind.ensures) _ t c.decreases
    (ap (λ (n : Node). n.left) c.node_at-kind.ensures)

pub turn-r-requires : goal.turn-r-requires
turn-r-requires t c =
    right_site _ _ _ c.requires (tested (kinds_of c.args.slots.now) (spans_of c.args.slots.now) c.args.i c.if-is_literal.ensures c.node_at-kind.ensures) _ t c.decreases
    (ap (λ (n : Node). n.right) c.node_at-kind.ensures)

pub settle-settled-requires : goal.settle-settled-requires
settle-settled-requires t c =
    let w : Walked (kinds_of c.args.slots.now) (spans_of c.args.slots.now) c.args.marks.now c.turn-r.new.marks c.args.i (meant c.turn-l.result) (meant c.turn-r.result) =
    record {
      bs₁ = c.turn-l.new.marks;
      site = c.requires;
      inner = tested (kinds_of c.args.slots.now) (spans_of c.args.slots.now) c.args.i c.if-is_literal.ensures c.node_at-kind.ensures;
      first = rw (ap (λ (n : Node). n.left) c.node_at-kind.ensures) at c.turn-l.ensures;
      second = rw (ap (λ (n : Node). n.right) c.node_at-kind.ensures) at c.turn-r.ensures;
    } in
    let p = before_settle _ _ _ _ _ _ _ w in
    record { small = p.0; small_2 = p.1 }

pub returns : goal.returns
returns t c =
    let w : Walked (kinds_of c.args.slots.now) (spans_of c.args.slots.now) c.args.marks.now c.turn-r.new.marks c.args.i (meant c.turn-l.result) (meant c.turn-r.result) =
    record {
      bs₁ = c.turn-l.new.marks;
      site = c.requires;
      inner = tested (kinds_of c.args.slots.now) (spans_of c.args.slots.now) c.args.i c.if-is_literal.ensures c.node_at-kind.ensures;
      first = rw (ap (λ (n : Node). n.left) c.node_at-kind.ensures) at c.turn-l.ensures;
      second = rw (ap (λ (n : Node). n.right) c.node_at-kind.ensures) at c.turn-r.ensures;
    } in
    let within : c.args.i < length c.turn-r.new.marks = omega arith in
    after_settle _ _ _ _ _ _ _ w within _ _ _
    (c.is_intersection.ensures ∙ ap (λ (n : Node). intersecting n.kind) c.node_at-to_settle.ensures)
    c.settle-settled.ensures
    c.put_mark.ensures
