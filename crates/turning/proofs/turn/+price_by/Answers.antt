-- The kind that is tested is that of the slot, the operands stand where its node tells, and the tags of both operands, each
-- arranged by its own marks, give the operator's as its mark places them.
use Rattle.std.proofs.Common.{ap, ◌∙◌}
use Rattle.formula.specs.declared.Node.{Node}
use Rattle.formula.specs.Code.Held.{kinds_of, spans_of}
use Rattle.turning.specs.Code.Coded.{intersecting}
use Rattle.turning.proofs.CodedWalk.{tested, priced_at_literal, left_marked, right_marked, before_price, after_price}
use Rattle.turning.proofs.turn.+price_by.Goals as goal

pub returns-then-is_literal : goal.returns-then-is_literal
returns-then-is_literal t c = priced_at_literal _ _ _ _ _ (tested (kinds_of c.args.slots.now) (spans_of c.args.slots.now) c.args.i c.if-is_literal.ensures c.node_at-kind.ensures) c.leaf.ensures

pub price_by-l-requires : goal.price_by-l-requires
price_by-l-requires t c =
    left_marked _ _ _ _ c.requires (tested (kinds_of c.args.slots.now) (spans_of c.args.slots.now) c.args.i c.if-is_literal.ensures c.node_at-kind.ensures) _ t c.decreases
    (ap (λ (n : Node). n.left) c.node_at-kind.ensures)

pub price_by-r-requires : goal.price_by-r-requires
price_by-r-requires t c =
    right_marked _ _ _ _ c.requires (tested (kinds_of c.args.slots.now) (spans_of c.args.slots.now) c.args.i c.if-is_literal.ensures c.node_at-kind.ensures) _ t c.decreases
    (ap (λ (n : Node). n.right) c.node_at-kind.ensures)

pub price_placed-requires : goal.price_placed-requires
price_placed-requires t c =
    let p =
    before_price _ _ _ _ c.requires (tested (kinds_of c.args.slots.now) (spans_of c.args.slots.now) c.args.i c.if-is_literal.ensures c.node_at-kind.ensures) _ _
    (rw (ap (λ (n : Node). n.left) c.node_at-kind.ensures) at c.price_by-l.ensures)
    (rw (ap (λ (n : Node). n.right) c.node_at-kind.ensures) at c.price_by-r.ensures) in
    record { small = p.0; small_2 = p.1 }

pub returns : goal.returns
returns t c =
    after_price _ _ _ _ c.requires (tested (kinds_of c.args.slots.now) (spans_of c.args.slots.now) c.args.i c.if-is_literal.ensures c.node_at-kind.ensures) _ _
    (rw (ap (λ (n : Node). n.left) c.node_at-kind.ensures) at c.price_by-l.ensures)
    (rw (ap (λ (n : Node). n.right) c.node_at-kind.ensures) at c.price_by-r.ensures)
    _ _
    (c.is_intersection.ensures ∙ ap (λ (n : Node). intersecting n.kind) c.node_at-to_price.ensures)
    c.price_placed.ensures
