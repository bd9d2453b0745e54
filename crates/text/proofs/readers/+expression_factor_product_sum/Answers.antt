-- Each step that a reader takes the machine takes too, and where it stops the reader does.
use Rattle.std.proofs.Common.{arith, sym, ap, ◌∙◌}
use Rattle.std.proofs.lemmas.Result.{err_from_is_err_and}
use Rattle.grammar.specs.declared.Sign.{Sign}
use Rattle.grammar.specs.Twins.Places.{is_open}
use Rattle.grammar.specs.Twins.Reader.{of_sums, of_products}
use Rattle.text.specs.Code.Readers.{behind, meets}
use Rattle.text.proofs.ReadSigns.{no_digit, no_open, binds_from}
use Rattle.text.proofs.ReadFactors.{prefixed, prefixed_late, nothing_read, open_stands, ready_inner, inner_read, inner_late}
use Rattle.text.proofs.ReadChains.{binds_stands, ready_next, room, product_first, product_again, product_late, sum_again, sum_late}
use Rattle.text.proofs.readers.+expression_factor_product_sum.Goals as goal

pub factor-expression-requires : goal.factor-expression-requires
factor-expression-requires t c =
    let o = ap is_open (sym c.in-Open.ensures) in
    let h = open_stands c.args.text.now c.operand_at-at.result.at o in
    let p = c.operand_at-at.ensures.passed in
    (omega (arith, c.decreases, p.from), ready_inner c.requires p o)

pub factor-returns-in_err-inner-in-Open : goal.factor-returns-in_err-inner-in-Open
factor-returns-in_err-inner-in-Open t c =
    let p = err_from_is_err_and c.from_residual.result c.from_residual.ensures.1 in
    rw (p.1, p.2)
    (inner_late c.args.text.now c.operand_at-at.result.at (ap is_open (sym c.in-Open.ensures)) c.operand_at-at.ensures.passed c.in_err-inner-in-Open.ensures)

pub factor-returns-in-Digit : goal.factor-returns-in-Digit
factor-returns-in-Digit t c = prefixed c.operand_at-at.ensures.passed c.literal.ensures

pub factor-returns-in_ok-inner-in-Open : goal.factor-returns-in_ok-inner-in-Open
factor-returns-in_ok-inner-in-Open t c =
    inner_read c.args.text.now c.operand_at-at.result.at (ap is_open (sym c.in-Open.ensures)) c.operand_at-at.ensures.passed
    c.in_ok-inner-in-Open.inner c.closed.result c.in_ok-inner-in-Open.ensures c.closed.ensures

pub factor-returns-in_default : goal.factor-returns-in_default
factor-returns-in_default t c =
    let o = c.operand_at-at.ensures in
    prefixed_late o.passed
    (nothing_read c.args.text.now c.operand_at-at.result.at o.passed.within o.ends
    (no_digit c.look.ensures c.in_default.not-Digit) (no_open c.look.ensures c.in_default.not-Open))

pub product-loop-from-init : goal.product-loop-from-init
product-loop-from-init t c = product_first c.in_ok-made.ensures

pub product-factor-requires-in-loop-from : goal.product-factor-requires-in-loop-from
product-factor-requires-in-loop-from t c =
    let h = binds_from {l = of_products} c.look.ensures c.binding.ensures c.loop-from-test.true in
    let k = c.loop-from.invariant in
    let f = c.in_ok-made.ensures.kept in
    (omega (arith, c.decreases, k.past, binds_stands c.args.text.now c.loop-from.made.at (omega arith)), ready_next c.requires f k (omega arith))

pub product-returns-in_err-right : goal.product-returns-in_err-right
product-returns-in_err-right t c =
    let h = binds_from {l = of_products} c.look.ensures c.binding.ensures c.loop-from-test.true in
    let f = c.in_ok-made.ensures.kept in
    let p = err_from_is_err_and c.from_residual-in_err-right.result c.from_residual-in_err-right.ensures.1 in
    rw (p.1, p.2) (product_late c.requires f c.loop-from.invariant h c.in_err-right.ensures)

pub product-join-made-requires-clause-before : goal.product-join-made-requires-clause-before
product-join-made-requires-clause-before t c =
    let h = binds_from {l = of_products} c.look.ensures c.binding.ensures c.loop-from-test.true in
    let o = room c.requires c.in_ok-made.ensures.kept c.loop-from.invariant (omega arith) c.in_ok-right.ensures in
    omega (arith, o.left, o.right)

pub product-join-made-requires-clause-below : goal.product-join-made-requires-clause-below
product-join-made-requires-clause-below t c =
    let h = binds_from {l = of_products} c.look.ensures c.binding.ensures c.loop-from-test.true in
    let o = room c.requires c.in_ok-made.ensures.kept c.loop-from.invariant (omega arith) c.in_ok-right.ensures in
    o.below

pub product-loop-from-preserved : goal.product-loop-from-preserved
product-loop-from-preserved t c =
    let h = binds_from {l = of_products} c.look.ensures c.binding.ensures c.loop-from-test.true in
    let f = c.in_ok-made.ensures.kept in
    rw c.join-made.ensures.cursor
    (product_again c.requires f c.loop-from.invariant h c.in_ok-right.ensures c.join-made.ensures.kinds_after c.join-made.ensures.spans_after)

pub sum-product-requires-in-loop-from : goal.sum-product-requires-in-loop-from
sum-product-requires-in-loop-from t c =
    let h = binds_from {l = of_sums} c.look-sign.ensures c.binding.ensures c.if-binding-lt-OF_SUMS.false in
    let k = c.loop-from.invariant in
    let f = c.in_ok-made.ensures.kept in
    (omega (arith, c.decreases, k.past, binds_stands c.args.text.now c.loop-from.made.at h), ready_next c.requires f k h)

pub sum-returns-in_err-right : goal.sum-returns-in_err-right
sum-returns-in_err-right t c =
    let h = binds_from {l = of_sums} c.look-sign.ensures c.binding.ensures c.if-binding-lt-OF_SUMS.false in
    let f = c.in_ok-made.ensures.kept in
    let p = err_from_is_err_and c.from_residual-in_err-right.result c.from_residual-in_err-right.ensures.1 in
    rw (p.1, p.2) (sum_late c.requires f c.loop-from.invariant h c.in_err-right.ensures)

pub sum-join-made-requires-clause-before : goal.sum-join-made-requires-clause-before
sum-join-made-requires-clause-before t c =
    let h = binds_from {l = of_sums} c.look-sign.ensures c.binding.ensures c.if-binding-lt-OF_SUMS.false in
    let o = room c.requires c.in_ok-made.ensures.kept c.loop-from.invariant h c.in_ok-right.ensures in
    omega (arith, o.left, o.right)

pub sum-join-made-requires-clause-below : goal.sum-join-made-requires-clause-below
sum-join-made-requires-clause-below t c =
    let h = binds_from {l = of_sums} c.look-sign.ensures c.binding.ensures c.if-binding-lt-OF_SUMS.false in
    let o = room c.requires c.in_ok-made.ensures.kept c.loop-from.invariant h c.in_ok-right.ensures in
    o.below

pub sum-loop-from-preserved : goal.sum-loop-from-preserved
sum-loop-from-preserved t c =
    let h = binds_from {l = of_sums} c.look-sign.ensures c.binding.ensures c.if-binding-lt-OF_SUMS.false in
    let f = c.in_ok-made.ensures.kept in
    rw c.join-made.ensures.cursor
    (sum_again c.requires f c.loop-from.invariant h (c.behind.ensures ∙ ap (λ (k : Sign). behind k c.args.sense) c.look-sign.ensures)
    (c.meets.ensures ∙ ap (λ (k : Sign). meets k c.args.sense) c.look-sign.ensures) c.in_ok-right.ensures c.join-made.ensures.kinds_after
    c.join-made.ensures.spans_after)
