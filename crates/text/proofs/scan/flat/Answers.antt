-- Each step is the reader's, seen by mode and count alone, so the verdict on the rest is the verdict on the text.
use Rattle.std.proofs.Common.{arith, ap, sym, ◌∙◌}
use Rattle.grammar.specs.Twins.Places.{sign_at}
use Rattle.text.specs.Code.Flat.{flat_step}
use Rattle.text.proofs.Flat.{flat_agrees, flat_stuck, flat_next, flat_done, one_more}
use Rattle.text.proofs.scan.flat.Goals as goal

pub returns-in_default : goal.returns-in_default
returns-in_default c =
    let text = c.args.text.now in
    let l = c.loop-i in
    let here = ap (λ k. flat_step l.mode k l.depth) (sym c.from.ensures) in
    let e = here ∙ sym c.flat_step.ensures ∙ c.in_default.is in
    sym (flat_agrees text ∙ l.invariant.1 ∙ flat_stuck text l.i l.mode l.depth c.loop-i-test.true e)

pub loop-i-preserved : goal.loop-i-preserved
loop-i-preserved c =
    let text = c.args.text.now in
    let l = c.loop-i in
    let here = ap (λ k. flat_step l.mode k l.depth) (sym c.from.ensures) in
    let e = here ∙ sym c.flat_step.ensures ∙ c.in-Some.is in
    let more = one_more l.mode (sign_at text l.i) l.depth e in
    (omega (arith, l.invariant.0, more), l.invariant.1 ∙ flat_next text l.i l.mode l.depth c.loop-i-test.true e)

pub returns : goal.returns
returns c =
    let text = c.args.text.now in
    let l = c.loop-i in
    let done = flat_done text l.i l.mode l.depth (omega (arith, c.loop-i-test.false)) in
    sym (flat_agrees text ∙ l.invariant.1 ∙ done ∙ sym c.flat_end.ensures)
