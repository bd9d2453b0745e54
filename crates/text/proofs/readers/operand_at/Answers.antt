-- A blank or a `!` passed over stands in the text, and the machine passes it too.
use Rattle.std.proofs.Common.{◌≡◌, ◌+◌, arith}
use Rattle.text.proofs.ReadSteps.{sign_on, ended_on}
use Rattle.text.proofs.ReadPlaces.{passed_start, passed_on, passed_all}
use Rattle.text.proofs.readers.operand_at.Goals as goal

pub loop-i-init : goal.loop-i-init
loop-i-init c =
    let here : c.args.at + 0 ≡ c.args.at = omega arith in
    rw here (passed_start _ _ _ c.requires.within c.requires.clear)

pub loop-i-preserved : goal.loop-i-preserved
loop-i-preserved c =
    let next : c.args.at + (c.loop-i.i + 1) ≡ c.args.at + c.loop-i.i + 1 = omega arith in
    rw next
    (passed_on c.loop-i.invariant (sign_on c.args.text.now c.args.at c.loop-i.i c.from-sign.ensures) c.leads.ensures c.if-not-leads.false
    c.behind-turned.ensures)

pub returns : goal.returns
returns c = passed_all c.loop-i.invariant (ended_on c.args.text.now c.args.at c.loop-i.i c.loop-i-test.false)
