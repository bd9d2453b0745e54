-- The digits passed have a value that is small since refusal 3 found no run that is too large.
use Rattle.std.proofs.Common.{arith, sym}
use Rattle.text.proofs.ReadSigns.{no_digit}
use Rattle.text.proofs.ReadSteps.{sign_on, ended_on}
use Rattle.text.proofs.ReadPlaces.{begun_small, begun_next, begun_end, begun_all}
use Rattle.text.proofs.readers.number.Goals as goal

pub returns-in_default : goal.returns-in_default
returns-in_default c =
    begun_end c.requires.digit c.loop-i.invariant (no_digit (sign_on c.args.text.now c.args.at c.loop-i.i c.from.ensures) c.in_default.not-Digit)

pub overflow_mul-value : goal.overflow_mul-value
overflow_mul-value c =
    let h = begun_small c.loop-i.invariant in
    omega arith

pub overflow_add-value : goal.overflow_add-value
overflow_add-value c =
    let here = sym (sign_on c.args.text.now c.args.at c.loop-i.i c.in-Digit.ensures) in
    let h = begun_small (begun_next c.requires.clear c.requires.sound c.loop-i.invariant here) in
    omega (arith, c.from-in-loop-i.ensures)

pub loop-i-preserved : goal.loop-i-preserved
loop-i-preserved c =
    let here = sym (sign_on c.args.text.now c.args.at c.loop-i.i c.in-Digit.ensures) in
    rw c.from-in-loop-i.ensures (begun_next c.requires.clear c.requires.sound c.loop-i.invariant here)

pub returns : goal.returns
returns c = begun_all c.requires.digit c.loop-i.invariant (ended_on c.args.text.now c.args.at c.loop-i.i c.loop-i-test.false)
