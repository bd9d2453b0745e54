-- A digit more is the fifth, or takes the value past the greatest, or does neither; and where none follows the run is over.
use Rattle.std.proofs.Common.{arith, sym, ◌∙◌}
use Rattle.text.proofs.ScanBad.{passed_none, passed_end, passed_other, passed_many, passed_great, passed_on}
use Rattle.text.proofs.ReadSigns.{no_digit}
use Rattle.text.proofs.scan.begins_large.Goals.{then-before-ge-MOST_DIGITS-via-then-before-ge-MOST_DIGITS, then-before-ge-MOST_DIGITS-via-else-before-ge-MOST_DIGITS+then-value-gt-GREATEST_PRIMITIVE}
use Rattle.text.proofs.scan.begins_large.Goals as goal

pub returns-in_default : goal.returns-in_default
returns-in_default c =
    sym (passed_other c.loop-before.invariant c.loop-before-test.true (no_digit c.from.ensures c.in_default.not-Digit))

pub returns-then-before-ge-MOST_DIGITS : goal.returns-then-before-ge-MOST_DIGITS
returns-then-before-ge-MOST_DIGITS c =
    let p = c.loop-before.invariant in
    let h = c.loop-before-test.true in
    let here = sym c.from.ensures ∙ c.in-Digit.is in
    elim c.then-before-ge-MOST_DIGITS.branch [
      | then-before-ge-MOST_DIGITS-via-then-before-ge-MOST_DIGITS w ↦ sym (passed_many p h here w.if-before-ge-MOST_DIGITS.true)
      | then-before-ge-MOST_DIGITS-via-else-before-ge-MOST_DIGITS+then-value-gt-GREATEST_PRIMITIVE w ↦
          sym (passed_great p h here (omega (arith, w.if-value-gt-GREATEST_PRIMITIVE.true, c.from-in-loop-before.ensures)))
    ]

pub loop-before-init : goal.loop-before-init
loop-before-init c = passed_none _

pub loop-before-preserved : goal.loop-before-preserved
loop-before-preserved c =
    let here = sym c.from.ensures ∙ c.in-Digit.is in
    rw c.from-in-loop-before.ensures
    (passed_on c.loop-before.invariant c.loop-before-test.true here (omega (arith, c.if-before-ge-MOST_DIGITS.false))
    (omega (arith, c.if-value-gt-GREATEST_PRIMITIVE.false, c.from-in-loop-before.ensures)))

pub returns : goal.returns
returns c = sym (passed_end c.loop-before.invariant (omega arith))
