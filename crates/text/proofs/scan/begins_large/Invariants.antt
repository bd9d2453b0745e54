-- `begins_large` is right because at each turn the digits passed are no more than a number has, with a value that is none
-- too great, and the digits left make them too large exactly where all of them are.
use Rattle.text.proofs.ScanBad.{Passed}
use Rattle.text.proofs.scan.begins_large.Given as goal

abbrev pub invariant-loop-before : goal.invariant-loop-before
invariant-loop-before l = Passed l.bytes l.before l.value
