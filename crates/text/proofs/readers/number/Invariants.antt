-- `number` is right because the machine, inside a number, shifts its value by the same digits and leaves it where none follows; the value is
-- small because refusal 3 found no run that is too large.
use Rattle.text.proofs.ReadPlaces.{Begun}
use Rattle.text.proofs.readers.number.Given as goal

abbrev pub invariant-loop-i : goal.invariant-loop-i
invariant-loop-i l = Begun l.text l.at l.i l.value
