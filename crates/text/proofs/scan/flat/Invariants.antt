-- `flat` is right because its mode and its count are the reader's state and what waits, seen from outside, so that the
-- verdict on the rest is the verdict on the text.
use Rattle.std.proofs.Common.{◌≤◌, ◌≡◌, drop}
use Rattle.text.specs.declared.scan.Mode.TheVariants.{Wanted}
use Rattle.text.specs.Code.Flat.{flat_from}
use Rattle.text.proofs.scan.flat.Given as goal

abbrev pub invariant-loop-i : goal.invariant-loop-i
invariant-loop-i l = (l.depth ≤ l.i) × (flat_from Wanted 0 0 l.text ≡ flat_from l.mode l.depth l.i (drop l.i l.text))
