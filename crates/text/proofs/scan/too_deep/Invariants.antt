-- `too_deep` is right because the count is that of `(` less `)` over the bytes passed, as an integer, and none of them took
-- it past the deepest.
use Rattle.std.proofs.Common.{◌-◌, ◌≡◌, length, take}
use Rattle.terms.specs.First.{first_from}
use Rattle.grammar.specs.Twins.Places.{too_deep, too_deep_at}
use Rattle.text.proofs.ScanDepth.{level}
use Rattle.text.proofs.scan.too_deep.Given as goal

abbrev pub invariant-loop-i : goal.invariant-loop-i
invariant-loop-i l =
    (l.count ≡ level (take l.i l.text))
    × (too_deep l.text ≡ first_from (too_deep_at l.text) l.i (length l.text - l.i))
