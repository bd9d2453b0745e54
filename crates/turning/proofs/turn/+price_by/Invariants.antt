-- `price_by` prices both operands by their own marks and then the operator by its mark, as the arrangement places them; what
-- falls is the subtree's size, which its slot tells.
use Rattle.std.proofs.Common.{get_or}
use Rattle.formula.specs.Code.Held.{spans_of}
use Rattle.turning.proofs.turn.+price_by.Given as goal

abbrev pub decreases-price_by : goal.decreases-price_by
decreases-price_by l = get_or (spans_of l.slots.now) l.i 0
