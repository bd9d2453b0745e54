-- `turn` turns both operands, which leaves their marks behind them and the tree as it was, and then settles the operator and puts
-- its mark into its own slot; what falls is the subtree's size, which its slot tells.
use Rattle.std.proofs.Common.{get_or}
use Rattle.formula.specs.Code.Held.{spans_of}
use Rattle.turning.proofs.turn.+turn.Given as goal

abbrev pub decreases-turn : goal.decreases-turn
decreases-turn l = get_or (spans_of l.slots.now) l.i 0
