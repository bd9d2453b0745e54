-- The parts of the line are written in their order, one behind the other.
use Rattle.std.proofs.Common.{arith}
use Rattle.listing.proofs.Decimals.{decimal_written}
use Rattle.listing.proofs.Parts.{two_numbers}
use Rattle.listing.proofs.Page.pair.Goals as goal

pub returns : goal.returns
returns c =
    two_numbers _ _ _ _ c.word.ensures (rw (decimal_written c.args.m (omega arith)) at c.number.ensures) c.word-2.ensures
    (rw (decimal_written c.args.n (omega arith)) at c.number-2.ensures) c.word-3.ensures
