-- The three labels are written in their order, one behind the other.
use Rattle.std.proofs.Common.{arith}
use Rattle.listing.proofs.Decimals.{decimal_written}
use Rattle.listing.proofs.Writing.{then_within}
use Rattle.listing.proofs.Page.labels.Goals as goal

pub returns : goal.returns
returns c =
    rw (decimal_written c.args.own.0 (omega arith), decimal_written c.args.on_true.0 (omega arith), decimal_written c.args.on_false.0 (omega arith))
    at (then_within c.spaced.ensures (then_within c.spaced-2.ensures c.spaced-3.ensures))
