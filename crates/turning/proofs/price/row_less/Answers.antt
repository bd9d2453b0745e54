-- Two rows of three compare as arrays do, place by place.
use Rattle.std.proofs.Common.{arith}
use Rattle.turning.proofs.CodedTags.{ordered}
use Rattle.turning.proofs.price.row_less.Goals as goal

pub returns : goal.returns
returns c = rw (c.lt.ensures) (ordered c.args.a c.args.b (omega arith))
