-- The greatest, the middle and the least of three costs are the row that insertion makes of them.
use Rattle.turning.specs.Code.Coded.{with_costs}
use Rattle.turning.proofs.CodedTags.{row_three}
use Rattle.turning.proofs.price.row.Goals as goal

pub returns : goal.returns
returns c = λ m. cc (row_three (with_costs m c.args.costs))
