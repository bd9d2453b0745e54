-- The readers are right because each step that they take the machine takes too: behind an operand they go on where it goes on, and where it stops
-- they stop; what is left of the text falls from call to call, and with it the rank of the reader.
use Rattle.std.proofs.Common.{◌+◌, ◌-◌, ◌*◌, length}
use Rattle.text.specs.Code.Readers.{of_factors, slots_of, ProductMeans, SumMeans, Built}
use Rattle.grammar.specs.Twins.Reader.{of_products}
use Rattle.text.proofs.readers.+expression_factor_product_sum.Given as goal

abbrev pub decreases-expression : goal.decreases-expression
decreases-expression l = (length l.text.now - l.from.at) * 4 + 3

abbrev pub decreases-factor : goal.decreases-factor
decreases-factor l = (length l.text.now - l.from.at) * 4

abbrev pub decreases-product : goal.decreases-product
decreases-product l = (length l.text.now - l.from.at) * 4 + 1

abbrev pub decreases-sum : goal.decreases-sum
decreases-sum l = (length l.text.now - l.from.at) * 4 + 2

abbrev pub invariant-product-loop-from : goal.invariant-product-loop-from
invariant-product-loop-from l =
    Built ProductMeans of_factors l.text l.from.at l.sense l.from.free (slots_of l.initial.slots) (slots_of l.slots) l.made.at l.made.free

abbrev pub decreases-product-loop-from : goal.decreases-product-loop-from
decreases-product-loop-from l = length l.text - l.made.at

abbrev pub invariant-sum-loop-from : goal.invariant-sum-loop-from
invariant-sum-loop-from l =
    Built SumMeans of_products l.text l.from.at l.sense l.from.free (slots_of l.initial.slots) (slots_of l.slots) l.made.at l.made.free

abbrev pub decreases-sum-loop-from : goal.decreases-sum-loop-from
decreases-sum-loop-from l = length l.text - l.made.at
