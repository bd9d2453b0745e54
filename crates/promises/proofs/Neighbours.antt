-- Each statement next to a demand fails at an example: the definitions compute it. Assumes nothing.
use mathlib.Core.Path.{◌≡◌, refl}
use mathlib.Core.Bool.{Bool, true, false}
use native.Mathlib.Omega.{arith}
use Rattle.formula.specs.Typed.{typed_value, number, minus}
use Rattle.promises.proofs.Laws.Computing.{computing}
use Rattle.promises.specs.Examples.Neighbours.{NoNeighbour}

never : (truth : Bool) → typed_value (λ i. truth) 0 (minus (number 7) (number 7)) ≡ false
unfolding typed_value
never true = refl
never false = refl

pub neighbours_false : NoNeighbour
unfolding computing
neighbours_false =
    record {
      count_one_less = λ same. omega arith;
      smaller_bound_allows_two = omega arith;
      three_are_needed = omega arith;
      false_on_the_first = λ same. omega arith;
      one_truth_for_both = never;
      two_truths_end_true = refl;
      last_gap_left_out = λ same. omega arith;
    }
