-- Every example that document 01 marks comes out as it says, and so do those of request 1: the definitions compute them. Assumes nothing.
use mathlib.Core.Path.{refl}
use Rattle.promises.proofs.Laws.Computing.{computing}
use Rattle.promises.specs.Examples.Marked.{AllAsTold, MinusAsTold, AlsoAsTold}

pub marked_examples : AllAsTold
unfolding computing
marked_examples = record { answered = refl; typed_tag = refl; exchanged_tag = refl; ends_true = refl; listed = refl }

pub minus_examples : MinusAsTold
unfolding computing
minus_examples =
    record {
      answered = refl;
      less_a_sum = refl;
      less_a_sum_order = refl;
      less_a_sum_labels = refl;
      less_a_product = refl;
      less_a_product_order = refl;
      product_less = refl;
      product_less_order = refl;
      less_and_less = refl;
      less_and_more = refl;
      less_in_parentheses = refl;
    }

pub neighbouring_examples : AlsoAsTold
unfolding computing
neighbouring_examples = record { blanks = refl; closing_too_many = refl; openings_behind_closings = refl; too_deep = refl }
