-- Each slip gives another table or count than the page: the definitions compute both. Assumes nothing.
use mathlib.Core.Path.{refl}
use Rattle.promises.proofs.Laws.Computing.{computing}
use Rattle.promises.specs.Examples.Binding.{read_from_by, read_by}
use Rattle.promises.specs.Examples.Slips.{turned_by, stored_by, lowest_on_top, in_pile, pile_label, without, piled_by, seen_in, kept_by, NoSlip}

pub slips_excluded : NoSlip
unfolding computing turned_by stored_by lowest_on_top in_pile pile_label without piled_by seen_in kept_by read_from_by read_by
slips_excluded =
    record {
      figure_16_needs_three = refl;
      largest_only_needs_four = refl;
      difference_starts_with_1 = refl;
      ties_too_start_with_2 = refl;
      product_needs_two = refl;
      late_needs_three = refl;
      true_carries_0 = refl;
      false_first_carries_1 = refl;
      two_occurrences_two_gates = refl;
      merged_one_gate = refl;
      occurrences_differ = refl;
      lowest_free_order = refl;
      lowest_free_false = refl;
      lowest_on_top_false = refl;
      last_returned_false = refl;
      three_costs_order = refl;
      two_largest_order = refl;
      place_by_place_order = refl;
      smallest_second_order = refl;
      sum_second_order = refl;
      minus_in_sums_order = refl;
      minus_in_products_order = refl;
      settled_children_order = refl;
      unturned_children_order = refl;
    }
