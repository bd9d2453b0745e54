-- Statements next to the demands that are false, each with an example that shows it (scope 10.2).
--   NoNeighbour == that each of them fails
-- Assumes nothing.
use Rattle.std.specs.Prelude.{ℕ, ◌+◌, ◌-◌, ◌*◌, ◌^◌, ◌≤◌, ◌<◌, ◌≡◌, ◌≢◌, Bool, true, false, List, [], ◌∷◌, length}
use Rattle.terms.specs.Terms.{first_label}
use Rattle.terms.specs.Answer.{result}
use Rattle.formula.specs.Formula.{Expr, literals}
use Rattle.formula.specs.Typed.{number, minus, typed_value}
use Rattle.turning.specs.Turning.{turned}
use Rattle.weaving.specs.Gates.{Gate, gates}
use Rattle.weaving.specs.Awaited.{waiting, greatest_below, most_awaited}
use Rattle.weaving.specs.Labels.{weave}
use Rattle.compiler.specs.Twins.Compiling.{compiled}
use Rattle.terms.specs.Texts.{bytes}
use Rattle.promises.specs.Examples.Marked.{roomy, run_of, expr}

-- two products united: four literals, three labels
abbrev pub two_products : Expr
two_products = turned (expr "1*2+3*4")

-- the most awaited where the last gap is left out
abbrev pub without_the_last_gap : List Gate → ℕ
without_the_last_gap gs = greatest_below (waiting gs) (length gs - 1)

pub record NoNeighbour : Type 0 where
  -- a count one less than the most awaited
  pub count_one_less : (weave two_products).label_count ≢ most_awaited (gates two_products) - 1
  -- the bound with 2n + 4: two labels would be enough for four literals
  pub smaller_bound_allows_two : 2 * literals two_products + 4 ≤ 3 * 2 ^ 2
  pub three_are_needed : 2 < (weave two_products).label_count
  -- label 0 for False
  pub false_on_the_first : (weave two_products).false_label ≢ first_label
  -- one truth for both occurrences of a primitive: `7-7` would never be true
  pub one_truth_for_both : (truth : Bool) → typed_value (λ i. truth) 0 (minus (number 7) (number 7)) ≡ false
  pub two_truths_end_true : run_of (compiled (bytes "7-7") roomy) (true ∷ false ∷ []) ≡ result true
  -- an awaited count that leaves out the last gap
  pub last_gap_left_out : (weave (turned (expr "5"))).label_count ≢ without_the_last_gap (gates (turned (expr "5")))
