-- The number of labels is the greatest cost of the root's tag, for every expression: both are the most awaited. So the bound on
-- the costs of a turned expression bounds its labels. Assumes nothing.
use Prim.Native.Nat.{ℕ, ◌+◌, ◌*◌, ◌^◌, ◌≤◌}
use mathlib.Core.Path.{◌≡◌, sym, ap, ◌∙◌}
use Rattle.formula.specs.Formula.{Expr, literals}
use Rattle.turning.specs.Tags.{price, greatest}
use Rattle.turning.specs.Turning.{turned}
use Rattle.turning.proofs.Bound.{greatest_at_most}
use Rattle.weaving.specs.Awaited.{most_awaited}
use Rattle.weaving.specs.Labels.{weave}
use Rattle.weaving.proofs.Places.{gates_told}
use Rattle.weaving.proofs.Width.{label_count_awaited}
use Rattle.widths.proofs.Gaps.{greatest_awaited}

pub label_count_greatest : (e : Expr) → (weave e).label_count ≡ greatest (price e)
label_count_greatest e = label_count_awaited e ∙ ap most_awaited (gates_told e) ∙ sym (greatest_awaited e)

-- "2 labels suffice to 3 literals, 3 to 9, 4 to 21, .."
pub label_count_enough : (e : Expr) (j : ℕ) → 2 * literals e + 6 ≤ 3 * 2 ^ j → (weave (turned e)).label_count ≤ j
label_count_enough e j h = rw (label_count_greatest (turned e)) (greatest_at_most e j h)
