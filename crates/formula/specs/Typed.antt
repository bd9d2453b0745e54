-- The expression as typed, its truth, and its positive form.
--   Typed             == what the grammar reads: numbers, complements, unions, intersections, differences
--   numbers e         == how many numbers it has
--   typed_value w k e == its truth, where w gives each occurrence a truth and k is its first occurrence
--   positive k e      == its positive form, and negative k e that of its complement
-- Assumes nothing.
use Rattle.std.specs.Prelude.{ℕ, ◌+◌, Bool, true, false, not, ◌&&◌, ◌||◌}
use Rattle.terms.specs.Terms.{Primitive}
use Rattle.formula.specs.Formula.{union, intersection, Expr, literal, join}

pub data Typed : Type 0 where
  number : Primitive → Typed
  complement : Typed → Typed
  plus times minus : Typed → Typed → Typed

unfoldable pub numbers : Typed → ℕ
numbers (number p) = 1
numbers (complement a) = numbers a
numbers (plus a b) = numbers a + numbers b
numbers (times a b) = numbers a + numbers b
numbers (minus a b) = numbers a + numbers b

-- "`+` (union), `*` (intersection), `-` (difference), `!` (complement)"; occurrences are counted as typed, from k on (scope 2.1)
unfoldable pub typed_value : (ℕ → Bool) → ℕ → Typed → Bool
typed_value truth k (number p) = truth k
typed_value truth k (complement a) = not (typed_value truth k a)
typed_value truth k (plus a b) = typed_value truth k a || typed_value truth (k + numbers a) b
typed_value truth k (times a b) = typed_value truth k a && typed_value truth (k + numbers a) b
typed_value truth k (minus a b) = typed_value truth k a && not (typed_value truth (k + numbers a) b)

-- a number's literal, plain or complemented
abbrev pub occurs : Primitive → Bool → ℕ → Expr
occurs p sense k = literal (record { primitive = p; sense = sense; occurrence = k })

-- "a-b is a·!b; then !(a+b) is !a·!b, !(a·b) is !a+!b, and !!a is a, until complements stand on numbers only.
-- Left and right keep their sides." (scope 2.4)
unfoldable mutual
  pub positive : ℕ → Typed → Expr
  positive k (number p) = occurs p true k
  positive k (complement a) = negative k a
  positive k (plus a b) = join union (positive k a) (positive (k + numbers a) b)
  positive k (times a b) = join intersection (positive k a) (positive (k + numbers a) b)
  positive k (minus a b) = join intersection (positive k a) (negative (k + numbers a) b)

  pub negative : ℕ → Typed → Expr
  negative k (number p) = occurs p false k
  negative k (complement a) = positive k a
  negative k (plus a b) = join intersection (negative k a) (negative (k + numbers a) b)
  negative k (times a b) = join union (negative k a) (negative (k + numbers a) b)
  negative k (minus a b) = join union (negative k a) (positive (k + numbers a) b)
