-- The turning of an expression: the marks that pricing gives, and the arrangement by them.
--   exchanges k l r == whether an operator over children with the tags l and r exchanges them
--   marks e         == one mark an operator, as a row of marks over the typed order
--   turned e        == the arrangement of e by its own marks
-- Assumes nothing.
use Rattle.std.specs.Prelude.{Bool, List, [], ◌∷◌, ◌++◌}
use Rattle.formula.specs.Formula.{Kind, Expr, literal, join}
use Rattle.formula.specs.Marks.{arranged}
use Rattle.turning.specs.Tags.{Tag, priced, price, row, smaller}

-- "The parent is priced as it stands and with its children exchanged. .. The children stay exchanged only if the exchanged
-- row is strictly smaller." (scope 3.5)
abbrev pub exchanges : Kind → Tag → Tag → Bool
exchanges k l r = smaller (row (priced k r l)) (row (priced k l r))

-- "Children are settled before their parent." (scope 3.5)
unfoldable pub marks : Expr → List Bool
marks (literal x) = []
marks (join k l r) = exchanges k (price (arranged (marks l) l)) (price (arranged (marks r) r)) ∷ (marks l ++ marks r)

unfoldable pub turned : Expr → Expr
turned e = arranged (marks e) e
