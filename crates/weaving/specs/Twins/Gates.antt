-- Gates and their places by recursion; a theorem ties them to those of the page's own words (scope 4.3).
--   gates_from e b t f == the gates of e, of which the first is b, where e as a whole leads to t or f
-- Assumes nothing.
use Rattle.std.specs.Prelude.{◌+◌, List, [], ◌∷◌, ◌++◌}
use Rattle.terms.specs.Terms.{Place}
use Rattle.formula.specs.Formula.{union, intersection, Expr, literal, join, literals}
use Rattle.weaving.specs.Gates.{Gate}

-- By recursion: an intersection's left child leads, if true, to the first gate of the right child; a union's, if false.
unfoldable pub gates_from : Expr → Place → Place → Place → List Gate
gates_from (literal x) b t f = record { number = b; literal = x; true_place = t; false_place = f } ∷ []
gates_from (join intersection l r) b t f = gates_from l b (b + literals l) f ++ gates_from r (b + literals l) t f
gates_from (join union l r) b t f = gates_from l b t (b + literals l) ++ gates_from r (b + literals l) t f
