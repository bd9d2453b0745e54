-- A row of marks over an expression as typed, and the arrangement that it makes (scope 3.5).
--   a row of marks == one mark an operator: an operator before its operands, left as typed before right;
--                     nought (false) leaves the children as typed, one (true) exchanges them
--   arranged ms e  == e with the children of each operator as its mark says
-- Assumes nothing.
use Rattle.std.specs.Prelude.{Bool, true, false, List, [], ◌∷◌, take, drop}
use Rattle.formula.specs.Formula.{Kind, Expr, literal, join, operators}

-- an operator over its two children, exchanged or as they stand
abbrev pub placed : Bool → Kind → Expr → Expr → Expr
placed true k l r = join k r l
placed false k l r = join k l r

-- the operator's own mark stands first, then the marks of its left operand as typed, then those of its right;
-- where the row is too short, the rest stays as typed
unfoldable pub arranged : List Bool → Expr → Expr
arranged ms (literal x) = literal x
arranged [] (join k l r) = join k l r
arranged (m ∷ ms) (join k l r) = placed m k (arranged (take (operators l) ms) l) (arranged (drop (operators l) ms) r)
