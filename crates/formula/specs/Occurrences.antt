-- Which occurrences an expression's literals are, from left to right, and how often a number stands in a list (scope 2.3).
--   occurrences e == the occurrence of each literal of e, from left to right
--   counting k n  == the n numbers from k on, in order
--   times_of i is == how often i stands in the list
--   truth_at is ts i == the truth that the row ts gives to i: the one at the place where i stands in the list
-- Assumes nothing.
use Rattle.std.specs.Prelude.{ℕ, zero, suc, ◌+◌, Bool, false, cond, List, [], ◌∷◌, ◌++◌, eqb}
use Rattle.formula.specs.Formula.{Expr, literal, join}

unfoldable pub occurrences : Expr → List ℕ
occurrences (literal x) = x.occurrence ∷ []
occurrences (join k l r) = occurrences l ++ occurrences r

unfoldable pub counting : ℕ → ℕ → List ℕ
counting k zero = []
counting k (suc n) = k ∷ counting (suc k) n

unfoldable pub times_of : ℕ → List ℕ → ℕ
times_of i [] = 0
times_of i (j ∷ js) = cond (eqb i j) 1 0 + times_of i js

unfoldable pub truth_at : List ℕ → List Bool → ℕ → Bool
truth_at [] ts i = false
truth_at (j ∷ js) [] i = false
truth_at (j ∷ js) (t ∷ ts) i = cond (eqb i j) t (truth_at js ts i)
