-- Price tags, their rows, and the order of rows.
--   Tag          == a mark and three costs
--   priced k l r == the tag of an operator of the kind k over children with the tags l and r
--   price e      == the tag of an expression as it stands
--   row t        == the three costs in order, largest first
--   smaller s t  == the row s is smaller than the row t, compared place by place
-- Assumes nothing.
use Rattle.std.specs.Prelude.{ℕ, ◌+◌, max, Bool, true, false, cond, ◌&&◌, ◌||◌, List, [], ◌∷◌, ltb, eqb}
use Rattle.std.specs.Bool.{beq}
use Rattle.formula.specs.Formula.{Kind, union, intersection, Expr, literal, join}

-- "Each node carries a price tag: a mark and three costs c1, c2, c3" (scope 3.1)
pub record Tag : Type 0 where
  pub mark : Bool
  pub c1 : ℕ
  pub c2 : ℕ
  pub c3 : ℕ

-- "A leaf has mark true and costs 1, 0, 2." (scope 3.1)
abbrev pub leaf : Tag
leaf = record { mark = true; c1 = 1; c2 = 0; c3 = 2 }

-- "An intersection's mark is true, a union's false." (scope 3.1)
abbrev pub mark_of : Kind → Bool
mark_of union = false
mark_of intersection = true

-- "Call a child alike if its mark equals its parent's." (scope 3.2)
abbrev pub alike : Kind → Tag → Bool
alike k child = beq child.mark (mark_of k)

-- a cost that counts only where the test passes
abbrev pub counted : Bool → ℕ → ℕ
counted test c = cond test c 0

-- "c1 is L.c1, and if L is not alike the greater of L.c1 and L.c2.
-- c2 is the greatest of L.c3, R.c1 + 1, of L.c2 if L is alike, and of R.c2 if R is alike.
-- c3 is R.c3, and if R is not alike the greater of R.c3 and R.c2 + 1." (scope 3.2)
abbrev pub priced : Kind → Tag → Tag → Tag
priced k l r =
    record {
      mark = mark_of k;
      c1 = cond (alike k l) l.c1 (max l.c1 l.c2);
      c2 = max (max l.c3 (r.c1 + 1)) (max (counted (alike k l) l.c2) (counted (alike k r) r.c2));
      c3 = cond (alike k r) r.c3 (max r.c3 (r.c2 + 1));
    }

unfoldable pub price : Expr → Tag
price (literal x) = leaf
price (join k l r) = priced k (price l) (price r)

-- a cost put into a row whose largest stands first
unfoldable pub inserted : ℕ → List ℕ → List ℕ
inserted c [] = c ∷ []
inserted c (d ∷ row) = cond (ltb c d) (d ∷ inserted c row) (c ∷ d ∷ row)

-- "The three costs are put in order, largest first" (scope 3.4)
unfoldable pub row : Tag → List ℕ
row t = inserted t.c1 (inserted t.c2 (inserted t.c3 []))

-- "and two such rows are compared place by place": the first place where they differ decides (scope 3.4)
unfoldable pub smaller : List ℕ → List ℕ → Bool
smaller [] t = false
smaller (c ∷ s) [] = false
smaller (c ∷ s) (d ∷ t) = ltb c d || (eqb c d && smaller s t)

-- the greatest of the three costs
abbrev pub greatest : Tag → ℕ
greatest t = max t.c1 (max t.c2 t.c3)
