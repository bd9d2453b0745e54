-- Gates and their places, in the page's own words.
--   true_end n, false_end n == True and False, as places beyond the last of n gates
--   holders e b k           == the operators that hold gate k in their left child, the lowest first
--   gates e                 == the gates of e, their places as the page tells them
-- Assumes nothing.
use Rattle.std.specs.Prelude.{ℕ, suc, ◌+◌, Bool, true, false, cond, List, [], ◌∷◌, ◌++◌, ltb}
use Rattle.terms.specs.Terms.{Place}
use Rattle.formula.specs.Formula.{Literal, Kind, union, intersection, Expr, literal, join, literals}

-- a gate: its number, its literal, and the two places that it leads to
pub record Gate : Type 0 where
  pub number : Place
  pub literal : Literal
  pub true_place : Place
  pub false_place : Place

-- "True and False lie beyond the last gate" (scope 4.3)
abbrev pub true_end : ℕ → Place
true_end n = n

abbrev pub false_end : ℕ → Place
false_end n = suc n

-- "The gates are the literals of the turned expression, from left to right, numbered from 0." (scope 4.2)
unfoldable pub in_order : Expr → List Literal
in_order (literal x) = x ∷ []
in_order (join k l r) = in_order l ++ in_order r

-- an operator that holds a gate in its left child: its kind, and the first gate in its right child
pub record Holder : Type 0 where
  pub kind : Kind
  pub right : Place

-- the operators of e that hold gate k in their left child, the lowest first; the first gate of e is b
unfoldable pub holders : Expr → Place → Place → List Holder
holders (literal x) b k = []
holders (join o l r) b k =
    cond (ltb k (b + literals l))
    (holders l b k ++ (record { kind = o; right = b + literals l } ∷ []))
    (holders r (b + literals l) k)

abbrev pub same_kind : Kind → Kind → Bool
same_kind union union = true
same_kind union intersection = false
same_kind intersection union = false
same_kind intersection intersection = true

-- the first gate in the right child of the lowest of them that has the kind, or the end if there is none
unfoldable pub lowest : Kind → List Holder → Place → Place
lowest k [] end = end
lowest k (h ∷ hs) end = cond (same_kind k h.kind) h.right (lowest k hs end)

-- "A gate's true place is the first gate in the right child of the lowest intersection that holds it in its left child, or
-- True if there is none; its false place the same with unions, or False" (scope 4.3)
unfoldable pub gate_at : Expr → Place → Literal → Gate
gate_at e k x =
    record {
      number = k;
      literal = x;
      true_place = lowest intersection (holders e 0 k) (true_end (literals e));
      false_place = lowest union (holders e 0 k) (false_end (literals e));
    }

unfoldable pub gates_on : Expr → Place → List Literal → List Gate
gates_on e k [] = []
gates_on e k (x ∷ xs) = gate_at e k x ∷ gates_on e (suc k) xs

unfoldable pub gates : Expr → List Gate
gates e = gates_on e 0 (in_order e)
