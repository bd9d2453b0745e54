-- The positive form: literals joined by unions and intersections, and its truth.
--   Literal       == a primitive with its sense, and which occurrence of a number in the text it is
--   Expr          == an expression in positive form
--   literals e    == the number of its literals
--   operators e   == the number of its operators
--   value w e     == its truth, where w gives each occurrence a truth of its own
-- Assumes nothing.
use Rattle.std.specs.Prelude.{ℕ, suc, ◌+◌, Bool, true, false, not, ◌&&◌, ◌||◌}
use Rattle.terms.specs.Terms.{Primitive}

-- "Each occurrence is a literal of its own." A literal is passed on unread by turning and weaving.
-- The sense is true for a plain literal and false for a complemented one. (scope 2.3)
pub record Literal : Type 0 where
  pub primitive : Primitive
  pub sense : Bool
  pub occurrence : ℕ

-- "Every operator is now a union or an intersection" (scope 2.4)
pub data Kind : Type 0 where
  union intersection : Kind

pub data Expr : Type 0 where
  literal : Literal → Expr
  join : Kind → Expr → Expr → Expr

unfoldable pub literals : Expr → ℕ
literals (literal x) = 1
literals (join k l r) = literals l + literals r

unfoldable pub operators : Expr → ℕ
operators (literal x) = 0
operators (join k l r) = suc (operators l + operators r)

-- a truth, or its opposite where the sense is complemented
abbrev pub sensed : Bool → Bool → Bool
sensed true truth = truth
sensed false truth = not truth

-- a union is true where a child is, an intersection where both are
abbrev pub joined : Kind → Bool → Bool → Bool
joined union a b = a || b
joined intersection a b = a && b

-- the truth of an expression under a truth for each occurrence
unfoldable pub value : (ℕ → Bool) → Expr → Bool
value truth (literal x) = sensed x.sense (truth x.occurrence)
value truth (join k l r) = joined k (value truth l) (value truth r)
