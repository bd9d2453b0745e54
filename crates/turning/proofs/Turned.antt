-- The marks of an operator's children stand in its row one after the other, so the arrangement by them turns each child by its
-- own marks; an arrangement keeps literals and truth. Assumes nothing.
use Prim.Native.Nat.{ℕ, suc, ◌+◌}
use mathlib.Core.Path.{◌≡◌, refl, ap, ap₂, ◌∙◌}
use mathlib.Core.Bool.{Bool}
use lib.ListN.{length, length-append}
use lib.Seq.{take_at, drop_at}
use Rattle.formula.specs.Formula.{Literal, Kind, Expr, literal, join, literals, operators, value}
use Rattle.formula.specs.Marks.{placed, arranged}
use Rattle.formula.proofs.Marks.{literals_arranged, value_arranged}
use Rattle.turning.specs.Tags.{price}
use Rattle.turning.specs.Turning.{exchanges, marks, turned}

-- one mark an operator
pub marks-length : (e : Expr) → length (marks e) ≡ operators e
unfolding marks operators
marks-length (literal x) = refl
marks-length (join k l r) = ap suc (length-append (marks l) (marks r) ∙ ap₂ ◌+◌ (marks-length l) (marks-length r))

pub turned_literal : (x : Literal) → turned (literal x) ≡ literal x
unfolding turned arranged
turned_literal x = refl

pub turned_join : (k : Kind) (l r : Expr) →
    turned (join k l r) ≡ placed (exchanges k (price (turned l)) (price (turned r))) k (turned l) (turned r)
unfolding turned arranged marks
turned_join k l r = rw (take_at (marks l) (marks r) (operators l) (marks-length l), drop_at (marks l) (marks r) (operators l) (marks-length l))

pub literals_turned : (e : Expr) → literals (turned e) ≡ literals e
unfolding turned
literals_turned e = literals_arranged (marks e) e

pub value_turned : (truth : ℕ → Bool) (e : Expr) → value truth (turned e) ≡ value truth e
unfolding turned
value_turned truth e = value_arranged truth (marks e) e
