-- What holds of an operator holds of it with its children exchanged, since sums, unions and intersections take their two sides
-- in either order; so an arrangement keeps the number of literals, the truth and the occurrences. Assumes nothing.
use Prim.Native.Nat.{ℕ, suc, ◌+◌, ◌≤◌}
use mathlib.Core.Path.{◌≡◌, refl, ◌∙◌}
use mathlib.Core.Bool.{Bool, true, false, and_comm, or_comm}
use mathlib.Core.List.{List, [], ◌∷◌, ◌++◌}
use native.Mathlib.Nat.{add_comm}
use native.Mathlib.Omega.{arith}
use lib.ListN.{take, drop}
use Rattle.formula.specs.Formula.{Kind, union, intersection, Expr, literal, join, literals, operators, joined, value}
use Rattle.formula.specs.Marks.{placed, arranged}
use Rattle.formula.specs.Occurrences.{occurrences, times_of}

-- "n literals have n-1 operators"
pub literals_operators : (e : Expr) → literals e ≡ suc (operators e)
unfolding literals operators
literals_operators (literal x) = refl
literals_operators (join k l r) = omega (arith, literals_operators l, literals_operators r)

pub literals_some : (e : Expr) → 1 ≤ literals e
literals_some e = omega (arith, literals_operators e)

-- a measure of an expression that takes the two children of an operator in either order stays as it is in every arrangement
module _ {A : Type 0} (measure : Expr → A) (both : Kind → A → A → A)
    (of_join : (k : Kind) (l r : Expr) → measure (join k l r) ≡ both k (measure l) (measure r))
    (either : (k : Kind) (a b : A) → both k a b ≡ both k b a) where
  measure_placed : (m : Bool) (k : Kind) (l r : Expr) → measure (placed m k l r) ≡ both k (measure l) (measure r)
  measure_placed true k l r = of_join k r l ∙ either k _ _
  measure_placed false k l r = of_join k l r

  pub measure_arranged : (ms : List Bool) (e : Expr) → measure (arranged ms e) ≡ measure e
  unfolding arranged
  measure_arranged ms (literal x) = refl
  measure_arranged [] (join k l r) = refl
  measure_arranged (m ∷ ms) (join k l r) =
      rw (measure_placed m k, measure_arranged (take (operators l) ms) l, measure_arranged (drop (operators l) ms) r, of_join)

pub literals_arranged : (ms : List Bool) (e : Expr) → literals (arranged ms e) ≡ literals e
unfolding literals
literals_arranged = measure_arranged literals (λ k. ◌+◌) (λ k l r. refl) (λ k. add_comm)

joined_comm : (k : Kind) (a b : Bool) → joined k a b ≡ joined k b a
joined_comm union = or_comm
joined_comm intersection = and_comm

pub value_arranged : (truth : ℕ → Bool) (ms : List Bool) (e : Expr) → value truth (arranged ms e) ≡ value truth e
unfolding value
value_arranged truth = measure_arranged (value truth) joined (λ k l r. refl) joined_comm

times_append : (i : ℕ) (s t : List ℕ) → times_of i (s ++ t) ≡ times_of i s + times_of i t
unfolding times_of
times_append i [] t = omega arith
times_append i (j ∷ s) t = omega (arith, times_append i s t)

-- an arrangement has each occurrence as often as the expression has it
pub times_arranged : (i : ℕ) (ms : List Bool) (e : Expr) → times_of i (occurrences (arranged ms e)) ≡ times_of i (occurrences e)
unfolding occurrences
times_arranged i = measure_arranged (λ e. times_of i (occurrences e)) (λ k. ◌+◌) (λ k l r. times_append i _ _) (λ k. add_comm)
