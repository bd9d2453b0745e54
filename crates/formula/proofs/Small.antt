-- Where every number is a primitive's, so is every literal of the positive form and of its arrangements. Assumes nothing.
use Prim.Native.Nat.{ℕ, ◌+◌, ◌≤◌}
use mathlib.Core.Bool.{Bool, true, false}
use mathlib.Core.List.{List, [], ◌∷◌}
use lib.ListN.{take, drop}
use Rattle.terms.specs.Terms.{greatest_primitive}
use Rattle.formula.specs.Formula.{Literal, Kind, Expr, literal, join, operators}
use Rattle.formula.specs.Typed.{Typed, number, complement, plus, times, minus, numbers, positive, negative}
use Rattle.formula.specs.Marks.{placed, arranged}

pub data SmallNumbers : Typed → Type 0 where
  one : {p : ℕ} → p ≤ greatest_primitive → SmallNumbers (number p)
  not_of : {a : Typed} → SmallNumbers a → SmallNumbers (complement a)
  plus_of : {a b : Typed} → SmallNumbers a → SmallNumbers b → SmallNumbers (plus a b)
  times_of : {a b : Typed} → SmallNumbers a → SmallNumbers b → SmallNumbers (times a b)
  minus_of : {a b : Typed} → SmallNumbers a → SmallNumbers b → SmallNumbers (minus a b)

pub data SmallPrimitives : Expr → Type 0 where
  one : {x : Literal} → x.primitive ≤ greatest_primitive → SmallPrimitives (literal x)
  both : {k : Kind} {l r : Expr} → SmallPrimitives l → SmallPrimitives r → SmallPrimitives (join k l r)

mutual
  unfolding positive negative

  pub small_positive : {e : Typed} → SmallNumbers e → (k : ℕ) → SmallPrimitives (positive k e)
  small_positive (one h) k = one h
  small_positive (not_of a) k = small_negative a k
  small_positive (plus_of {a = x} a b) k = both (small_positive a k) (small_positive b (k + numbers x))
  small_positive (times_of {a = x} a b) k = both (small_positive a k) (small_positive b (k + numbers x))
  small_positive (minus_of {a = x} a b) k = both (small_positive a k) (small_negative b (k + numbers x))

  pub small_negative : {e : Typed} → SmallNumbers e → (k : ℕ) → SmallPrimitives (negative k e)
  small_negative (one h) k = one h
  small_negative (not_of a) k = small_positive a k
  small_negative (plus_of {a = x} a b) k = both (small_negative a k) (small_negative b (k + numbers x))
  small_negative (times_of {a = x} a b) k = both (small_negative a k) (small_negative b (k + numbers x))
  small_negative (minus_of {a = x} a b) k = both (small_negative a k) (small_positive b (k + numbers x))

small_placed : (m : Bool) (k : Kind) {l r : Expr} → SmallPrimitives l → SmallPrimitives r → SmallPrimitives (placed m k l r)
small_placed true k a b = both b a
small_placed false k a b = both a b

pub small_arranged : {e : Expr} → SmallPrimitives e → (ms : List Bool) → SmallPrimitives (arranged ms e)
unfolding arranged
small_arranged (one h) ms = one h
small_arranged (both a b) [] = both a b
small_arranged (both {k = k} {l = l} a b) (m ∷ ms) = small_placed m k (small_arranged a (take (operators l) ms)) (small_arranged b (drop (operators l) ms))
