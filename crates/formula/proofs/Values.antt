-- An operator of the positive form has the truth of the typed one by the rules for complements, case by case. Assumes nothing.
use Prim.Native.Nat.{ℕ, ◌+◌}
use mathlib.Core.Path.{◌≡◌, refl, sym, ap₂, ◌∙◌}
use mathlib.Core.Bool.{Bool, true, false, not, ◌&&◌, ◌||◌, not-not}
use Rattle.formula.specs.Formula.{value}
use Rattle.formula.specs.Typed.{Typed, number, complement, plus, times, minus, numbers, typed_value, positive, negative}

not-or : (a b : Bool) → (not a && not b) ≡ not (a || b)
not-or true b = refl
not-or false b = refl

not-and : (a b : Bool) → (not a || not b) ≡ not (a && b)
not-and true b = refl
not-and false b = refl

not-and-not : (a b : Bool) → (not a || b) ≡ not (a && not b)
not-and-not true b = sym (not-not b)
not-and-not false b = refl

module _ (truth : ℕ → Bool) where
  mutual
    unfolding value typed_value positive negative

    pub value_positive : (k : ℕ) (e : Typed) → value truth (positive k e) ≡ typed_value truth k e
    value_positive k (number p) = refl
    value_positive k (complement a) = value_negative k a
    value_positive k (plus a b) = ap₂ ◌||◌ (value_positive k a) (value_positive (k + numbers a) b)
    value_positive k (times a b) = ap₂ ◌&&◌ (value_positive k a) (value_positive (k + numbers a) b)
    value_positive k (minus a b) = ap₂ ◌&&◌ (value_positive k a) (value_negative (k + numbers a) b)

    pub value_negative : (k : ℕ) (e : Typed) → value truth (negative k e) ≡ not (typed_value truth k e)
    value_negative k (number p) = refl
    value_negative k (complement a) = value_positive k a ∙ sym (not-not _)
    value_negative k (plus a b) = rw (value_negative k a, value_negative (k + numbers a) b, not-or)
    value_negative k (times a b) = rw (value_negative k a, value_negative (k + numbers a) b, not-and)
    value_negative k (minus a b) =
        rw (value_negative k a, value_positive (k + numbers a) b, not-and-not)
