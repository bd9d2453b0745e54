-- How many numbers the reader's operands have: an operator has those of its two operands, and a complement adds none.
-- Assumes nothing.
use Prim.Native.Nat.{ℕ, zero, suc, ◌+◌}
use mathlib.Core.Path.{◌≡◌, refl}
use Rattle.formula.specs.Typed.{Typed, numbers}
use Rattle.grammar.specs.declared.Operator.{Operator}
use Rattle.grammar.specs.declared.Operator.TheVariants.{Plus, Times, Minus}
use Rattle.grammar.specs.Twins.Reader.{applied, complemented}

pub numbers_applied : (o : Operator) (a b : Typed) → numbers (applied o a b) ≡ numbers a + numbers b
unfolding numbers
numbers_applied Plus a b = refl
numbers_applied Times a b = refl
numbers_applied Minus a b = refl

pub numbers_complemented : (n : ℕ) (e : Typed) → numbers (complemented n e) ≡ numbers e
unfolding complemented numbers
numbers_complemented zero e = refl
numbers_complemented (suc n) e = numbers_complemented n e
