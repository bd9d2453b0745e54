-- Which places are awaited in the gap after a gate, and the most that any gap awaits. Labels are not mentioned.
--   names p gs      == some gate of gs names the place p
--   awaited gs k p  == p is awaited in the gap after gate k
--   waiting gs k    == how many places are
--   most_awaited gs == the most over all gaps, the last included
-- Assumes nothing.
use Rattle.std.specs.Prelude.{ℕ, zero, suc, max, Bool, false, cond, ◌&&◌, ◌||◌, List, [], ◌∷◌, ltb, eqb, length, take}
use Rattle.terms.specs.Terms.{Place}
use Rattle.weaving.specs.Gates.{Gate, false_end}

unfoldable pub names : Place → List Gate → Bool
names p [] = false
names p (g ∷ gs) = (eqb p g.true_place || eqb p g.false_place) || names p gs

-- "A place is awaited in the gap after gate k if some gate at or before k names it and it lies beyond k." (scope 4.4)
unfoldable pub awaited : List Gate → Place → Place → Bool
awaited gs k p = ltb k p && names p (take (suc k) gs)

-- how many of the numbers below n pass the test
unfoldable pub count_below : (ℕ → Bool) → ℕ → ℕ
count_below test zero = 0
count_below test (suc n) = cond (test n) (suc (count_below test n)) (count_below test n)

-- False is the last place of all
unfoldable pub waiting : List Gate → Place → ℕ
waiting gs k = count_below (awaited gs k) (suc (false_end (length gs)))

-- the greatest of f 0, .., f (n - 1)
unfoldable pub greatest_below : (ℕ → ℕ) → ℕ → ℕ
greatest_below f zero = 0
greatest_below f (suc n) = max (greatest_below f n) (f n)

unfoldable pub most_awaited : List Gate → ℕ
most_awaited gs = greatest_below (waiting gs) (length gs)
