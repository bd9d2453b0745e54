-- An executable reader: one step a byte, with what waits kept on a stack. It answers what the text means, or where it stops.
--   level         == how close an operator binds
--   Waiting       == what waits for the next factor inside one pair of parentheses
--   State         == an operand is wanted, or a number is being read, or a product is complete
--   next_state    == the next state by the next byte, with what waits outside the parentheses that are open
--   read text     == the meaning of the text, or the length of its longest completable beginning
-- Assumes nothing.
use Rattle.std.specs.Prelude.{ℕ, zero, suc, cond, List, [], ◌∷◌, eqb, length}
use Rattle.formula.specs.Typed.{Typed, number, complement, plus, times, minus}
use Rattle.grammar.specs.declared.Operator.{Operator}
use Rattle.grammar.specs.declared.Operator.TheVariants.{Plus, Times, Minus}
use Rattle.grammar.specs.declared.Sign.{Sign}
use Rattle.grammar.specs.declared.Sign.TheVariants.{Digit, Joins, Bang, Open, Close, Blank, Other}
use Rattle.grammar.specs.Bytes.{sign_of, shifted}

-- how close an operator binds: those that join products into a sum, and those that join factors into a product
abbrev pub of_sums : ℕ
of_sums = 1

abbrev pub of_products : ℕ
of_products = 2

abbrev pub level : Operator → ℕ
level Plus = of_sums
level Times = of_products
level Minus = of_sums

-- what an operator makes of its two operands
abbrev pub applied : Operator → Typed → Typed → Typed
applied Plus a b = plus a b
applied Times a b = times a b
applied Minus a b = minus a b

-- what joins an operand to those before it: nothing, or the left operand and the operator
pub data Pending : Type 0 where
  alone : Pending
  half : Typed → Operator → Pending

abbrev pub joined : Pending → Typed → Typed
joined alone e = e
joined (half a o) e = applied o a e

-- what waits in the sum, what waits in its last product, and so many `!`
pub record Waiting : Type 0 where
  pub sum : Pending
  pub product : Pending
  pub complements : ℕ

abbrev pub nothing : Waiting
nothing = record { sum = alone; product = alone; complements = 0 }

pub data State : Type 0 where
  wanted : Waiting → State
  inside : Waiting → ℕ → State
  complete : Pending → Typed → State

-- so many complements of e
unfoldable pub complemented : ℕ → Typed → Typed
complemented zero e = e
complemented (suc n) e = complement (complemented n e)

-- an operand has been read: the product up to it
abbrev pub product_with : Waiting → Typed → Typed
product_with w e = joined w.product (complemented w.complements e)

-- an operator behind a product: at the level of products it waits with that product, else with the sum up to it
abbrev pub awaiting : ℕ → Pending → Typed → Operator → Waiting
awaiting l sum p o =
    cond (eqb l of_products)
    (record { sum = sum; product = half p o; complements = 0 })
    (record { sum = half (joined sum p) o; product = alone; complements = 0 })

-- the next state, with what waits outside; or none, where no ending completes what has been read
pub data Next : Type 0 where
  stuck : Next
  go : State → List Waiting → Next

abbrev pub closing : Typed → List Waiting → Next
closing e [] = stuck
closing e (w ∷ outer) = go (complete w.sum (product_with w e)) outer

abbrev pub on_wanted : Waiting → Sign → List Waiting → Next
on_wanted w (Digit d) outer = go (inside w d) outer
on_wanted w (Joins o) outer = stuck
on_wanted w Bang outer = go (wanted (record { sum = w.sum; product = w.product; complements = suc w.complements })) outer
on_wanted w Open outer = go (wanted nothing) (w ∷ outer)
on_wanted w Close outer = stuck
on_wanted w Blank outer = go (wanted w) outer
on_wanted w Other outer = stuck

abbrev pub on_complete : Pending → Typed → Sign → List Waiting → Next
on_complete sum p (Digit d) outer = stuck
on_complete sum p (Joins o) outer = go (wanted (awaiting (level o) sum p o)) outer
on_complete sum p Bang outer = stuck
on_complete sum p Open outer = stuck
on_complete sum p Close outer = closing (joined sum p) outer
on_complete sum p Blank outer = go (complete sum p) outer
on_complete sum p Other outer = stuck

-- a number goes on with a digit, and ends with anything else
abbrev pub on_inside : Waiting → ℕ → Sign → List Waiting → Next
on_inside w v (Digit d) outer = go (inside w (shifted v d)) outer
on_inside w v (Joins o) outer = on_complete w.sum (product_with w (number v)) (Joins o) outer
on_inside w v Bang outer = on_complete w.sum (product_with w (number v)) Bang outer
on_inside w v Open outer = on_complete w.sum (product_with w (number v)) Open outer
on_inside w v Close outer = on_complete w.sum (product_with w (number v)) Close outer
on_inside w v Blank outer = on_complete w.sum (product_with w (number v)) Blank outer
on_inside w v Other outer = on_complete w.sum (product_with w (number v)) Other outer

abbrev pub next_state : State → Sign → List Waiting → Next
next_state (wanted w) k outer = on_wanted w k outer
next_state (inside w v) k outer = on_inside w v k outer
next_state (complete sum p) k outer = on_complete sum p k outer

-- what a text means, or how long its longest beginning is that some ending would complete
pub data Outcome : Type 0 where
  means : Typed → Outcome
  stops : ℕ → Outcome

-- at the end of the text: every parenthesis must be closed
abbrev pub closed : Typed → List Waiting → ℕ → Outcome
closed e [] at = means e
closed e (w ∷ outer) at = stops at

abbrev pub at_end : State → List Waiting → ℕ → Outcome
at_end (wanted w) outer at = stops at
at_end (inside w v) outer at = closed (joined w.sum (product_with w (number v))) outer at
at_end (complete sum p) outer at = closed (joined sum p) outer at

abbrev pub onward : Next → ℕ → (State → List Waiting → Outcome) → Outcome
onward stuck at go_on = stops at
onward (go st outer) at go_on = go_on st outer

unfoldable pub read_from : State → List Waiting → ℕ → List ℕ → Outcome
read_from st outer at [] = at_end st outer at
read_from st outer at (b ∷ s) = onward (next_state st (sign_of b) outer) at (λ st' outer'. read_from st' outer' (suc at) s)

unfoldable pub read : List ℕ → Outcome
read text = read_from (wanted nothing) [] 0 text

-- "length of the longest beginning that some ending would complete" (scope 7.1)
abbrev pub longest : List ℕ → Outcome → ℕ
longest text (means e) = length text
longest text (stops at) = at
