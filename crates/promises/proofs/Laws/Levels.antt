-- Readers whose operators bind at other levels go on and stop together, and read as many numbers: a level decides only which operands an
-- operator gets. Assumes nothing.
use Prim.Native.Nat.{ℕ, suc, ◌+◌}
use mathlib.Core.Path.{◌≡◌, refl, subst}
use mathlib.Core.Bool.{Bool, true, false}
use mathlib.Core.List.{List, [], ◌∷◌}
use native.Mathlib.Omega.{arith}
use lib.Dec.{eqb}
use lib.ListN.{length}
use Rattle.formula.specs.Typed.{Typed, number, numbers}
use Rattle.grammar.specs.declared.Operator.{Operator}
use Rattle.grammar.specs.declared.Sign.{Sign}
use Rattle.grammar.specs.declared.Sign.TheVariants.{Digit, Joins, Bang, Open, Close, Blank, Other}
use Rattle.grammar.specs.Bytes.{sign_of}
use Rattle.grammar.specs.Twins.Reader.{of_products, level, Pending, alone, half, joined, Waiting, nothing, State, wanted, inside, complete, complemented, product_with, awaiting, Next, stuck, go, closing, next_state, closed, Outcome, means, stops, at_end, onward, read_from, read}
use Rattle.grammar.proofs.Numbers.{numbers_applied, numbers_complemented}
use Rattle.promises.specs.Examples.Binding.{Levels, next_by, read_from_by, read_by}

-- with the right levels it is the reader
next_by_level : (st : State) (k : Sign) (outer : List Waiting) → next_by level st k outer ≡ next_state st k outer
next_by_level st (Digit d) outer = refl
next_by_level (wanted w) (Joins o) outer = refl
next_by_level (inside w v) (Joins o) outer = refl
next_by_level (complete sum p) (Joins o) outer = refl
next_by_level st Bang outer = refl
next_by_level st Open outer = refl
next_by_level st Close outer = refl
next_by_level st Blank outer = refl
next_by_level st Other outer = refl

onward_same : (n : Next) (at : ℕ) (f g : State → List Waiting → Outcome) → ((st : State) (outer : List Waiting) → f st outer ≡ g st outer)
    → onward n at f ≡ onward n at g
onward_same stuck at f g same = refl
onward_same (go st outer) at f g same = same st outer

read_from_by_level : (s : List ℕ) (st : State) (outer : List Waiting) (at : ℕ) → read_from_by level st outer at s ≡ read_from st outer at s
unfolding read_from_by read_from
read_from_by_level [] st outer at = refl
read_from_by_level (b ∷ s) st outer at =
    rw (next_by_level st (sign_of b) outer)
    (onward_same (next_state st (sign_of b) outer) at _ _ (λ st' outer'. read_from_by_level s st' outer' (suc at)))

pub read_by_level : (text : List ℕ) → read_by level text ≡ read text
unfolding read_by read
read_by_level text = read_from_by_level text (wanted nothing) [] 0

-- how many numbers have been read
abbrev pending_numbers : Pending → ℕ
pending_numbers alone = 0
pending_numbers (half a o) = numbers a

abbrev waiting_numbers : Waiting → ℕ
waiting_numbers w = pending_numbers w.sum + pending_numbers w.product

outer_numbers : List Waiting → ℕ
outer_numbers [] = 0
outer_numbers (w ∷ outer) = waiting_numbers w + outer_numbers outer

numbers_joined : (j : Pending) (e : Typed) → numbers (joined j e) ≡ pending_numbers j + numbers e
numbers_joined alone e = omega arith
numbers_joined (half a o) e = numbers_applied o a e

numbers_operand : (w : Waiting) (e : Typed) → pending_numbers w.sum + numbers (product_with w e) ≡ waiting_numbers w + numbers e
numbers_operand w e = omega (arith, numbers_joined w.product (complemented w.complements e), numbers_complemented w.complements e)

numbers_awaiting : (l : ℕ) (sum : Pending) (p : Typed) (o : Operator) → waiting_numbers (awaiting l sum p o) ≡ pending_numbers sum + numbers p
numbers_awaiting l sum p o = by_level (eqb l of_products) refl
  where
    by_level : (t : Bool) → eqb l of_products ≡ t → waiting_numbers (awaiting l sum p o) ≡ pending_numbers sum + numbers p
    by_level true is = rw is
    by_level false is = rw is (omega (arith, numbers_joined sum p))

-- as many numbers read, inside and outside, and as many parentheses open
record Counts (m : ℕ) (outer : List Waiting) (n : ℕ) (outer' : List Waiting) : Type 0 where
  numbers : m + outer_numbers outer ≡ n + outer_numbers outer'
  deep : length outer ≡ length outer'

-- two states that want the same next, alike in these counts; and two next states
abbrev Alike : State → List Waiting → State → List Waiting → Type 0
Alike (wanted v) outer (wanted w) outer' = Counts (waiting_numbers v) outer (waiting_numbers w) outer'
Alike (wanted v) outer (inside w e) outer' = ⊥
Alike (wanted v) outer (complete k q) outer' = ⊥
Alike (inside v d) outer (wanted w) outer' = ⊥
Alike (inside v d) outer (inside w e) outer' = Counts (suc (waiting_numbers v)) outer (suc (waiting_numbers w)) outer'
Alike (inside v d) outer (complete k q) outer' = ⊥
Alike (complete j p) outer (wanted w) outer' = ⊥
Alike (complete j p) outer (inside w e) outer' = ⊥
Alike (complete j p) outer (complete k q) outer' = Counts (pending_numbers j + numbers p) outer (pending_numbers k + numbers q) outer'

abbrev AlikeNext : Next → Next → Type 0
AlikeNext stuck stuck = Unit {0}
AlikeNext stuck (go st outer) = ⊥
AlikeNext (go st outer) stuck = ⊥
AlikeNext (go st outer) (go st' outer') = Alike st outer st' outer'

closing_alike : (e f : Typed) (outer outer' : List Waiting) → Counts (numbers e) outer (numbers f) outer' → AlikeNext (closing e outer) (closing f outer')
unfolding outer_numbers
closing_alike e f [] [] c = tt
closing_alike e f [] (w ∷ outer') c = absurd (omega (arith, c.deep))
closing_alike e f (v ∷ outer) [] c = absurd (omega (arith, c.deep))
closing_alike e f (v ∷ outer) (w ∷ outer') c =
    record { numbers = omega (arith, c.numbers, numbers_operand v e, numbers_operand w f); deep = omega (arith, c.deep) }

joined_counts : (j k : Pending) (p q : Typed) {outer outer' : List Waiting} → Counts (pending_numbers j + numbers p) outer (pending_numbers k + numbers q) outer'
    → Counts (numbers (joined j p)) outer (numbers (joined k q)) outer'
joined_counts j k p q c = record { numbers = omega (arith, c.numbers, numbers_joined j p, numbers_joined k q); deep = c.deep }

-- a number that ends is a complete operand
operand_counts : (v w : Waiting) (d e : ℕ) {outer outer' : List Waiting} → Counts (suc (waiting_numbers v)) outer (suc (waiting_numbers w)) outer'
    → Counts (pending_numbers v.sum + numbers (product_with v (number d))) outer (pending_numbers w.sum + numbers (product_with w (number e))) outer'
unfolding numbers
operand_counts v w d e c =
    record { numbers = omega (arith, c.numbers, numbers_operand v (number d), numbers_operand w (number e)); deep = c.deep }

module _ (here there : Levels) where
  wanted_alike : (v w : Waiting) (outer outer' : List Waiting) (k : Sign) → Counts (waiting_numbers v) outer (waiting_numbers w) outer'
      → AlikeNext (next_by here (wanted v) k outer) (next_by there (wanted w) k outer')
  unfolding outer_numbers
  wanted_alike v w outer outer' (Digit d) c = record { numbers = omega (arith, c.numbers); deep = c.deep }
  wanted_alike v w outer outer' (Joins o) c = tt
  wanted_alike v w outer outer' Bang c = c
  wanted_alike v w outer outer' Open c = record { numbers = omega (arith, c.numbers); deep = omega (arith, c.deep) }
  wanted_alike v w outer outer' Close c = tt
  wanted_alike v w outer outer' Blank c = c
  wanted_alike v w outer outer' Other c = tt

  complete_alike : (i j : Pending) (p q : Typed) (outer outer' : List Waiting) (k : Sign)
      → Counts (pending_numbers i + numbers p) outer (pending_numbers j + numbers q) outer'
      → AlikeNext (next_by here (complete i p) k outer) (next_by there (complete j q) k outer')
  complete_alike i j p q outer outer' (Digit d) c = tt
  complete_alike i j p q outer outer' (Joins o) c =
      record { numbers = omega (arith, c.numbers, numbers_awaiting (here o) i p o, numbers_awaiting (there o) j q o); deep = c.deep }
  complete_alike i j p q outer outer' Bang c = tt
  complete_alike i j p q outer outer' Open c = tt
  complete_alike i j p q outer outer' Close c = closing_alike (joined i p) (joined j q) outer outer' (joined_counts i j p q c)
  complete_alike i j p q outer outer' Blank c = c
  complete_alike i j p q outer outer' Other c = tt

  inside_alike : (v w : Waiting) (d e : ℕ) (outer outer' : List Waiting) (k : Sign) → Counts (suc (waiting_numbers v)) outer (suc (waiting_numbers w)) outer'
      → AlikeNext (next_by here (inside v d) k outer) (next_by there (inside w e) k outer')
  inside_alike v w d e outer outer' (Digit x) c = c
  inside_alike v w d e outer outer' (Joins o) c = complete_alike v.sum w.sum (product_with v (number d)) (product_with w (number e)) outer outer' (Joins o) (operand_counts v w d e c)
  inside_alike v w d e outer outer' Bang c = tt
  inside_alike v w d e outer outer' Open c = tt
  inside_alike v w d e outer outer' Close c = complete_alike v.sum w.sum (product_with v (number d)) (product_with w (number e)) outer outer' Close (operand_counts v w d e c)
  inside_alike v w d e outer outer' Blank c = operand_counts v w d e c
  inside_alike v w d e outer outer' Other c = tt

  next_alike : (st st' : State) (outer outer' : List Waiting) (k : Sign) → Alike st outer st' outer'
      → AlikeNext (next_by here st k outer) (next_by there st' k outer')
  next_alike (wanted v) (wanted w) outer outer' k c = wanted_alike v w outer outer' k c
  next_alike (wanted v) (inside w e) outer outer' k c = absurd c
  next_alike (wanted v) (complete j q) outer outer' k c = absurd c
  next_alike (inside v d) (wanted w) outer outer' k c = absurd c
  next_alike (inside v d) (inside w e) outer outer' k c = inside_alike v w d e outer outer' k c
  next_alike (inside v d) (complete j q) outer outer' k c = absurd c
  next_alike (complete i p) (wanted w) outer outer' k c = absurd c
  next_alike (complete i p) (inside w e) outer outer' k c = absurd c
  next_alike (complete i p) (complete j q) outer outer' k c = complete_alike i j p q outer outer' k c

-- two outcomes that stop at one place, or mean as many numbers
abbrev pub AlikeOutcome : Outcome → Outcome → Type 0
AlikeOutcome (means e) (means f) = numbers e ≡ numbers f
AlikeOutcome (means e) (stops p) = ⊥
AlikeOutcome (stops p) (means f) = ⊥
AlikeOutcome (stops p) (stops q) = p ≡ q

closed_alike : (e f : Typed) (outer outer' : List Waiting) (at : ℕ) → Counts (numbers e) outer (numbers f) outer'
    → AlikeOutcome (closed e outer at) (closed f outer' at)
unfolding outer_numbers
closed_alike e f [] [] at c = omega (arith, c.numbers)
closed_alike e f [] (w ∷ outer') at c = absurd (omega (arith, c.deep))
closed_alike e f (v ∷ outer) [] at c = absurd (omega (arith, c.deep))
closed_alike e f (v ∷ outer) (w ∷ outer') at c = refl

end_alike : (st st' : State) (outer outer' : List Waiting) (at : ℕ) → Alike st outer st' outer' → AlikeOutcome (at_end st outer at) (at_end st' outer' at)
end_alike (wanted v) (wanted w) outer outer' at c = refl
end_alike (wanted v) (inside w e) outer outer' at c = absurd c
end_alike (wanted v) (complete j q) outer outer' at c = absurd c
end_alike (inside v d) (wanted w) outer outer' at c = absurd c
end_alike (inside v d) (inside w e) outer outer' at c = closed_alike _ _ outer outer' at (joined_counts v.sum w.sum (product_with v (number d)) (product_with w (number e)) (operand_counts v w d e c))
end_alike (inside v d) (complete j q) outer outer' at c = absurd c
end_alike (complete i p) (wanted w) outer outer' at c = absurd c
end_alike (complete i p) (inside w e) outer outer' at c = absurd c
end_alike (complete i p) (complete j q) outer outer' at c = closed_alike _ _ outer outer' at (joined_counts i j p q c)

onward_alike : (n m : Next) (at : ℕ) (f g : State → List Waiting → Outcome) → AlikeNext n m
    → ((st st' : State) (outer outer' : List Waiting) → Alike st outer st' outer' → AlikeOutcome (f st outer) (g st' outer'))
    → AlikeOutcome (onward n at f) (onward m at g)
onward_alike stuck stuck at f g alike later = refl
onward_alike stuck (go st outer) at f g alike later = absurd alike
onward_alike (go st outer) stuck at f g alike later = absurd alike
onward_alike (go st outer) (go st' outer') at f g alike later = later st st' outer outer' alike

read_from_alike : (here there : Levels) (s : List ℕ) (st st' : State) (outer outer' : List Waiting) (at : ℕ) → Alike st outer st' outer'
    → AlikeOutcome (read_from_by here st outer at s) (read_from_by there st' outer' at s)
unfolding read_from_by
read_from_alike here there [] st st' outer outer' at alike = end_alike st st' outer outer' at alike
read_from_alike here there (b ∷ s) st st' outer outer' at alike =
    onward_alike (next_by here st (sign_of b) outer) (next_by there st' (sign_of b) outer') at _ _ (next_alike here there st st' outer outer' (sign_of b) alike)
    (λ q q' more more'. read_from_alike here there s q q' more more' (suc at))

pub read_alike : (levels : Levels) (text : List ℕ) → AlikeOutcome (read_by levels text) (read text)
unfolding read_by
read_alike levels text =
    subst (AlikeOutcome (read_by levels text)) (read_by_level text)
    (read_from_alike levels level text (wanted nothing) (wanted nothing) [] [] 0 (record { numbers = refl; deep = refl }))
