-- What the readers answer, in terms of the machine of Reader: where reading goes on, and which slots hold what was read.
--   reads_on text st outer at == the machine, in the state st with outer waiting, from the place `at` of the text on
--   form sense k e            == the positive form of e, or that of its complement where the sense is false
--   Ready                     == what a reader may count on where it starts
--   FactorRead, ProductRead, SumRead == its answer, as a place or as a fault
-- Assumes nothing.
use Rattle.std.specs.Prelude.{ℕ, zero, suc, ◌+◌, ◌-◌, ◌*◌, ◌≤◌, ◌<◌, ◌≡◌, Bool, true, false, not, List, Result, MatchResult, length, get_or, drop}
use Rattle.std.proofs.Math.Option.{none}
use Rattle.terms.specs.Terms.{most_literals, greatest_primitive}
use Rattle.formula.specs.Formula.{Expr}
use Rattle.formula.specs.Typed.{Typed, number, numbers, positive, negative}
use Rattle.formula.specs.declared.Slot.{Slot}
use Rattle.formula.specs.Code.Held.{kinds_of, spans_of, Holds}
use Rattle.grammar.specs.declared.Operator.{Operator}
use Rattle.grammar.specs.declared.Operator.TheVariants.{Plus, Times, Minus}
use Rattle.grammar.specs.declared.Sign.{Sign}
use Rattle.grammar.specs.declared.Sign.TheVariants.{Digit, Joins, Bang, Open, Close, Blank, Other}
use Rattle.text.specs.declared.Stop.{Stop}
use Rattle.text.specs.declared.readers.Cursor.{Cursor}
use Rattle.text.specs.declared.readers.Operand.{Operand}
use Rattle.text.specs.declared.readers.Numeral.{Numeral}
use Rattle.grammar.specs.Twins.Places.{sign_at, no_digit_before, is_close, runs_before, bad_run}
use Rattle.grammar.specs.Twins.Reader.{of_sums, of_products, level, Pending, alone, joined, Waiting, nothing, State, wanted, complete, product_with, Outcome, means, stops, read_from}
use Rattle.grammar.specs.Twins.Reader as reader

abbrev pub is_blank : Sign → Bool
is_blank (Digit d) = false
is_blank (Joins o) = false
is_blank Bang = false
is_blank Open = false
is_blank Close = false
is_blank Blank = true
is_blank Other = false

-- what may stand before an operand and is passed over: blanks and complements
abbrev pub leads : Sign → Bool
leads (Digit d) = false
leads (Joins o) = false
leads Bang = true
leads Open = false
leads Close = false
leads Blank = true
leads Other = false

-- the sense of an operator's right operand: `-` complements it
abbrev pub right_sense : Operator → Bool → Bool
right_sense Plus sense = sense
right_sense Times sense = sense
right_sense Minus sense = not sense

-- the sense of an operand behind a sign: `!` and `-` complement it
abbrev pub behind : Sign → Bool → Bool
behind (Digit d) sense = sense
behind (Joins o) sense = right_sense o sense
behind Bang sense = not sense
behind Open sense = sense
behind Close sense = sense
behind Blank sense = sense
behind Other sense = sense

-- whether an operator, read in a sense, is an intersection of the positive form
abbrev pub intersecting : Operator → Bool → Bool
intersecting Plus sense = not sense
intersecting Times sense = sense
intersecting Minus sense = sense

-- the same by the operator's sign
abbrev pub meets : Sign → Bool → Bool
meets (Digit d) sense = sense
meets (Joins o) sense = intersecting o sense
meets Bang sense = sense
meets Open sense = sense
meets Close sense = sense
meets Blank sense = sense
meets Other sense = sense

-- the level that a sign binds at; nought where it is no operator
abbrev pub binding : Sign → ℕ
binding (Digit d) = 0
binding (Joins o) = level o
binding Bang = 0
binding Open = 0
binding Close = 0
binding Blank = 0
binding Other = 0

-- closer than any operator binds
abbrev pub of_factors : ℕ
of_factors = 3

-- reading goes on at a place of the text
abbrev pub reads_on : List ℕ → State → List Waiting → ℕ → Outcome
reads_on text st outer at = read_from st outer at (drop at text)

-- a product is wanted behind what waits in the sum
abbrev pub after : Pending → Waiting
after sum = record { sum = sum; product = alone; complements = 0 }

-- so many `!` more behind what waits
unfoldable pub more : ℕ → ℕ → ℕ
more zero n = n
more (suc c) n = suc (more c n)

abbrev pub complementing : ℕ → Waiting → Waiting
complementing c w = record { sum = w.sum; product = w.product; complements = more c w.complements }

unfoldable pub flipped : ℕ → Bool → Bool
flipped zero sense = sense
flipped (suc c) sense = not (flipped c sense)

-- "Positive form": of an expression, or of its complement
abbrev pub form : Bool → ℕ → Typed → Expr
form true k e = positive k e
form false k e = negative k e

-- the two numbers of each slot that hold what has been read
pub record Slots : Type 0 where
  pub kinds : List ℕ
  pub spans : List ℕ

abbrev pub slots : List ℕ → List ℕ → Slots
slots ks ss = record { kinds = ks; spans = ss }

abbrev pub slots_of : List Slot → Slots
slots_of s = slots (kinds_of s) (spans_of s)

-- the slots before n are as they were
pub record Kept (n : ℕ) (a b : Slots) : Type 0 where
  pub kinds_long : length b.kinds ≡ length a.kinds
  pub spans_long : length b.spans ≡ length a.spans
  pub kinds_same : (j : ℕ) → j < n → get_or b.kinds j 0 ≡ get_or a.kinds j 0
  pub spans_same : (j : ℕ) → j < n → get_or b.spans j 0 ≡ get_or a.spans j 0

-- as many slots as the most literals take
abbrev pub most_slots : ℕ
most_slots = 2047

-- the text has passed refusals 3 and 6, no number is cut at `at`, and two slots a number read so far are enough for the rest
pub record Ready (text : List ℕ) (at next : ℕ) (a : Slots) : Type 0 where
  pub within : at ≤ length text
  pub clear : no_digit_before text at ≡ true
  pub sound : bad_run text ≡ none
  pub few : runs_before text (length text) ≤ most_literals
  pub so_far : next ≤ 2 * runs_before text at
  pub kinds_room : most_slots ≤ length a.kinds
  pub spans_room : most_slots ≤ length a.spans

-- blanks were passed over from `at` to i, behind an operand
pub record Over (text : List ℕ) (at i : ℕ) : Type 0 where
  pub from : at ≤ i
  pub within : i ≤ length text
  pub runs : runs_before text i ≡ runs_before text at
  pub reads : (sum : Pending) (e : Typed) (outer : List Waiting) → reads_on text (complete sum e) outer at ≡ reads_on text (complete sum e) outer i

-- the first place from `at` on that has no blank
pub record Skipped (text : List ℕ) (at r : ℕ) : Type 0 where
  pub over : Over text at r
  pub ends : is_blank (sign_at text r) ≡ false

-- blanks and so many `!` were passed over from `at` to i, and the sense was flipped as often
pub record Passed (text : List ℕ) (at : ℕ) (sense : Bool) (i : ℕ) (s : Bool) : Type 0 where
  pub from : at ≤ i
  pub within : i ≤ length text
  pub clear : no_digit_before text i ≡ true
  pub runs : runs_before text i ≡ runs_before text at
  pub count : ℕ
  pub sensed : s ≡ flipped count sense
  pub reads : (w : Waiting) (outer : List Waiting) → reads_on text (wanted w) outer at ≡ reads_on text (wanted (complementing count w)) outer i

-- where an operand is to stand
pub record OperandAt (text : List ℕ) (at : ℕ) (sense : Bool) (r : Operand) : Type 0 where
  pub passed : Passed text at sense r.at r.sense
  pub ends : leads (sign_at text r.at) ≡ false

-- a number that starts at `at`: its value, and the place behind it
pub record Numbered (text : List ℕ) (at : ℕ) (r : Numeral) : Type 0 where
  pub past : at < r.next
  pub within : r.next ≤ length text
  pub small : r.value.0 ≤ greatest_primitive
  pub runs : runs_before text r.next ≡ runs_before text at + 1
  pub reads : (w : Waiting) (outer : List Waiting)
      → reads_on text (wanted w) outer at ≡ reads_on text (complete w.sum (product_with w (number r.value.0))) outer r.next

-- from `at` to next stands an operand that means e: whatever waits for it gets it
abbrev pub FactorMeans : List ℕ → ℕ → ℕ → Typed → Type 0
FactorMeans text at next e =
    (w : Waiting) (outer : List Waiting) → reads_on text (wanted w) outer at ≡ reads_on text (complete w.sum (product_with w e)) outer next

-- a product that means e, behind any sum
abbrev pub ProductMeans : List ℕ → ℕ → ℕ → Typed → Type 0
ProductMeans text at next e = (sum : Pending) (outer : List Waiting) → reads_on text (wanted (after sum)) outer at ≡ reads_on text (complete sum e) outer next

-- a sum that means e: its last product, behind what stands before that
pub record SumMeans (text : List ℕ) (at next : ℕ) (e : Typed) : Type 0 where
  pub sum : Pending
  pub product : Typed
  pub is : joined sum product ≡ e
  pub reads : (outer : List Waiting) → reads_on text (wanted nothing) outer at ≡ reads_on text (complete sum product) outer next

-- or the machine stops at p
abbrev pub FactorStops : List ℕ → ℕ → ℕ → Type 0
FactorStops text at p = (w : Waiting) (outer : List Waiting) → reads_on text (wanted w) outer at ≡ stops p

abbrev pub ProductStops : List ℕ → ℕ → ℕ → Type 0
ProductStops text at p = (sum : Pending) (outer : List Waiting) → reads_on text (wanted (after sum)) outer at ≡ stops p

abbrev pub SumStops : List ℕ → ℕ → ℕ → Type 0
SumStops text at p = (outer : List Waiting) → reads_on text (wanted nothing) outer at ≡ stops p

-- what was read means something, its numbers are counted, nothing that binds as close follows, and its form stands in the slots
-- from start up to n
pub record Built (Means : List ℕ → ℕ → ℕ → Typed → Type 0) (level : ℕ) (text : List ℕ) (at : ℕ) (sense : Bool) (start : ℕ) (a b : Slots)
    (next n : ℕ) : Type 0 where
  pub meaning : Typed
  pub means : Means text at next meaning
  pub past : at < next
  pub within : next ≤ length text
  pub ends : is_blank (sign_at text next) ≡ false
  pub lower : binding (sign_at text next) < level
  pub counted : runs_before text at + numbers meaning ≡ runs_before text next
  pub filled : n + 1 ≡ start + 2 * numbers meaning
  pub holds : (k : ℕ) → Holds b.kinds b.spans (n - 1) (form sense k meaning)
  pub kept : Kept start a b

-- a part that was read, by how the machine goes on behind it or stops in it
abbrev pub PartRead : (List ℕ → ℕ → ℕ → Typed → Type 0) → (List ℕ → ℕ → ℕ → Type 0) → ℕ → List ℕ → ℕ → Bool → ℕ → Slots → Slots → Result Cursor Stop
    → Type 0
PartRead Means Stops level text at sense start a b r =
    MatchResult r (λ end. Built Means level text at sense start a b end.at end.free) (λ stop. Stops text at stop.0)

-- a factor ends before any operator, a product before one of sums, and a sum before none
abbrev pub FactorRead : List ℕ → ℕ → Bool → ℕ → Slots → Slots → Result Cursor Stop → Type 0
FactorRead = PartRead FactorMeans FactorStops of_factors

abbrev pub ProductRead : List ℕ → ℕ → Bool → ℕ → Slots → Slots → Result Cursor Stop → Type 0
ProductRead = PartRead ProductMeans ProductStops of_products

abbrev pub SumRead : List ℕ → ℕ → Bool → ℕ → Slots → Slots → Result Cursor Stop → Type 0
SumRead = PartRead SumMeans SumStops of_sums

-- the `)` behind what was read in parentheses, and the blanks behind it
pub record Shut (text : List ℕ) (inner outer : Cursor) : Type 0 where
  pub close : is_close (sign_at text inner.at) ≡ true
  pub skipped : Skipped text (inner.at + 1) outer.at
  pub free : outer.free ≡ inner.free

-- or where it is missing
pub record Missing (text : List ℕ) (inner : Cursor) (at : ℕ) : Type 0 where
  pub close : is_close (sign_at text inner.at) ≡ false
  pub here : at ≡ inner.at

abbrev pub Closed : List ℕ → Cursor → Result Cursor Stop → Type 0
Closed text inner r = MatchResult r (Shut text inner) (λ stop. Missing text inner stop.0)

-- the whole text means something, and the slots from the first on hold its positive form; or the machine stops
pub record Whole (text : List ℕ) (b : Slots) (n : ℕ) : Type 0 where
  pub meaning : Typed
  pub means : reader.read text ≡ reader.means meaning
  pub filled : n + 1 ≡ 2 * numbers meaning
  pub fits : n ≤ most_slots
  pub holds : Holds b.kinds b.spans (n - 1) (positive 0 meaning)

abbrev pub WholeRead : List ℕ → Slots → Result ℕ Stop → Type 0
WholeRead text b r = MatchResult r (Whole text b) (λ stop. reader.read text ≡ stops stop.0)
