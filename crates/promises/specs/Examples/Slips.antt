-- Slips that the promises have to exclude: each as a definition gone wrong, and what it makes of an example. Each way of going wrong
-- is a choice in a definition which, with the right choice, is the right definition: proofs/Controls.antt.
--   turned_by x e      == the turning that exchanges children where x says so
--   stored_by step gs  == the store after gates that each do `step` to it
--   piled_by x gs      == the labels handed out from a pile, where x says how a label is put back
--   kept_by x e        == e without the literals that x does not keep
--   renamed f e        == e with every primitive p named f p
--   NoSlip             == that each slip gives another table or count
-- Assumes nothing.
use Rattle.std.specs.Prelude.{ℕ, zero, suc, ◌+◌, ◌≡◌, Bool, true, false, cond, not, ◌||◌, List, [], ◌∷◌, ◌++◌, ltb, eqb, length, take, get_or}
use Prim.Native.String.{String}
use Rattle.std.proofs.Math.Option.{Option, none, some}
use Rattle.terms.specs.Terms.{Primitive, Place, Label, first_label}
use Rattle.terms.specs.Answer.{result}
use Rattle.formula.specs.Formula.{Literal, Kind, Expr, literal, join, literals}
use Rattle.formula.specs.Typed.{Typed, occurs, positive}
use Rattle.formula.specs.Marks.{placed}
use Rattle.grammar.specs.Twins.Reader.{Outcome, means, stops}
use Rattle.turning.specs.Tags.{priced, price, row, smaller}
use Rattle.turning.specs.Turning.{exchanges, turned}
use Rattle.weaving.specs.Gates.{Gate, in_order, gates, true_end, false_end}
use Rattle.weaving.specs.Labels.{Store, label_of, labelled, left, weave}
use Rattle.compiler.specs.Compiled.{table_of}
use Rattle.compiler.specs.Twins.Compiling.{compiled}
use Rattle.terms.specs.Texts.{bytes}
use Rattle.promises.specs.Examples.Marked.{roomy, run_of, expr, order}
use Rattle.promises.specs.Examples.Binding.{Levels, minus_in_products, read_by}

-- Turning gone wrong. What decides is given the operator's kind, its children as typed and its children settled.
abbrev pub Deciding : Type 0
Deciding = Kind → Expr → Expr → Expr → Expr → Bool

unfoldable pub turned_by : Deciding → Expr → Expr
turned_by exchanging (literal x) = literal x
turned_by exchanging (join k l r) =
    placed (exchanging k l r (turned_by exchanging l) (turned_by exchanging r)) k (turned_by exchanging l) (turned_by exchanging r)

-- the right choice
abbrev pub as_priced : Deciding
as_priced k l r l' r' = exchanges k (price l') (price r')

-- rows compared only after something was done to them
abbrev pub comparing : (List ℕ → List ℕ) → Deciding
comparing seen k l r l' r' = smaller (seen (row (priced k (price r') (price l')))) (seen (row (priced k (price l') (price r'))))

-- "Comparing the largest cost only" (scope 10.2)
abbrev pub largest_only : Deciding
largest_only = comparing (take 1)

-- "Exchanging children when both rows are equal" (scope 10.2)
abbrev pub ties_too : Deciding
ties_too k l r l' r' = not (smaller (row (priced k (price l') (price r'))) (row (priced k (price r') (price l'))))

-- rows compared on the two largest costs only
abbrev pub two_largest : Deciding
two_largest = comparing (take 2)

-- largest, then smallest, then middle
abbrev pub smallest_second : Deciding
smallest_second = comparing (λ c. get_or c 0 0 ∷ get_or c 2 0 ∷ get_or c 1 0 ∷ [])

-- largest, then the sum
abbrev pub sum_second : Deciding
sum_second = comparing (λ c. get_or c 0 0 ∷ (get_or c 0 0 + get_or c 1 0 + get_or c 2 0) ∷ [])

-- a parent priced over its unturned children
abbrev pub unturned_children : Deciding
unturned_children k l r l' r' = smaller (row (priced k (price r) (price l))) (row (priced k (price l) (price r)))

-- Labels gone wrong.
unfoldable pub stored_by : (Gate → Store → Store) → List Gate → Store → Store
stored_by step [] s = s
stored_by step (g ∷ gs) s = stored_by step gs (step g s)

-- "Giving back a gate's label after its places got theirs" (scope 10.2)
abbrev pub given_back_late : Gate → Store → Store
given_back_late g s = left g.number (labelled g.false_place (labelled g.true_place s))

-- "Labelling the false place first" (scope 10.2)
abbrev pub false_first : Gate → Store → Store
false_first g s = labelled g.true_place (labelled g.false_place (left g.number s))

-- Labels handed out from a pile: the topmost of those that came back, or else a fresh one.
pub record Pile : Type 0 where
  pub holding : List (Place × Label)
  pub returned : List Label
  pub fresh : Label

-- how a label is put back
abbrev pub Returning : Type 0
Returning = Label → List Label → List Label

-- the right choice: the lowest is kept on top
unfoldable pub lowest_on_top : Returning
lowest_on_top l [] = l ∷ []
lowest_on_top l (r ∷ rs) = cond (ltb l r) (l ∷ r ∷ rs) (r ∷ lowest_on_top l rs)

-- the label given back last is handed out first
abbrev pub last_on_top : Returning
last_on_top l rs = l ∷ rs

unfoldable pub in_pile : Place → List (Place × Label) → Bool
in_pile p [] = false
in_pile p (h ∷ hs) = eqb p h.0 || in_pile p hs

unfoldable pub pile_label : Place → List (Place × Label) → Label
pile_label p [] = 0
pile_label p (h ∷ hs) = cond (eqb p h.0) h.1 (pile_label p hs)

unfoldable pub without : Place → List (Place × Label) → List (Place × Label)
without p [] = []
without p (h ∷ hs) = cond (eqb p h.0) hs (h ∷ without p hs)

abbrev pub onto_pile : Returning → Place → Pile → Pile
onto_pile returning zero s = s
onto_pile returning (suc k) s =
    record {
      holding = without (suc k) s.holding;
      returned = returning (pile_label (suc k) s.holding) s.returned;
      fresh = s.fresh;
    }

abbrev pub topmost : Place → List (Place × Label) → List Label → Label → Pile
topmost p hs [] l = record { holding = (p, l) ∷ hs; returned = []; fresh = suc l }
topmost p hs (r ∷ rs) l = record { holding = (p, r) ∷ hs; returned = rs; fresh = l }

abbrev pub from_pile : Place → Pile → Pile
from_pile p s = cond (in_pile p s.holding) s (topmost p s.holding s.returned s.fresh)

unfoldable pub piled_by : Returning → List Gate → Pile → Pile
piled_by returning [] s = s
piled_by returning (g ∷ gs) s = piled_by returning gs (from_pile g.false_place (from_pile g.true_place (onto_pile returning g.number s)))

abbrev pub last_pile : Returning → Expr → Pile
last_pile returning e = piled_by returning (gates e) (record { holding = []; returned = []; fresh = first_label })

-- the label that False carries
abbrev pub false_of_pile : Returning → Expr → Label
false_of_pile returning e = pile_label (false_end (literals e)) (last_pile returning e).holding

-- Literals left out: an operator that has one child left is that child.
abbrev pub Keeping : Type 0
Keeping = List Literal → Literal → Bool

-- the right choice
abbrev pub every : Keeping
every before x = true

unfoldable pub seen_in : ℕ → List Literal → Bool
seen_in p [] = false
seen_in p (x ∷ xs) = eqb p x.primitive || seen_in p xs

-- "Merging two occurrences of a primitive into one gate": only the first literal of a primitive is kept (scope 10.2)
abbrev pub first_only : Keeping
first_only before x = not (seen_in x.primitive before)

abbrev pub joined_kept : Kind → Option Expr → Option Expr → Option Expr
joined_kept k none r = r
joined_kept k (some l) none = some l
joined_kept k (some l) (some r) = some (join k l r)

unfoldable pub kept_by : Keeping → List Literal → Expr → Option Expr
kept_by keep before (literal x) = cond (keep before x) (some (literal x)) none
kept_by keep before (join k l r) = joined_kept k (kept_by keep before l) (kept_by keep (before ++ in_order l) r)

abbrev pub table_kept : Option Expr → List ℕ
table_kept none = []
table_kept (some e) = table_of (weave e)

-- Primitives renamed.
unfoldable pub renamed : (Primitive → Primitive) → Expr → Expr
renamed name (literal x) = occurs (name x.primitive) x.sense x.occurrence
renamed name (join k l r) = join k (renamed name l) (renamed name r)

-- the table of what was typed, with its primitives renamed
abbrev pub renamed_table : (Primitive → Primitive) → Typed → List ℕ
renamed_table name e = table_of (weave (turned (renamed name (positive 0 e))))

-- Reading gone wrong, by operators that bind otherwise: the positive form of what such a reader makes of a text. (scope 10.2)
abbrev pub meant_as : Outcome → Expr
meant_as (means e) = positive 0 e
meant_as (stops p) = occurs 0 true 0

abbrev pub expr_by : Levels → String → Expr
expr_by levels text = meant_as (read_by levels (bytes text))

-- figure 16 of the paper
abbrev pub figure_16 : Expr
figure_16 = expr "(1+2)*((3+4)*5)+(6*7+(8+9)*(10+11*12))"

-- Each line: what is right, and what the slip makes of it.
pub record NoSlip : Type 0 where
  pub figure_16_needs_three : (weave (turned figure_16)).label_count ≡ 3
  pub largest_only_needs_four : (weave (turned_by largest_only figure_16)).label_count ≡ 4
  pub difference_starts_with_1 : order (turned (expr "1-2")) ≡ 1 ∷ 2 ∷ []
  pub ties_too_start_with_2 : order (turned_by ties_too (expr "1-2")) ≡ 2 ∷ 1 ∷ []
  pub product_needs_two : (weave (turned (expr "1*2"))).label_count ≡ 2
  pub late_needs_three : length (stored_by given_back_late (gates (turned (expr "1*2"))) []) ≡ 3
  pub true_carries_0 : (weave (turned (expr "5"))).true_label ≡ 0
  pub false_first_carries_1 : label_of (true_end 1) (stored_by false_first (gates (turned (expr "5"))) []) ≡ 1
  pub two_occurrences_two_gates : compiled (bytes "7-7") roomy
      ≡ result (72 ∷ 2 ∷ 0 ∷ 2 ∷ 80 ∷ 7 ∷ 0 ∷ 0 ∷ 0 ∷ 1 ∷ 78 ∷ 7 ∷ 0 ∷ 0 ∷ 0 ∷ 1 ∷ 69 ∷ 0 ∷ 1 ∷ [])
  pub merged_one_gate : table_kept (kept_by first_only [] (turned (expr "7-7"))) ≡ 72 ∷ 1 ∷ 0 ∷ 2 ∷ 80 ∷ 7 ∷ 0 ∷ 0 ∷ 0 ∷ 1 ∷ 69 ∷ 0 ∷ 1 ∷ []
  pub occurrences_differ : run_of (compiled (bytes "7-7") roomy) (true ∷ false ∷ []) ≡ result true
  pub lowest_free_order : order (turned (expr "1+(2*3+4*5)")) ≡ 2 ∷ 3 ∷ 4 ∷ 5 ∷ 1 ∷ []
  pub lowest_free_false : (weave (turned (expr "1+(2*3+4*5)"))).false_label ≡ 1
  pub lowest_on_top_false : false_of_pile lowest_on_top (turned (expr "1+(2*3+4*5)")) ≡ 1
  pub last_returned_false : false_of_pile last_on_top (turned (expr "1+(2*3+4*5)")) ≡ 2
  pub three_costs_order : order (turned (expr "1+(2+3)*(4+5)+6")) ≡ 6 ∷ 2 ∷ 3 ∷ 4 ∷ 5 ∷ 1 ∷ []
  pub two_largest_order : order (turned_by two_largest (expr "1+(2+3)*(4+5)+6")) ≡ 2 ∷ 3 ∷ 4 ∷ 5 ∷ 1 ∷ 6 ∷ []
  pub place_by_place_order : order (turned (expr "1+(2+3)*(4+5)")) ≡ 2 ∷ 3 ∷ 4 ∷ 5 ∷ 1 ∷ []
  pub smallest_second_order : order (turned_by smallest_second (expr "1+(2+3)*(4+5)")) ≡ 1 ∷ 2 ∷ 3 ∷ 4 ∷ 5 ∷ []
  pub sum_second_order : order (turned_by sum_second (expr "1+(2+3)*(4+5)")) ≡ 1 ∷ 2 ∷ 3 ∷ 4 ∷ 5 ∷ []
  pub minus_in_sums_order : order (turned (expr "1+2-3")) ≡ 1 ∷ 2 ∷ 3 ∷ []
  pub minus_in_products_order : order (turned (expr_by minus_in_products "1+2-3")) ≡ 2 ∷ 3 ∷ 1 ∷ []
  pub settled_children_order : order (turned (expr "1+2*(3+4)")) ≡ 3 ∷ 4 ∷ 2 ∷ 1 ∷ []
  pub unturned_children_order : order (turned_by unturned_children (expr "1+2*(3+4)")) ≡ 1 ∷ 3 ∷ 4 ∷ 2 ∷ []
