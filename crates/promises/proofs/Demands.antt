-- The demands, each theorem under the sentence that it proves, over the definitions alone; what the code's own answers are is in
-- EntryPoints.antt and WholeWay.antt. Assumes nothing.
use Prim.Native.Nat.{ℕ, suc, ◌+◌, ◌-◌, ◌*◌, ◌^◌, ◌≤◌, ◌<◌}
use mathlib.Core.Path.{◌≡◌, refl}
use mathlib.Core.Logic.{◌↔◌, ◌≢◌}
use mathlib.Core.Bool.{Bool}
use mathlib.Core.List.{List, [], ◌∷◌, ◌++◌, map}
use lib.ListN.{length, get_or}
use Rattle.terms.specs.Terms.{Label, first_label}
use Rattle.terms.specs.Answer.{result, refused}
use Rattle.terms.specs.Rows.{FirstOf, NoneOf}
use Rattle.formula.specs.Formula.{Expr, literals, operators, value}
use Rattle.formula.specs.Typed.{Typed, plus, times, minus, numbers, typed_value, positive}
use Rattle.formula.specs.Occurrences.{times_of, truth_at}
use Rattle.formula.proofs.Marks.{literals_operators}
use Rattle.formula.proofs.Values.{value_positive}
use Rattle.grammar.specs.Grammar.{Blanks, Factor, Product, Derives}
use Rattle.grammar.specs.Twins.Reader.{Outcome, means, read}
use Rattle.grammar.specs.Rows.{NotASum}
use Rattle.grammar.proofs.Append.{derives_plus, derives_minus, product_times, no_plus_product, no_minus_product}
use Rattle.grammar.proofs.Complete.{read_complete, derives_unique}
use Rattle.grammar.proofs.Sound.{read_sound}
use Rattle.grammar.proofs.Longest.{read_stops, stops_read}
use Rattle.turning.specs.Tags.{Tag, price, row, greatest}
use Rattle.turning.specs.Turning.{turned}
use Rattle.turning.proofs.Rows.{times_row, length-row}
use Rattle.turning.proofs.Turned.{value_turned}
use Rattle.weaving.specs.Gates.{in_order, gates, true_end, false_end}
use Rattle.weaving.specs.Twins.Gates.{gates_from}
use Rattle.weaving.specs.Awaited.{most_awaited}
use Rattle.weaving.specs.Labels.{weave}
use Rattle.weaving.proofs.Places.{gates_told}
use Rattle.table.specs.Layout.{header_of, end_of}
use Rattle.table.specs.WellFormed.{InRange, WellFormed}
use Rattle.compiler.specs.Compiled.{table_of}
use Rattle.compiler.specs.Twins.Compiling.{compiled}
use Rattle.compiler.specs.Rows.{compile_rows}
use Rattle.compiler.proofs.Refusals.{compiled_refused_by}
use Rattle.run.specs.Whole.{whole_run}
use Rattle.run.specs.Twins.Answers.{started}
use Rattle.listing.specs.Lines.{decimal}
use Rattle.listing.specs.Numerals.{Numeral}
use Rattle.listing.proofs.Numerals.{decimal_numeral}
use Rattle.promises.specs.Words.{Accepted, gate_of_each, Enough, typed_numbers, Asks, Names}
use Rattle.promises.proofs.Laws.Accepted as accepted
use Rattle.promises.proofs.Laws.Asked.{occurrence_once, numbers_in_order}
use Rattle.promises.proofs.Laws.Meant.{has_meaning, some_accepted}
use Rattle.promises.proofs.Laws.Named.{named}
use Rattle.promises.proofs.Laws.Falling.{row_falls}
use Rattle.promises.proofs.Laws.Said as said

-- DEMAND 1. "Expression text and table bytes may hold anything at all. Every entry point ends, stays inside its buffers and answers
-- either a result or one numbered refusal with a place, in the order document 01 fixes; a refused compile has written nothing, and a
-- refused step hands its run back unchanged." That each function ends and stays inside its buffers is what it is for a crate to be
-- proved; what the entry points answer and leave in the buffer is in EntryPoints.antt. Here: what they compute.

-- "Every refusal is given exactly when its row says": it is the first of the rows, in the order in which they are tested.
pub refused_exactly : (text : List ℕ) (room r at : ℕ) → (compiled text room ≡ refused r at) ↔ FirstOf (compile_rows text room) r at
refused_exactly = compiled_refused_by

-- "and answers a table whenever none of them holds": then the text has a meaning by the grammar and is accepted with it,
pub answers_whenever : (text : List ℕ) (room : ℕ) → ((table : List ℕ) × (e : Typed) × Accepted text room e table) ↔ NoneOf (compile_rows text room)
answers_whenever = some_accepted

-- as is every text for which a table is answered;
pub accepted_means : {text table : List ℕ} {room : ℕ} → compiled text room ≡ result table → (e : Typed) × Accepted text room e table
accepted_means = has_meaning

-- and it is the only one.
pub one_meaning : {text : List ℕ} {a b : Typed} → Derives text a → Derives text b → a ≡ b
one_meaning = derives_unique

-- "a sum is products joined by `+` or `-`, grouped from the left": behind any text, `+` or `-` joins a product to all of it,
pub plus_joins_all_before : {x p q : List ℕ} {a b : Typed} → Derives x a → Product p b q → Blanks q [] → Derives (x ++ 43 ∷ p) (plus a b)
plus_joins_all_before = derives_plus

pub minus_joins_all_before : {x p q : List ℕ} {a b : Typed} → Derives x a → Product p b q → Blanks q [] → Derives (x ++ 45 ∷ p) (minus a b)
minus_joins_all_before = derives_minus

-- "and a product has `*` only": behind a product, `*` joins a factor to that product, and two products with a `+` or a `-` between them
-- are none.
pub times_joins_its_product : {x p q r : List ℕ} {a b : Typed} → Product x a q → Blanks q [] → Factor p b r → Product (x ++ 42 ∷ p) (times a b) r
times_joins_its_product = product_times

pub plus_makes_no_product : {x p q r s : List ℕ} {a b e : Typed} → Product x a q → Blanks q [] → Product p b r → Blanks r [] → Product (x ++ 43 ∷ p) e s → ¬ Blanks s []
plus_makes_no_product = no_plus_product

pub minus_makes_no_product : {x p q r s : List ℕ} {a b e : Typed} → Product x a q → Blanks q [] → Product p b r → Blanks r [] → Product (x ++ 45 ∷ p) e s → ¬ Blanks s []
minus_makes_no_product = no_minus_product

-- The executable reader accepts exactly the texts that derive an expression, and stops at the
-- "length of the longest beginning that some ending would complete, limits set aside".
pub reads_what_derives : (text : List ℕ) (e : Typed) → (read text ≡ means e) ↔ Derives text e
reads_what_derives text e = (read_sound, read_complete)

pub stops_at_the_longest : (text : List ℕ) (p : ℕ) → (read text ≡ Outcome.stops p) ↔ NotASum text p
stops_at_the_longest text p = (read_stops, stops_read)

-- THE WAY FROM TEXT TO TABLE, for every expression.

-- "Left and right keep their sides.": the literals of the positive form are the numbers as typed, in their order.
pub sides_kept : (e : Typed) → map (λ x. x.primitive) (in_order (positive 0 e)) ≡ typed_numbers e
sides_kept e = numbers_in_order 0 e

-- "n literals have n-1 operators"
pub one_operator_less : (e : Expr) → literals e ≡ suc (operators e)
one_operator_less = literals_operators

-- Positive form and turning keep the value under every truth of the occurrences.
pub positive_keeps_value : (truth : ℕ → Bool) (e : Typed) → value truth (positive 0 e) ≡ typed_value truth 0 e
positive_keeps_value truth e = value_positive truth 0 e

pub turning_keeps_value : (truth : ℕ → Bool) (e : Expr) → value truth (turned e) ≡ value truth e
turning_keeps_value = value_turned

-- "The three costs are put in order, largest first": a row has three, has each cost as often as the tag has it, and falls.
pub rows_have_three : (t : Tag) → length (row t) ≡ 3
rows_have_three = length-row

pub rows_hold_the_costs : (i : ℕ) (t : Tag) → times_of i (row t) ≡ times_of i (t.c1 ∷ t.c2 ∷ t.c3 ∷ [])
rows_hold_the_costs = times_row

pub rows_fall : (t : Tag) (k : ℕ) → get_or (row t) (suc k) 0 ≤ get_or (row t) k 0
rows_fall = row_falls

-- The page's reading of places and the recursive one give the same gates.
pub places_by_recursion : (e : Expr) → gates e ≡ gates_from e 0 (true_end (literals e)) (false_end (literals e))
places_by_recursion = gates_told

-- Every occurrence is exactly one gate, so no row of truths is left out.
pub one_gate_each : (e : Typed) (i : ℕ) → i < numbers e → times_of i (gate_of_each e) ≡ 1
one_gate_each = occurrence_once

-- A decimal that the listing prints is one or more digits, says its number, and has no leading zero.
pub decimals_say_their_number : (n : ℕ) → Numeral n (decimal n)
decimals_say_their_number = decimal_numeral

-- "2 labels suffice to 3 literals, 3 to 9, 4 to 21, 5 to 45, 6 to 93, 7 to 189, 8 to 381, 9 to 765, 10 to 1,533."
pub numbers_of_the_bound : map (λ (c : ℕ). 3 * 2 ^ (c - 1) - 3) (2 ∷ 3 ∷ 4 ∷ 5 ∷ 6 ∷ 7 ∷ 8 ∷ 9 ∷ 10 ∷ [])
    ≡ 3 ∷ 9 ∷ 21 ∷ 45 ∷ 93 ∷ 189 ∷ 381 ∷ 765 ∷ 1533 ∷ []
numbers_of_the_bound = refl

-- EVERY ACCEPTED TEXT: it derives e, and compiling it with that room answers the table.
module _ {text table : List ℕ} {room : ℕ} {e : Typed} (a : Accepted text room e table) where
  -- DEMAND 2. "The table is byte for byte the one that Rossignac's Optimized Blist Form gives for the expression, as document 01
  -- reads it."
  pub table_of_the_turned : table ≡ table_of (weave (turned (positive 0 e)))
  table_of_the_turned = accepted.table_is a

  -- "Fed one truth per gate, every accepted expression's table ends true exactly when the expression is true for those truths, even
  -- if two occurrences of one primitive are given different truths." Each occurrence has the truth of its gate, and nothing on the
  -- way is refused.
  pub ends_as_typed : (truths : List Bool) → length truths ≡ numbers e
      → whole_run table truths ≡ result (typed_value (truth_at (gate_of_each e) truths) 0 e)
  ends_as_typed = accepted.run_typed a

  -- Gate k asks for the number that its occurrence has in the text, plain or complemented as the complements above it and a `-`
  -- before it say.
  pub gate_asks_for_its_number : Asks table e
  gate_asks_for_its_number = said.asking a

  -- "A table is one `H`, n gates, one `E`: 6n + 7 bytes.", and well formed, so a start never refuses it.
  pub table_as_long : length table ≡ 6 * numbers e + 7
  table_as_long = said.long a

  pub as_many_gates : (header_of table).gates ≡ numbers e
  as_many_gates = said.as_many a

  pub table_formed : WellFormed table
  table_formed = said.formed a

  pub never_refused_at_start : started table ≡ result (record { gate = 0; label = first_label })
  never_refused_at_start = said.starts a

  -- DEMAND 3. "For every accepted expression of n literals, the number of labels in its table equals the most places still awaited
  -- after any one gate, the last included, counted from the turned expression alone."
  pub labels_are_awaited : (header_of table).labels ≡ most_awaited (gates (turned (positive 0 e)))
  labels_are_awaited = said.labels_awaited a

  -- It is the greatest cost of the root's tag,
  pub labels_are_the_greatest_cost : (header_of table).labels ≡ greatest (price (turned (positive 0 e)))
  labels_are_the_greatest_cost = said.labels_priced a

  -- and the table's records name exactly so many labels, those from the first one on.
  pub labels_are_named : (l : Label) → Names table l ↔ InRange (header_of table).labels l
  labels_are_named = named a

  -- "That number is never above the least whole j for which 3 times 2 to the j is at least 2n + 6.": it is at most every such j,
  pub labels_within_the_bound : (j : ℕ) → Enough (numbers e) j → (header_of table).labels ≤ j
  labels_within_the_bound = said.labels_bounded a

  -- c labels suffice up to 3·2^(c-1) - 3 literals,
  pub labels_suffice : (c : ℕ) → 2 ≤ c → numbers e ≤ 3 * 2 ^ (c - 1) - 3 → (header_of table).labels ≤ c
  labels_suffice = said.labels_sufficing a

  -- and ten are enough for every accepted text.
  pub ten_labels_at_most : (header_of table).labels ≤ 10
  ten_labels_at_most = said.ten_labels a

  -- "True always carries label 0.", and False another.
  pub true_carries_the_first : (end_of table (numbers e)).on_true ≡ first_label
  true_carries_the_first = said.true_first a

  pub false_carries_another : (end_of table (numbers e)).on_false ≢ first_label
  false_carries_another = said.false_other a
