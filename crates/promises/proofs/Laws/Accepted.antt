-- What is known of every accepted text: its numbers are small and few, so its table is that of its turned expression, with ten
-- labels at most. Assumes nothing.
use Prim.Native.Nat.{ℕ, ◌≤◌}
use mathlib.Core.Path.{◌≡◌, refl, sym, ap, ap₂, ◌∙◌}
use mathlib.Core.Bool.{Bool}
use mathlib.Core.List.{List, ◌++◌, map, map-append}
use native.Mathlib.Omega.{arith}
use lib.ListN.{length}
use Rattle.terms.specs.Terms.{most_literals, most_labels}
use Rattle.terms.specs.Answer.{result}
use Rattle.terms.specs.Rows.{NoneOf}
use Rattle.formula.specs.Formula.{Expr, literal, join, literals, value}
use Rattle.formula.specs.Typed.{Typed, numbers, typed_value, positive}
use Rattle.formula.specs.Occurrences.{occurrences, truth_at}
use Rattle.formula.proofs.Occurrences.{literals_positive}
use Rattle.formula.proofs.Small.{SmallPrimitives, small_positive, small_arranged}
use Rattle.formula.proofs.Truths.{truths_given}
use Rattle.formula.proofs.Values.{value_positive}
use Rattle.grammar.proofs.Complete.{derives_unique}
use Rattle.grammar.proofs.Few.{derives_few}
use Rattle.grammar.proofs.Refusals.{no_bad_number, not_too_many}
use Rattle.grammar.proofs.Small.{derives_small}
use Rattle.turning.specs.Turning.{marks, turned}
use Rattle.turning.proofs.Turned.{literals_turned, value_turned}
use Rattle.weaving.specs.Gates.{in_order}
use Rattle.weaving.specs.Labels.{weave}
use Rattle.weaving.proofs.Following.{follow_by_value}
use Rattle.compiler.specs.Compiled.{table_of}
use Rattle.compiler.specs.Rows.{compile_rows, TableMeant}
use Rattle.widths.proofs.LabelCount as bound
use Rattle.compiler.proofs.Refusals.{compiled_result_by, none_of_text}
use Rattle.run.specs.Whole.{whole_run}
use Rattle.promises.specs.Words.{Accepted, arrangement, Enough}
use Rattle.promises.proofs.Laws.Runs.{run_ends}

pub literals_arrangement : (e : Typed) → literals (arrangement e) ≡ numbers e
literals_arrangement e = literals_turned (positive 0 e) ∙ literals_positive 0 e

pub label_count_enough : (e : Typed) (j : ℕ) → Enough (numbers e) j → (weave (arrangement e)).label_count ≤ j
label_count_enough e j h = bound.label_count_enough (positive 0 e) j (rw (literals_positive 0 e) h)

-- an occurrence's truth, looked up along the gates
map_in_order : (f : ℕ → Bool) (e : Expr) → map (λ x. f x.occurrence) (in_order e) ≡ map f (occurrences e)
unfolding in_order occurrences
map_in_order f (literal x) = refl
map_in_order f (join k l r) =
    map-append (λ x. f x.occurrence) (in_order l) (in_order r) ∙ ap₂ ◌++◌ (map_in_order f l) (map_in_order f r) ∙ sym (map-append f (occurrences l) (occurrences r))

module _ {text table : List ℕ} {room : ℕ} {e : Typed} (accepted : Accepted text room e table) where
  answered : NoneOf (compile_rows text room) × TableMeant text table
  answered = (compiled_result_by text room table).0 accepted.answers

  same_meaning : answered.1.meaning ≡ e
  same_meaning = derives_unique answered.1.derives accepted.means

  pub table_is : table ≡ table_of (weave (arrangement e))
  table_is = answered.1.table_is ∙ ap (λ x. table_of (weave (arrangement x))) same_meaning

  pub numbers_few : numbers e ≤ most_literals
  numbers_few = derives_few accepted.means (not_too_many (none_of_text text room answered.0))

  pub literals_few : literals (arrangement e) ≤ most_literals
  literals_few = rw (literals_arrangement e) numbers_few

  pub arrangement_small : SmallPrimitives (arrangement e)
  unfolding turned
  arrangement_small =
      small_arranged (small_positive (derives_small accepted.means (no_bad_number (none_of_text text room answered.0))) 0) (marks (positive 0 e))

  pub ten_labels : (weave (arrangement e)).label_count ≤ 10
  ten_labels = label_count_enough e 10 (omega (arith, numbers_few))

  pub labels_few : (weave (arrangement e)).label_count ≤ most_labels
  labels_few = omega (arith, ten_labels)

  pub run_typed : (us : List Bool) → length us ≡ numbers e
      → whole_run table us ≡ result (typed_value (truth_at (occurrences (arrangement e)) us) 0 e)
  unfolding turned
  run_typed us h =
      let truth = truth_at (occurrences (arrangement e)) us in
      let fed_truths : map (λ x. truth x.occurrence) (in_order (arrangement e)) ≡ us =
      map_in_order truth (arrangement e) ∙ truths_given (marks (positive 0 e)) e us h in
      let follows = rw fed_truths at (follow_by_value truth (arrangement e)) in
      let value_is : value truth (arrangement e) ≡ typed_value truth 0 e = value_turned truth (positive 0 e) ∙ value_positive truth 0 e in
      rw table_is
      (run_ends (arrangement e) arrangement_small literals_few labels_few us (value truth (arrangement e)) (h ∙ sym (literals_arrangement e)) follows
      ∙ ap result value_is)
