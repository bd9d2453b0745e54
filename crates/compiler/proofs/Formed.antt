-- The table of an accepted text is well formed: its numbers are small and few, so its turned expression needs ten labels at most.
-- Assumes nothing.
use Prim.Native.Nat.{ℕ, ◌≤◌}
use mathlib.Core.Path.{◌≡◌}
use mathlib.Core.List.{List}
use native.Mathlib.Omega.{arith}
use Rattle.terms.specs.Terms.{most_literals}
use Rattle.terms.specs.Answer.{result}
use Rattle.formula.specs.Formula.{literals}
use Rattle.formula.specs.Typed.{Typed, numbers, positive}
use Rattle.formula.proofs.Occurrences.{literals_positive}
use Rattle.formula.proofs.Small.{SmallNumbers, SmallPrimitives, small_positive, small_arranged}
use Rattle.grammar.proofs.Few.{derives_few}
use Rattle.grammar.proofs.Refusals.{no_bad_number, not_too_many}
use Rattle.grammar.proofs.Small.{derives_small}
use Rattle.turning.specs.Turning.{marks, turned}
use Rattle.turning.proofs.Turned.{literals_turned}
use Rattle.weaving.specs.Labels.{weave}
use Rattle.widths.proofs.LabelCount.{label_count_enough}
use Rattle.table.specs.WellFormed.{WellFormed}
use Rattle.compiler.specs.Compiled.{table_of}
use Rattle.compiler.specs.Twins.Compiling.{compiled}
use Rattle.compiler.proofs.Refusals.{compiled_result_by, none_of_text}
use Rattle.compiler.proofs.Tables.{table_well_formed}

-- an expression of small and few numbers
module _ (e : Typed) (small : SmallNumbers e) (few : numbers e ≤ most_literals) where
  pub turned_small : SmallPrimitives (turned (positive 0 e))
  unfolding turned
  turned_small = small_arranged (small_positive small 0) (marks (positive 0 e))

  pub turned_few : literals (turned (positive 0 e)) ≤ most_literals
  turned_few = rw (literals_turned (positive 0 e), literals_positive 0 e) few

  pub ten_labels : (weave (turned (positive 0 e))).label_count ≤ 10
  ten_labels = label_count_enough (positive 0 e) 10 (rw (literals_positive 0 e) (omega arith))

  pub meant_formed : WellFormed (table_of (weave (turned (positive 0 e))))
  meant_formed = table_well_formed (turned (positive 0 e)) turned_small turned_few (omega (arith, ten_labels))

pub compiled_formed : (text : List ℕ) (room : ℕ) (table : List ℕ) → compiled text room ≡ result table → WellFormed table
compiled_formed text room table is =
    let known = (compiled_result_by text room table).0 is in
    let clear = none_of_text text room known.0 in
    let meant = known.1 in
    rw meant.table_is
    (meant_formed meant.meaning (derives_small meant.derives (no_bad_number clear)) (derives_few meant.derives (not_too_many clear)))
