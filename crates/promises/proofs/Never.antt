-- Refusal 7 is never given: a text that passes refusals 1 to 6 has at most 1,024 numbers, and turning keeps it within ten labels.
-- Assumes nothing.
use Prim.Native.Nat.{ℕ, ◌≤◌}
use mathlib.Core.Path.{◌≡◌}
use mathlib.Core.List.{List}
use native.Mathlib.Omega.{arith}
use Rattle.terms.specs.Terms.{most_literals}
use Rattle.terms.specs.Answer.{refused}
use Rattle.formula.specs.Typed.{numbers}
use Rattle.grammar.specs.Rows.{TooMany}
use Rattle.grammar.proofs.Few.{derives_few}
use Rattle.grammar.proofs.Refusals.{not_too_many}
use Rattle.weaving.specs.Labels.{weave}
use Rattle.compiler.specs.Twins.Compiling.{compiled}
use Rattle.compiler.specs.Rows.{TooManyLabels}
use Rattle.compiler.proofs.Refusals.{compiled_refused_by, row_7_first}
use Rattle.promises.specs.Words.{arrangement}
use Rattle.promises.proofs.Laws.Accepted.{label_count_enough}

-- row 7 never holds where row 6 does not
no_row_7 : {text : List ℕ} {at : ℕ} → ((p : ℕ) → ¬ TooMany text p) → ¬ TooManyLabels text at
no_row_7 few row =
    let numbers_few : numbers row.meaning ≤ most_literals = derives_few row.derives few in
    let ten_labels : (weave (arrangement row.meaning)).label_count ≤ 10 = label_count_enough row.meaning 10 (omega arith) in
    omega (arith, row.many)

pub never_too_many_labels : (text : List ℕ) (room at : ℕ) → ¬ (compiled text room ≡ refused 7 at)
never_too_many_labels text room at is =
    let first = row_7_first text room at ((compiled_refused_by text room 7 at).0 is) in
    no_row_7 (not_too_many first.0) first.1
