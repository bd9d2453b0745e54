-- The whole answer of compiling, as a definition that computes: the table's bytes, or the first of refusals 1 to 8. Theorems tie it to
-- the rows of Rows.antt.
--   finished e marks room == the table of e arranged by the marks, or refusal 7 or 8
--   compiled text room    == the table of the text, or the first refusal that holds
-- Assumes nothing.
use Rattle.std.specs.Prelude.{ℕ, Bool, List, ltb}
use Rattle.terms.specs.Terms.{most_labels}
use Rattle.terms.specs.Answer.{Answer, result, refuse, on_result}
use Rattle.terms.specs.First.{where_so}
use Rattle.formula.specs.Formula.{Expr, literals}
use Rattle.formula.specs.Marks.{arranged}
use Rattle.grammar.specs.Twins.Reading.{reading}
use Rattle.turning.specs.Turning.{marks}
use Rattle.weaving.specs.Labels.{weave}
use Rattle.table.specs.Layout.{table_length}
use Rattle.compiler.specs.Compiled.{table_of}

-- 7: "the table would need over 15 labels", place 0; 8: "output buffer under 6n + 7 bytes", place 6n + 7 (scope 7.1)
unfoldable pub finished : Expr → List Bool → ℕ → Answer (List ℕ)
finished e marks room =
    refuse 7 (where_so (ltb most_labels (weave (arranged marks e)).label_count) 0)
    (refuse 8 (where_so (ltb room (table_length (literals e))) (table_length (literals e)))
    (result (table_of (weave (arranged marks e)))))

-- "Compiling tests 1 to 8 in that order .. and answers a table whenever none of them holds." (scope 7.2)
unfoldable pub compiled : List ℕ → ℕ → Answer (List ℕ)
compiled text room = on_result (reading text) (λ e. finished e (marks e) room)
