-- The whole answer of reading a text: its positive form, or the first of refusals 1 to 6.
--   reading text == that answer
-- Assumes nothing.
use Rattle.std.specs.Prelude.{ℕ, List}
use Rattle.terms.specs.Answer.{Answer, result, refused, refuse, on_result}
use Rattle.formula.specs.Formula.{Expr}
use Rattle.formula.specs.Typed.{Typed, positive}
use Rattle.grammar.specs.Twins.Reader.{Outcome, means, stops, read}
use Rattle.grammar.specs.Twins.Places.{over_long, foreign_byte, bad_run, too_deep, surplus}

-- 5: "not a sum by the grammar" (scope 7.1)
abbrev pub grammatical : Outcome → Answer Typed
grammatical (means e) = result e
grammatical (stops at) = refused 5 at

-- "tests 1 to 8 in that order, each over the whole text before the next", by what a reader makes of the text (scope 7.2)
abbrev pub tested : List ℕ → Outcome → Answer Typed
tested text outcome =
    refuse 1 (over_long text)
    (refuse 2 (foreign_byte text)
    (refuse 3 (bad_run text)
    (refuse 4 (too_deep text)
    (on_result (grammatical outcome) (λ e. refuse 6 (surplus text) (result e))))))

unfoldable pub typed_reading : List ℕ → Answer Typed
typed_reading text = tested text (read text)

-- the occurrences of a whole text are numbered as typed, from 0
unfoldable pub reading : List ℕ → Answer Expr
reading text = on_result (typed_reading text) (λ e. result (positive 0 e))
