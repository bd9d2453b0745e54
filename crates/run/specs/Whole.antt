-- A whole run: started, fed one truth per gate, asked.
--   fed_all run table truths == the run after a row of truths
--   whole_run table truths   == the truth that it ends on; a refusal on the way ends it
-- Assumes nothing.
use Rattle.std.specs.Prelude.{ℕ, Bool, List, [], ◌∷◌}
use Rattle.terms.specs.Answer.{Answer, result, on_result}
use Rattle.run.specs.Run.{Run}
use Rattle.run.specs.Twins.Answers.{started, fed, answered}

-- "Fed one truth per gate" (scope 1.4): a whole row of truths, fed one after the other
unfoldable pub fed_all : Run → List ℕ → List Bool → Answer Run
fed_all r table [] = result r
fed_all r table (truth ∷ truths) = on_result (fed r table truth) (λ next. fed_all next table truths)

-- start, feed all, ask
unfoldable pub whole_run : List ℕ → List Bool → Answer Bool
whole_run table truths = on_result (started table) (λ r. on_result (fed_all r table truths) (λ last. answered last table))
