-- Runs that feed in another way, and the one that document 01 names: it honours its first feed and then only counts gates.
--   run_by feed table us == start, feed the truths by `feed`, ask
--   only_counting        == the first feed as it should be; every later one raises the gate number and nothing else
--   EndsAsTyped run      == every accepted text's table, run so, ends as the expression is
-- Assumes nothing.
use Rattle.std.specs.Prelude.{ℕ, zero, suc, ◌≡◌, Bool, List, [], ◌∷◌, length}
use Rattle.terms.specs.Answer.{Answer, result, on_result}
use Rattle.formula.specs.Typed.{Typed, numbers, typed_value}
use Rattle.formula.specs.Occurrences.{truth_at}
use Rattle.run.specs.Run.{Run}
use Rattle.run.specs.Twins.Answers.{started, fed, answered}
use Rattle.promises.specs.Words.{Accepted, gate_of_each}

abbrev pub Feeding : Type 0
Feeding = Run → List ℕ → Bool → Answer Run

unfoldable pub fed_by : Feeding → Run → List ℕ → List Bool → Answer Run
fed_by feed r table [] = result r
fed_by feed r table (u ∷ us) = on_result (feed r table u) (λ next. fed_by feed next table us)

unfoldable pub run_by : Feeding → List ℕ → List Bool → Answer Bool
run_by feed table us = on_result (started table) (λ r. on_result (fed_by feed r table us) (λ last. answered last table))

-- "a run that honours its first feed and then only counts gates" (scope 10.3)
abbrev pub counted : ℕ → Run → List ℕ → Bool → Answer Run
counted zero r table u = fed r table u
counted (suc k) r table u = result (record { gate = suc r.gate; label = r.label })

abbrev pub only_counting : Feeding
only_counting r table u = counted r.gate r table u

-- what demand 2 says, of any way of running
abbrev pub EndsAsTyped : (List ℕ → List Bool → Answer Bool) → Type 0
EndsAsTyped run =
    (text table : List ℕ) (room : ℕ) (e : Typed) → Accepted text room e table → (truths : List Bool) → length truths ≡ numbers e
    → run table truths ≡ result (typed_value (truth_at (gate_of_each e) truths) 0 e)
