-- A table driven as a viewer does it: one start, one feed a truth, one answer. Each is a value that meets its contract (scope 6).
--   Onward table run us a == from that run the truths us were fed, one by one, and the answer asked was a
--   Trace table us a      == the same from the start; a refusal on the way ends it
--   was_refused t         == the trace has a refusal on its way
-- Assumes nothing.
use Rattle.std.specs.Prelude.{ℕ, Bool, true, false, List, [], ◌∷◌, Result, Ok, Err}
use Rattle.terms.specs.declared.Refusal.{Refusal}
use Rattle.run.specs.declared.Run.{Run}
use Rattle.run.specs.Shown.{StartedRight, FedRight, AnsweredRight}

pub data Onward (table : List ℕ) : Run → List Bool → Result Bool Refusal → Type 0 where
  asked : {run : Run} {a : Result Bool Refusal} → AnsweredRight run table a → Onward table run [] a
  fed : {run next : Run} {u : Bool} {us : List Bool} {a : Result Bool Refusal}
      → FedRight run table u (Ok next) → Onward table next us a → Onward table run (u ∷ us) a
  feed_refused : {run back : Run} {u : Bool} {us : List Bool} {f : Refusal}
      → FedRight run table u (Err (record { refusal = f; run = back })) → Onward table run (u ∷ us) (Err f)

pub data Trace (table : List ℕ) (us : List Bool) : Result Bool Refusal → Type 0 where
  started : {run : Run} {a : Result Bool Refusal} → StartedRight table (Ok run) → Onward table run us a → Trace table us a
  start_refused : {f : Refusal} → StartedRight table (Err f) → Trace table us (Err f)

unfoldable pub was_refused_onward : {table : List ℕ} {run : Run} {us : List Bool} {a : Result Bool Refusal} → Onward table run us a → Bool
was_refused_onward (asked right) = false
was_refused_onward (fed right rest) = was_refused_onward rest
was_refused_onward (feed_refused right) = true

unfoldable pub was_refused : {table : List ℕ} {us : List Bool} {a : Result Bool Refusal} → Trace table us a → Bool
was_refused (started right rest) = was_refused_onward rest
was_refused (start_refused right) = true
