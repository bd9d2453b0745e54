-- What the results of the code stand for, and what a right answer is (scope 10.1).
--   HandedBack run r                      == a refused feed carries the run that was handed in
--   StartedRight, FedRight, AnsweredRight == a result shows the answer that the definitions give, and likewise of what a run reads
-- Assumes nothing.
use Rattle.std.specs.Prelude.{ℕ, ◌≡◌, Bool, List, Result, IfErr}
use Rattle.std.specs.Result.{result_map_both}
use Rattle.terms.specs.Refusals.{shown}
use Rattle.terms.specs.declared.Refusal.{Refusal}
use Rattle.table.specs.Shown.{shown_header, shown_gate, shown_end}
use Rattle.table.specs.declared.Header as coded_header
use Rattle.table.specs.declared.Gate.{Gate}
use Rattle.table.specs.declared.End.{End}
use Rattle.run.specs.Run.{Run}
use Rattle.run.specs.Twins.Answers.{header_read, gate_read, end_read, started, fed, answered}
use Rattle.run.specs.declared.Run as coded
use Rattle.run.specs.declared.FeedRefused as coded_refused

-- the code's run, with its label taken out
abbrev pub shown_run : coded.Run → Run
shown_run r = record { gate = r.gate; label = r.label.0 }

-- a refused feed carries the run that was handed in
abbrev pub HandedBack : coded.Run → Result coded.Run coded_refused.FeedRefused → Type 0
HandedBack run r = IfErr r (λ h. h.run ≡ run)

pub record HeaderReadRight (table : List ℕ) (r : Result coded_header.Header Refusal) : Type 0 where
  pub shown : shown shown_header r ≡ header_read table

pub record GateReadRight (table : List ℕ) (k : ℕ) (r : Result Gate Refusal) : Type 0 where
  pub shown : shown shown_gate r ≡ gate_read table k

pub record EndReadRight (table : List ℕ) (k : ℕ) (r : Result End Refusal) : Type 0 where
  pub shown : shown shown_end r ≡ end_read table k

pub record StartedRight (table : List ℕ) (r : Result coded.Run Refusal) : Type 0 where
  pub shown : shown shown_run r ≡ started table

-- what a feed shows: the run that goes on, or the refusal alone of what it hands back
pub record FedRight (run : coded.Run) (table : List ℕ) (truth : Bool) (r : Result coded.Run coded_refused.FeedRefused) : Type 0 where
  pub shown : shown shown_run (result_map_both (λ next. next) (λ h. h.refusal) r) ≡ fed (shown_run run) table truth
  pub handed_back : HandedBack run r

pub record AnsweredRight (run : coded.Run) (table : List ℕ) (r : Result Bool Refusal) : Type 0 where
  pub shown : shown (λ t. t) r ≡ answered (shown_run run) table
