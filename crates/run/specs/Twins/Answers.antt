-- What a run reads of a table, and the answers of starting, feeding and asking, as tests that compute. Each definition is the whole
-- answer, refusals in order; theorems tie it to the rows of Rows.antt.
--   header_read table   == what the header says, where header and length are right
--   gate_read table k   == what the record of gate k says, or what a feed at that gate is refused with
--   end_read table k    == what the last record says, or what an answer at that gate is refused with before its label is looked at
--   started table       == the run at gate 0 with the first label, or the table's fault
--   fed run table truth == the run after one gate
--   answered run table  == the truth that the run has ended on
-- Assumes nothing.
use Rattle.std.specs.Prelude.{ℕ, Bool, cond, not, ◌&&◌, List, ltb, eqb}
use Rattle.std.proofs.Math.Option.{Option, none}
use Rattle.terms.specs.Terms.{Label, first_label}
use Rattle.terms.specs.Answer.{Answer, result, refuse, on_result}
use Rattle.terms.specs.First.{where_so}
use Rattle.table.specs.Layout.{Header, header_of, GateFields, gate_of, EndFields, end_of}
use Rattle.table.specs.Twins.Faults.{frame_fault, gate_fault, end_fault, table_fault, or_else}
use Rattle.run.specs.Run.{Run, stepped}

-- header and length, or 9
abbrev pub header_read : List ℕ → Answer Header
header_read table = refuse 9 (frame_fault table) (result (header_of table))

-- "a feed with gate number n or more has no record to read, so its 9 covers header and length only" (scope 6.4)
abbrev pub record_fault : List ℕ → ℕ → Option ℕ
record_fault table k = cond (ltb k (header_of table).gates) (gate_fault table k) none

-- "a feed checks the header, the table's length and the record it reads": 9; "truth fed with gate number n or more": 11, "the gate
-- number" (scope 6.4, 7.1)
abbrev pub gate_read : List ℕ → ℕ → Answer GateFields
gate_read table k =
    refuse 9 (or_else (frame_fault table) (record_fault table k))
    (refuse 11 (where_so (not (ltb k (header_of table).gates)) k) (result (gate_of table k)))

-- "asking the answer checks the header, the length and the `E` record": 9; "answer asked with gate number other than n": 10, "the gate
-- number" (scope 6.4, 7.1)
abbrev pub end_read : List ℕ → ℕ → Answer EndFields
end_read table k =
    refuse 9 (or_else (frame_fault table) (end_fault table))
    (refuse 10 (where_so (not (eqb k (header_of table).gates)) k) (result (end_of table (header_of table).gates)))

-- "Starting a run checks a whole table and gives a run at gate 0 with label 0." (scope 6.1)
unfoldable pub started : List ℕ → Answer Run
started table = refuse 9 (table_fault table) (result (record { gate = 0; label = first_label }))

unfoldable pub fed : Run → List ℕ → Bool → Answer Run
fed r table truth = on_result (gate_read table r.gate) (λ g. result (stepped r g truth))

-- "the label is neither True's nor False's": 12, "the label" (scope 7.1)
abbrev pub ended : EndFields → Label → Answer Bool
ended e l = refuse 12 (where_so (not (eqb l e.on_true) && not (eqb l e.on_false)) l) (result (eqb l e.on_true))

unfoldable pub answered : Run → List ℕ → Answer Bool
answered r table = on_result (end_read table r.gate) (λ e. ended e r.label)
