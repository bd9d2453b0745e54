-- Refusals 9 to 12 as the page states them, for a start, a feed and an answer.
--   start_rows, feed_rows, answer_rows == the rows that are tested there, in the order in which they are tested
--   gate_rows, end_rows                == those of what a feed and an answer read
--   EndsOn table l t                   == the truth t is the answer of the label l
-- Assumes nothing.
use Rattle.std.specs.Prelude.{ℕ, ◌≤◌, ◌<◌, ◌≡◌, Bool, true, ◌≢◌, ◌↔◌, List, [], ◌∷◌, ◌++◌}
use Rattle.terms.specs.Rows.{Row, row}
use Rattle.table.specs.Layout.{header_of, end_of, record_start}
use Rattle.table.specs.WellFormed.{GateFits, EndFits, Framed, FrameFault, Fault}
use Rattle.run.specs.Run.{Run}

-- 9 at a feed: "a feed checks the header, the table's length and the record it reads"; "a feed with gate number n or more has no
-- record to read, so its 9 covers header and length only" (scope 6.4)
pub data FeedFault (table : List ℕ) (k : ℕ) : ℕ → Type 0 where
  in_frame : {at : ℕ} → FrameFault table at → FeedFault table k at
  in_record : Framed table → k < (header_of table).gates → ¬ GateFits table k → FeedFault table k (record_start (header_of table) k)

-- 9 at an answer: "asking the answer checks the header, the length and the `E` record" (scope 6.4)
pub data AnswerFault (table : List ℕ) : ℕ → Type 0 where
  in_frame : {at : ℕ} → FrameFault table at → AnswerFault table at
  in_end : Framed table → ¬ EndFits table (header_of table).gates
      → AnswerFault table (record_start (header_of table) (header_of table).gates)

-- 10: "answer asked with gate number other than n", "the gate number" (scope 7.1)
pub record NotAtEnd (table : List ℕ) (k at : ℕ) : Type 0 where
  pub other : k ≢ (header_of table).gates
  pub place : at ≡ k

-- 11: "truth fed with gate number n or more", "the gate number" (scope 7.1)
pub record PastGates (table : List ℕ) (k at : ℕ) : Type 0 where
  pub past : (header_of table).gates ≤ k
  pub place : at ≡ k

-- 12: "answer: the label is neither True's nor False's", "the label" (scope 7.1)
pub record NeitherEnd (table : List ℕ) (l at : ℕ) : Type 0 where
  pub not_true : l ≢ (end_of table (header_of table).gates).on_true
  pub not_false : l ≢ (end_of table (header_of table).gates).on_false
  pub place : at ≡ l

-- what an answer says where none of its rows holds: true exactly where the label is True's
abbrev pub EndsOn : List ℕ → ℕ → Bool → Type 0
EndsOn table l t = (t ≡ true) ↔ (l ≡ (end_of table (header_of table).gates).on_true)

abbrev pub gate_rows : List ℕ → ℕ → List Row
gate_rows table k = row 9 (FeedFault table k) ∷ row 11 (PastGates table k) ∷ []

abbrev pub end_rows : List ℕ → ℕ → List Row
end_rows table k = row 9 (AnswerFault table) ∷ row 10 (NotAtEnd table k) ∷ []

-- "Starting a run checks a whole table" (scope 6.1)
abbrev pub start_rows : List ℕ → List Row
start_rows table = row 9 (Fault table) ∷ []

-- "A run tests 9 first, then 11 for a feed, 10 then 12 for an answer" (scope 7.2)
abbrev pub feed_rows : Run → List ℕ → List Row
feed_rows r table = gate_rows table r.gate

abbrev pub answer_rows : Run → List ℕ → List Row
answer_rows r table = end_rows table r.gate ++ (row 12 (NeitherEnd table r.label) ∷ [])
