-- What the functions for C and Rust return: the answers of the definitions as plain structs (scope 10.1).
--   plain_table a           == the fields for an answer that is a table's length
--   plain_run gate label a  == the fields for an answer that is a run; a refusal shows that gate number and label
--   plain_truth a           == the fields for an answer that is a truth
--   plain_counts, plain_record, plain_ends == the fields for an answer that is a header, a gate's record, the last record
--   ends_read table         == the last record, where header, length and that record are right
--   version                 == 10,000 times the major number, 100 times the minor number, and the patch number
--   Told refusal at x answer           == with no refusal the answer is x, with one it is that refusal at that place
--   CompileRight, StartRight, FeedRight, AnswerRight, HeaderRight, GateRight, EndsRight
--                           == the fields are those of the answer that the definitions give
-- Assumes nothing.
use Rattle.std.specs.Prelude.{ℕ, ◌≡◌, ◌≢◌, Bool, cond, not, List, eqb, length}
use Rattle.terms.specs.Terms.{first_label}
use Rattle.terms.specs.Answer.{Answer, result, refused, on_result}
use Rattle.table.specs.Layout.{N, Header, GateFields, EndFields}
use Rattle.compiler.specs.Compiled.{written}
use Rattle.compiler.specs.Twins.Compiling.{compiled}
use Rattle.compiler.specs.Shown.{length_of}
use Rattle.run.specs.Run.{Run}
use Rattle.run.specs.Twins.Answers.{header_read, gate_read, end_read, started, fed, answered}
use Rattle.blist.specs.declared.PlainTable.{PlainTable}
use Rattle.blist.specs.declared.PlainRun.{PlainRun}
use Rattle.blist.specs.declared.PlainTruth.{PlainTruth}
use Rattle.blist.specs.declared.PlainCounts.{PlainCounts}
use Rattle.blist.specs.declared.PlainRecord.{PlainRecord}
use Rattle.blist.specs.declared.PlainEnds.{PlainEnds}

-- refusal and place are nought where there is no refusal; the length is nought where there is one
abbrev pub plain_table : Answer ℕ → PlainTable
plain_table (result n) = record { refusal = 0; at = 0; length = n }
plain_table (refused number at) = record { refusal = number; at = at; length = 0 }

abbrev pub plain_run : ℕ → ℕ → Answer Run → PlainRun
plain_run gate label (result r) = record { refusal = 0; at = 0; gate = r.gate; label = r.label }
plain_run gate label (refused number at) = record { refusal = number; at = at; gate = gate; label = label }

-- a truth as a byte: 1 or nought, and nought where there is none
abbrev pub plain_truth : Answer Bool → PlainTruth
plain_truth (result truth) = record { refusal = 0; at = 0; truth = cond truth 1 0 }
plain_truth (refused number at) = record { refusal = number; at = at; truth = 0 }

-- the label that a run starts on stands beside the header's two numbers
abbrev pub plain_counts : Answer Header → PlainCounts
plain_counts (result h) =
    record { refusal = 0; at = 0; gates = h.gates; labels = h.labels; first_label = first_label }
plain_counts (refused number at) = record { refusal = number; at = at; gates = 0; labels = 0; first_label = 0 }

-- whether a gate is complemented, as a byte
abbrev pub plain_record : Answer GateFields → PlainRecord
plain_record (result g) =
    record {
      refusal = 0;
      at = 0;
      primitive = g.primitive;
      complemented = cond (eqb g.kind N) 1 0;
      own = g.own;
      on_true = g.on_true;
      on_false = g.on_false;
    }
plain_record (refused number at) =
    record {
      refusal = number;
      at = at;
      primitive = 0;
      complemented = 0;
      own = 0;
      on_true = 0;
      on_false = 0;
    }

-- asked for at its own gate number
abbrev pub ends_read : List ℕ → Answer EndFields
ends_read table = on_result (header_read table) (λ h. end_read table h.gates)

abbrev pub plain_ends : Answer EndFields → PlainEnds
plain_ends (result e) = record { refusal = 0; at = 0; on_true = e.on_true; on_false = e.on_false }
plain_ends (refused number at) = record { refusal = number; at = at; on_true = 0; on_false = 0 }

abbrev pub version : ℕ
version = 10101

-- truth is a byte, nought false, all else true
abbrev pub truth_of : ℕ → Bool
truth_of byte = not (eqb byte 0)

abbrev pub handed : ℕ → ℕ → Run
handed gate label = record { gate = gate; label = label }

-- the lent buffer held `before` and holds `after`: the table's bytes and then what stood there, or all as it was on refusal
pub record CompileRight (text before after : List ℕ) (r : PlainTable) : Type 0 where
  pub fields : r ≡ plain_table (length_of (compiled text (length before)))
  pub buffer : after ≡ written (compiled text (length before)) before

-- a refused start has neither gate number nor label
pub record StartRight (table : List ℕ) (r : PlainRun) : Type 0 where
  pub fields : r ≡ plain_run 0 0 (started table)

-- on a refused feed gate and label are those handed in
pub record FeedRight (gate label : ℕ) (table : List ℕ) (truth : ℕ) (r : PlainRun) : Type 0 where
  pub fields : r ≡ plain_run gate label (fed (handed gate label) table (truth_of truth))

pub record AnswerRight (gate label : ℕ) (table : List ℕ) (r : PlainTruth) : Type 0 where
  pub fields : r ≡ plain_truth (answered (handed gate label) table)

pub record HeaderRight (table : List ℕ) (r : PlainCounts) : Type 0 where
  pub fields : r ≡ plain_counts (header_read table)

pub record GateRight (table : List ℕ) (gate : ℕ) (r : PlainRecord) : Type 0 where
  pub fields : r ≡ plain_record (gate_read table gate)

pub record EndsRight (table : List ℕ) (r : PlainEnds) : Type 0 where
  pub fields : r ≡ plain_ends (ends_read table)

-- how a caller reads the fields: no refusal means the result x, and any other number means that refusal at that place
pub record Told {A : Type 0} (refusal at : ℕ) (x : A) (answer : Answer A) : Type 0 where
  pub result_told : refusal ≡ 0 → answer ≡ result x
  pub refusal_told : refusal ≢ 0 → answer ≡ refused refusal at

-- how a caller reads the fields of a record: no refusal means that the answer is some x and that the fields are those of x
pub record Found {A B : Type 0} (plain : Answer A → B) (r : B) (answer : Answer A) : Type 0 where
  pub value : A
  pub answers : answer ≡ result value
  pub shows : r ≡ plain (result value)

pub record Read {A B : Type 0} (plain : Answer A → B) (r : B) (refusal at : ℕ) (answer : Answer A) : Type 0 where
  pub result_told : refusal ≡ 0 → Found plain r answer
  pub refusal_told : refusal ≢ 0 → answer ≡ refused refusal at
