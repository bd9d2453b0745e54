-- DEMAND 1 over what the four entry points answer: their contracts let no other answer be right. Each theorem stands under the
-- sentence that it proves. Assumes nothing.
use Prim.Native.Nat.{ℕ, ◌+◌, ◌*◌, ◌≤◌}
use mathlib.Core.Path.{◌≡◌}
use mathlib.Core.Logic.Iff
use mathlib.Core.Logic.{◌↔◌}
use mathlib.Core.Bool.{Bool}
use mathlib.Core.List.{List, ◌++◌}
use lib.ListN.{length, take, drop}
use Rattle.std.specs.Prelude.{Result, Ok, Err}
use Rattle.terms.specs.Refusals.{number_of}
use Rattle.run.specs.declared.FeedRefused.{FeedRefused}
use Rattle.terms.specs.declared.Reason.{Reason}
use Rattle.terms.specs.declared.Refusal.{Refusal}
use Rattle.terms.specs.Terms.{first_label}
use Rattle.terms.specs.Rows.{FirstOf, NoneOf}
use Rattle.formula.specs.Typed.{Typed, numbers}
use Rattle.table.specs.Layout.{header_length, gate_length, end_length, record_start, header_of, gate_of}
use Rattle.table.specs.WellFormed.{WellFormed}
use Rattle.compiler.specs.Rows.{compile_rows}
use Rattle.compiler.specs.Shown.{CompiledRight}
use Rattle.compiler.proofs.Conform.{answers_alike, buffers_alike}
use Rattle.compiler.proofs.Refusals.{compiled_refused_by}
use Rattle.run.specs.declared.Run as coded
use Rattle.run.specs.Run.{stepped}
use Rattle.run.specs.Rows.{start_rows, feed_rows, answer_rows, EndsOn}
use Rattle.run.specs.Shown.{shown_run, StartedRight, FedRight, AnsweredRight}
use Rattle.run.proofs.Rows as rows
use Rattle.run.proofs.Conform as conform
use Rattle.run.proofs.Local as local
use Rattle.promises.specs.Words.{Accepted, Alike}
use Rattle.promises.proofs.Laws.Answers as answers
use Rattle.promises.proofs.Laws.Reasons.{compile_reasoned, start_reasoned, feed_reasoned, answer_reasoned, by_number}
use Rattle.promises.proofs.Laws.Meant as meant

-- COMPILE: it was handed the text and a buffer that held `before`, answered r, and the buffer then held `after`.
module _ {text before after : List ℕ} {r : Result ℕ Refusal} (right : CompiledRight text before after r) where
  -- "Every refusal is given exactly when its row says"; "Compiling tests 1 to 8 in that order, each over the whole text before the next"
  pub compile_refused_exactly : (f : Refusal) → (r ≡ Err f) ↔ FirstOf (compile_rows text (length before)) (number_of f.reason) f.at
  compile_refused_exactly f = Iff.trans (answers.compile_refused right f) (compiled_refused_by text (length before) (number_of f.reason) f.at)

  -- the same by number and place, whatever they are
  pub compile_refused_by_number : (q p : ℕ)
      → ((x : Reason) × (number_of x ≡ q) × (r ≡ Err (record { reason = x; at = p }))) ↔ FirstOf (compile_rows text (length before)) q p
  compile_refused_by_number = by_number (compile_rows text (length before)) (compile_reasoned text (length before)) compile_refused_exactly

  -- "a refused compile has written nothing"
  pub refused_compile_writes_nothing : (f : Refusal) → r ≡ Err f → after ≡ before
  refused_compile_writes_nothing = answers.compile_unwritten right

  -- "and answers a table whenever none of them holds"
  pub compiled_when_no_row : ((n : ℕ) × (r ≡ Ok n)) ↔ NoneOf (compile_rows text (length before))
  compiled_when_no_row = Iff.trans (answers.compile_given right) (meant.some_table text (length before))

-- "The compiler writes the first 6n + 7 bytes of the lent buffer and no others, and returns that length.": they are the table of the
-- text's meaning
pub compiled_table : {text before after : List ℕ} {m : ℕ} → CompiledRight text before after (Ok m)
    → (e : Typed) × Accepted text (length before) e (take m after) × (m ≡ 6 * numbers e + 7) × (after ≡ take m after ++ drop m before)
compiled_table = meant.table_in_front

-- START.
module _ {table : List ℕ} {r : Result coded.Run Refusal} (right : StartedRight table r) where
  pub start_refused_exactly : (f : Refusal) → (r ≡ Err f) ↔ FirstOf (start_rows table) (number_of f.reason) f.at
  start_refused_exactly f = Iff.trans (answers.start_refused right f) (rows.start_refused table (number_of f.reason) f.at)

  pub start_refused_by_number : (q p : ℕ)
      → ((x : Reason) × (number_of x ≡ q) × (r ≡ Err (record { reason = x; at = p }))) ↔ FirstOf (start_rows table) q p
  start_refused_by_number = by_number (start_rows table) (start_reasoned table) start_refused_exactly

  -- "Starting a run checks a whole table and gives a run at gate 0 with label 0."
  pub started_when_formed : (run : coded.Run)
      → (r ≡ Ok run) ↔ (WellFormed table × (shown_run run ≡ record { gate = 0; label = first_label }))
  started_when_formed run = Iff.trans (answers.start_given right run) (rows.start_result table (shown_run run))

-- FEED: it was handed the run, the table and a truth.
module _ {run : coded.Run} {table : List ℕ} {truth : Bool} {r : Result coded.Run FeedRefused} (right : FedRight run table truth r) where
  -- "A run tests 9 first, then 11 for a feed"
  pub feed_refused_exactly : (f : Refusal) → (r ≡ Err (record { refusal = f; run = run })) ↔ FirstOf (feed_rows (shown_run run) table) (number_of f.reason) f.at
  feed_refused_exactly f = Iff.trans (answers.feed_refused right f) (rows.feed_refused (shown_run run) table truth (number_of f.reason) f.at)

  pub feed_refused_by_number : (q p : ℕ)
      → ((x : Reason) × (number_of x ≡ q) × (r ≡ Err (record { refusal = record { reason = x; at = p }; run = run }))) ↔ FirstOf (feed_rows (shown_run run) table) q p
  feed_refused_by_number = by_number (feed_rows (shown_run run) table) (feed_reasoned (shown_run run) table) feed_refused_exactly

  -- "a refused step hands its run back unchanged"
  pub refused_feed_hands_back : (f : Refusal) (back : coded.Run) → r ≡ Err (record { refusal = f; run = back }) → back ≡ run
  refused_feed_hands_back = answers.feed_handed_back right

  -- "If the run's label is the gate's own, it becomes the gate's true or false label; otherwise it stays. The gate number rises by one."
  pub fed_when_no_row : (next : coded.Run)
      → (r ≡ Ok next) ↔ (NoneOf (feed_rows (shown_run run) table) × (shown_run next ≡ stepped (shown_run run) (gate_of table run.gate) truth))
  fed_when_no_row next = Iff.trans (answers.feed_given right next) (rows.feed_result (shown_run run) table truth (shown_run next))

-- ANSWER.
module _ {run : coded.Run} {table : List ℕ} {r : Result Bool Refusal} (right : AnsweredRight run table r) where
  -- "10 then 12 for an answer"
  pub answer_refused_exactly : (f : Refusal) → (r ≡ Err f) ↔ FirstOf (answer_rows (shown_run run) table) (number_of f.reason) f.at
  answer_refused_exactly f = Iff.trans (answers.answer_refused right f) (rows.answer_refused (shown_run run) table (number_of f.reason) f.at)

  pub answer_refused_by_number : (q p : ℕ)
      → ((x : Reason) × (number_of x ≡ q) × (r ≡ Err (record { reason = x; at = p }))) ↔ FirstOf (answer_rows (shown_run run) table) q p
  answer_refused_by_number = by_number (answer_rows (shown_run run) table) (answer_reasoned (shown_run run) table) answer_refused_exactly

  pub answered_when_no_row : (truth : Bool)
      → (r ≡ Ok truth) ↔ (NoneOf (answer_rows (shown_run run) table) × EndsOn table (shown_run run).label truth)
  answered_when_no_row truth = Iff.trans (answers.answer_given right truth) (rows.answer_result (shown_run run) table truth)

-- "Each reads the table it is handed and nothing older.": two tables as long as each other, with the same bytes of the header,
module _ (t u : List ℕ) (as_long : length t ≡ length u) (header : Alike t u 0 (header_length (header_of t))) where
  -- feed alike at a gate whose record has the same bytes,
  pub feed_reads_its_parts : (run : coded.Run) (truth : Bool) → Alike t u (record_start (header_of t) run.gate) (gate_length (header_of t))
      → (a b : Result coded.Run FeedRefused) → FedRight run t truth a → FedRight run u truth b → a ≡ b
  feed_reads_its_parts run truth record_alike =
      local.feed_local run truth t u
      (record { long = as_long; header = record { same = header }; gate = record { same = record_alike } })

  -- feed alike at gate n or more: "a feed with gate number n or more has no record to read, so its 9 covers header and length only",
  pub past_feed_reads_its_parts : (run : coded.Run) (truth : Bool) → (header_of t).gates ≤ run.gate
      → (a b : Result coded.Run FeedRefused) → FedRight run t truth a → FedRight run u truth b → a ≡ b
  past_feed_reads_its_parts run truth = local.feed_past_local run truth t u (record { long = as_long; header = record { same = header } })

  -- and answer alike where the `E` record has the same bytes.
  pub answer_reads_its_parts : (run : coded.Run) → Alike t u (record_start (header_of t) (header_of t).gates) end_length
      → (a b : Result Bool Refusal) → AnsweredRight run t a → AnsweredRight run u b → a ≡ b
  answer_reads_its_parts run end_alike =
      local.answer_local run t u
      (record { long = as_long; header = record { same = header }; end = record { same = end_alike } })

-- "equality of any two conforming answers is a theorem", the final buffer of compile included
pub compile_alike : {text before after after' : List ℕ} {a b : Result ℕ Refusal} → CompiledRight text before after a → CompiledRight text before after' b
    → (a ≡ b) × (after ≡ after')
compile_alike x y = (answers_alike x y, buffers_alike x y)

pub start_alike : (table : List ℕ) (a b : Result coded.Run Refusal) → StartedRight table a → StartedRight table b → a ≡ b
start_alike = conform.started_alike

pub feed_alike : (run : coded.Run) (table : List ℕ) (truth : Bool) (a b : Result coded.Run FeedRefused) → FedRight run table truth a → FedRight run table truth b → a ≡ b
feed_alike = conform.fed_alike

pub answer_alike : (run : coded.Run) (table : List ℕ) (a b : Result Bool Refusal) → AnsweredRight run table a → AnsweredRight run table b → a ≡ b
answer_alike = conform.answered_alike
