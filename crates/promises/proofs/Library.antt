-- DEMAND 1 over what the library's functions return, for C and Rust: the number of the first row that holds with its place, or nought.
-- Assumes nothing.
use Prim.Native.Nat.{ℕ}
use mathlib.Core.Path.{◌≡◌}
use mathlib.Core.Logic.Iff
use mathlib.Core.Logic.{◌↔◌, ◌≢◌}
use mathlib.Core.List.{List}
use lib.ListN.{length}
use Rattle.terms.specs.Terms.{first_label}
use Rattle.terms.specs.Rows.{FirstOf, NoneOf}
use Rattle.terms.specs.Answer.{result}
use Rattle.table.specs.Layout.{header_of, gate_of, end_of}
use Rattle.table.specs.WellFormed.{WellFormed}
use Rattle.compiler.specs.Rows.{compile_rows}
use Rattle.compiler.proofs.Refusals.{compiled_refused_by}
use Rattle.run.specs.Run.{stepped}
use Rattle.run.specs.Rows.{start_rows, feed_rows, answer_rows, gate_rows, EndsOn}
use Rattle.promises.specs.Words.{header_rows, ends_rows}
use Rattle.run.proofs.Rows as rows
use Rattle.blist.specs.declared.PlainTable.{PlainTable}
use Rattle.blist.specs.declared.PlainRun.{PlainRun}
use Rattle.blist.specs.declared.PlainTruth.{PlainTruth}
use Rattle.blist.specs.declared.PlainCounts.{PlainCounts}
use Rattle.blist.specs.declared.PlainRecord.{PlainRecord}
use Rattle.blist.specs.declared.PlainEnds.{PlainEnds}
use Rattle.blist.specs.Plain.{plain_counts, plain_record, plain_ends, HeaderRight, GateRight, EndsRight, truth_of, handed, CompileRight, StartRight, FeedRight, AnswerRight}
use Rattle.blist.proofs.Conform.{start_told, feed_told, answer_told, header_told, gate_told, ends_told}
use Rattle.promises.proofs.Laws.Meant as meant
use Rattle.promises.proofs.Laws.Plain as plain
use Rattle.promises.proofs.Laws.Plain.{told_refused, told_given, read_refused, read_whole}
use Rattle.promises.proofs.Laws.Readers.{header_refused, header_given, ends_refused, ends_given}

-- compiling: the buffer held `before` and then `after`
module _ {text before after : List ℕ} {r : PlainTable} (right : CompileRight text before after r) where
  pub library_compile_refused_exactly : (n at : ℕ) → n ≢ 0
      → ((r.refusal ≡ n) × (r.at ≡ at)) ↔ FirstOf (compile_rows text (length before)) n at
  library_compile_refused_exactly n at some = Iff.trans (plain.compile_refused right n at some) (compiled_refused_by text (length before) n at)

  -- "a refused compile has written nothing"
  pub library_compile_writes_nothing : r.refusal ≢ 0 → after ≡ before
  library_compile_writes_nothing = plain.compile_unwritten right

  pub library_compiled_when_no_row : (r.refusal ≡ 0) ↔ NoneOf (compile_rows text (length before))
  library_compiled_when_no_row = Iff.trans (plain.compile_given right) (meant.some_table text (length before))

-- starting
module _ {table : List ℕ} {r : PlainRun} (right : StartRight table r) where
  pub library_start_refused_exactly : (n at : ℕ) → n ≢ 0 → ((r.refusal ≡ n) × (r.at ≡ at)) ↔ FirstOf (start_rows table) n at
  library_start_refused_exactly n at some = Iff.trans (told_refused (start_told right) n at some) (rows.start_refused table n at)

  pub library_started_when_formed : (r.refusal ≡ 0) ↔ (WellFormed table × (handed r.gate r.label ≡ record { gate = 0; label = first_label }))
  library_started_when_formed = Iff.trans (told_given (start_told right)) (rows.start_result table (handed r.gate r.label))

-- feeding a run of that gate number and label; a truth is a byte
module _ {gate label : ℕ} {table : List ℕ} {truth : ℕ} {r : PlainRun} (right : FeedRight gate label table truth r) where
  pub library_feed_refused_exactly : (n at : ℕ) → n ≢ 0 → ((r.refusal ≡ n) × (r.at ≡ at)) ↔ FirstOf (feed_rows (handed gate label) table) n at
  library_feed_refused_exactly n at some =
      Iff.trans (told_refused (feed_told right) n at some) (rows.feed_refused (handed gate label) table (truth_of truth) n at)

  -- "a refused step hands its run back unchanged"
  pub library_feed_hands_back : r.refusal ≢ 0 → (r.gate ≡ gate) × (r.label ≡ label)
  library_feed_hands_back = plain.feed_handed_back right

  pub library_fed_when_no_row : (r.refusal ≡ 0)
      ↔ (NoneOf (feed_rows (handed gate label) table) × (handed r.gate r.label ≡ stepped (handed gate label) (gate_of table gate) (truth_of truth)))
  library_fed_when_no_row =
      Iff.trans (told_given (feed_told right)) (rows.feed_result (handed gate label) table (truth_of truth) (handed r.gate r.label))

-- asking the answer
module _ {gate label : ℕ} {table : List ℕ} {r : PlainTruth} (right : AnswerRight gate label table r) where
  pub library_answer_refused_exactly : (n at : ℕ) → n ≢ 0 → ((r.refusal ≡ n) × (r.at ≡ at)) ↔ FirstOf (answer_rows (handed gate label) table) n at
  library_answer_refused_exactly n at some =
      Iff.trans (told_refused (answer_told right) n at some) (rows.answer_refused (handed gate label) table n at)

  pub library_answered_when_no_row : (r.refusal ≡ 0) ↔ (NoneOf (answer_rows (handed gate label) table) × EndsOn table label (truth_of r.truth))
  library_answered_when_no_row = Iff.trans (told_given (answer_told right)) (rows.answer_result (handed gate label) table (truth_of r.truth))

-- reading the header, a gate's record, the last record
module _ {table : List ℕ} where
  pub library_header_refused_exactly : {r : PlainCounts} → HeaderRight table r → (n at : ℕ) → n ≢ 0
      → ((r.refusal ≡ n) × (r.at ≡ at)) ↔ FirstOf (header_rows table) n at
  library_header_refused_exactly right n at some = Iff.trans (read_refused (header_told right) n at some) (header_refused table n at)

  pub library_header_when_no_row : {r : PlainCounts} → HeaderRight table r
      → (r.refusal ≡ 0) ↔ (NoneOf (header_rows table) × (r ≡ plain_counts (result (header_of table))))
  library_header_when_no_row right = read_whole (header_told right) (header_given table)

  pub library_gate_refused_exactly : {k : ℕ} {r : PlainRecord} → GateRight table k r → (n at : ℕ) → n ≢ 0
      → ((r.refusal ≡ n) × (r.at ≡ at)) ↔ FirstOf (gate_rows table k) n at
  library_gate_refused_exactly {k} right n at some = Iff.trans (read_refused (gate_told right) n at some) (rows.gate_read_refused table k n at)

  pub library_gate_when_no_row : {k : ℕ} {r : PlainRecord} → GateRight table k r
      → (r.refusal ≡ 0) ↔ (NoneOf (gate_rows table k) × (r ≡ plain_record (result (gate_of table k))))
  library_gate_when_no_row {k} right = read_whole (gate_told right) (rows.gate_read_result table k)

  pub library_ends_refused_exactly : {r : PlainEnds} → EndsRight table r → (n at : ℕ) → n ≢ 0
      → ((r.refusal ≡ n) × (r.at ≡ at)) ↔ FirstOf (ends_rows table) n at
  library_ends_refused_exactly right n at some = Iff.trans (read_refused (ends_told right) n at some) (ends_refused table n at)

  pub library_ends_when_no_row : {r : PlainEnds} → EndsRight table r
      → (r.refusal ≡ 0) ↔ (NoneOf (ends_rows table) × (r ≡ plain_ends (result (end_of table (header_of table).gates))))
  library_ends_when_no_row right = read_whole (ends_told right) (ends_given table)
