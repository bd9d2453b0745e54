-- A contract leaves no choice, and a refusal number of nought means that there was none.
--   compile_alike, start_alike, feed_alike, answer_alike == two conforming answers are equal; of compiling, the buffers too
--   compile_told, start_told, feed_told, answer_told     == with no refusal the fields are the result; with one they are its number and place
--   header_alike, .., header_told, ..                    == the same of the readers
-- Assumes nothing.
use Prim.Native.Nat.{ℕ, ◌≤◌}
use mathlib.Core.Path.{◌≡◌, refl, sym, ap, ◌∙◌}
use mathlib.Core.Bool.{Bool, true, false, not}
use mathlib.Core.Option.{Option, none, some}
use mathlib.Core.List.{List}
use native.Mathlib.Omega.{arith}
use lib.Dec.{ltb, eqb}
use lib.ListN.{length}
use Rattle.terms.specs.Answer.{Answer, result, refused, refuse, on_result}
use Rattle.compiler.specs.Twins.Compiling.{compiled}
use Rattle.compiler.specs.Shown.{length_of}
use Rattle.compiler.proofs.Refusals.{compiled_refused_by, compile_rows_numbered}
use Rattle.run.specs.Run.{Run}
use Rattle.run.specs.Twins.Answers.{record_fault, header_read, gate_read, end_read, started, fed, answered}
use Rattle.terms.specs.First.{where_so}
use Rattle.terms.proofs.Rows.{EachNumber, first_number}
use Rattle.run.specs.Rows.{start_rows, feed_rows, answer_rows}
use Rattle.run.proofs.Rows.{start_refused, feed_refused, answer_refused}
use Rattle.table.specs.Layout.{header_of, gate_of, end_of}
use Rattle.table.specs.Twins.Faults.{frame_fault, end_fault, or_else}
use Rattle.blist.specs.Plain.{plain_table, plain_run, plain_truth, plain_counts, plain_record, plain_ends, ends_read, truth_of, handed, CompileRight, StartRight, FeedRight, AnswerRight, HeaderRight, GateRight, EndsRight, Told, Read}
use Rattle.blist.specs.declared.PlainTable.{PlainTable}
use Rattle.blist.specs.declared.PlainRun.{PlainRun}
use Rattle.blist.specs.declared.PlainTruth.{PlainTruth}
use Rattle.blist.specs.declared.PlainCounts.{PlainCounts}
use Rattle.blist.specs.declared.PlainRecord.{PlainRecord}
use Rattle.blist.specs.declared.PlainEnds.{PlainEnds}

pub compile_alike : (text before after after' : List ℕ) (a b : PlainTable)
    → CompileRight text before after a → CompileRight text before after' b → (a ≡ b) × (after ≡ after')
compile_alike text before after after' a b p q = (p.fields ∙ sym q.fields, p.buffer ∙ sym q.buffer)

pub start_alike : (table : List ℕ) (a b : PlainRun) → StartRight table a → StartRight table b → a ≡ b
start_alike table a b p q = p.fields ∙ sym q.fields

pub feed_alike : (gate label : ℕ) (table : List ℕ) (truth : ℕ) (a b : PlainRun)
    → FeedRight gate label table truth a → FeedRight gate label table truth b → a ≡ b
feed_alike gate label table truth a b p q = p.fields ∙ sym q.fields

pub answer_alike : (gate label : ℕ) (table : List ℕ) (a b : PlainTruth)
    → AnswerRight gate label table a → AnswerRight gate label table b → a ≡ b
answer_alike gate label table a b p q = p.fields ∙ sym q.fields

-- an answer whose refusals are numbered from 1
Numbered : {A : Type 0} → Answer A → Type 0
Numbered answer = (r at : ℕ) → answer ≡ refused r at → 1 ≤ r

table_told : (answer : Answer ℕ) → Numbered answer → {r : PlainTable} → r ≡ plain_table answer
    → Told r.refusal r.at r.length answer
unfolding Numbered
table_told (result n) numbered e =
    record {
      result_told = λ n. ap (λ (y : PlainTable). result y.length) (sym e);
      refusal_told = λ n. absurd (n (ap (λ (y : PlainTable). y.refusal) e));
    }
table_told (refused number at) numbered e =
    record {
      result_told = λ n. absurd (omega (arith, numbered number at refl, ap (λ (y : PlainTable). y.refusal) e));
      refusal_told = λ n. ap (λ (y : PlainTable). refused y.refusal y.at) (sym e);
    }

abbrev run_of : PlainRun → Run
run_of r = handed r.gate r.label

abbrev truth_told : PlainTruth → Bool
truth_told r = truth_of r.truth

run_told : (gate label : ℕ) (answer : Answer Run) → Numbered answer → {r : PlainRun} → r ≡ plain_run gate label answer
    → Told r.refusal r.at (run_of r) answer
unfolding Numbered
run_told gate label (result x) numbered e =
    record { result_told = λ n. ap (λ (y : PlainRun). result (run_of y)) (sym e); refusal_told = λ n. absurd (n (ap (λ (y : PlainRun). y.refusal) e)) }
run_told gate label (refused number at) numbered e =
    record {
      result_told = λ n. absurd (omega (arith, numbered number at refl, ap (λ (y : PlainRun). y.refusal) e));
      refusal_told = λ n. ap (λ (y : PlainRun). refused y.refusal y.at) (sym e);
    }

truth_back : (truth : Bool) → truth_told (plain_truth (result truth)) ≡ truth
truth_back true = refl
truth_back false = refl

answer_truth_told : (answer : Answer Bool) → Numbered answer → {r : PlainTruth} → r ≡ plain_truth answer
    → Told r.refusal r.at (truth_told r) answer
unfolding Numbered
answer_truth_told (result truth) numbered e =
    record {
      result_told = λ n. ap result (sym (ap truth_told e ∙ truth_back truth));
      refusal_told = λ n. absurd (n (ap (λ (y : PlainTruth). y.refusal) e));
    }
answer_truth_told (refused number at) numbered e =
    record {
      result_told = λ n. absurd (omega (arith, numbered number at refl, ap (λ (y : PlainTruth). y.refusal) e));
      refusal_told = λ n. ap (λ (y : PlainTruth). refused y.refusal y.at) (sym e);
    }

-- a refusal stays, where the bytes are counted
length_refused : (answer : Answer (List ℕ)) {r at : ℕ} → length_of answer ≡ refused r at → answer ≡ refused r at
length_refused (result bytes) e = let never : ◌≡◌ {A = ℕ} 0 1 = cc in absurd (omega arith)
length_refused (refused q p) {r} {at} e = let number : q ≡ r = cc in let place : p ≡ at = cc in rw (number, place) refl

-- the rows of a run are numbered from 1
start_numbered : (table : List ℕ) → EachNumber (λ q. 1 ≤ q) (start_rows table)
unfolding EachNumber
start_numbered table = (omega arith, tt)

feed_numbered : (run : Run) (table : List ℕ) → EachNumber (λ q. 1 ≤ q) (feed_rows run table)
unfolding EachNumber
feed_numbered run table = (omega arith, (omega arith, tt))

answer_numbered : (run : Run) (table : List ℕ) → EachNumber (λ q. 1 ≤ q) (answer_rows run table)
unfolding EachNumber
answer_numbered run table = (omega arith, (omega arith, (omega arith, tt)))

pub compile_told : {text before after : List ℕ} {r : PlainTable} → CompileRight text before after r
    → Told r.refusal r.at r.length (length_of (compiled text (length before)))
unfolding Numbered
compile_told {text} {before} right =
    table_told (length_of (compiled text (length before)))
    (λ q p e.
    compile_rows_numbered text (length before) q p
    ((compiled_refused_by text (length before) q p).0 (length_refused (compiled text (length before)) e)))
    right.fields

pub start_told : {table : List ℕ} {r : PlainRun} → StartRight table r → Told r.refusal r.at (run_of r) (started table)
unfolding Numbered
start_told {table} right =
    run_told 0 0 (started table) (λ q p e. first_number (λ n. 1 ≤ n) (start_rows table) (start_numbered table) q p ((start_refused table q p).0 e)) right.fields

pub feed_told : {gate label : ℕ} {table : List ℕ} {truth : ℕ} {r : PlainRun} → FeedRight gate label table truth r
    → Told r.refusal r.at (run_of r) (fed (handed gate label) table (truth_of truth))
unfolding Numbered
feed_told {gate} {label} {table} {truth} right =
    run_told gate label (fed (handed gate label) table (truth_of truth))
    (λ q p e. first_number (λ n. 1 ≤ n) (feed_rows (handed gate label) table) (feed_numbered (handed gate label) table) q p ((feed_refused (handed gate label) table (truth_of truth) q p).0 e))
    right.fields

pub answer_told : {gate label : ℕ} {table : List ℕ} {r : PlainTruth} → AnswerRight gate label table r
    → Told r.refusal r.at (truth_told r) (answered (handed gate label) table)
unfolding Numbered
answer_told {gate} {label} {table} right =
    answer_truth_told (answered (handed gate label) table)
    (λ q p e. first_number (λ n. 1 ≤ n) (answer_rows (handed gate label) table) (answer_numbered (handed gate label) table) q p ((answer_refused (handed gate label) table q p).0 e))
    right.fields

pub header_alike : (table : List ℕ) (a b : PlainCounts) → HeaderRight table a → HeaderRight table b → a ≡ b
header_alike table a b p q = p.fields ∙ sym q.fields

pub gate_alike : (table : List ℕ) (gate : ℕ) (a b : PlainRecord) → GateRight table gate a → GateRight table gate b → a ≡ b
gate_alike table gate a b p q = p.fields ∙ sym q.fields

pub ends_alike : (table : List ℕ) (a b : PlainEnds) → EndsRight table a → EndsRight table b → a ≡ b
ends_alike table a b p q = p.fields ∙ sym q.fields

-- fields whose refusal and place are those of the answer, and nought for a result
read_told : {A B : Type 0} (plain : Answer A → B) (refusal at : B → ℕ)
    → ((q p : ℕ) → (refusal (plain (refused q p)) ≡ q) × (at (plain (refused q p)) ≡ p))
    → ((x : A) → refusal (plain (result x)) ≡ 0)
    → (answer : Answer A) → Numbered answer → {r : B} → r ≡ plain answer → Read plain r (refusal r) (at r) answer
unfolding Numbered
read_told plain refusal at number_and_place nought (result x) numbered e =
    record {
      result_told = λ n. record { value = x; answers = refl; shows = e };
      refusal_told = λ n. absurd (n (ap refusal e ∙ nought x));
    }
read_told plain refusal at number_and_place nought (refused q p) numbered {r} e =
    let number : refusal r ≡ q = ap refusal e ∙ (number_and_place q p).0 in
    let place : at r ≡ p = ap at e ∙ (number_and_place q p).1 in
    record {
      result_told = λ n. absurd (omega (arith, numbered q p refl, number, n));
      refusal_told = λ n. rw (number, place) refl;
    }

-- the rows of a reader are numbered from 1
numbered_result : {A : Type 0} (x : A) → Numbered (result x)
unfolding Numbered
numbered_result x r at e = let never : ◌≡◌ {A = ℕ} 0 1 = cc in absurd (omega arith)

numbered_row : {A : Type 0} (q : ℕ) → 1 ≤ q → (o : Option ℕ) (a : Answer A) → Numbered a → Numbered (refuse q o a)
unfolding Numbered
numbered_row q l none a numbered r at e = numbered r at e
numbered_row q l (some p) a numbered r at e = let same : q ≡ r = cc in omega (arith, same, l)

numbered_on : {A B : Type 0} (a : Answer A) (f : A → Answer B) → Numbered a → ((x : A) → Numbered (f x)) → Numbered (on_result a f)
unfolding Numbered
numbered_on (result x) f numbered then r at e = then x r at e
numbered_on (refused q p) f numbered then r at e = let same : q ≡ r = cc in omega (arith, same, numbered q p refl)

header_numbered : (table : List ℕ) → Numbered (header_read table)
header_numbered table = numbered_row 9 (omega arith) (frame_fault table) _ (numbered_result (header_of table))

gate_numbered : (table : List ℕ) (k : ℕ) → Numbered (gate_read table k)
gate_numbered table k =
    numbered_row 9 (omega arith) (or_else (frame_fault table) (record_fault table k)) _
    (numbered_row 11 (omega arith) (where_so (not (ltb k (header_of table).gates)) k) _ (numbered_result (gate_of table k)))

end_numbered : (table : List ℕ) (k : ℕ) → Numbered (end_read table k)
end_numbered table k =
    numbered_row 9 (omega arith) (or_else (frame_fault table) (end_fault table)) _
    (numbered_row 10 (omega arith) (where_so (not (eqb k (header_of table).gates)) k) _
    (numbered_result (end_of table (header_of table).gates)))

pub header_told : {table : List ℕ} {r : PlainCounts} → HeaderRight table r
    → Read plain_counts r r.refusal r.at (header_read table)
header_told {table} right =
    read_told plain_counts (λ r. r.refusal) (λ r. r.at) (λ q p. (refl, refl)) (λ x. refl) (header_read table)
    (header_numbered table)
    right.fields

pub gate_told : {table : List ℕ} {gate : ℕ} {r : PlainRecord} → GateRight table gate r
    → Read plain_record r r.refusal r.at (gate_read table gate)
gate_told {table} {gate} right =
    read_told plain_record (λ r. r.refusal) (λ r. r.at) (λ q p. (refl, refl)) (λ x. refl) (gate_read table gate)
    (gate_numbered table gate)
    right.fields

pub ends_told : {table : List ℕ} {r : PlainEnds} → EndsRight table r → Read plain_ends r r.refusal r.at (ends_read table)
ends_told {table} right =
    read_told plain_ends (λ r. r.refusal) (λ r. r.at) (λ q p. (refl, refl)) (λ x. refl) (ends_read table)
    (numbered_on (header_read table) (λ h. end_read table h.gates) (header_numbered table) (λ h. end_numbered table h.gates))
    right.fields
