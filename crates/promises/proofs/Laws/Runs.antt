-- A run over the table of an expression is never refused, and ends as following its gate records does: each feed reads back the
-- record that weaving gave its gate. Assumes nothing.
use Prim.Native.Nat.{ℕ, suc, ◌+◌, ◌≤◌, ◌<◌}
use mathlib.Core.Path.{◌≡◌, refl, sym, ap, ◌∙◌}
use mathlib.Core.Bool.{Bool, true, false, cond}
use mathlib.Core.Option.{none}
use mathlib.Core.List.{List, [], ◌∷◌}
use native.Mathlib.Omega.{arith}
use lib.ListN.{length, drop}
use lib.Seq.{drop-cons}
use borrow.Author.Tests.{lt-ltb, eq-eqb, ne_eqb}
use Rattle.terms.specs.Terms.{Label, first_label, most_literals, most_labels}
use Rattle.terms.specs.Answer.{result}
use Rattle.formula.specs.Formula.{Expr, literals, sensed}
use Rattle.formula.proofs.Small.{SmallPrimitives}
use Rattle.weaving.specs.Labels.{GateRecord, weave}
use Rattle.weaving.proofs.Following.{label_after, follow_by}
use Rattle.weaving.proofs.Ends.{ends_differ}
use Rattle.weaving.proofs.Range.{length-gate_records}
use Rattle.table.specs.Layout.{header_of, GateFields, gate_of, EndFields, end_of, kind_by_sense}
use Rattle.table.specs.WellFormed.{WellFormed}
use Rattle.table.specs.Twins.Faults.{frame_fault}
use Rattle.table.proofs.Tested.{no_frame_fault, gate_told, end_told, well_formed_told}
use Rattle.compiler.specs.Compiled.{table_of}
use Rattle.compiler.proofs.Bytes.{no_record, record_of}
use Rattle.compiler.proofs.Tables.{gates_said, gate_written, end_written, table_well_formed}
use Rattle.run.specs.Run as run
use Rattle.run.specs.Whole.{fed_all, whole_run}
use Rattle.run.specs.Twins.Answers.{started, fed, answered, ended}

-- a gate takes the truth or its opposite as its literal's sense says
taken_sensed : (sense truth : Bool) → run.taken (kind_by_sense sense) truth ≡ sensed sense truth
taken_sensed true truth = refl
taken_sensed false truth = refl

module _ (e : Expr) (small : SmallPrimitives e) (few : literals e ≤ most_literals) (labels : (weave e).label_count ≤ most_labels) where
  abbrev table : List ℕ
  table = table_of (weave e)

  formed : WellFormed table
  formed = table_well_formed e small few labels

  framed : frame_fault table ≡ none
  framed = (no_frame_fault table).1 (record { header = formed.header; long = formed.long })

  moved_read : (k : ℕ) (l : Label) (u : Bool) → k < literals e
      → run.moved (gate_of table k) u l ≡ label_after (record_of (weave e) k) (sensed (record_of (weave e) k).literal.sense u) l
  moved_read k l u h =
      ap (λ (g : GateFields). run.moved g u l) (gate_written e small few k h)
      ∙ rw (taken_sensed (record_of (weave e) k).literal.sense u)

  pub fed_once : (k : ℕ) (l : Label) (u : Bool) → k < literals e
      → fed (record { gate = k; label = l }) table u
      ≡ result (record { gate = suc k; label = label_after (record_of (weave e) k) (sensed (record_of (weave e) k).literal.sense u) l })
  unfolding fed
  fed_once k l u h =
      let within : k < (header_of table).gates = omega (arith, gates_said e small few) in
      rw (framed, lt-ltb k (header_of table).gates within, (gate_told table k).1 (formed.gates k within), moved_read k l u h)

  follow_none : (rs : List GateRecord) (l : Label) → follow_by rs [] l ≡ l
  unfolding follow_by
  follow_none [] l = refl
  follow_none (r ∷ rs) l = refl

  pub fed_each : (us : List Bool) (k : ℕ) (l : Label) → k + length us ≡ literals e
      → fed_all (record { gate = k; label = l }) table us
      ≡ result (record { gate = literals e; label = follow_by (drop k (weave e).gate_records) us l })
  unfolding fed_all follow_by
  fed_each [] k l h =
      let is : k ≡ literals e = omega arith in
      rw (follow_none (drop k (weave e).gate_records) l, is)
  fed_each (u ∷ us) k l h =
      let within : k < literals e = omega arith in
      let rs = (weave e).gate_records in
      rw (fed_once k l u within, drop-cons rs k no_record (rw (length-gate_records e) within))
      (fed_each us (suc k) (label_after (record_of (weave e) k) (sensed (record_of (weave e) k).literal.sense u) l) (omega arith))

  -- the label of one end or the other
  ended_on : (v : Bool) → ended (end_of table (literals e)) (cond v (weave e).true_label (weave e).false_label) ≡ result v
  ended_on v =
      ap (λ (x : EndFields). ended x (cond v (weave e).true_label (weave e).false_label)) (end_written e small few) ∙ by v
    where
      by : (v : Bool)
          → ended (record { kind = 69; on_true = (weave e).true_label; on_false = (weave e).false_label }) (cond v (weave e).true_label (weave e).false_label)
          ≡ result v
      by true = rw (eq-eqb (weave e).true_label (weave e).true_label refl)
      by false =
          rw (ne_eqb (weave e).false_label (weave e).true_label (λ same. ends_differ e (sym same)), eq-eqb (weave e).false_label (weave e).false_label refl)

  pub answered_end : (v : Bool) → answered (record { gate = literals e; label = cond v (weave e).true_label (weave e).false_label }) table ≡ result v
  unfolding answered
  answered_end v =
      let n = gates_said e small few in
      rw (framed, (end_told table (header_of table).gates).1 formed.end, n, eq-eqb (literals e) (literals e) refl) (ended_on v)

  pub run_ends : (us : List Bool) (v : Bool) → length us ≡ literals e
      → follow_by (weave e).gate_records us first_label ≡ cond v (weave e).true_label (weave e).false_label
      → whole_run table us ≡ result v
  unfolding whole_run started
  run_ends us v h follows =
      rw ((well_formed_told table).1 formed, fed_each us 0 first_label (omega arith), follows) (answered_end v)
