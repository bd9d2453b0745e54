-- What the bytes of an accepted text's table say: the table is that of its turned expression, and each part of it reads back what
-- was woven. Assumes nothing.
use Prim.Native.Nat.{ℕ, zero, suc, ◌+◌, ◌-◌, ◌*◌, ◌^◌, ◌≤◌, ◌<◌}
use mathlib.Core.Path.{◌≡◌, sym, ap, ◌∙◌, subst}
use mathlib.Core.Logic.{◌≢◌}
use mathlib.Core.Bool.{Bool, cond}
use mathlib.Core.List.{List}
use native.Mathlib.Omega.{arith}
use lib.ListN.{length}
use lib.Pow.{pow_pos}
use Rattle.terms.specs.Terms.{first_label}
use Rattle.terms.specs.Answer.{result}
use Rattle.formula.specs.Formula.{literals}
use Rattle.formula.specs.Typed.{Typed, numbers, positive}
use Rattle.turning.specs.Tags.{price, greatest}
use Rattle.turning.specs.Turning.{marks, turned}
use Rattle.weaving.specs.Gates.{gates}
use Rattle.weaving.specs.Awaited.{most_awaited}
use Rattle.weaving.specs.Labels.{weave}
use Rattle.weaving.proofs.Ends.{true_label_first, ends_differ}
use Rattle.weaving.proofs.Width.{label_count_awaited}
use Rattle.table.specs.Layout.{P, N, E, header_of, EndFields, end_of}
use Rattle.table.specs.WellFormed.{WellFormed}
use Rattle.table.proofs.Tested.{well_formed_told}
use Rattle.compiler.specs.Compiled.{table_of}
use Rattle.widths.proofs.LabelCount.{label_count_greatest}
use Rattle.compiler.proofs.Tables.{length-written, gates_said, labels_said, end_written, table_well_formed}
use Rattle.run.specs.Twins.Answers.{started}
use Rattle.promises.specs.Words.{Accepted, arrangement, Enough, Asks}
use Rattle.promises.proofs.Laws.Accepted.{table_is, numbers_few, literals_few, arrangement_small, labels_few, label_count_enough, literals_arrangement}
use Rattle.promises.proofs.Laws.Asked.{occurrence_within, literal_primitive, literal_sense, gate_primitive, gate_kind}

module _ {text table : List ℕ} {room : ℕ} {e : Typed} (a : Accepted text room e table) where
  pub long : length table ≡ 6 * numbers e + 7
  long =
      omega (
        arith,
        ap length (table_is a),
        length-written (arrangement e) (arrangement_small a) (literals_few a),
        literals_arrangement e,
      )

  pub as_many : (header_of table).gates ≡ numbers e
  as_many =
      ap (λ (t : List ℕ). (header_of t).gates) (table_is a)
      ∙ gates_said (arrangement e) (arrangement_small a) (literals_few a)
      ∙ literals_arrangement e

  pub formed : WellFormed table
  formed = rw (table_is a) (table_well_formed (arrangement e) (arrangement_small a) (literals_few a) (labels_few a))

  pub starts : started table ≡ result (record { gate = 0; label = first_label })
  unfolding started
  starts = rw ((well_formed_told table).1 formed)

  -- the header's label count
  pub labels_woven : (header_of table).labels ≡ (weave (arrangement e)).label_count
  labels_woven = ap (λ (t : List ℕ). (header_of t).labels) (table_is a) ∙ labels_said (arrangement e) (arrangement_small a) (literals_few a)

  pub labels_awaited : (header_of table).labels ≡ most_awaited (gates (arrangement e))
  labels_awaited = labels_woven ∙ label_count_awaited (arrangement e)

  pub labels_priced : (header_of table).labels ≡ greatest (price (arrangement e))
  labels_priced = labels_woven ∙ label_count_greatest (arrangement e)

  pub labels_bounded : (j : ℕ) → Enough (numbers e) j → (header_of table).labels ≤ j
  labels_bounded j enough = subst (λ (n : ℕ). n ≤ j) (sym labels_woven) (label_count_enough e j enough)

  pub labels_sufficing : (c : ℕ) → 2 ≤ c → numbers e ≤ 3 * 2 ^ (c - 1) - 3 → (header_of table).labels ≤ c
  labels_sufficing zero two h = absurd (omega arith)
  labels_sufficing (suc d) two h =
      let is : suc d - 1 ≡ d = omega arith in
      let k = rw is at h in
      labels_bounded (suc d) (omega (arith, pow_pos d))

  pub ten_labels : (header_of table).labels ≤ 10
  ten_labels = labels_bounded 10 (omega (arith, numbers_few a))

  -- the `E` record
  end_woven : end_of table (numbers e) ≡ record { kind = E; on_true = (weave (arrangement e)).true_label; on_false = (weave (arrangement e)).false_label }
  end_woven =
      ap (λ (t : List ℕ). end_of t (numbers e)) (table_is a)
      ∙ ap (end_of (table_of (weave (arrangement e)))) (sym (literals_arrangement e))
      ∙ end_written (arrangement e) (arrangement_small a) (literals_few a)

  pub true_first : (end_of table (numbers e)).on_true ≡ first_label
  true_first = ap (λ (x : EndFields). x.on_true) end_woven ∙ true_label_first (arrangement e)

  pub false_other : (end_of table (numbers e)).on_false ≢ first_label
  false_other same =
      ends_differ (arrangement e) (true_label_first (arrangement e) ∙ sym same ∙ ap (λ (x : EndFields). x.on_false) end_woven)

  -- the gates' records
  within : {k : ℕ} → k < numbers e → k < literals (arrangement e)
  within h = rw (literals_arrangement e) h

  pub asking : Asks table e
  unfolding turned
  asking =
      let ms = marks (positive 0 e) in
      record {
        within = λ k h. occurrence_within e ms k (within h);
        primitive =
            λ k h. rw (table_is a)
            (gate_primitive (arrangement e) (arrangement_small a) (literals_few a) k (within h) ∙ literal_primitive e ms k (within h));
        kind =
            λ k h. rw (table_is a)
            (gate_kind (arrangement e) (arrangement_small a) (literals_few a) k (within h)
            ∙ ap (λ (s : Bool). cond s P N) (literal_sense e ms k (within h)));
      }
