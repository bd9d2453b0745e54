-- Refusals 9 to 12 are given exactly when their rows say, with their places and in their order, since each test decides its row and
-- the tests are made in the order of the rows.
--   gate_read_says, end_read_says, started_says, fed_says, answered_says == the first row that holds, or a right result where none does
--   gate_read_refused, end_read_refused                                  == what is read is refused exactly where its row is the first that holds
--   gate_read_result, end_read_result                                    == and read exactly where none holds
--   start_refused, feed_refused, answer_refused                          == a refusal is given exactly where its row is the first that holds
--   start_result, feed_result, answer_result                             == and a result exactly where none holds, and which
-- Assumes nothing.
use Prim.Native.Nat.{ℕ}
use mathlib.Core.Path.{◌≡◌, refl, sym, ◌∙◌, ap, subst}
use mathlib.Core.Bool.{Bool, true, false, not, cond, ◌&&◌}
use mathlib.Core.Option.{Option, none, some}
use mathlib.Core.Logic.{◌↔◌}
use mathlib.Core.List.{List, [], ◌∷◌}
use borrow.Author.Tests.{ltb-true, ltb-false, eqb-true, eqb-false, lt-ltb, le-ltb, eq-eqb, ne_eqb}
use lib.Dec.{ltb, eqb}
use Rattle.terms.specs.Terms.{first_label}
use Rattle.terms.specs.First.{where_so}
use Rattle.terms.specs.Answer.{result, refused}
use Rattle.terms.specs.Rows.{row, FirstOf, NoneOf}
use Rattle.terms.proofs.Rows.{Decides, decides_unique, Says, refuse_says, result_says, on_result_says, OnePlace, one_place_behind, refused_by_first, result_by_none}
use Rattle.table.specs.Layout.{header_of, GateFields, gate_of, EndFields, end_of, record_start}
use Rattle.table.specs.WellFormed.{WellFormed, FrameFault, Fault}
use Rattle.table.specs.Twins.Faults.{frame_fault, gate_fits, gate_fault, end_fits, end_fault, table_fault, or_else}
use Rattle.table.proofs.Whole.{nought_one, place_given}
use Rattle.table.proofs.Tested.{fails_told, gate_told, end_told, frame_told, no_frame_fault, fault_told, well_formed_told}
use Rattle.run.specs.Run.{Run, stepped}
use Rattle.run.specs.Twins.Answers.{header_read, record_fault, gate_read, end_read, started, fed, ended, answered}
use Rattle.run.specs.Rows.{FeedFault, AnswerFault, NotAtEnd, PastGates, NeitherEnd, EndsOn, gate_rows, end_rows, start_rows, feed_rows, answer_rows}

-- each test decides its row
module _ (table : List ℕ) where
  pub header_read_says : Says (row 9 (FrameFault table) ∷ []) (λ h. h ≡ header_of table) (header_read table)
  header_read_says = refuse_says 9 (FrameFault table) [] (frame_fault table) _ (frame_told table) (λ clear. result_says refl)

  pub started_says : Says (start_rows table) (λ r. r ≡ record { gate = 0; label = first_label }) (started table)
  unfolding started
  started_says = refuse_says 9 (Fault table) [] (table_fault table) _ (fault_told table) (λ clear. result_says refl)

  end_found : (p : ℕ) (o : Option ℕ) → frame_fault table ≡ o → or_else o (end_fault table) ≡ some p → AnswerFault table p
  end_found p (some q) eo e = let same : q ≡ p = cc in rw (← same) (AnswerFault.in_frame ((frame_told table q).0 eo))
  end_found p none eo e =
      let g = place_given (end_fits table (header_of table).gates) (record_start (header_of table) (header_of table).gates) p e in
      rw g.1 (AnswerFault.in_end ((no_frame_fault table).0 eo) ((fails_told _ (end_told table (header_of table).gates)).0 g.0))

  end_placed : {p : ℕ} → AnswerFault table p → or_else (frame_fault table) (end_fault table) ≡ some p
  end_placed (AnswerFault.in_frame {at} f) = rw ((frame_told table at).1 f) refl
  end_placed (AnswerFault.in_end f n) =
      rw ((no_frame_fault table).1 f, (fails_told _ (end_told table (header_of table).gates)).1 n) refl

  end_decides : Decides (AnswerFault table) (or_else (frame_fault table) (end_fault table))
  end_decides p = (end_found p (frame_fault table) refl, end_placed)

  module _ (k : ℕ) where
    gate_found : (p : ℕ) (o : Option ℕ) (t : Bool) → frame_fault table ≡ o → ltb k (header_of table).gates ≡ t
        → or_else o (cond t (gate_fault table k) none) ≡ some p → FeedFault table k p
    gate_found p (some q) t eo et e = let same : q ≡ p = cc in rw (← same) (FeedFault.in_frame ((frame_told table q).0 eo))
    gate_found p none false eo et e = nought_one (cc)
    gate_found p none true eo et e =
        let g = place_given (gate_fits table k) (record_start (header_of table) k) p e in
        rw g.1 (FeedFault.in_record ((no_frame_fault table).0 eo) (ltb-true _ _ et) ((fails_told _ (gate_told table k)).0 g.0))

    gate_placed : {p : ℕ} → FeedFault table k p → or_else (frame_fault table) (record_fault table k) ≡ some p
    gate_placed (FeedFault.in_frame {at} f) = rw ((frame_told table at).1 f) refl
    gate_placed (FeedFault.in_record f l n) =
        rw ((no_frame_fault table).1 f, lt-ltb _ _ l, (fails_told _ (gate_told table k)).1 n) refl

    gate_decides : Decides (FeedFault table k) (or_else (frame_fault table) (record_fault table k))
    gate_decides p = (gate_found p (frame_fault table) (ltb k (header_of table).gates) refl refl, gate_placed)

    past_decides : Decides (PastGates table k) (where_so (not (ltb k (header_of table).gates)) k)
    past_decides p = (
      λ e. let g = place_given (ltb k (header_of table).gates) k p e in record { past = ltb-false _ _ g.0; place = g.1 },
      λ h. rw (le-ltb _ _ h.past, h.place) refl,
    )

    elsewhere_decides : Decides (NotAtEnd table k) (where_so (not (eqb k (header_of table).gates)) k)
    elsewhere_decides p = (
      λ e. let g = place_given (eqb k (header_of table).gates) k p e in record { other = eqb-false _ _ g.0; place = g.1 },
      λ h. rw (ne_eqb _ _ h.other, h.place) refl,
    )

    pub gate_read_says : Says (gate_rows table k) (λ g. g ≡ gate_of table k) (gate_read table k)
    gate_read_says =
        refuse_says 9 (FeedFault table k) _ _ _ gate_decides
        (λ clear. refuse_says 11 (PastGates table k) [] _ _ past_decides (λ below. result_says refl))

    pub end_read_says : Says (end_rows table k) (λ e. e ≡ end_of table (header_of table).gates) (end_read table k)
    end_read_says =
        refuse_says 9 (AnswerFault table) _ _ _ end_decides
        (λ clear. refuse_says 10 (NotAtEnd table k) [] _ _ elsewhere_decides (λ there. result_says refl))

    pub gate_rows_one : OnePlace (gate_rows table k)
    unfolding OnePlace
    gate_rows_one = (decides_unique gate_decides, (decides_unique past_decides, tt))

    pub end_rows_one : OnePlace (end_rows table k)
    unfolding OnePlace
    end_rows_one = (decides_unique end_decides, (decides_unique elsewhere_decides, tt))

    pub gate_read_refused : (r at : ℕ) → (gate_read table k ≡ refused r at) ↔ FirstOf (gate_rows table k) r at
    gate_read_refused = refused_by_first gate_rows_one gate_read_says

    pub gate_read_result : (g : GateFields) → (gate_read table k ≡ result g) ↔ (NoneOf (gate_rows table k) × (g ≡ gate_of table k))
    gate_read_result = result_by_none (λ x y a b. a ∙ sym b) gate_read_says

    pub end_read_refused : (r at : ℕ) → (end_read table k ≡ refused r at) ↔ FirstOf (end_rows table k) r at
    end_read_refused = refused_by_first end_rows_one end_read_says

    pub end_read_result : (e : EndFields) → (end_read table k ≡ result e) ↔ (NoneOf (end_rows table k) × (e ≡ end_of table (header_of table).gates))
    end_read_result = result_by_none (λ x y a b. a ∙ sym b) end_read_says

  -- the label l at the end
  module _ (l : ℕ) where
    label_found : (p : ℕ) (t u : Bool) → eqb l (end_of table (header_of table).gates).on_true ≡ t → eqb l (end_of table (header_of table).gates).on_false ≡ u
        → where_so (not t && not u) l ≡ some p → NeitherEnd table l p
    label_found p true u et eu e = nought_one (cc)
    label_found p false true et eu e = nought_one (cc)
    label_found p false false et eu e = record { not_true = eqb-false _ _ et; not_false = eqb-false _ _ eu; place = cc }

    label_decides : Decides (NeitherEnd table l)
        (where_so (not (eqb l (end_of table (header_of table).gates).on_true) && not (eqb l (end_of table (header_of table).gates).on_false)) l)
    label_decides p = (label_found p _ _ refl refl, λ h. rw (ne_eqb _ _ h.not_true, ne_eqb _ _ h.not_false, h.place) refl)

    ended_says : (e : EndFields) → e ≡ end_of table (header_of table).gates → Says (row 12 (NeitherEnd table l) ∷ []) (EndsOn table l) (ended e l)
    ended_says e is =
        subst (λ (x : EndFields). Says (row 12 (NeitherEnd table l) ∷ []) (EndsOn table l) (ended x l)) (sym is)
        (refuse_says 12 (NeitherEnd table l) [] _ _ label_decides (λ one. result_says (λ t. eqb-true _ _ t, λ same. eq-eqb _ _ same)))

    ends_on_one : (t u : Bool) → EndsOn table l t → EndsOn table l u → t ≡ u
    ends_on_one true true a b = refl
    ends_on_one false false a b = refl
    ends_on_one true false a b = sym (b.1 (a.0 refl))
    ends_on_one false true a b = a.1 (b.0 refl)

  start_rows_one : OnePlace (start_rows table)
  unfolding OnePlace
  start_rows_one = (decides_unique (fault_told table), tt)

  pub start_refused : (r at : ℕ) → (started table ≡ refused r at) ↔ FirstOf (start_rows table) r at
  start_refused = refused_by_first start_rows_one started_says

  none_started : NoneOf (start_rows table) ↔ WellFormed table
  unfolding NoneOf
  none_started = (λ clear. (well_formed_told table).0 (none_at (table_fault table) refl clear.0), λ w. (λ p f. at_none ((well_formed_told table).1 w) p ((fault_told table p).1 f), tt))
    where
      none_at : (o : Option ℕ) → table_fault table ≡ o → ((p : ℕ) → ¬ Fault table p) → table_fault table ≡ none
      none_at none eo clear = eo
      none_at (some p) eo clear = absurd (clear p ((fault_told table p).0 eo))

      at_none : table_fault table ≡ none → (p : ℕ) → table_fault table ≡ some p → ⊥
      at_none e p h = nought_one (cc)

  pub start_result : (r : Run) → (started table ≡ result r) ↔ (WellFormed table × (r ≡ record { gate = 0; label = first_label }))
  start_result r =
      let told = result_by_none (λ x y a b. a ∙ sym b) started_says r in
      (λ e. (none_started.0 (told.0 e).0, (told.0 e).1), λ w. told.1 (none_started.1 w.0, w.1))

module _ (run : Run) (table : List ℕ) where
  pub fed_says : (truth : Bool) → Says (feed_rows run table) (λ r. r ≡ stepped run (gate_of table run.gate) truth) (fed run table truth)
  unfolding fed
  fed_says truth =
      on_result_says (gate_rows table run.gate) [] (λ g. result (stepped run g truth)) (gate_read_says table run.gate)
      (λ g is. result_says (ap (λ (x : GateFields). stepped run x truth) is))

  pub feed_refused : (truth : Bool) (r at : ℕ) → (fed run table truth ≡ refused r at) ↔ FirstOf (feed_rows run table) r at
  feed_refused truth = refused_by_first (gate_rows_one table run.gate) (fed_says truth)

  pub feed_result : (truth : Bool) (r : Run)
      → (fed run table truth ≡ result r) ↔ (NoneOf (feed_rows run table) × (r ≡ stepped run (gate_of table run.gate) truth))
  feed_result truth = result_by_none (λ x y a b. a ∙ sym b) (fed_says truth)

  pub answered_says : Says (answer_rows run table) (EndsOn table run.label) (answered run table)
  unfolding answered
  answered_says =
      on_result_says (end_rows table run.gate) (row 12 (NeitherEnd table run.label) ∷ []) (λ e. ended e run.label)
      (end_read_says table run.gate)
      (ended_says table run.label)

  answer_rows_one : OnePlace (answer_rows run table)
  unfolding OnePlace
  answer_rows_one =
      one_place_behind (end_rows table run.gate) (row 12 (NeitherEnd table run.label) ∷ []) (end_rows_one table run.gate)
      (decides_unique (label_decides table run.label), tt)

  pub answer_refused : (r at : ℕ) → (answered run table ≡ refused r at) ↔ FirstOf (answer_rows run table) r at
  answer_refused = refused_by_first answer_rows_one answered_says

  pub answer_result : (t : Bool) → (answered run table ≡ result t) ↔ (NoneOf (answer_rows run table) × EndsOn table run.label t)
  answer_result = result_by_none (ends_on_one table run.label) answered_says

-- the label has no part in what a feed is refused with
pub any_label_refused : (k l m : ℕ) (table : List ℕ) (truth : Bool) (r at : ℕ)
    → fed (record { gate = k; label = l }) table truth ≡ refused r at → fed (record { gate = k; label = m }) table truth ≡ refused r at
any_label_refused k l m table truth r at e =
    (feed_refused (record { gate = k; label = m }) table truth r at).1 ((feed_refused (record { gate = k; label = l }) table truth r at).0 e)
