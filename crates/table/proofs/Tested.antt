-- The tests of a table and the statements about it agree, part by part and on the whole.
--   header_told, length-told, gate_told, end_told == a test passes exactly where its statement holds
--   frame_told, fault_told, well_formed_told      == the place found is the one stated; none is found in a well-formed table
-- Assumes nothing.
use Prim.Native.Nat.{ℕ, ◌+◌, ◌<◌}
use mathlib.Core.Path.{◌≡◌, refl, ap}
use mathlib.Core.Bool.{Bool, true, false, not, ◌&&◌, ◌||◌}
use mathlib.Core.Option.{Option, none, some}
use mathlib.Core.Logic.{◌⊎◌, inl, inr, ⊎_elim, ◌≢◌, ◌↔◌}
use mathlib.Core.List.{List}
use borrow.Author.Tests.{leb-true, ltb-true, eqb-true, eqb-false, le-leb, lt-ltb, eq-eqb, ne_eqb, not-true, not-false}
use lib.Dec.{leb, ltb, eqb}
use Rattle.terms.specs.Terms.{first_label, in_range}
use Rattle.terms.specs.First.{first_below}
use Rattle.table.specs.Layout.{P, N, header_of, gate_of, end_of, record_start}
use Rattle.table.specs.WellFormed.{HeaderFits, LengthFits, InRange, GateFits, EndFits, WellFormed, FrameFault, of_header, of_length, GateFault, Framed, Fault, of_frame, of_gate, of_end}
use Rattle.table.specs.Twins.Faults.{header_fits, length_fits, gate_fits, end_fits, frame_fault, end_fault, table_fault, or_else, starting}
use Rattle.terms.proofs.First.{Tests, first_below_none, first_below_first, first_first_below, nowhere_first_below}
use Rattle.table.proofs.Whole.{both_true, place_given, place-not-given, nought_one}

-- a test that fails, where the test tells S
pub fails_told : (t : Bool) {S : Type 0} → ((t ≡ true) ↔ S) → (t ≡ false) ↔ (¬ S)
fails_told true w = (λ e. nought_one (cc), λ n. absurd (n (w.0 refl)))
fails_told false w = (λ e s. let z : false ≡ true = w.1 s in nought_one (cc), λ n. refl)

either_true : (t u : Bool) → (t || u) ≡ true → (t ≡ true) ⊎ (u ≡ true)
either_true true u e = inl refl
either_true false u e = inr e

left_true : (t u : Bool) → t ≡ true → (t || u) ≡ true
left_true t u e = rw e refl

right_true : (t u : Bool) → u ≡ true → (t || u) ≡ true
right_true true u e = refl
right_true false u e = e

all_true : (t u : Bool) → t ≡ true → u ≡ true → (t && u) ≡ true
all_true t u e h = rw e h

in_range_told : (count l : ℕ) → (in_range count l ≡ true) ↔ InRange count l
in_range_told count l = (
  λ e.
      let a = both_true (leb first_label l) (ltb l (first_label + count)) e in
      record { from_first = leb-true _ _ a.0; below_count = ltb-true _ _ a.1 },
  λ h. all_true _ _ (le-leb _ _ h.from_first) (lt-ltb _ _ h.below_count),
)

different_told : (a b : ℕ) → (not (eqb a b) ≡ true) ↔ (a ≢ b)
different_told a b = (λ e. eqb-false a b (not-true _ e), λ d. ap not (ne_eqb a b d))

-- gate 0 has the first label
entry_told : (k own : ℕ) → ((not (eqb k 0) || eqb own first_label) ≡ true) ↔ (k ≡ 0 → own ≡ first_label)
entry_told k own = (forth, back (eqb k 0) refl)
  where
    forth : (not (eqb k 0) || eqb own first_label) ≡ true → k ≡ 0 → own ≡ first_label
    forth e z =
        ⊎_elim (λ n. absurd (eqb-false k 0 (not-true _ n) z)) (λ y. eqb-true _ _ y) (either_true (not (eqb k 0)) (eqb own first_label) e)

    back : (t : Bool) → eqb k 0 ≡ t → (k ≡ 0 → own ≡ first_label) → (not (eqb k 0) || eqb own first_label) ≡ true
    back true e f = right_true (not (eqb k 0)) (eqb own first_label) (eq-eqb _ _ (f (eqb-true _ _ e)))
    back false e f = left_true (not (eqb k 0)) (eqb own first_label) (ap not e)

kind_told : (kind : ℕ) → ((eqb kind P || eqb kind N) ≡ true) ↔ ((kind ≡ P) ⊎ (kind ≡ N))
kind_told kind = (
  λ e. ⊎_elim (λ p. inl (eqb-true _ _ p)) (λ n. inr (eqb-true _ _ n)) (either_true (eqb kind P) (eqb kind N) e),
  ⊎_elim (λ p. left_true (eqb kind P) (eqb kind N) (eq-eqb _ _ p)) (λ n. right_true (eqb kind P) (eqb kind N) (eq-eqb _ _ n)),
)

module _ (table : List ℕ) where
  pub header_told : (header_fits table ≡ true) ↔ HeaderFits table
  header_told = (
    λ e.
        let a = both_true _ _ e in
        let b = both_true _ _ a.1 in
        let c = both_true _ _ b.1 in
        let d = both_true _ _ c.1 in
        let f = both_true _ _ d.1 in
        record {
          holds_one = leb-true _ _ a.0;
          kind = eqb-true _ _ b.0;
          some_gate = leb-true _ _ c.0;
          few_gates = leb-true _ _ d.0;
          some_labels = leb-true _ _ f.0;
          few_labels = leb-true _ _ f.1;
        },
    λ h.
        all_true _ _ (le-leb _ _ h.holds_one)
        (all_true _ _ (eq-eqb _ _ h.kind)
        (all_true _ _ (le-leb _ _ h.some_gate)
        (all_true _ _ (le-leb _ _ h.few_gates)
        (all_true _ _ (le-leb _ _ h.some_labels) (le-leb _ _ h.few_labels))))),
  )

  pub length-told : (length_fits table ≡ true) ↔ LengthFits table
  length-told = (λ e. eqb-true _ _ e, λ h. eq-eqb _ _ h)

  pub gate_told : (k : ℕ) → (gate_fits table k ≡ true) ↔ GateFits table k
  gate_told k = (
    λ e.
        let a = both_true _ _ e in
        let b = both_true _ _ a.1 in
        let c = both_true _ _ b.1 in
        let own = both_true _ _ c.0 in
        let two = both_true _ _ own.1 in
        record {
          kind = (kind_told (gate_of table k).kind).0 a.0;
          primitive = leb-true _ _ b.0;
          own = (in_range_told _ _).0 own.0;
          on_true = (in_range_told _ _).0 two.0;
          on_false = (in_range_told _ _).0 two.1;
          first_gate = (entry_told k (gate_of table k).own).0 c.1;
        },
    λ h.
        all_true _ _ ((kind_told (gate_of table k).kind).1 h.kind)
        (all_true _ _ (le-leb _ _ h.primitive)
        (all_true _ _
        (all_true _ _ ((in_range_told _ _).1 h.own) (all_true _ _ ((in_range_told _ _).1 h.on_true) ((in_range_told _ _).1 h.on_false)))
        ((entry_told k (gate_of table k).own).1 h.first_gate))),
  )

  pub end_told : (n : ℕ) → (end_fits table n ≡ true) ↔ EndFits table n
  end_told n = (
    λ e.
        let a = both_true _ _ e in
        let b = both_true _ _ a.1 in
        let c = both_true _ _ b.1 in
        record {
          kind = eqb-true _ _ a.0;
          on_true = (in_range_told _ _).0 b.0;
          on_false = (in_range_told _ _).0 c.0;
          different = (different_told (end_of table n).on_true (end_of table n).on_false).0 c.1;
        },
    λ h.
        all_true _ _ (eq-eqb _ _ h.kind)
        (all_true _ _ ((in_range_told _ _).1 h.on_true)
        (all_true _ _ ((in_range_told _ _).1 h.on_false)
        ((different_told (end_of table n).on_true (end_of table n).on_false).1 h.different))),
  )

  -- header and length
  framed_told : ((header_fits table && length_fits table) ≡ true) ↔ Framed table
  framed_told = (
    λ e.
        let a = both_true (header_fits table) (length_fits table) e in
        record { header = header_told.0 a.0; long = length-told.0 a.1 },
    λ f. all_true _ _ (header_told.1 f.header) (length-told.1 f.long),
  )

  pub no_frame_fault : (frame_fault table ≡ none) ↔ Framed table
  no_frame_fault = (λ e. framed_told.0 (place-not-given _ 0 e), λ f. rw (framed_told.1 f) refl)

  unframed : {at : ℕ} → FrameFault table at → (at ≡ 0) × (¬ Framed table)
  unframed (of_header n) = (refl, λ f. n f.header)
  unframed (of_length h n) = (refl, λ f. n f.long)

  at_fault : (t : Bool) → header_fits table ≡ t → ¬ Framed table → FrameFault table 0
  at_fault true e n = of_length (header_told.0 e) (λ l. n (record { header = header_told.0 e; long = l }))
  at_fault false e n = of_header ((fails_told _ header_told).0 e)

  pub frame_told : (at : ℕ) → (frame_fault table ≡ some at) ↔ FrameFault table at
  frame_told at = (
    λ e.
        let p = place_given (header_fits table && length_fits table) 0 at e in
        rw p.1 (at_fault (header_fits table) refl ((fails_told _ framed_told).0 p.0)),
    λ f.
        let u = unframed f in
        rw ((fails_told _ framed_told).1 u.1, u.0) refl,
  )

  -- the test that the search for a gate at fault makes
  abbrev pub bad_gate : ℕ → Bool
  bad_gate k = not (gate_fits table k)

  gates_tested : Tests (GateFault table) bad_gate (header_of table).gates
  gates_tested =
      record {
        shows = λ k l e. record { within = l; fault = (fails_told _ (gate_told k)).0 (not-true _ e) };
        within = λ k f. f.within;
        finds = λ k f. ap not ((fails_told _ (gate_told k)).1 f.fault);
      }

  gates_fit : first_below bad_gate (header_of table).gates ≡ none → (k : ℕ) → k < (header_of table).gates → GateFits table k
  gates_fit e k l = (gate_told k).0 (not-false _ (first_below_none bad_gate (header_of table).gates e k l))

  gates_none : ((k : ℕ) → k < (header_of table).gates → GateFits table k) → first_below bad_gate (header_of table).gates ≡ none
  gates_none all = nowhere_first_below gates_tested (λ k first. first.here.fault (all k first.here.within))

  -- the places that the three parts give, in order
  picked : (at : ℕ) (frame gates : Option ℕ) → frame_fault table ≡ frame → first_below bad_gate (header_of table).gates ≡ gates
      → or_else frame (or_else (starting (header_of table) gates) (end_fault table)) ≡ some at → Fault table at
  picked at (some p) gates ef eg e = let q : p ≡ at = cc in rw (← q) (of_frame ((frame_told p).0 ef))
  picked at none (some k) ef eg e =
      let q : record_start (header_of table) k ≡ at = cc in
      rw (← q) (of_gate (no_frame_fault.0 ef) (first_below_first gates_tested eg))
  picked at none none ef eg e =
      let p = place_given (end_fits table (header_of table).gates) (record_start (header_of table) (header_of table).gates) at e in
      rw p.1 (of_end (no_frame_fault.0 ef) (gates_fit eg) ((fails_told _ (end_told (header_of table).gates)).0 p.0))

  placed : {at : ℕ} → Fault table at → table_fault table ≡ some at
  unfolding table_fault
  placed (of_frame {at} f) = rw ((frame_told at).1 f) refl
  placed (of_gate {k} f g) = rw (no_frame_fault.1 f, first_first_below gates_tested g) refl
  placed (of_end f all n) =
      rw (no_frame_fault.1 f, gates_none all, (fails_told _ (end_told (header_of table).gates)).1 n) refl

  -- 9 at a start: the place found is the start of the first record at fault
  pub fault_told : (at : ℕ) → (table_fault table ≡ some at) ↔ Fault table at
  unfolding table_fault
  fault_told at = (picked at (frame_fault table) (first_below bad_gate (header_of table).gates) refl refl, placed)

  none_picked : (frame gates : Option ℕ) → frame_fault table ≡ frame → first_below bad_gate (header_of table).gates ≡ gates
      → or_else frame (or_else (starting (header_of table) gates) (end_fault table)) ≡ none → WellFormed table
  none_picked (some p) gates ef eg e = nought_one (cc)
  none_picked none (some k) ef eg e = nought_one (cc)
  none_picked none none ef eg e =
      record {
        header = (no_frame_fault.0 ef).header;
        long = (no_frame_fault.0 ef).long;
        gates = gates_fit eg;
        end = (end_told (header_of table).gates).0 (place-not-given _ (record_start (header_of table) (header_of table).gates) e);
      }

  pub well_formed_told : (table_fault table ≡ none) ↔ WellFormed table
  unfolding table_fault
  well_formed_told = (
    none_picked (frame_fault table) (first_below bad_gate (header_of table).gates) refl refl,
    λ w. rw (no_frame_fault.1 (record { header = w.header; long = w.long }), gates_none w.gates, (end_told (header_of table).gates).1 w.end) refl,
  )
