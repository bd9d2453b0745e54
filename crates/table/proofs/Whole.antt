-- From what the checks of the parts answer to what the check of the whole table answers.
-- Assumes nothing.
use Prim.Native.Nat.{ℕ, ◌+◌, ◌≤◌, ◌<◌}
use mathlib.Core.Path.{◌≡◌, refl, sym, ap, ◌∙◌}
use mathlib.Core.Bool.{Bool, true, false, not, ◌&&◌, true≢false}
use mathlib.Core.Option.{Option, none, some}
use mathlib.Core.List.{List}
use native.Mathlib.Omega.{arith}
use borrow.Author.Tests.{eqb-true, le-leb, not-true}
use lib.ListN.{length}
use Rattle.std.specs.Prelude.{Ok, Err}
use Rattle.terms.specs.First.{where_so, first_below}
use Rattle.table.specs.Layout.{Header, gate_length, end_length, record_start, length_by, header_of, gate_of, end_of}
use Rattle.table.specs.Shown.{shown_header}
use Rattle.table.specs.Twins.Faults.{header_fits, length_fits, gate_fits, end_fits, frame_fault, gate_fault, end_fault, table_fault}
use Rattle.table.specs.Code.Checked.{header_said, coded_gate, coded_end, or_fault, checked_header, checked_gate, checked_end, checked_table}
use Rattle.table.specs.declared.Header as coded_header
use Rattle.table.specs.declared.Gate.{Gate}
use Rattle.table.specs.declared.End.{End}
use Rattle.table.specs.declared.Fault.{Fault}
use Rattle.terms.proofs.First.{Tests, first_first_below, nowhere_first_below}

pub nought_one : {A : Type 0} → ◌≡◌ {A = ℕ} 0 1 → A
nought_one z = absurd (omega arith)

-- an answer that is a fault, and one that is not
pub record Fit (A : Type 0) (o : Option ℕ) (x y : A) : Type 0 where
  pub no_fault : o ≡ none
  pub said : x ≡ y

pub fault_of : {A : Type 0} (o : Option ℕ) (x : A) (f : Fault) → or_fault o x ≡ Err f → o ≡ some f.0
fault_of none x f e = nought_one (cc)
fault_of (some p) x f e = let same : ◌≡◌ {A = Fault} (record { 0 = p }) f = cc in ap (λ (g : Fault). some g.0) same

pub fits_of : {A : Type 0} (o : Option ℕ) (x y : A) → or_fault o x ≡ Ok y → Fit A o y x
fits_of none x y e = record { no_fault = refl; said = cc }
fits_of (some p) x y e = nought_one (cc)

-- the test of a place that is given, and of one that is not
pub place_given : (t : Bool) (p at : ℕ) → where_so (not t) p ≡ some at → (t ≡ false) × (at ≡ p)
place_given true p at e = nought_one (cc)
place_given false p at e = (refl, cc)

pub place-not-given : (t : Bool) (p : ℕ) → where_so (not t) p ≡ none → t ≡ true
place-not-given true p e = refl
place-not-given false p e = nought_one (cc)

pub both_true : (t u : Bool) → (t && u) ≡ true → (t ≡ true) × (u ≡ true)
both_true true u e = (refl, e)
both_true false u e = nought_one (cc)

module _ (table : List ℕ) where
  -- header and length are right
  pub framed_length : frame_fault table ≡ none → length table ≡ length_by (header_of table)
  framed_length e = eqb-true _ _ (both_true (header_fits table) (length_fits table) (place-not-given _ 0 e)).1

  -- the gates of the table that do not fit, as the search for the first of them tests them
  BadGate : ℕ → Type 0
  BadGate j = (j < (header_of table).gates) × (gate_fits table j ≡ false)

  bad_tested : Tests BadGate (λ j. not (gate_fits table j)) (header_of table).gates
  unfolding BadGate
  bad_tested = record { shows = λ j l e. (l, not-true _ e); within = λ j bad. bad.0; finds = λ j bad. ap not bad.1 }

  -- a gate of the table is at fault, and none before it
  module _ (framed : frame_fault table ≡ none) where
    pub gate_first : (k : ℕ) → k < (header_of table).gates → ((j : ℕ) → j < k → gate_fits table j ≡ true) → gate_fits table k ≡ false
        → checked_table table ≡ Err (record { 0 = record_start (header_of table) k })
    unfolding table_fault BadGate
    gate_first k h before here =
        let e : first_below (λ j. not (gate_fits table j)) (header_of table).gates ≡ some k =
        first_first_below bad_tested (record { here = (h, here); none_before = λ j l bad. true≢false (sym (before j l) ∙ bad.1) }) in
        rw (framed, e) refl

    module _ (all : (j : ℕ) → j < (header_of table).gates → gate_fits table j ≡ true) where
      no_gate : first_below (λ j. not (gate_fits table j)) (header_of table).gates ≡ none
      unfolding BadGate
      no_gate = nowhere_first_below bad_tested (λ j first. true≢false (sym (all j first.here.0) ∙ first.here.1))

      pub end_last : end_fits table (header_of table).gates ≡ false
          → checked_table table ≡ Err (record { 0 = record_start (header_of table) (header_of table).gates })
      unfolding table_fault
      end_last e = rw (framed, no_gate, e) refl

      pub all_right : end_fits table (header_of table).gates ≡ true → checked_table table ≡ Ok (header_said table)
      unfolding table_fault
      all_right e = rw (framed, no_gate, e) refl

-- header and length are right, and h is what the header says: so the record of a gate of it is held whole, and the check of it finds
-- what stands there
pub gate_found : (table : List ℕ) (h : Header) → frame_fault table ≡ none → h ≡ header_of table → (k : ℕ) → k < h.gates
    → checked_gate table h k ≡ or_fault (gate_fault table k) (coded_gate (gate_of table k))
gate_found table h framed read k l =
    let promised : h.gates ≡ (header_of table).gates = ap (λ (x : Header). x.gates) read in
    let held : record_start (header_of table) k + gate_length (header_of table) ≤ length table = omega (arith, framed_length table framed) in
    ap (λ (x : Header). checked_gate table x k) read ∙ rw (le-leb _ _ held) refl

-- the header h has been checked
module _ (table : List ℕ) (h : coded_header.Header) (checked : Ok h ≡ checked_header table) where
  f : Fit coded_header.Header (frame_fault table) h (header_said table)
  f = fits_of _ _ h (sym checked)

  pub as_read : shown_header h ≡ header_of table
  as_read = ap shown_header f.said

  as_promised : h.gates ≡ (header_of table).gates
  as_promised = ap (λ (x : coded_header.Header). x.gates) f.said

  pub gate_goes : (k : ℕ) → k < h.gates → (g : Gate) → Ok g ≡ checked_gate table (shown_header h) k → gate_fits table k ≡ true
  gate_goes k l g e =
      place-not-given _ (record_start (header_of table) k)
      (fits_of _ _ g (sym (gate_found table (shown_header h) f.no_fault as_read k l) ∙ sym e)).no_fault

  -- the last record is held whole too
  end_held : record_start (header_of table) (header_of table).gates + end_length ≤ length table
  end_held = omega (arith, framed_length table f.no_fault)

  end_found : checked_end table (shown_header h) ≡ or_fault (end_fault table) (coded_end (end_of table (header_of table).gates))
  end_found = ap (λ (x : Header). checked_end table x) as_read ∙ rw (le-leb _ _ end_held) refl

  -- the gates before k have been checked
  module _ (k : ℕ) (before : (j : ℕ) → j < k → gate_fits table j ≡ true) where
    pub gate_stops : k < h.gates → (x : Fault) → Err x ≡ checked_gate table (shown_header h) k → checked_table table ≡ Err x
    gate_stops l x e =
        let p = place_given (gate_fits table k) (record_start (header_of table) k) x.0
        (fault_of _ _ x (sym (gate_found table (shown_header h) f.no_fault as_read k l) ∙ sym e)) in
        gate_first table f.no_fault k (rw as_promised at l) before p.0 ∙ ap (λ (at : ℕ). Err (record { 0 = at })) (sym p.1)

    module _ (l : h.gates ≤ k) where
      every : (j : ℕ) → j < (header_of table).gates → gate_fits table j ≡ true
      every j m = before j (omega (arith, as_promised))

      pub end_stops : (x : Fault) → Err x ≡ checked_end table (shown_header h) → checked_table table ≡ Err x
      end_stops x e =
          let p = place_given (end_fits table (header_of table).gates) (record_start (header_of table) (header_of table).gates) x.0
          (fault_of _ _ x (sym end_found ∙ sym e)) in
          end_last table f.no_fault every p.0 ∙ ap (λ (at : ℕ). Err (record { 0 = at })) (sym p.1)

      pub end_goes : (g : End) → Ok g ≡ checked_end table (shown_header h) → checked_table table ≡ Ok h
      end_goes g e =
          let right = place-not-given _ (record_start (header_of table) (header_of table).gates) (fits_of _ _ g (sym end_found ∙ sym e)).no_fault in
          all_right table f.no_fault every right ∙ ap Ok (sym f.said)
