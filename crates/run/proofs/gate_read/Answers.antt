-- A header that was read is what the table says, so the record checked under it is the table's own.
use Rattle.std.proofs.Common.{◌≡◌, ◌∙◌, ℕ, ◌<◌, List, true, refl, sym, ap, arith, rules}
use Rattle.std.proofs.Math.Option.{Option, none, some}
use Rattle.std.specs.Prelude.{Ok, Err, ltb}
use borrow.Author.Tests.{lt-ltb}
use Rattle.terms.specs.Answer.{result}
use Rattle.terms.specs.declared.Reason.TheVariants.{NotWellFormed}
use Rattle.table.specs.Layout.{header_of, gate_of}
use Rattle.table.specs.Shown.{shown_header, shown_gate}
use Rattle.table.specs.Twins.Faults.{frame_fault, gate_fault}
use Rattle.table.specs.Code.Checked.{coded_gate, gate_under, or_fault, checked_gate}
use Rattle.table.specs.declared.Header.{Header}
use Rattle.table.specs.declared.Gate.{Gate}
use Rattle.table.specs.declared.Fault.{Fault}
use Rattle.table.proofs.Whole.{nought_one, fault_of, fits_of, framed_length, gate_found}
use Rattle.run.specs.Shown.{HeaderReadRight, GateReadRight}
use Rattle.run.proofs.gate_read.Goals as goal

header_told : (table : List ℕ) (h : Header) → HeaderReadRight table (Ok h) → (frame_fault table ≡ none) × (shown_header h ≡ header_of table)
header_told table h right = by (frame_fault table) refl
  where
    by : (o : Option ℕ) → frame_fault table ≡ o → (frame_fault table ≡ none) × (shown_header h ≡ header_of table)
    by none e =
        let is : result (shown_header h) ≡ result (header_of table) = rw e at right.shown in
        (e, cc)
    by (some p) e = nought_one (cc (rw e at right.shown))

module _ (table : List ℕ) (k : ℕ) (h : Header) (right : HeaderReadRight table (Ok h)) (below : k < h.gates) where
  framed : frame_fault table ≡ none
  framed = (header_told table h right).0

  within : ltb k (header_of table).gates ≡ true
  within = lt-ltb _ _ (rw (ap (λ (x : _). x.gates) (header_told table h right).1) at below)

  found : checked_gate table (shown_header h) k ≡ or_fault (gate_fault table k) (coded_gate (gate_of table k))
  found = gate_found table (shown_header h) framed (header_told table h right).1 k below

  gate_refused : (x : Fault) → Err x ≡ checked_gate table (shown_header h) k → GateReadRight table k (Err (record { reason = NotWellFormed; at = x.0 }))
  gate_refused x e = record { shown = rw (framed, within, fault_of _ _ x (sym found ∙ sym e)) refl }

  -- what stands there, read once more
  gate_said : (x g : Gate) → Ok x ≡ checked_gate table (shown_header h) k → g ≡ coded_gate (gate_under (shown_header h) table k)
      → GateReadRight table k (Ok g)
  gate_said x g e is =
      let fit = fits_of _ _ x (sym found ∙ sym e) in
      let said : g ≡ coded_gate (gate_of table k) = is ∙ ap (λ (y : _). coded_gate (gate_under y table k)) (header_told table h right).1 in
      record { shown = rw (framed, within, fit.no_fault) (ap (λ (y : Gate). result (shown_gate y)) said) }

pub returns-in_err-check_gate : goal.returns-in_err-check_gate
returns-in_err-check_gate c =
    let right = gate_refused c.args.table.now c.args.gate _ c.in_ok-header.ensures (omega arith) _ c.in_err-check_gate.ensures in
    search (rules, right)

pub gate_at-requires : goal.gate_at-requires
gate_at-requires c =
    let told = header_told c.args.table.now _ c.in_ok-header.ensures in
    omega (arith, framed_length c.args.table.now told.0, ap (λ (y : _). y.gates) told.1)

pub returns : goal.returns
returns c =
    gate_said c.args.table.now c.args.gate _ c.in_ok-header.ensures (omega arith) _ _ c.in_ok-check_gate.ensures c.gate_at.ensures
