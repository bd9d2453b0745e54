-- The labels that a table's bytes name are those of its weave, since each record reads back what was woven. Assumes nothing.
use Prim.Native.Nat.{ℕ, suc, ◌<◌}
use mathlib.Core.Path.{◌≡◌, refl, sym, ap, ◌∙◌, subst}
use mathlib.Core.Logic.{◌↔◌}
use mathlib.Core.Bool.{Bool, true, false, true≢false}
use mathlib.Core.List.{List, [], ◌∷◌}
use native.Mathlib.Nat.{zero-add}
use native.Mathlib.Omega.{arith}
use lib.Dec.{eqb}
use lib.ListN.{length, get_or}
use borrow.Author.Tests.{eqb-true}
use Rattle.terms.specs.Terms.{Label}
use Rattle.formula.specs.Formula.{literals}
use Rattle.formula.specs.Typed.{Typed}
use Rattle.weaving.specs.Labels.{GateRecord, weave}
use Rattle.weaving.proofs.Named.{names_label}
use Rattle.weaving.proofs.Range.{names_all, length-gate_records}
use Rattle.table.specs.Layout.{header_of, GateFields, gate_of}
use Rattle.table.specs.WellFormed.{InRange}
use Rattle.compiler.proofs.Bytes.{no_record, record_of, fields_of}
use Rattle.compiler.proofs.Tables.{gate_written}
use Rattle.promises.specs.Words.{Accepted, arrangement, Names, by_own, by_true, by_false, by_True, by_False}
use Rattle.promises.proofs.Laws.Accepted.{table_is, literals_few, arrangement_small, literals_arrangement}
use Rattle.promises.proofs.Laws.Said.{as_many, formed, labels_woven}

-- a record that names the label
data NamedBy (l : Label) (r : GateRecord) : Type 0 where
  own : r.own ≡ l → NamedBy l r
  on_true : r.on_true ≡ l → NamedBy l r
  on_false : r.on_false ≡ l → NamedBy l r

data Test (b : Bool) : Type 0 where
  on : b ≡ true → Test b
  off : b ≡ false → Test b

test : (b : Bool) → Test b
test true = on refl
test false = off refl

named_at : (l : Label) (rs : List GateRecord) → names_label l rs ≡ true → (k : ℕ) × (k < length rs) × NamedBy l (get_or rs k no_record)
unfolding names_label
named_at l [] h = absurd (true≢false (sym h))
named_at l (r ∷ rs) h =
    elim (test (eqb l r.own)) [
      | on e ↦ (0, omega arith, own (sym (eqb-true l r.own e)))
      | off e ↦
          elim (test (eqb l r.on_true)) [
            | on f ↦ (0, omega arith, on_true (sym (eqb-true l r.on_true f)))
            | off f ↦
                elim (test (eqb l r.on_false)) [
                  | on g ↦ (0, omega arith, on_false (sym (eqb-true l r.on_false g)))
                  | off g ↦
                      let later = named_at l rs (rw (e, f, g) at h) in
                      (suc later.0, omega (arith, later.1), later.2)
                ]
          ]
    ]

module _ {text table : List ℕ} {room : ℕ} {e : Typed} (a : Accepted text room e table) where
  in_range_named : (l : Label) → Names table l → InRange (header_of table).labels l
  in_range_named l (by_own k h is) = subst (InRange (header_of table).labels) is ((formed a).gates k h).own
  in_range_named l (by_true k h is) = subst (InRange (header_of table).labels) is ((formed a).gates k h).on_true
  in_range_named l (by_false k h is) = subst (InRange (header_of table).labels) is ((formed a).gates k h).on_false
  in_range_named l (by_True is) = subst (InRange (header_of table).labels) is (formed a).end.on_true
  in_range_named l (by_False is) = subst (InRange (header_of table).labels) is (formed a).end.on_false

  gate_woven : (k : ℕ) → k < literals (arrangement e) → gate_of table k ≡ fields_of (record_of (weave (arrangement e)) k)
  gate_woven k h = ap (λ (t : List ℕ). gate_of t k) (table_is a) ∙ gate_written (arrangement e) (arrangement_small a) (literals_few a) k h

  names_by : (l : Label) (k : ℕ) → k < literals (arrangement e) → NamedBy l (record_of (weave (arrangement e)) k) → Names table l
  names_by l k h (own is) = by_own k (omega (arith, as_many a, literals_arrangement e)) (ap (λ (g : GateFields). g.own) (gate_woven k h) ∙ is)
  names_by l k h (on_true is) = by_true k (omega (arith, as_many a, literals_arrangement e)) (ap (λ (g : GateFields). g.on_true) (gate_woven k h) ∙ is)
  names_by l k h (on_false is) = by_false k (omega (arith, as_many a, literals_arrangement e)) (ap (λ (g : GateFields). g.on_false) (gate_woven k h) ∙ is)

  named_in_range : (l : Label) → InRange (header_of table).labels l → Names table l
  named_in_range l range =
      let all : names_label l (weave (arrangement e)).gate_records ≡ true =
      rw zero-add at (names_all (arrangement e) l (omega (arith, range.below_count, labels_woven a))) in
      let found = named_at l (weave (arrangement e)).gate_records all in
      names_by l found.0 (rw (length-gate_records (arrangement e)) at found.1) found.2

  pub named : (l : Label) → Names table l ↔ InRange (header_of table).labels l
  named l = (in_range_named l, named_in_range l)
