-- The table of an expression is well formed: its records stand where the layout says, and weaving keeps every label in range.
-- Assumes nothing.
use Prim.Native.Nat.{ℕ, zero, suc, ◌+◌, ◌≤◌, ◌<◌}
use mathlib.Core.Path.{◌≡◌, refl, sym, ap, ◌∙◌, subst}
use mathlib.Core.Bool.{Bool, true, false}
use mathlib.Core.Logic.{◌⊎◌, inl, inr}
use mathlib.Core.List.{List, [], ◌∷◌, ◌++◌, map}
use native.Mathlib.Nat.{not-suc-le-zero}
use native.Mathlib.Omega.{arith}
use lib.ListN.{length, get_or, get_or-map}
use Rattle.terms.specs.Terms.{first_label, greatest_primitive, most_literals, most_labels}
use Rattle.formula.specs.Formula.{Literal, Expr, literals}
use Rattle.formula.proofs.Small.{SmallPrimitives, one, both}
use Rattle.weaving.specs.Gates.{in_order}
use Rattle.weaving.specs.Labels.{weave}
use Rattle.weaving.proofs.Places.{literals_some, length-in_order}
use Rattle.weaving.proofs.Following.{weave_literals}
use Rattle.weaving.proofs.Ends.{ends_differ}
use Rattle.weaving.proofs.Range.{records_in_table, true_in_table, false_in_table, two_labels, first_own_label, length-gate_records}
use Rattle.table.specs.Layout.{P, N, table_length, kind_by_sense, Header, header_of, GateFields, gate_of, EndFields, end_of}
use Rattle.table.specs.WellFormed.{InRange, GateFits, EndFits, WellFormed}
use Rattle.compiler.specs.Compiled.{table_of}
use Rattle.compiler.proofs.Bytes.{no_record, record_of, table_of-length, header_back, fields_of, gate_back, end_back}

-- every literal of a list is a primitive's
data AllSmall : List Literal → Type 0 where
  none : AllSmall []
  more : {x : Literal} {xs : List Literal} → x.primitive ≤ greatest_primitive → AllSmall xs → AllSmall (x ∷ xs)

all_append : {xs ys : List Literal} → AllSmall xs → AllSmall ys → AllSmall (xs ++ ys)
all_append none b = b
all_append (more h a) b = more h (all_append a b)

all_at : {xs : List Literal} → AllSmall xs → (k : ℕ) (x : Literal) → k < length xs → (get_or xs k x).primitive ≤ greatest_primitive
all_at none k x h = absurd (not-suc-le-zero h)
all_at (more p a) zero x h = p
all_at (more p a) (suc k) x h = all_at a k x (omega arith)

small_in_order : {e : Expr} → SmallPrimitives e → AllSmall (in_order e)
unfolding in_order
small_in_order (one h) = more h none
small_in_order (both a b) = all_append (small_in_order a) (small_in_order b)

-- the kind of a gate's record is one of the two
kind_one : (sense : Bool) → (kind_by_sense sense ≡ P) ⊎ (kind_by_sense sense ≡ N)
kind_one true = inl refl
kind_one false = inr refl

module _ (e : Expr) (small : SmallPrimitives e) where
  pub record_small : (k : ℕ) → k < literals e → (record_of (weave e) k).literal.primitive ≤ greatest_primitive
  record_small k h =
      let xs = map (λ r. r.literal) (weave e).gate_records in
      let same : get_or xs k no_record.literal ≡ (record_of (weave e) k).literal = get_or-map (λ r. r.literal) (weave e).gate_records k no_record in
      rw (sym same) (rw (weave_literals e) (all_at (small_in_order small) k no_record.literal (rw (length-in_order e) h)))

  module _ (few : literals e ≤ most_literals) where
    pub header_written : header_of (table_of (weave e)) ≡ record { kind = 72; gates = literals e; labels = (weave e).label_count }
    header_written =
        header_back (weave e) (omega (arith, length-gate_records e))
        ∙ ap (λ (n : ℕ). record { kind = 72; gates = n; labels = (weave e).label_count }) (length-gate_records e)

    pub gate_written : (k : ℕ) → k < literals e → gate_of (table_of (weave e)) k ≡ fields_of (record_of (weave e) k)
    gate_written k h = gate_back (weave e) k (rw (length-gate_records e) h) (omega (arith, record_small k h))

    pub end_written : end_of (table_of (weave e)) (literals e) ≡ record { kind = 69; on_true = (weave e).true_label; on_false = (weave e).false_label }
    end_written = rw (sym (length-gate_records e)) (end_back (weave e))

    pub length-written : length (table_of (weave e)) ≡ table_length (literals e)
    length-written = table_of-length (weave e) ∙ ap (λ (n : ℕ). table_length n) (length-gate_records e)

    -- the same field by field
    pub gates_said : (header_of (table_of (weave e))).gates ≡ literals e
    gates_said = ap (λ (h : Header). h.gates) header_written

    pub labels_said : (header_of (table_of (weave e))).labels ≡ (weave e).label_count
    labels_said = ap (λ (h : Header). h.labels) header_written

    module _ (labels : (weave e).label_count ≤ most_labels) where
      said_in_range : (l m : ℕ) → l ≡ m → m < first_label + (weave e).label_count → InRange (header_of (table_of (weave e))).labels l
      said_in_range l m same h = record { from_first = omega arith; below_count = omega (arith, labels_said) }

      gate_fits : (k : ℕ) → k < literals e → GateFits (table_of (weave e)) k
      gate_fits k h =
          let is = gate_written k h in
          let fit = records_in_table e k no_record h in
          let own : (gate_of (table_of (weave e)) k).own ≡ (record_of (weave e) k).own = ap (λ (g : GateFields). g.own) is in
          record {
            kind = subst (λ (x : ℕ). (x ≡ P) ⊎ (x ≡ N)) (sym (ap (λ (g : GateFields). g.kind) is)) (kind_one (record_of (weave e) k).literal.sense);
            primitive = subst (λ (x : ℕ). x ≤ greatest_primitive) (sym (ap (λ (g : GateFields). g.primitive) is)) (record_small k h);
            own = said_in_range _ _ own fit.own;
            on_true = said_in_range _ _ (ap (λ (g : GateFields). g.on_true) is) fit.on_true;
            on_false = said_in_range _ _ (ap (λ (g : GateFields). g.on_false) is) fit.on_false;
            first_gate = λ z. own ∙ ap (λ (i : ℕ). (record_of (weave e) i).own) z ∙ first_own_label e no_record;
          }

      end_fits : EndFits (table_of (weave e)) (literals e)
      end_fits =
          let is = end_written in
          let on_true : (end_of (table_of (weave e)) (literals e)).on_true ≡ (weave e).true_label = ap (λ (x : EndFields). x.on_true) is in
          let on_false : (end_of (table_of (weave e)) (literals e)).on_false ≡ (weave e).false_label = ap (λ (x : EndFields). x.on_false) is in
          record {
            kind = ap (λ (x : EndFields). x.kind) is;
            on_true = said_in_range _ _ on_true (true_in_table e);
            on_false = said_in_range _ _ on_false (false_in_table e);
            different = λ same. ends_differ e (sym on_true ∙ same ∙ on_false);
          }

      pub table_well_formed : WellFormed (table_of (weave e))
      table_well_formed =
          record {
            header =
                record {
                  holds_one = omega (arith, length-written);
                  kind = ap (λ (h : Header). h.kind) header_written;
                  some_gate = omega (arith, gates_said, literals_some e);
                  few_gates = omega (arith, gates_said);
                  some_labels = omega (arith, labels_said, two_labels e);
                  few_labels = omega (arith, labels_said);
                };
            long = length-written ∙ ap (λ (n : ℕ). table_length n) (sym gates_said);
            gates = λ k h. gate_fits k (omega (arith, gates_said));
            end = subst (EndFits (table_of (weave e))) (sym gates_said) end_fits;
          }
