-- Laying out, labelling and writing an arranged expression gives the table of its weave: the lists laid out lead where its gates
-- do, and say of each gate what its record says. Assumes nothing.
use Prim.Native.Nat.{ℕ, suc, ◌+◌, ◌≤◌, ◌<◌}
use mathlib.Core.Path.{◌≡◌, sym, ap, ◌∙◌, subst}
use mathlib.Core.List.{List, [], ◌∷◌, map}
use native.Mathlib.Nat.{add-zero, zero-add}
use native.Mathlib.Omega.{arith}
use lib.ListN.{length, get_or, get_or-map}
use lib.Seq.{sets, length-sets}
use Rattle.terms.specs.Terms.{most_labels}
use Rattle.formula.specs.Formula.{Literal, Expr, literals}
use Rattle.weaving.specs.Gates.{Gate, gates}
use Rattle.weaving.specs.Labels.{GateRecord, weave}
use Rattle.weaving.specs.Code.Laid.{sense_byte, Laid}
use Rattle.weaving.specs.Code.Labelled.{Leads, none, more, Labelable, LabelledBy}
use Rattle.terms.specs.declared.Ends.{Ends}
use Rattle.weaving.proofs.Places.{length-gates, gate_literal}
use Rattle.weaving.proofs.Following.{weave_literals}
use Rattle.weaving.proofs.Range.{length-gate_records}
use Rattle.weaving.proofs.Width.{some_gate}
use Rattle.table.specs.Code.Written.{table_bytes}
use Rattle.compiler.specs.Compiled.{table_of}
use Rattle.compiler.proofs.Bytes.{no_record, record_of}
use Rattle.compiler.proofs.Lists.{Says, table_said, front_said}

-- lists that lead gate by gate
leads_from : (ts fs : List ℕ) (gs : List Gate) (k : ℕ)
    → ((j : ℕ) → j < length gs → get_or ts (k + j) 0 ≡ (get_or gs j some_gate).true_place)
    → ((j : ℕ) → j < length gs → get_or fs (k + j) 0 ≡ (get_or gs j some_gate).false_place)
    → Leads ts fs k gs
leads_from ts fs [] k t f = none
leads_from ts fs (g ∷ gs) k t f =
    more
    (subst (λ (i : ℕ). get_or ts i 0 ≡ g.true_place) (add-zero k) (t 0 (omega arith)))
    (subst (λ (i : ℕ). get_or fs i 0 ≡ g.false_place) (add-zero k) (f 0 (omega arith)))
    (leads_from ts fs gs (suc k)
    (λ j h. subst (λ (i : ℕ). get_or ts i 0 ≡ (get_or gs j some_gate).true_place) (omega arith) (t (suc j) (omega arith)))
    (λ j h. subst (λ (i : ℕ). get_or fs i 0 ≡ (get_or gs j some_gate).false_place) (omega arith) (f (suc j) (omega arith))))

module _ (e : Expr) (n : ℕ) (count : literals e ≡ n) (ps qs ts fs ps' qs' ts' fs' : List ℕ) (laid : Laid ps qs ts fs ps' qs' ts' fs' (gates e)) where
  length_the_gates : length (gates e) ≡ n
  length_the_gates = length-gates e ∙ count

  -- a list that holds something of each gate from its front on
  said_of : (f : Gate → ℕ) (xs xs' : List ℕ) → n ≤ length xs' → xs' ≡ sets xs 0 (map f (gates e))
      → (j : ℕ) → j < n → get_or xs' j 0 ≡ f (get_or (gates e) j some_gate)
  said_of f xs xs' room is j h =
      let long : length xs' ≡ length xs = ap length is ∙ simp length-sets in
      ap (λ (l : List ℕ). get_or l j 0) is ∙ front_said f xs (gates e) some_gate j (omega (arith, length_the_gates)) (omega (arith, length_the_gates))

  pub labelable : n ≤ length ts' → n ≤ length fs' → (weave e).label_count ≤ most_labels → Labelable ts' fs' n e
  labelable long_ts long_fs few =
      record {
        count = count;
        leads =
            leads_from ts' fs' (gates e) 0
            (λ j h. rw (zero-add j) (said_of (λ g. g.true_place) ts ts' long_ts laid.trues j (omega (arith, length_the_gates))))
            (λ j h. rw (zero-add j) (said_of (λ g. g.false_place) fs fs' long_fs laid.falses j (omega (arith, length_the_gates))));
        few_labels = few;
      }

  -- a record's literal is its gate's
  literal_of : (j : ℕ) → (record_of (weave e) j).literal ≡ (get_or (gates e) j some_gate).literal
  literal_of j =
      sym (get_or-map (λ r. r.literal) (weave e).gate_records j no_record)
      ∙ ap (λ (xs : List Literal). get_or xs j no_record.literal) (weave_literals e)
      ∙ sym (gate_literal e j some_gate)

  module _ (os us vs os' us' vs' : List ℕ) (long_ps : n ≤ length ps') (long_qs : n ≤ length qs') (long_os : n ≤ length os') (long_us : n ≤ length us')
      (long_vs : n ≤ length vs') (ends : Ends) (by : LabelledBy (weave e) os us vs os' us' vs' ends) where
    few_records : length (weave e).gate_records ≡ n
    few_records = length-gate_records e ∙ count

    label_said : (f : GateRecord → ℕ) (xs xs' : List ℕ) → n ≤ length xs' → xs' ≡ sets xs 0 (map f (weave e).gate_records)
        → (j : ℕ) → j < length (weave e).gate_records → get_or xs' j 0 ≡ f (record_of (weave e) j)
    label_said f xs xs' room is j h =
        let long : length xs' ≡ length xs = ap length is ∙ simp length-sets in
        ap (λ (l : List ℕ). get_or l j 0) is ∙ front_said f xs (weave e).gate_records no_record j h (omega (arith, few_records))

    all_said : (j : ℕ) → j < length (weave e).gate_records → Says ps' qs' os' us' vs' j (record_of (weave e) j)
    all_said j h =
        record {
          primitive =
              said_of (λ g. g.literal.primitive) ps ps' long_ps laid.primitives j (omega (arith, few_records))
              ∙ ap (λ (x : Literal). x.primitive) (sym (literal_of j));
          sense =
              said_of (λ g. sense_byte g.literal.sense) qs qs' long_qs laid.senses j (omega (arith, few_records))
              ∙ ap (λ (x : Literal). sense_byte x.sense) (sym (literal_of j));
          own = label_said (λ r. r.own) os os' long_os by.owns j h;
          on_true = label_said (λ r. r.on_true) us us' long_us by.on_trues j h;
          on_false = label_said (λ r. r.on_false) vs vs' long_vs by.on_falses j h;
        }

    pub table_woven : (labels : ℕ) → (weave e).label_count ≡ labels
        → table_bytes n labels ps' qs' os' us' vs' ends.on_true.0 ends.on_false.0 ≡ table_of (weave e)
    table_woven labels needs =
        rw (by.true_label, by.false_label, ← needs, ← few_records) (table_said (weave e) ps' qs' os' us' vs' all_said)
