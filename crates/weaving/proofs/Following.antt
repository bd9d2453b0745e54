-- A run over the records stands on the label of the place that the same run over places has come to, since no two places
-- share a label; and the run over places leads from an expression's first gate where its value says. Assumes nothing.
use Prim.Native.Nat.{ℕ, suc, ◌+◌, ◌<◌, ◌≤◌}
use mathlib.Core.Path.{◌≡◌, refl, sym, ap, ap₂, ◌∙◌, subst}
use mathlib.Core.Bool.{Bool, true, false, cond}
use mathlib.Core.List.{List, [], ◌∷◌, ◌++◌, map}
use native.Mathlib.Omega.{arith}
use native.Mathlib.Nat.{not-suc-le-zero, suc-ne-zero, suc_inj}
use lib.Dec.{eqb}
use lib.ListN.{length, get_or}
use borrow.Author.Tests.{eqb-true, eqb-false, ne_eqb}
use Rattle.terms.specs.Terms.{Place, Label, first_label}
use Rattle.formula.specs.Formula.{Literal, Kind, union, intersection, Expr, literal, join, literals, sensed, joined, value}
use Rattle.weaving.specs.Gates.{Gate, true_end, false_end, in_order, same_kind, gates}
use Rattle.weaving.specs.Twins.Gates.{gates_from}
use Rattle.weaving.specs.Labels.{Store, has_label, label_of, entered_on, step, GateRecord, recorded, records, stored, weave}
use Rattle.weaving.proofs.Store.{on, off, known, eqb_same, label_of_injective, has_label_true, has_label_false, kept_step, entered_later}
use Rattle.weaving.proofs.Places.{literals_some, Numbered, none, more, left_true, left_false, left_from, gates_join, gates_numbered, gates_told, gates_literals, length-gates, length-in_order}

-- "If the run's label is the gate's own, it becomes the gate's true or false label; otherwise it stays."
abbrev pub label_after : GateRecord → Bool → Label → Label
label_after r truth l = cond (eqb l r.own) (cond truth r.on_true r.on_false) l

-- the label that a run over the records ends on, where truth gives each literal its own
unfoldable pub follow : List GateRecord → (Literal → Bool) → Label → Label
follow [] truth l = l
follow (r ∷ rs) truth l = follow rs truth (label_after r (truth r.literal) l)

-- the same, where each gate in its turn is fed "the truth of the primitive; an `N` gate takes the opposite"; what is left ends
-- where the truths or the gates do
unfoldable pub follow_by : List GateRecord → List Bool → Label → Label
follow_by [] us l = l
follow_by (r ∷ rs) [] l = l
follow_by (r ∷ rs) (u ∷ us) l = follow_by rs us (label_after r (sensed r.literal.sense u) l)

-- a run over places
unfoldable pub visit : List Gate → (Literal → Bool) → Place → Place
visit [] truth p = p
visit (g ∷ gs) truth p = visit gs truth (cond (eqb p g.number) (cond (truth g.literal) g.true_place g.false_place) p)

visit-append : (xs ys : List Gate) (truth : Literal → Bool) (p : Place)
    → visit (xs ++ ys) truth p ≡ visit ys truth (visit xs truth p)
unfolding visit
visit-append [] ys truth p = refl
visit-append (g ∷ xs) ys truth p = visit-append xs ys truth _

-- a run that has come to a place beyond an expression passes it by
visit_beyond : (e : Expr) (b t f p : Place) (truth : Literal → Bool) → b + literals e ≤ p
    → visit (gates_from e b t f) truth p ≡ p
unfolding visit gates_from literals
visit_beyond (literal x) b t f p truth h = rw (ne_eqb p b (omega arith))
visit_beyond (join k l r) b t f p truth h =
    rw (
      gates_join k l r b t f,
      visit-append (gates_from l b _ _) (gates_from r (b + literals l) t f) truth p,
      visit_beyond l b (left_true k (b + literals l) t) (left_false k (b + literals l) f) p truth (omega arith),
    )
    (visit_beyond r (b + literals l) t f p truth (omega arith))

-- a literal's truth, where each occurrence has one
abbrev pub by_sense : (ℕ → Bool) → Literal → Bool
by_sense truth x = sensed x.sense (truth x.occurrence)

-- a run that has come to an expression's first gate leaves it for the place that its value says
visit_value : (e : Expr) (b t f : Place) (truth : ℕ → Bool) → b + literals e ≤ t → b + literals e ≤ f
    → visit (gates_from e b t f) (by_sense truth) b ≡ cond (value truth e) t f
unfolding visit gates_from literals value
visit_value (literal x) b t f truth ht hf = rw (eqb_same b)
visit_value (join k l r) b t f truth ht hf =
    let m : Place = b + literals l in
    rw (
      gates_join k l r b t f,
      visit-append (gates_from l b (left_true k m t) (left_false k m f)) (gates_from r m t f) (by_sense truth) b,
      visit_value l b (left_true k m t) (left_false k m f) truth
          (left_from (same_kind intersection k) m t (omega arith))
          (left_from (same_kind union k) m f (omega arith)),
    )
    (then k (value truth l) (visit_value r m t f truth (omega arith) (omega arith)))
  where
    ys : List Gate
    ys = gates_from r (b + literals l) t f

    then : (k : Kind) (v : Bool) → visit ys (by_sense truth) (b + literals l) ≡ cond (value truth r) t f
        → visit ys (by_sense truth) (cond v (left_true k (b + literals l) t) (left_false k (b + literals l) f))
        ≡ cond (joined k v (value truth r)) t f
    then intersection true h = h
    then intersection false h = visit_beyond r (b + literals l) t f f (by_sense truth) (omega arith)
    then union true h = visit_beyond r (b + literals l) t f t (by_sense truth) (omega arith)
    then union false h = h

-- a run that stands on a gate's own label moves on to the label of one of its places
follow_own : (g : Gate) (gs : List Gate) (truth : Literal → Bool) (s : Store)
    → ((p : Place) (z : Store) → has_label p z ≡ true → follow (records gs z) truth (label_of p z) ≡ label_of (visit gs truth p) (stored gs z))
    → follow (records (g ∷ gs) s) truth (entered_on g.number s) ≡ label_of (visit (g ∷ gs) truth g.number) (stored (g ∷ gs) s)
unfolding follow records stored visit
follow_own g gs truth s later =
    ap (follow (records gs (step g s)) truth) (label_after_own (recorded g s (step g s)) (truth g.literal))
    ∙ rw (eqb_same g.number)
    (elim (known (truth g.literal)) [
      | on v ↦ rw v (later g.true_place (step g s) (has_label_true g s))
      | off v ↦ rw v (later g.false_place (step g s) (has_label_false g s))
    ])
  where
    label_after_own : (r : GateRecord) (v : Bool) → label_after r v r.own ≡ cond v r.on_true r.on_false
    label_after_own r v = rw (eqb_same r.own)

-- after the first gate a run stands on the label of the place that it has come to
follow_later : {n k : Place} {gs : List Gate} → Numbered n (suc k) gs
    → (truth : Literal → Bool) (p : Place) (s : Store) → has_label p s ≡ true
    → follow (records gs s) truth (label_of p s) ≡ label_of (visit gs truth p) (stored gs s)
unfolding follow records stored visit
follow_later none truth p s h = refl
follow_later (more {g = g} {gs = gs} q qs) truth p s h =
    let own = entered_later g.number s (omega arith) in
    elim (known (eqb p g.number)) [
      | on b ↦ rw (eqb-true p g.number b, ← own) (follow_own g gs truth s (follow_later qs truth))
      | off b ↦ let other = eqb-false p g.number b in
          let kept = kept_step p g s other h in
          rw (
            own,
            ne_eqb (label_of p s) (label_of g.number s) (λ e. other (label_of_injective p g.number s h e)),
            b,
            ← kept.alike,
          )
          (follow_later qs truth p (step g s) kept.still)
    ]

follow_first : {n : Place} {gs : List Gate} → Numbered n 0 gs → 1 ≤ length gs → (truth : Literal → Bool)
    → follow (records gs []) truth first_label ≡ label_of (visit gs truth 0) (stored gs [])
follow_first none some truth = absurd (not-suc-le-zero some)
follow_first (more {g = g} {gs = gs} q qs) some truth =
    subst (λ (k : Place). follow (records (g ∷ gs) []) truth (entered_on k []) ≡ label_of (visit (g ∷ gs) truth k) (stored (g ∷ gs) []))
    q.number
    (follow_own g gs truth [] (follow_later qs truth))

-- the run ends on the label of True or of False, as the expression is true or not
pub follow_value : (truth : ℕ → Bool) (e : Expr)
    → follow (weave e).gate_records (by_sense truth) first_label ≡ cond (value truth e) (weave e).true_label (weave e).false_label
unfolding weave
follow_value truth e =
    let places = ap (λ gs. visit gs (by_sense truth) 0) (gates_told e)
    ∙ visit_value e 0 (true_end (literals e)) (false_end (literals e)) truth (omega arith) (omega arith) in
    follow_first (gates_numbered e) (rw (length-gates e) (literals_some e)) (by_sense truth)
    ∙ rw places (ends (value truth e) (stored (gates e) []))
  where
    ends : (v : Bool) (z : Store) → label_of (cond v (true_end (literals e)) (false_end (literals e))) z
        ≡ cond v (label_of (true_end (literals e)) z) (label_of (false_end (literals e)) z)
    ends true z = refl
    ends false z = refl

-- feeding each gate in its turn is following by the truths of the literals
follow_by_follow : (rs : List GateRecord) (u : Literal → Bool) (l : Label)
    → follow_by rs (map u (map (λ r. r.literal) rs)) l ≡ follow rs (λ x. sensed x.sense (u x)) l
unfolding follow follow_by
follow_by_follow [] u l = refl
follow_by_follow (r ∷ rs) u l = follow_by_follow rs u _

pub records_literals : (gs : List Gate) (s : Store) → map (λ r. r.literal) (records gs s) ≡ map (λ g. g.literal) gs
unfolding records
records_literals [] s = refl
records_literals (g ∷ gs) s = rw (records_literals gs (step g s))

pub weave_literals : (e : Expr) → map (λ r. r.literal) (weave e).gate_records ≡ in_order e
unfolding weave
weave_literals e = records_literals (gates e) [] ∙ gates_literals e

pub follow_by_value : (truth : ℕ → Bool) (e : Expr)
    → follow_by (weave e).gate_records (map (λ x. truth x.occurrence) (in_order e)) first_label
    ≡ cond (value truth e) (weave e).true_label (weave e).false_label
follow_by_value truth e =
    rw (← weave_literals e) (follow_by_follow (weave e).gate_records (λ x. truth x.occurrence) first_label)
    ∙ follow_value truth e

-- the same for any row of truths that has for each gate the truth of its literal's occurrence
pub follow_by_each : (truth : ℕ → Bool) (e : Expr) (us : List Bool) (x : Literal) (d : Bool) → length us ≡ literals e
    → ((k : ℕ) → k < literals e → get_or us k d ≡ truth (get_or (in_order e) k x).occurrence)
    → follow_by (weave e).gate_records us first_label ≡ cond (value truth e) (weave e).true_label (weave e).false_label
follow_by_each truth e us x d long each =
    rw (row us (in_order e) (long ∙ sym (length-in_order e)) (λ k h. each k (rw (length-in_order e) at h))) (follow_by_value truth e)
  where
    row : (us : List Bool) (xs : List Literal) → length us ≡ length xs
        → ((k : ℕ) → k < length xs → get_or us k d ≡ truth (get_or xs k x).occurrence)
        → us ≡ map (λ x. truth x.occurrence) xs
    row [] [] long each = refl
    row [] (x ∷ xs) long each = absurd (suc-ne-zero (length xs) (sym long))
    row (u ∷ us) [] long each = absurd (suc-ne-zero (length us) long)
    row (u ∷ us) (x ∷ xs) long each = ap₂ (◌∷◌) (each 0 (omega arith)) (row us xs (suc_inj long) (λ k h. each (suc k) (omega arith)))
