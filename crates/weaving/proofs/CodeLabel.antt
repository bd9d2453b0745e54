-- Labelling the gates in order writes the labels of the weave: each gate does to the code's store what it does to the page's,
-- and what is left to write is at every gate what the definition says of the gates that are left. Assumes nothing.
use Prim.Native.Nat.{ℕ, zero, suc, ◌+◌, ◌<◌, ◌≤◌}
use mathlib.Core.Path.{◌≡◌, refl, ap, ◌∙◌}
use mathlib.Core.Bool.{true, or-true}
use mathlib.Core.List.{List, [], ◌∷◌}
use native.Mathlib.Omega.{arith}
use native.Mathlib.Nat.{not-suc-le-zero}
use native.Mathlib.Numerals.{add-one}
use lib.Dec.{eqb}
use lib.ListN.{length, get_or, set, replicate}
use lib.Seq.{sets}
use Rattle.std.proofs.Common.{None}
use Rattle.terms.specs.Terms.{Place, first_label, most_literals, most_labels}
use Rattle.terms.specs.declared.LaidGate.{LaidGate}
use Rattle.terms.specs.declared.Ends.{Ends}
use Rattle.terms.specs.Laid.{true_places_of, false_places_of}
use Rattle.formula.specs.Formula.{Expr, literals}
use Rattle.weaving.specs.declared.label_store.Store as coded
use Rattle.weaving.specs.Gates.{Gate, gates, false_end}
use Rattle.weaving.specs.Labels.{Store, has_label, slot_of, entered_on, labelled, left, step, records, stored, last_store, weave}
use Rattle.weaving.specs.Code.Kept.{numbers_of, SomeFree, Emptied, Keeps, Handed, HasOne, GaveBack}
use Rattle.weaving.specs.Code.Labelled as labelled_spec
use Rattle.weaving.specs.Code.Labelled.{Leads, Labelable, own_labels, true_labels, false_labels, LabelledBy, Labelled, Labelling, Reachable, SteppedBy, Stepped, Steppable}
use Rattle.weaving.proofs.Store.{eqb_same, has_label_labelled}
use Rattle.weaving.proofs.Places.{Numbered, more, gates_numbered, length-gates}
use Rattle.weaving.proofs.Width.{grown_labelled, length-left}
use Rattle.weaving.proofs.Range.{Reached, next, all_reached, length_stored_grows}
use Rattle.weaving.proofs.Ends.{has_label_true_end, has_label_false_end}
use Rattle.weaving.proofs.Rows.{no_gate, true_place_at, false_place_at}
use Rattle.weaving.proofs.CodeKeep.{keeps_none, some_free, label_kept, has_one}

grows : (p : Place) (s : Store) → length s ≤ length (labelled p s)
grows p s = omega (arith, (grown_labelled p s).length-is)

-- the place that was labelled last has a label, and so has the one before it
has_last : (q : Place) (s : Store) → has_label q (labelled q s) ≡ true
has_last q s = has_label_labelled q q s ∙ rw (eqb_same q)

has_before : (p q : Place) (s : Store) → has_label p (labelled q (labelled p s)) ≡ true
has_before p q s = has_label_labelled p q (labelled p s) ∙ rw (has_last p s) (or-true (eqb p q))

-- what one gate asks on its way
module _ {st : coded.Store} {hs : List ℕ} {k t f : Place} {os ts fs : List ℕ} (a : Steppable st hs k t f os ts fs) where
  pub leave_asked : 0 < k → HasOne hs k
  leave_asked x = let r = a.reachable in has_one st hs a.store r.keeps k (r.own x) r.few_before

  module _ {st₁ : coded.Store} {hs₁ : List ℕ} (gone : GaveBack st hs st₁ hs₁ k) where
    keeps₁ : Keeps st₁ hs₁ (left k a.store)
    keeps₁ = gone.each a.store a.reachable.keeps a.reachable.own

    pub first_asked : SomeFree st₁
    first_asked = some_free st₁ hs₁ _ keeps₁ (omega (arith, length-left k a.store, a.reachable.few_before))

    module _ {st₂ : coded.Store} {hs₂ : List ℕ} (one : Handed st₁ hs₁ st₂ hs₂ t) where
      keeps₂ : Keeps st₂ hs₂ (labelled t (left k a.store))
      keeps₂ = one.each _ keeps₁

      pub second_asked : SomeFree st₂
      second_asked = some_free st₂ hs₂ _ keeps₂ (omega (arith, grows f (labelled t (left k a.store)), a.reachable.few_after))

      module _ {st₃ : coded.Store} {hs₃ : List ℕ} (two : Handed st₂ hs₂ st₃ hs₃ f) where
        keeps₃ : Keeps st₃ hs₃ (labelled f (labelled t (left k a.store)))
        keeps₃ = two.each _ keeps₂

        pub both_asked : (1 ≤ get_or hs₃ t 0) × (1 ≤ get_or hs₃ f 0)
        both_asked = (
          omega (arith, label_kept st₃ hs₃ _ keeps₃ t (has_before t f (left k a.store))),
          omega (arith, label_kept st₃ hs₃ _ keeps₃ f (has_last f (labelled t (left k a.store)))),
        )

-- the places of a gate, as the code reads them
pub steppable_at : (gates : List LaidGate) {st : coded.Store} {hs os ts fs : List ℕ} {i k : ℕ} → i ≡ k
    → Steppable st hs k (get_or (true_places_of gates) k 0) (get_or (false_places_of gates) k 0) os ts fs
    → Steppable st hs k (get_or gates i no_gate).true_place.0 (get_or gates i no_gate).false_place.0 os ts fs
steppable_at gates same a = rw (true_place_at gates same, false_place_at gates same) at a

-- what one gate leaves
pub stepped : {st st₁ st₂ st₃ : coded.Store} {hs hs₁ hs₂ hs₃ : List ℕ} {k t f : Place} {os ts fs os' ts' fs' : List ℕ} (own x y : ℕ)
    → (k ≡ 0 → own ≡ first_label) → (0 < k → own + 1 ≡ get_or hs k 0) → x + 1 ≡ get_or hs₃ t 0 → y + 1 ≡ get_or hs₃ f 0
    → GaveBack st hs st₁ hs₁ k → Handed st₁ hs₁ st₂ hs₂ t → Handed st₂ hs₂ st₃ hs₃ f
    → os' ≡ set os k own → ts' ≡ set ts k x → fs' ≡ set fs k y → Stepped st hs k t f st₃ hs₃ os ts fs os' ts' fs'
stepped {st} {st₁} {st₂} {st₃} {hs} {hs₁} {hs₂} {hs₃} {k} {t} {f} {os} {ts} {fs} own x y first later ex ey gone one two eo et ef =
    rw (eo, et, ef) (record { each = go })
  where
    own_label : (k : Place) (s : Store) → Keeps st hs s → (0 < k → has_label k s ≡ true) → (k ≡ 0 → own ≡ first_label) → (0 < k → own + 1 ≡ get_or hs k 0)
        → own ≡ entered_on k s
    own_label zero s keeps has first later = first refl
    own_label (suc k) s keeps has first later =
        omega (arith, later (omega arith), label_kept st hs s keeps (suc k) (has (omega arith)))

    go : (s : Store) → Reachable st hs k t f s → SteppedBy k t f s st₃ hs₃ os ts fs (set os k own) (set ts k x) (set fs k y)
    go s r =
        let keeps = two.each _ (one.each _ (gone.each s r.keeps r.own)) in
        record {
          keeps = keeps;
          own = ap (set os k) (own_label k s r.keeps r.own first later);
          on_true = ap (set ts k) (omega (arith, label_kept st₃ hs₃ _ keeps t (has_before t f (left k s))));
          on_false = ap (set fs k) (omega (arith, label_kept st₃ hs₃ _ keeps f (has_last f (labelled t (left k s)))));
        }

-- how far the gates of e are labelled: the gates that are left, the store before them, and what they will leave
pub record Going (trues falses : List ℕ) (n : ℕ) (os ts fs : List ℕ) (e : Expr) (st : coded.Store) (hs : List ℕ) (k : ℕ) (os' ts' fs' : List ℕ) : Type 0 where
  pub store : Store
  pub rest : List Gate
  pub count : k + length rest ≡ n
  pub numbered : Numbered (suc (false_end n)) k rest
  pub reached : Reached rest store
  pub leads : Leads trues falses k rest
  pub keeps : Keeps st hs store
  pub few : length (stored rest store) ≤ most_labels
  pub ends : stored rest store ≡ last_store e
  pub owns : sets os' k (own_labels (records rest store)) ≡ sets os 0 (own_labels (weave e).gate_records)
  pub on_trues : sets ts' k (true_labels (records rest store)) ≡ sets ts 0 (true_labels (weave e).gate_records)
  pub on_falses : sets fs' k (false_labels (records rest store)) ≡ sets fs 0 (false_labels (weave e).gate_records)

module _ (trues falses : List ℕ) (n : ℕ) (os ts fs : List ℕ) where
  pub going_none : (e : Expr) (st : coded.Store) (hs : List ℕ) → Labelable trues falses n e → Emptied st → ((p : Place) → get_or hs p 0 ≡ 0)
      → Going trues falses n os ts fs e st hs 0 os ts fs
  unfolding weave
  going_none e st hs l empty no_labels =
      record {
        store = [];
        rest = gates e;
        count = omega (arith, length-gates e, l.count);
        numbered = rw l.count at (gates_numbered e);
        reached = all_reached e;
        leads = l.leads;
        keeps = keeps_none st hs empty no_labels;
        few = l.few_labels;
        ends = refl;
        owns = refl;
        on_trues = refl;
        on_falses = refl;
      }

  module _ (e : Expr) (st : coded.Store) (hs : List ℕ) (k : ℕ) (os' ts' fs' : List ℕ) (t f : Place) (within : k < n) (et : t ≡ get_or trues k 0) (ef : f ≡ get_or falses k 0) where
    reachable : (s : Store) (rest : List Gate) → k + length rest ≡ n → Numbered (suc (false_end n)) k rest → Reached rest s → Leads trues falses k rest
        → Keeps st hs s → length (stored rest s) ≤ most_labels → Reachable st hs k t f s
    unfolding stored step
    reachable s [] count numbered reach leads keeps few = absurd (not-suc-le-zero {n = 0} (omega arith))
    reachable s (g ∷ rest) count (more p ps) (next here later) (labelled_spec.more gt gf ls) keeps few =
        record {
          keeps = keeps;
          own = rw p.number at here;
          few_before = omega (arith, length_stored_grows (g ∷ rest) s);
          few_after = rw (et, gt, ef, gf, ← p.number) (omega (arith, length_stored_grows rest (step g s)));
        }

    places_below : (rest : List Gate) → k + length rest ≡ n → Numbered (suc (false_end n)) k rest → Leads trues falses k rest
        → (t < suc (false_end n)) × (f < suc (false_end n))
    places_below [] count numbered leads = absurd (not-suc-le-zero {n = 0} (omega arith))
    places_below (g ∷ rest) count (more p ps) (labelled_spec.more gt gf ls) = (rw (et, gt) p.true_below, rw (ef, gf) p.false_below)

    pub step_asked : Going trues falses n os ts fs e st hs k os' ts' fs' → n ≤ most_literals
        → k < length os' → k < length ts' → k < length fs' → Steppable st hs k t f os' ts' fs'
    step_asked g few owns on_trues on_falses =
        let b = places_below g.rest g.count g.numbered g.leads in
        record {
          store = g.store;
          reachable = reachable g.store g.rest g.count g.numbered g.reached g.leads g.keeps g.few;
          gate_within = omega arith;
          true_within = omega arith;
          false_within = omega arith;
          owns_long = owns;
          on_trues_long = on_trues;
          on_falses_long = on_falses;
        }

    module _ (st₁ : coded.Store) (hs₁ os₁ ts₁ fs₁ : List ℕ) (one : Stepped st hs k t f st₁ hs₁ os' ts' fs' os₁ ts₁ fs₁) where
      after_gate : (s : Store) (rest : List Gate) → k + length rest ≡ n → Numbered (suc (false_end n)) k rest → Reached rest s
          → Leads trues falses k rest → Keeps st hs s → length (stored rest s) ≤ most_labels → stored rest s ≡ last_store e
          → sets os' k (own_labels (records rest s)) ≡ sets os 0 (own_labels (weave e).gate_records)
          → sets ts' k (true_labels (records rest s)) ≡ sets ts 0 (true_labels (weave e).gate_records)
          → sets fs' k (false_labels (records rest s)) ≡ sets fs 0 (false_labels (weave e).gate_records)
          → Going trues falses n os ts fs e st₁ hs₁ (k + 1) os₁ ts₁ fs₁
      unfolding stored step records
      after_gate s [] count numbered reach leads keeps few ends o x y = absurd (not-suc-le-zero {n = 0} (omega arith))
      after_gate s (g ∷ rest) count (more p ps) (next here later) (labelled_spec.more gt gf ls) keeps few ends o x y =
          let b = one.each s (reachable s (g ∷ rest) count (more p ps) (next here later) (labelled_spec.more gt gf ls) keeps few) in
          let num = p.number in
          let true_is = et ∙ gt in
          let false_is = ef ∙ gf in
          record {
            store = step g s;
            rest = rest;
            count = omega arith;
            numbered = rw add-one ps;
            reached = later;
            leads = rw add-one ls;
            keeps = rw (num, ← true_is, ← false_is) b.keeps;
            few = few;
            ends = ends;
            owns = rw (add-one, b.own, ← num) (rw (← num) at o);
            on_trues = rw (add-one, b.on_true, true_is, false_is, ← num) (rw (← num) at x);
            on_falses = rw (add-one, b.on_false, true_is, false_is, ← num) (rw (← num) at y);
          }

      pub going_on : Going trues falses n os ts fs e st hs k os' ts' fs' → Going trues falses n os ts fs e st₁ hs₁ (k + 1) os₁ ts₁ fs₁
      going_on g =
          after_gate g.store g.rest g.count g.numbered g.reached g.leads g.keeps g.few g.ends g.owns g.on_trues g.on_falses

  module _ (e : Expr) (st : coded.Store) (hs os' ts' fs' : List ℕ) (l : Labelable trues falses n e)
      (g : Going trues falses n os ts fs e st hs n os' ts' fs') where
    none_left : (rest : List Gate) → n + length rest ≡ n → rest ≡ []
    none_left [] h = refl
    none_left (x ∷ rest) h = absurd (not-suc-le-zero {n = 0} (omega arith))

    last : g.store ≡ last_store e
    unfolding stored
    last = rw (none_left g.rest g.count) at g.ends

    true_kept : get_or hs n 0 ≡ suc (first_label + slot_of n (last_store e))
    true_kept = rw (l.count, last) at (label_kept st hs g.store g.keeps (literals e) (rw last (has_label_true_end e)))

    false_kept : get_or hs (suc n) 0 ≡ suc (first_label + slot_of (suc n) (last_store e))
    false_kept = rw (l.count, last) at (label_kept st hs g.store g.keeps (suc (literals e)) (rw last (has_label_false_end e)))

    pub ends_asked : (1 ≤ get_or hs n 0) × (1 ≤ get_or hs (n + 1) 0)
    ends_asked = (omega (arith, true_kept), rw add-one (omega (arith, false_kept)))

    pub labelled_by : (r : Ends) → r.on_true.0 + 1 ≡ get_or hs n 0 → r.on_false.0 + 1 ≡ get_or hs (n + 1) 0
        → LabelledBy (weave e) os ts fs os' ts' fs' r
    unfolding records weave
    labelled_by r et ef =
        let no_rest = none_left g.rest g.count in
        record {
          owns = rw no_rest at g.owns;
          on_trues = rw no_rest at g.on_trues;
          on_falses = rw no_rest at g.on_falses;
          true_label = rw l.count (omega (arith, true_kept));
          false_label = rw l.count (omega (arith, rw (add-one n) at ef, false_kept));
        }

  -- so far the lists are labelled for every expression that has those gates
  pub record Midway (st : coded.Store) (hs : List ℕ) (k : ℕ) (os' ts' fs' : List ℕ) : Type 0 where
    pub each : (e : Expr) → Labelable trues falses n e → Going trues falses n os ts fs e st hs k os' ts' fs'

pub midway_none : {trues falses os ts fs : List ℕ} {n : ℕ} (m : ℕ) {st : coded.Store} → Emptied st
    → Midway trues falses n os ts fs st (numbers_of (replicate m None)) 0 os ts fs
midway_none m {st} empty = record { each = λ e l. going_none _ _ _ _ _ _ e st _ l empty (no_label m) }
  where
    no_label : (m p : ℕ) → get_or (numbers_of (replicate m None)) p 0 ≡ 0
    no_label zero p = refl
    no_label (suc m) zero = refl
    no_label (suc m) (suc p) = no_label m p

module _ {trues falses os ts fs : List ℕ} {n : ℕ} (l : Labelling trues falses n os ts fs) {st : coded.Store} {hs : List ℕ} {k : ℕ} {os' ts' fs' : List ℕ}
    (m : Midway trues falses n os ts fs st hs k os' ts' fs') where
  pub midway_asked : {t f : Place} → k < n → t ≡ get_or trues k 0 → f ≡ get_or falses k 0
      → k < length os' → k < length ts' → k < length fs' → Steppable st hs k t f os' ts' fs'
  midway_asked h et ef = step_asked _ _ _ _ _ _ l.tree st hs k os' ts' fs' _ _ h et ef (m.each l.tree l.labelable) l.few

  pub midway_on : {t f : Place} {st₁ : coded.Store} {hs₁ os₁ ts₁ fs₁ : List ℕ} → k < n → t ≡ get_or trues k 0 → f ≡ get_or falses k 0
      → Stepped st hs k t f st₁ hs₁ os' ts' fs' os₁ ts₁ fs₁ → Midway trues falses n os ts fs st₁ hs₁ (k + 1) os₁ ts₁ fs₁
  midway_on h et ef one =
      record { each = λ e x. going_on _ _ _ _ _ _ e st hs k os' ts' fs' _ _ h et ef _ _ _ _ _ one (m.each e x) }

  module _ (done_all : k ≡ n) where
    at_end : (e : Expr) → Labelable trues falses n e → Going trues falses n os ts fs e st hs n os' ts' fs'
    at_end e x = rw done_all at (m.each e x)

    pub midway_ends : (1 ≤ get_or hs n 0) × (1 ≤ get_or hs (n + 1) 0)
    midway_ends = ends_asked _ _ _ _ _ _ l.tree st hs os' ts' fs' l.labelable (at_end l.tree l.labelable)

    pub midway_labelled : {r : Ends} → r.on_true.0 + 1 ≡ get_or hs n 0 → r.on_false.0 + 1 ≡ get_or hs (n + 1) 0
        → Labelled trues falses n os ts fs os' ts' fs' r
    midway_labelled {r} et ef = record { each = λ e x. labelled_by _ _ _ _ _ _ e st hs os' ts' fs' x (at_end e x) r et ef }
