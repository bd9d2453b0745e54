-- What labelling the gates leaves in three lists: for each gate its own label and those of its two places.
--   Leads ts fs k gs      == the lists have the places of the gates gs, the first of which is k
--   Labelable ts fs n e   == they have the n gates of e, which need no more labels than a table may have
--   LabelledBy            == the labels of a weave were written from the first gate on, nothing else was changed, and the answer
--                            is the labels of the two ends
--   Labelled              == so were those of every expression whose gates the lists have
--   Stepped, SteppedBy    == the same of one gate
-- Assumes nothing.
use Rattle.std.specs.Prelude.{ℕ, suc, ◌≤◌, ◌<◌, ◌≡◌, true, List, [], ◌∷◌, map, length, get_or, set}
use Rattle.std.proofs.lemmas.List.Edits.{sets}
use Rattle.terms.specs.Terms.{Place, Label, most_literals, most_labels}
use Rattle.formula.specs.Formula.{Expr, literals}
use Rattle.weaving.specs.declared.label_store.Store as coded
use Rattle.terms.specs.declared.Ends.{Ends}
use Rattle.weaving.specs.Gates.{Gate, gates}
use Rattle.weaving.specs.Labels.{Store, has_label, label_of, entered_on, labelled, left, GateRecord, Woven, weave}
use Rattle.weaving.specs.Code.Kept.{Keeps}

pub data Leads (ts fs : List ℕ) : Place → List Gate → Type 0 where
  none : {k : Place} → Leads ts fs k []
  more : {k : Place} {g : Gate} {gs : List Gate} → get_or ts k 0 ≡ g.true_place → get_or fs k 0 ≡ g.false_place → Leads ts fs (suc k) gs
      → Leads ts fs k (g ∷ gs)

pub record Labelable (ts fs : List ℕ) (n : ℕ) (e : Expr) : Type 0 where
  pub count : literals e ≡ n
  pub leads : Leads ts fs 0 (gates e)
  pub few_labels : (weave e).label_count ≤ most_labels

abbrev pub own_labels : List GateRecord → List Label
own_labels rs = map (λ r. r.own) rs

abbrev pub true_labels : List GateRecord → List Label
true_labels rs = map (λ r. r.on_true) rs

abbrev pub false_labels : List GateRecord → List Label
false_labels rs = map (λ r. r.on_false) rs

pub record LabelledBy (w : Woven) (os ts fs os' ts' fs' : List ℕ) (r : Ends) : Type 0 where
  pub owns : os' ≡ sets os 0 (own_labels w.gate_records)
  pub on_trues : ts' ≡ sets ts 0 (true_labels w.gate_records)
  pub on_falses : fs' ≡ sets fs 0 (false_labels w.gate_records)
  pub true_label : r.on_true.0 ≡ w.true_label
  pub false_label : r.on_false.0 ≡ w.false_label

pub record Labelled (trues falses : List ℕ) (n : ℕ) (os ts fs os' ts' fs' : List ℕ) (r : Ends) : Type 0 where
  pub each : (e : Expr) → Labelable trues falses n e → LabelledBy (weave e) os ts fs os' ts' fs' r

-- some expression has those gates, and there is room for their labels
pub record Labelling (trues falses : List ℕ) (n : ℕ) (os ts fs : List ℕ) : Type 0 where
  pub tree : Expr
  pub labelable : Labelable trues falses n tree
  pub few : n ≤ most_literals
  pub trues_long : n ≤ length trues
  pub falses_long : n ≤ length falses
  pub owns_long : n ≤ length os
  pub on_trues_long : n ≤ length ts
  pub on_falses_long : n ≤ length fs

-- gate k with the places t and f is reached when the store is s: it has a label, unless it is the first, and enough are left
pub record Reachable (st : coded.Store) (hs : List ℕ) (k t f : Place) (s : Store) : Type 0 where
  pub keeps : Keeps st hs s
  pub own : 0 < k → has_label k s ≡ true
  pub few_before : length s ≤ most_labels
  pub few_after : length (labelled f (labelled t (left k s))) ≤ most_labels

pub record SteppedBy (k t f : Place) (s : Store) (st' : coded.Store) (hs' os ts fs os' ts' fs' : List ℕ) : Type 0 where
  pub keeps : Keeps st' hs' (labelled f (labelled t (left k s)))
  pub own : os' ≡ set os k (entered_on k s)
  pub on_true : ts' ≡ set ts k (label_of t (labelled f (labelled t (left k s))))
  pub on_false : fs' ≡ set fs k (label_of f (labelled f (labelled t (left k s))))

pub record Stepped (st : coded.Store) (hs : List ℕ) (k t f : Place) (st' : coded.Store) (hs' os ts fs os' ts' fs' : List ℕ) : Type 0 where
  pub each : (s : Store) → Reachable st hs k t f s → SteppedBy k t f s st' hs' os ts fs os' ts' fs'

-- some store is kept, and the places are within
pub record Steppable (st : coded.Store) (hs : List ℕ) (k t f : Place) (os ts fs : List ℕ) : Type 0 where
  pub store : Store
  pub reachable : Reachable st hs k t f store
  pub gate_within : k < 1026
  pub true_within : t < 1026
  pub false_within : f < 1026
  pub owns_long : k < length os
  pub on_trues_long : k < length ts
  pub on_falses_long : k < length fs
