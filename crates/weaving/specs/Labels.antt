-- The label store, and the labels that the places of a row of gates get.
--   Store         == a slot for each label handed out so far, the first label first: free, or held by a place
--   has_label p s == the place p has a label, and label_of p s is that label
--   give_back p s == p gives its label back
--   hand_out p s  == p gets the lowest free label
--   step g s      == what the gate g does to the store
--   weave e       == the gates of e with their labels, the number of labels, and the labels of True and False
-- Assumes nothing.
use Rattle.std.specs.Prelude.{ℕ, zero, suc, ◌+◌, Bool, false, cond, ◌||◌, List, [], ◌∷◌, eqb, length}
use Rattle.terms.specs.Terms.{Place, Label, first_label}
use Rattle.formula.specs.Formula.{Literal, Expr, literals}
use Rattle.weaving.specs.Gates.{Gate, gates, true_end, false_end}

pub data Slot : Type 0 where
  free : Slot
  held : Place → Slot

abbrev pub Store : Type 0
Store = List Slot

unfoldable pub has_label : Place → Store → Bool
has_label p [] = false
has_label p (free ∷ s) = has_label p s
has_label p (held q ∷ s) = eqb p q || has_label p s

-- the slot that p holds, counted from the first
unfoldable pub slot_of : Place → Store → ℕ
slot_of p [] = 0
slot_of p (free ∷ s) = suc (slot_of p s)
slot_of p (held q ∷ s) = cond (eqb p q) 0 (suc (slot_of p s))

-- "numbered from 0" (scope 4.2)
abbrev pub label_of : Place → Store → Label
label_of p s = first_label + slot_of p s

-- "A label given back is used again." (scope 4.5)
unfoldable pub give_back : Place → Store → Store
give_back p [] = []
give_back p (free ∷ s) = free ∷ give_back p s
give_back p (held q ∷ s) = cond (eqb p q) free (held q) ∷ give_back p s

-- "the lowest free one": the first free slot, or a new one after all that are held (scope 4.5)
unfoldable pub hand_out : Place → Store → Store
hand_out p [] = held p ∷ []
hand_out p (free ∷ s) = held p ∷ s
hand_out p (held q ∷ s) = held q ∷ hand_out p s

-- "its true place, if it has no label, gets the lowest free one" (scope 4.5)
unfoldable pub labelled : Place → Store → Store
labelled p s = cond (has_label p s) s (hand_out p s)

-- "Gate 0 is entered on label 0." (scope 4.5)
abbrev pub entered_on : Place → Store → Label
entered_on zero s = first_label
entered_on (suc k) s = label_of (suc k) s

-- "A gate after the first first gives back its own label." (scope 4.5)
abbrev pub left : Place → Store → Store
left zero s = s
left (suc k) s = give_back (suc k) s

-- "Then its true place .. ; then its false place likewise." (scope 4.5)
unfoldable pub step : Gate → Store → Store
step g s = labelled g.false_place (labelled g.true_place (left g.number s))

-- a gate of the table: its literal, its own label and those of its two places
pub record GateRecord : Type 0 where
  pub literal : Literal
  pub own : Label
  pub on_true : Label
  pub on_false : Label

abbrev pub recorded : Gate → Store → Store → GateRecord
recorded g before after =
    record {
      literal = g.literal;
      own = entered_on g.number before;
      on_true = label_of g.true_place after;
      on_false = label_of g.false_place after;
    }

-- "gates are taken in order" (scope 4.5)
unfoldable pub records : List Gate → Store → List GateRecord
records [] s = []
records (g ∷ gs) s = recorded g s (step g s) ∷ records gs (step g s)

unfoldable pub stored : List Gate → Store → Store
stored [] s = s
stored (g ∷ gs) s = stored gs (step g s)

-- what a table says: the gates' records, how many labels there are, and the labels of the two ends
pub record Woven : Type 0 where
  pub gate_records : List GateRecord
  pub label_count : ℕ
  pub true_label : Label
  pub false_label : Label

-- no place has a label before the first gate
abbrev pub last_store : Expr → Store
last_store e = stored (gates e) []

unfoldable pub weave : Expr → Woven
weave e =
    record {
      gate_records = records (gates e) [];
      label_count = length (last_store e);
      true_label = label_of (true_end (literals e)) (last_store e);
      false_label = label_of (false_end (literals e)) (last_store e);
    }
