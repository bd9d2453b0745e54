-- The label store in code: what it promises, and how it keeps the store of the page.
--   is_free st l      == the label l is free in the store st: its bit of the word is set; Free says so as a statement
--   Emptied, Changed  == a store with every label free, and one that differs from another in one label
--   numbers_of        == the label of each place, plus one, and nought for none
--   Keeps st hs s     == the code's store st, with hs for those numbers, keeps the page's store s
-- Assumes nothing.
use Rattle.std.specs.Prelude.{ℕ, suc, ◌+◌, ◌≤◌, ◌<◌, ◌≡◌, ◌≢◌, Bool, true, false, ◌&&◌, List, map, ltb, get_or, Option, None, Some}
use Rattle.terms.specs.Terms.{Place, Label, first_label, most_labels}
use Rattle.terms.specs.Code.Bits.{bit}
use Rattle.terms.specs.declared.Label as labels
use Rattle.weaving.specs.declared.label_store.Store as coded
use Rattle.weaving.specs.Labels.{Slot, free, held, Store, has_label, labelled, left}

-- the store has room for one label more than any table needs, so one is always free
abbrev pub label_room : ℕ
label_room = suc most_labels

-- "one word, a bit a label": the bit l of the word, for the labels that there is room for
abbrev pub is_free : coded.Store → Label → Bool
is_free st l = ltb l label_room && bit st.free l

abbrev pub Free : coded.Store → Label → Type 0
Free st l = is_free st l ≡ true

pub record SomeFree (st : coded.Store) : Type 0 where
  pub label : Label
  pub is : Free st label

pub record Emptied (st : coded.Store) : Type 0 where
  pub each : (l : Label) → l < label_room → Free st l

-- the store after has the label l free or not, as told, and every other label as before
pub record Changed (before after : coded.Store) (l : Label) (now_free : Bool) : Type 0 where
  pub here : is_free after l ≡ now_free
  pub others : (m : Label) → m ≢ l → is_free after m ≡ is_free before m

abbrev pub slot_free : Slot → Bool
slot_free free = true
slot_free (held p) = false

abbrev pub number_held : Option labels.Label → ℕ
number_held None = 0
number_held (Some l) = suc l.0

abbrev pub numbers_of : List (Option labels.Label) → List ℕ
numbers_of ls = map number_held ls

-- past the slots of s every label is free
pub record Keeps (st : coded.Store) (hs : List ℕ) (s : Store) : Type 0 where
  pub frees : (j : ℕ) → first_label + j < label_room → is_free st (first_label + j) ≡ slot_free (get_or s j free)
  pub holders : (j : ℕ) (p : Place) → get_or s j free ≡ held p → get_or hs p 0 ≡ suc (first_label + j)
  pub others : (p : Place) → has_label p s ≡ false → get_or hs p 0 ≡ 0

-- a place that has no label gets the lowest free one
pub record Handed (st : coded.Store) (hs : List ℕ) (st' : coded.Store) (hs' : List ℕ) (p : Place) : Type 0 where
  pub each : (s : Store) → Keeps st hs s → Keeps st' hs' (labelled p s)

-- a place has a label of the store's
pub record HasOne (hs : List ℕ) (p : Place) : Type 0 where
  pub some : 1 ≤ get_or hs p 0
  pub within : get_or hs p 0 ≤ label_room

-- gate k gives back its own label
pub record GaveBack (st : coded.Store) (hs : List ℕ) (st' : coded.Store) (hs' : List ℕ) (k : Place) : Type 0 where
  pub each : (s : Store) → Keeps st hs s → (0 < k → has_label k s ≡ true) → Keeps st' hs' (left k s)
