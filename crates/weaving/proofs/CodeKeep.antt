-- The code's store keeps the page's store through each thing that a gate does: a slot that is given back or handed out is the
-- label's bit, since no label has two holders and the lowest free label is the first free slot. Assumes nothing.
use Prim.Native.Nat.{ℕ, zero, suc, ◌+◌, ◌<◌, ◌≤◌}
use mathlib.Core.Path.{◌≡◌, refl, sym, ap, ◌∙◌}
use mathlib.Core.Logic.{◌≢◌}
use mathlib.Core.Bool.{Bool, true, false, cond, ◌||◌, true≢false, false≢true}
use mathlib.Core.List.{List, [], ◌∷◌}
use native.Mathlib.Omega.{arith}
use native.Mathlib.Nat.{zero-add, not-suc-le-zero, suc-ne-zero}
use lib.Dec.{eqb}
use lib.ListN.{length, get_or, set, get_or-map, length-map}
use lib.Seq.{get_or-set_same, get_or-set_other}
use Rattle.std.proofs.Common.{Option, None, Some}
use Rattle.std.proofs.lemmas.List.{map-set}
use Rattle.std.specs.Option.{is_some}
use borrow.Author.Tests.{eqb-true, eqb-false}
use Rattle.terms.specs.Terms.{Place, first_label, most_labels}
use Rattle.terms.specs.declared.Label.{Label}
use Rattle.terms.specs.First.{First}
use Rattle.weaving.specs.declared.label_store.Store as coded
use Rattle.weaving.specs.Labels.{Slot, free, held, Store, has_label, slot_of, give_back, hand_out, labelled}
use Rattle.weaving.specs.Code.Kept.{number_held, numbers_of, label_room, is_free, Free, SomeFree, Emptied, Changed, slot_free, Keeps, HasOne}
use Rattle.weaving.proofs.Store.{on, off, known, eqb_same, has_label_give_back, has_label_hand_out, slot_of_below}
use Rattle.weaving.proofs.CodeStore.{free_within}

-- the numbers of the labels that places hold
some_number : (label : Option Label) → is_some label ≡ true → number_held label ≢ 0
some_number None some nought = false≢true some
some_number (Some l) some nought = suc-ne-zero l.0 nought

none_number : (label : Option Label) → is_some label ≡ false → number_held label ≡ 0
none_number None none = refl
none_number (Some l) none = absurd (true≢false none)

module _ (labels : List (Option Label)) where
  pub number_at : (i : ℕ) → get_or (numbers_of labels) i 0 ≡ number_held (get_or labels i None)
  number_at i = get_or-map number_held labels i None

  pub long_numbers : length (numbers_of labels) ≡ length labels
  long_numbers = length-map labels number_held

  pub numbers_set : (i : ℕ) (label : Option Label) → numbers_of (set labels i label) ≡ set (numbers_of labels) i (number_held label)
  numbers_set i label = map-set number_held labels i label

  pub some_held : (i : ℕ) → is_some (get_or labels i None) ≡ true → get_or (numbers_of labels) i 0 ≢ 0
  some_held i some nought = some_number (get_or labels i None) some (sym (number_at i) ∙ nought)

  pub none_held : (i : ℕ) → is_some (get_or labels i None) ≡ false → get_or (numbers_of labels) i 0 ≡ 0
  none_held i none = number_at i ∙ none_number (get_or labels i None) none

holder : Slot → Place
holder free = 0
holder (held p) = p

free-or-held : {s : Slot} {p : Place} → s ≡ free → s ≡ held p → ⊥
free-or-held a b = true≢false (sym (ap slot_free a) ∙ ap slot_free b)

same_holder : {s : Slot} {p q : Place} → s ≡ held p → s ≡ held q → p ≡ q
unfolding holder
same_holder a b = sym (ap holder a) ∙ ap holder b

-- the slot that a place holds, and the place that holds a slot
slot_holder : (p : Place) (s : Store) → has_label p s ≡ true → get_or s (slot_of p s) free ≡ held p
unfolding has_label slot_of
slot_holder p [] h = absurd (false≢true h)
slot_holder p (free ∷ s) h = slot_holder p s h
slot_holder p (held q ∷ s) h =
    elim (known (eqb p q)) [
      | on b ↦ rw (b, eqb-true p q b)
      | off b ↦ rw b (slot_holder p s (rw b at h))
    ]

holder_has : (p : Place) (s : Store) (j : ℕ) → get_or s j free ≡ held p → has_label p s ≡ true
unfolding has_label
holder_has p [] j e = absurd (free-or-held refl e)
holder_has p (free ∷ s) zero e = absurd (free-or-held refl e)
holder_has p (free ∷ s) (suc j) e = holder_has p s j e
holder_has p (held q ∷ s) zero e = rw (same_holder refl e, eqb_same p)
holder_has p (held q ∷ s) (suc j) e = elim (known (eqb p q)) [ on b ↦ rw b | off b ↦ rw b (holder_has p s j e) ]

-- the slot where a place goes is the first that is free
module _ (p : Place) where
  handed_here : (s : Store) (r : ℕ) → slot_free (get_or s r free) ≡ true → ((j : ℕ) → j < r → slot_free (get_or s j free) ≡ false)
      → get_or (hand_out p s) r free ≡ held p
  unfolding hand_out
  handed_here [] zero h none = refl
  handed_here [] (suc r) h none = absurd (true≢false (none 0 (omega arith)))
  handed_here (free ∷ s) zero h none = refl
  handed_here (free ∷ s) (suc r) h none = absurd (true≢false (none 0 (omega arith)))
  handed_here (held q ∷ s) zero h none = absurd (false≢true h)
  handed_here (held q ∷ s) (suc r) h none = handed_here s r h (λ j x. none (suc j) (omega arith))

  handed_other : (s : Store) (r j : ℕ) → slot_free (get_or s r free) ≡ true → ((j : ℕ) → j < r → slot_free (get_or s j free) ≡ false)
      → j ≢ r → get_or (hand_out p s) j free ≡ get_or s j free
  unfolding hand_out
  handed_other [] zero zero h none x = absurd (x refl)
  handed_other [] zero (suc j) h none x = refl
  handed_other [] (suc r) j h none x = absurd (true≢false (none 0 (omega arith)))
  handed_other (free ∷ s) zero zero h none x = absurd (x refl)
  handed_other (free ∷ s) zero (suc j) h none x = refl
  handed_other (free ∷ s) (suc r) j h none x = absurd (true≢false (none 0 (omega arith)))
  handed_other (held q ∷ s) zero j h none x = absurd (false≢true h)
  handed_other (held q ∷ s) (suc r) zero h none x = refl
  handed_other (held q ∷ s) (suc r) (suc j) h none x = handed_other s r j h (λ i y. none (suc i) (omega arith)) (λ e. x (ap suc e))

  cleared : Slot → Slot
  cleared free = free
  cleared (held q) = cond (eqb p q) free (held q)

  given_back_at : (s : Store) (j : ℕ) → get_or (give_back p s) j free ≡ cleared (get_or s j free)
  unfolding give_back cleared
  given_back_at [] j = refl
  given_back_at (free ∷ s) zero = refl
  given_back_at (held q ∷ s) zero = refl
  given_back_at (free ∷ s) (suc j) = given_back_at s j
  given_back_at (held q ∷ s) (suc j) = given_back_at s j

  cleared_own : (x : Slot) → x ≡ held p → cleared x ≡ free
  unfolding cleared
  cleared_own free e = refl
  cleared_own (held q) e = rw (same_holder refl e, eqb_same p)

  cleared_other : (x : Slot) → x ≢ held p → cleared x ≡ x
  unfolding cleared
  cleared_other free h = refl
  cleared_other (held q) h =
      elim (known (eqb p q)) [ on b ↦ absurd (h (rw (eqb-true p q b) refl)) | off b ↦ rw b ]

  cleared_held : (x : Slot) (q : Place) → cleared x ≡ held q → (x ≡ held q) × (q ≢ p)
  unfolding cleared
  cleared_held free q e = absurd (free-or-held refl e)
  cleared_held (held r) q e =
      elim (known (eqb p r)) [
        | on b ↦ absurd (free-or-held refl (rw b at e))
        | off b ↦ let f : held r ≡ held q = rw b at e in (f, λ x. eqb-false p r b (sym x ∙ sym (same_holder refl f)))
      ]

either_not : (a b : Bool) → (a || b) ≡ false → (a ≡ false) × (b ≡ false)
either_not true b h = absurd (true≢false h)
either_not false b h = (refl, h)

-- a store whose labels are all free, and no place with a label
pub keeps_none : (st : coded.Store) (hs : List ℕ) → Emptied st → ((p : Place) → get_or hs p 0 ≡ 0) → Keeps st hs []
keeps_none st hs empty none =
    record { frees = λ j h. empty.each (first_label + j) h; holders = λ j p e. absurd (free-or-held refl e); others = λ p h. none p }

module _ (st : coded.Store) (hs : List ℕ) (s : Store) (k : Keeps st hs s) where
  -- the slot past all others is free
  past_slots : (s : Store) (j : ℕ) → length s ≤ j → get_or s j free ≡ free
  past_slots [] j h = refl
  past_slots (x ∷ s) zero h = absurd (not-suc-le-zero h)
  past_slots (x ∷ s) (suc j) h = past_slots s j (omega arith)

  pub some_free : length s ≤ most_labels → SomeFree st
  some_free h = record { label = first_label + length s; is = k.frees (length s) (omega arith) ∙ rw (past_slots s (length s) (omega arith)) }

  -- the label of a place
  pub label_kept : (p : Place) → has_label p s ≡ true → get_or hs p 0 ≡ suc (first_label + slot_of p s)
  label_kept p h = k.holders (slot_of p s) p (slot_holder p s h)

  pub has_one : (p : Place) → has_label p s ≡ true → length s ≤ most_labels → HasOne hs p
  has_one p h few =
      let e = label_kept p h in
      let b = slot_of_below p s h in
      record { some = omega arith; within = omega arith }

  -- a place that holds a label keeps it
  pub keeps_held : (p at : Place) → at ≡ p → get_or hs at 0 ≢ 0 → Keeps st hs (labelled p s)
  unfolding labelled
  keeps_held p at same h =
      elim (known (has_label p s)) [ on b ↦ rw b k | off b ↦ absurd (h (rw same (k.others p b))) ]

  -- the lowest free label is the first free slot
  pub first_free : (r : ℕ) → First (Free st) r → slot_free (get_or s r free) ≡ true
  first_free r first = sym (rw zero-add at (k.frees r (omega (arith, free_within st r first.here)))) ∙ first.here

  pub held_before : (r : ℕ) → First (Free st) r → (j : ℕ) → j < r → slot_free (get_or s j free) ≡ false
  held_before r first j x =
      let z = free_within st r first.here in
      elim (known (slot_free (get_or s j free))) [
        | on c ↦ absurd (first.none_before j x (rw zero-add at (k.frees j (omega arith)) ∙ c))
        | off c ↦ c
      ]

  -- a place that holds none gets the lowest free label
  handed_on : (p r : ℕ) (st' : coded.Store) → get_or hs p 0 ≡ 0 → p < length hs → First (Free st) r → Changed st st' r false
      → Keeps st' (set hs p (suc r)) (labelled p s)
  unfolding labelled
  handed_on p r st' nought within first change =
      elim (known (has_label p s)) [
        | on b ↦ absurd (nought_not (label_kept p b))
        | off b ↦ rw b (record { frees = frees b; holders = holders b; others = others b })
      ]
    where
      nought_not : get_or hs p 0 ≡ suc (first_label + slot_of p s) → ⊥
      nought_not e = omega arith

      here : slot_free (get_or s r free) ≡ true
      here = first_free r first

      none : (j : ℕ) → j < r → slot_free (get_or s j free) ≡ false
      none = held_before r first

      frees : has_label p s ≡ false → (j : ℕ) → first_label + j < label_room
          → is_free st' (first_label + j) ≡ slot_free (get_or (hand_out p s) j free)
      frees b j h =
          elim (known (eqb j r)) [
            | on c ↦ rw (zero-add, eqb-true j r c, handed_here p s r here none) change.here
            | off c ↦ let x = eqb-false j r c in
                rw (handed_other p s r j here none x) (change.others (first_label + j) (λ e. x (omega arith)) ∙ k.frees j h)
          ]

      holders : has_label p s ≡ false → (j : ℕ) (q : Place) → get_or (hand_out p s) j free ≡ held q
          → get_or (set hs p (suc r)) q 0 ≡ suc (first_label + j)
      holders b j q e =
          elim (known (eqb j r)) [
            | on c ↦ let x = eqb-true j r c in
                let f : q ≡ p = same_holder e (ap (λ (i : ℕ). get_or (hand_out p s) i free) x ∙ handed_here p s r here none) in
                rw (f, get_or-set_same hs p (suc r) 0 within) (omega arith)
            | off c ↦ let f = sym (handed_other p s r j here none (eqb-false j r c)) ∙ e in
                get_or-set_other hs p q (suc r) 0 (λ x. true≢false (sym (holder_has q s j f) ∙ rw x b)) ∙ k.holders j q f
          ]

      others : has_label p s ≡ false → (q : Place) → has_label q (hand_out p s) ≡ false → get_or (set hs p (suc r)) q 0 ≡ 0
      others b q e =
          let x = either_not (eqb q p) (has_label q s) (sym (has_label_hand_out q p s) ∙ e) in
          get_or-set_other hs p q (suc r) 0 (eqb-false q p x.0) ∙ k.others q x.1

  pub keeps_handed : (p at r : ℕ) (st' : coded.Store) → at ≡ p → get_or hs at 0 ≡ 0 → p < length hs → First (Free st) r → Changed st st' r false
      → Keeps st' (set hs at (suc r)) (labelled p s)
  keeps_handed p at r st' same nought within first change = rw same (handed_on p r st' (rw same at nought) within first change)

  -- a place gives its label back
  given_back : (p l : ℕ) (st' : coded.Store) → has_label p s ≡ true → p < length hs → l + 1 ≡ get_or hs p 0 → Changed st st' l true
      → Keeps st' (set hs p 0) (give_back p s)
  given_back p l st' has within own change = record { frees = frees; holders = holders; others = others }
    where
      only : (j : ℕ) → get_or s j free ≡ held p → j ≡ l
      only j e = omega (arith, k.holders j p e)

      its : slot_of p s ≡ l
      its = only (slot_of p s) (slot_holder p s has)

      frees : (j : ℕ) → first_label + j < label_room → is_free st' (first_label + j) ≡ slot_free (get_or (give_back p s) j free)
      frees j h =
          elim (known (eqb j l)) [
            | on c ↦ let x : j ≡ slot_of p s = eqb-true j l c ∙ sym its in
                rw (given_back_at p s j, cleared_own p (get_or s j free) (rw x (slot_holder p s has)), zero-add, eqb-true j l c) change.here
            | off c ↦ let x = eqb-false j l c in
                rw (given_back_at p s j, cleared_other p (get_or s j free) (λ e. x (only j e)))
                (change.others (first_label + j) (λ e. x (omega arith)) ∙ k.frees j h)
          ]

      holders : (j : ℕ) (q : Place) → get_or (give_back p s) j free ≡ held q → get_or (set hs p 0) q 0 ≡ suc (first_label + j)
      holders j q e =
          let x = cleared_held p (get_or s j free) q (sym (given_back_at p s j) ∙ e) in
          get_or-set_other hs p q 0 0 x.1 ∙ k.holders j q x.0

      others : (q : Place) → has_label q (give_back p s) ≡ false → get_or (set hs p 0) q 0 ≡ 0
      others q e =
          elim (known (eqb q p)) [
            | on c ↦ rw (eqb-true q p c) (get_or-set_same hs p 0 0 within)
            | off c ↦ get_or-set_other hs p q 0 0 (eqb-false q p c) ∙ k.others q (rw c at (sym (has_label_give_back q p s) ∙ e))
          ]

  pub keeps_given : (p at l : ℕ) (st' : coded.Store) → at ≡ p → has_label p s ≡ true → p < length hs → l + 1 ≡ get_or hs p 0 → Changed st st' l true
      → Keeps st' (set hs at 0) (give_back p s)
  keeps_given p at l st' same has within own change = rw same (given_back p l st' has within own change)
