-- The laws of the label store: a place keeps its slot while others come and go, and no slot has two holders, since each
-- slot is written only when it is free or its holder leaves. Assumes nothing.
use Prim.Native.Nat.{ℕ, zero, suc, ◌<◌}
use mathlib.Core.Path.{◌≡◌, refl, sym, ap, ◌∙◌}
use mathlib.Core.Logic.{◌≢◌}
use mathlib.Core.Bool.{Bool, true, false, not, ◌&&◌, ◌||◌, true≢false, false≢true, and-false, or-true}
use mathlib.Core.List.{List, [], ◌∷◌, ◌++◌}
use native.Mathlib.Omega.{arith}
use native.Mathlib.Nat.{not-suc-le-zero, suc-ne-zero, suc_inj}
use lib.Dec.{eqb}
use lib.ListN.{length}
use borrow.Author.Tests.{eqb-true, eq-eqb, ne_eqb}
use Rattle.terms.specs.Terms.{Place}
use Rattle.weaving.specs.Gates.{Gate}
use Rattle.weaving.specs.Labels.{free, held, Store, has_label, slot_of, give_back, hand_out, labelled, left, step, entered_on, label_of, stored}

-- a test, with what it says
pub data Known (b : Bool) : Type 0 where
  on : b ≡ true → Known b
  off : b ≡ false → Known b

pub known : (b : Bool) → Known b
known true = on refl
known false = off refl

pub eqb_same : (n : ℕ) → eqb n n ≡ true
eqb_same n = eq-eqb n n refl

-- which places have a label
pub has_label_give_back : (p q : Place) (s : Store) → has_label p (give_back q s) ≡ (not (eqb p q) && has_label p s)
unfolding has_label give_back
has_label_give_back p q [] = sym (and-false (not (eqb p q)))
has_label_give_back p q (free ∷ s) = has_label_give_back p q s
has_label_give_back p q (held x ∷ s) =
    elim (known (eqb q x)) [
      | on b ↦ rw (b, has_label_give_back p q s, ← eqb-true q x b) (self (eqb p q) (has_label p s))
      | off b ↦ elim (known (eqb p q)) [
        | on c ↦ rw (b, has_label_give_back p q s, c, eqb-true p q c, b)
        | off c ↦ rw (b, has_label_give_back p q s, c)
      ]
    ]
  where
    self : (a b : Bool) → (not a && b) ≡ (not a && (a || b))
    self true b = refl
    self false b = refl

pub has_label_hand_out : (p q : Place) (s : Store) → has_label p (hand_out q s) ≡ (eqb p q || has_label p s)
unfolding has_label hand_out
has_label_hand_out p q [] = refl
has_label_hand_out p q (free ∷ s) = refl
has_label_hand_out p q (held x ∷ s) = rw (has_label_hand_out p q s) (swap (eqb p x) (eqb p q) (has_label p s))
  where
    swap : (a b c : Bool) → (a || (b || c)) ≡ (b || (a || c))
    swap true b c = sym (or-true b)
    swap false b c = refl

pub has_label_labelled : (p q : Place) (s : Store) → has_label p (labelled q s) ≡ (eqb p q || has_label p s)
unfolding labelled
has_label_labelled p q s =
    elim (known (has_label q s)) [
      | on e ↦ elim (known (eqb p q)) [ on b ↦ rw (e, b, eqb-true p q b) e | off b ↦ rw (e, b) ]
      | off e ↦ rw e (has_label_hand_out p q s)
    ]

-- which slot a place holds
pub slot_of_give_back : (p q : Place) (s : Store) → p ≢ q → slot_of p (give_back q s) ≡ slot_of p s
unfolding slot_of give_back
slot_of_give_back p q [] h = refl
slot_of_give_back p q (free ∷ s) h = ap suc (slot_of_give_back p q s h)
slot_of_give_back p q (held x ∷ s) h =
    elim (known (eqb q x)) [
      | on b ↦ rw (b, ← eqb-true q x b, ne_eqb p q h) (ap suc (slot_of_give_back p q s h))
      | off b ↦ rw (b, slot_of_give_back p q s h)
    ]

slot_of_hand_out : (p q : Place) (s : Store) → p ≢ q → has_label p s ≡ true → slot_of p (hand_out q s) ≡ slot_of p s
unfolding has_label slot_of hand_out
slot_of_hand_out p q [] h k = absurd (false≢true k)
slot_of_hand_out p q (free ∷ s) h k = rw (ne_eqb p q h)
slot_of_hand_out p q (held x ∷ s) h k =
    elim (known (eqb p x)) [ on b ↦ rw b | off b ↦ rw b (ap suc (slot_of_hand_out p q s h (rw b at k))) ]

pub slot_of_labelled : (p q : Place) (s : Store) → has_label p s ≡ true → slot_of p (labelled q s) ≡ slot_of p s
unfolding labelled
slot_of_labelled p q s k =
    elim (known (has_label q s)) [
      | on e ↦ rw e
      | off e ↦ rw e (slot_of_hand_out p q s (λ h. true≢false (sym k ∙ rw h e)) k)
    ]

pub slot_of_below : (p : Place) (s : Store) → has_label p s ≡ true → slot_of p s < length s
unfolding has_label slot_of
slot_of_below p [] h = absurd (false≢true h)
slot_of_below p (free ∷ s) h = omega (arith, slot_of_below p s h)
slot_of_below p (held q ∷ s) h =
    elim (known (eqb p q)) [ on b ↦ rw b (omega arith) | off b ↦ rw b (omega (arith, slot_of_below p s (rw b at h))) ]

-- a place without a label stands nowhere among the slots, so the second place need not have one
slot_of_injective : (p q : Place) (s : Store) → has_label p s ≡ true → slot_of p s ≡ slot_of q s → p ≡ q
unfolding has_label slot_of
slot_of_injective p q [] h e = absurd (false≢true h)
slot_of_injective p q (free ∷ s) h e = slot_of_injective p q s h (suc_inj e)
slot_of_injective p q (held x ∷ s) h e =
    elim (known (eqb p x)) [
      | on b ↦ elim (known (eqb q x)) [
        | on c ↦ eqb-true p x b ∙ sym (eqb-true q x c)
        | off c ↦ absurd (suc-ne-zero (slot_of q s) (sym (rw (b, c) at e)))
      ]
      | off b ↦ elim (known (eqb q x)) [
        | on c ↦ absurd (suc-ne-zero (slot_of p s) (rw (b, c) at e))
        | off c ↦ slot_of_injective p q s (rw b at h) (suc_inj (rw (b, c) at e))
      ]
    ]

pub label_of_injective : (p q : Place) (s : Store) → has_label p s ≡ true → label_of p s ≡ label_of q s → p ≡ q
label_of_injective p q s h e = slot_of_injective p q s h (omega arith)

-- a place that comes when the holder of the first slot has left gets the first slot
pub slot_of_first : (b p : Place) (s : Store) → has_label b s ≡ true → slot_of b s ≡ 0
    → slot_of p (hand_out p (give_back b s)) ≡ 0
unfolding has_label slot_of hand_out give_back
slot_of_first b p [] h e = absurd (false≢true h)
slot_of_first b p (free ∷ s) h e = absurd (suc-ne-zero (slot_of b s) e)
slot_of_first b p (held x ∷ s) h e =
    elim (known (eqb b x)) [ on c ↦ rw (c, eqb_same p) | off c ↦ absurd (suc-ne-zero (slot_of b s) (rw c at e)) ]

-- what a gate does: every place but its own keeps its label, and its two places have one
pub has_label_left : (p k : Place) (s : Store) → p ≢ k → has_label p (left k s) ≡ has_label p s
has_label_left p zero s h = refl
has_label_left p (suc k) s h = has_label_give_back p (suc k) s ∙ rw (ne_eqb p (suc k) h)

pub has_label_step : (p : Place) (g : Gate) (s : Store)
    → has_label p (step g s) ≡ ((eqb p g.true_place || eqb p g.false_place) || has_label p (left g.number s))
unfolding step
has_label_step p g s =
    elim (known (eqb p g.true_place)) [ on b ↦ simp (has_label_labelled, b, or-true) | off b ↦ simp (has_label_labelled, b) ]

pub has_label_true : (g : Gate) (s : Store) → has_label g.true_place (step g s) ≡ true
has_label_true g s = has_label_step g.true_place g s ∙ rw (eqb_same g.true_place)

pub has_label_false : (g : Gate) (s : Store) → has_label g.false_place (step g s) ≡ true
has_label_false g s = has_label_step g.false_place g s ∙ rw (eqb_same g.false_place, or-true)

-- a place that has a label in z, the one that it had in s
pub record Kept (p : Place) (s z : Store) : Type 0 where
  pub still : has_label p z ≡ true
  pub alike : slot_of p z ≡ slot_of p s

kept_labelled : {p : Place} {s z : Store} (q : Place) → Kept p s z → Kept p s (labelled q z)
kept_labelled {p} {s} {z} q k =
    record { still = has_label_labelled p q z ∙ rw (k.still, or-true); alike = slot_of_labelled p q z k.still ∙ k.alike }

pub kept_step : (p : Place) (g : Gate) (s : Store) → p ≢ g.number → has_label p s ≡ true → Kept p s (step g s)
unfolding step
kept_step p g s h k =
    kept_labelled _ (kept_labelled _ (record { still = has_label_left p g.number s h ∙ k; alike = slot_of_left g.number h }))
  where
    slot_of_left : (n : Place) → p ≢ n → slot_of p (left n s) ≡ slot_of p s
    slot_of_left zero h = refl
    slot_of_left (suc n) h = slot_of_give_back p (suc n) s h

-- a gate after the first is entered on the label that it has, and gives it back
pub entered_later : (k : Place) (s : Store) → 0 < k → entered_on k s ≡ label_of k s
entered_later zero s h = absurd (not-suc-le-zero h)
entered_later (suc k) s h = refl

pub left_later : (k : Place) (s : Store) → 0 < k → left k s ≡ give_back k s
left_later zero s h = absurd (not-suc-le-zero h)
left_later (suc k) s h = refl

pub stored-append : (xs ys : List Gate) (s : Store) → stored (xs ++ ys) s ≡ stored ys (stored xs s)
unfolding stored
stored-append [] ys s = refl
stored-append (g ∷ xs) ys s = stored-append xs ys (step g s)
