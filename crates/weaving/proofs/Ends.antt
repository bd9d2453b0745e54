-- The gates of an expression give a label to the two places that it leads to and to no other place beyond it, and an
-- expression entered on the first label leaves that label to its true place. Assumes nothing.
use Prim.Native.Nat.{ℕ, suc, ◌+◌, ◌<◌, ◌≤◌}
use mathlib.Core.Path.{◌≡◌, refl, ◌∙◌}
use mathlib.Core.Logic.{◌≢◌}
use mathlib.Core.Bool.{Bool, true, false, cond, ◌||◌, or-true}
use mathlib.Core.List.{List, []}
use native.Mathlib.Omega.{arith}
use native.Mathlib.Nat.{le_refl}
use lib.Dec.{eqb}
use borrow.Author.Tests.{ne_eqb}
use Rattle.terms.specs.Terms.{Place, first_label}
use Rattle.formula.specs.Formula.{Kind, union, intersection, Expr, literal, join, literals}
use Rattle.weaving.specs.Gates.{Gate, true_end, false_end, same_kind}
use Rattle.weaving.specs.Twins.Gates.{gates_from}
use Rattle.weaving.specs.Labels.{Store, has_label, slot_of, hand_out, labelled, left, step, stored, last_store, weave}
use Rattle.weaving.proofs.Store.{eqb_same, has_label_left, has_label_labelled, has_label_step, Kept, kept_step, slot_of_labelled, slot_of_first, label_of_injective, left_later, stored-append}
use Rattle.weaving.proofs.Places.{literals_some, left_true, left_false, gates_join, gates_told}

pub has_label_beyond : (e : Expr) (b t f p : Place) (s : Store) → b + literals e ≤ p
    → has_label p (stored (gates_from e b t f) s) ≡ ((eqb p t || eqb p f) || has_label p s)
unfolding literals gates_from stored
has_label_beyond (literal x) b t f p s h = has_label_step p _ s ∙ rw (has_label_left p b s (omega arith))
has_label_beyond (join k l r) b t f p s h =
    let m : Place = b + literals l in
    let outside = ne_eqb p m (omega (arith, literals_some r)) in
    rw (
      gates_join k l r b t f,
      stored-append (gates_from l b (left_true k m t) (left_false k m f)) (gates_from r m t f) s,
      has_label_beyond r m t f p (stored (gates_from l b (left_true k m t) (left_false k m f)) s) (omega arith),
      has_label_beyond l b (left_true k m t) (left_false k m f) p s (omega arith),
      eqb-left (same_kind intersection k) m t outside,
      eqb-left (same_kind union k) m f outside,
    )
    (shared k (eqb p t) (eqb p f) (has_label p s))
  where
    eqb-left : (c : Bool) (m q : Place) → eqb p m ≡ false → eqb p (cond c m q) ≡ cond c false (eqb p q)
    eqb-left true m q h = h
    eqb-left false m q h = refl

    shared : (k : Kind) (a b c : Bool)
        → ((a || b) || ((cond (same_kind intersection k) false a || cond (same_kind union k) false b) || c)) ≡ ((a || b) || c)
    shared k true b c = refl
    shared k false true c = refl
    shared intersection false false c = refl
    shared union false false c = refl

pub has_label_on_true : (e : Expr) (b t f : Place) (s : Store) → b + literals e ≤ t
    → has_label t (stored (gates_from e b t f) s) ≡ true
has_label_on_true e b t f s h = has_label_beyond e b t f t s h ∙ rw (eqb_same t)

pub has_label_on_false : (e : Expr) (b t f : Place) (s : Store) → b + literals e ≤ f
    → has_label f (stored (gates_from e b t f) s) ≡ true
has_label_on_false e b t f s h = has_label_beyond e b t f f s h ∙ rw (eqb_same f, or-true)

-- when an operator's left child is done, the first gate of the right child has a label
pub has_label_right : (k : Kind) (l : Expr) (b t f : Place) (s : Store)
    → has_label (b + literals l) (stored (gates_from l b (left_true k (b + literals l) t) (left_false k (b + literals l) f)) s) ≡ true
has_label_right intersection l b t f s = has_label_on_true l b (b + literals l) f s (le_refl _)
has_label_right union l b t f s = has_label_on_false l b t (b + literals l) s (le_refl _)

-- a place beyond an expression keeps its label
kept_beyond : (e : Expr) (b t f p : Place) (s : Store) → b + literals e ≤ p → has_label p s ≡ true
    → Kept p s (stored (gates_from e b t f) s)
unfolding literals gates_from stored
kept_beyond (literal x) b t f p s h has = kept_step p _ s (omega arith) has
kept_beyond (join k l r) b t f p s h has =
    let m : Place = b + literals l in
    let xs : List Gate = gates_from l b (left_true k m t) (left_false k m f) in
    let x = kept_beyond l b (left_true k m t) (left_false k m f) p s (omega arith) has in
    let y = kept_beyond r m t f p (stored xs s) (omega arith) x.still in
    rw (gates_join k l r b t f, stored-append xs (gates_from r m t f) s) (record { still = y.still; alike = y.alike ∙ x.alike })

-- an expression entered on the first label leaves it to its true place, if that and the gates inside are new
first_to_true : (e : Expr) (b t f : Place) (s : Store) → b + literals e ≤ t → b + literals e ≤ f → t ≢ f
    → ((p : Place) → slot_of p (hand_out p (left b s)) ≡ 0)
    → has_label t s ≡ false → ((p : Place) → b < p → p < b + literals e → has_label p s ≡ false)
    → slot_of t (stored (gates_from e b t f) s) ≡ 0
unfolding literals gates_from stored step labelled
first_to_true (literal x) b t f s ht hf tf first new inner =
    slot_of_labelled t f _ (has_label_labelled t t (left b s) ∙ rw (eqb_same t))
    ∙ rw (has_label_left t b s (omega arith) ∙ new) (first t)
first_to_true (join intersection l r) b t f s ht hf tf first new inner =
    let m : Place = b + literals l in
    let z : Store = stored (gates_from l b m f) s in
    let here : slot_of m z ≡ 0 = first_to_true l b m f s (le_refl _) (omega arith) (omega (arith, literals_some r)) first
    (inner m (omega (arith, literals_some l)) (omega (arith, literals_some r))) (λ p x y. inner p x (omega arith)) in
    let others : (p : Place) → m < p → p ≢ f → has_label p s ≡ false → has_label p z ≡ false
    = λ p x y h. has_label_beyond l b m f p s (omega arith) ∙ rw (ne_eqb p m (omega arith), ne_eqb p f y, h) in
    rw (stored-append (gates_from l b m f) (gates_from r m t f) s)
    (first_to_true r m t f z (omega arith) (omega arith) tf
    (λ p. rw (left_later m z (omega (arith, literals_some l))) (slot_of_first m p z (has_label_right intersection l b t f s) here))
    (others t (omega (arith, literals_some r)) tf new)
    (λ p x y. others p x (omega arith) (inner p (omega arith) (omega arith))))
first_to_true (join union l r) b t f s ht hf tf first new inner =
    let m : Place = b + literals l in
    let z : Store = stored (gates_from l b t m) s in
    rw (stored-append (gates_from l b t m) (gates_from r m t f) s)
    ((kept_beyond r m t f t z (omega arith) (has_label_on_true l b t m s (omega arith))).alike
    ∙ first_to_true l b t m s (omega arith) (le_refl _) (omega (arith, literals_some r)) first new (λ p x y. inner p x (omega arith)))

-- the two ends have labels, and these differ
pub has_label_true_end : (e : Expr) → has_label (true_end (literals e)) (last_store e) ≡ true
has_label_true_end e = rw (gates_told e) (has_label_on_true e 0 _ _ [] (omega arith))

pub has_label_false_end : (e : Expr) → has_label (false_end (literals e)) (last_store e) ≡ true
has_label_false_end e = rw (gates_told e) (has_label_on_false e 0 _ _ [] (omega arith))

pub ends_differ : (e : Expr) → (weave e).true_label ≢ (weave e).false_label
unfolding weave
ends_differ e h =
    apart (literals e)
    (label_of_injective (true_end (literals e)) (false_end (literals e)) (last_store e) (has_label_true_end e) h)
  where
    apart : (n : ℕ) → n ≡ suc n → ⊥
    apart n h = omega arith

-- "True would not carry 0": it does
pub true_label_first : (e : Expr) → (weave e).true_label ≡ first_label
unfolding weave has_label slot_of hand_out
true_label_first e =
    rw (
      gates_told e,
      first_to_true e 0 (true_end (literals e)) (false_end (literals e)) [] (omega arith) (omega arith) (omega arith)
          (λ p. rw (eqb_same p)) refl (λ p x y. refl),
    )
