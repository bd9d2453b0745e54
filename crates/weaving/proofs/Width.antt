-- After a gate the places that have labels are those awaited in the gap, and the store grows only when every slot is held,
-- so its length is the most awaited so far. Assumes nothing.
use Prim.Native.Nat.{ℕ, zero, suc, ◌<◌, ◌≤◌, max}
use mathlib.Core.Path.{◌≡◌, refl, sym, ap, ◌∙◌}
use mathlib.Core.Bool.{Bool, true, false, cond, not, ◌&&◌, ◌||◌, true≢false, and-false, or-false, or_assoc, or_comm}
use mathlib.Core.List.{List, [], ◌∷◌, ◌++◌}
use native.Mathlib.Omega.{arith}
use native.Mathlib.Nat.{le_refl, not-suc-le-zero}
use lib.Dec.{ltb, eqb}
use lib.ListN.{length, take, get_or}
use lib.Seq.{take-suc, take-length}
use borrow.Author.Tests.{eqb-true, eqb-false, ne_eqb, ltb-true, ltb-false, lt-ltb, le-ltb}
use Rattle.terms.specs.Terms.{Place}
use Rattle.formula.specs.Formula.{Expr}
use Rattle.weaving.specs.Gates.{Gate, false_end, gates}
use Rattle.weaving.specs.Awaited.{names, awaited, count_below, waiting, greatest_below, most_awaited}
use Rattle.weaving.specs.Labels.{free, held, Store, has_label, give_back, hand_out, labelled, left, step, stored, weave}
use Rattle.weaving.proofs.Store.{on, off, known, has_label_give_back, has_label_hand_out, has_label_step, stored-append}
use Rattle.weaving.proofs.Places.{Placed, gate_placed, length-gates}

-- how many labels are in use
unfoldable pub used : Store → ℕ
used [] = 0
used (free ∷ s) = used s
used (held q ∷ s) = suc (used s)

used_fits : (s : Store) → used s ≤ length s
unfolding used
used_fits [] = le_refl _
used_fits (free ∷ s) = omega (arith, used_fits s)
used_fits (held q ∷ s) = omega (arith, used_fits s)

used_hand_out : (p : Place) (s : Store) → used (hand_out p s) ≡ suc (used s)
unfolding used hand_out
used_hand_out p [] = refl
used_hand_out p (free ∷ s) = refl
used_hand_out p (held q ∷ s) = ap suc (used_hand_out p s)

-- a new slot is made only where every slot is held
length-hand_out : (p : Place) (s : Store) → length (hand_out p s) ≡ max (length s) (suc (used s))
unfolding used hand_out
length-hand_out p [] = refl
length-hand_out p (free ∷ s) = omega (arith, used_fits s)
length-hand_out p (held q ∷ s) = omega (arith, length-hand_out p s)

-- a place's label costs no more than what is in use afterwards
pub record Grown (s z : Store) : Type 0 where
  pub use_grows : used s ≤ used z
  pub length-is : length z ≡ max (length s) (used z)

pub grown_labelled : (p : Place) (s : Store) → Grown s (labelled p s)
unfolding labelled
grown_labelled p s =
    elim (known (has_label p s)) [
      | on e ↦ rw e (record { use_grows = le_refl _; length-is = omega (arith, used_fits s) })
      | off e ↦ let more = used_hand_out p s in
          rw e (record { use_grows = omega arith; length-is = omega (arith, length-hand_out p s) })
    ]

length-give_back : (p : Place) (s : Store) → length (give_back p s) ≡ length s
unfolding give_back
length-give_back p [] = refl
length-give_back p (free ∷ s) = ap suc (length-give_back p s)
length-give_back p (held q ∷ s) = ap suc (length-give_back p s)

pub length-left : (k : Place) (s : Store) → length (left k s) ≡ length s
length-left zero s = refl
length-left (suc k) s = length-give_back (suc k) s

pub length-step : (g : Gate) (s : Store) → length (step g s) ≡ max (length s) (used (step g s))
unfolding step
length-step g s =
    let x : Store = left g.number s in
    let y : Store = labelled g.true_place x in
    omega (arith, length-left g.number s, grown_labelled g.true_place x, grown_labelled g.false_place y)

-- no place holds two labels, and the places lie below n
pub data Distinct (n : Place) : Store → Type 0 where
  empty : Distinct n []
  skip : {s : Store} → Distinct n s → Distinct n (free ∷ s)
  with_holder : {q : Place} {s : Store} → q < n → has_label q s ≡ false → Distinct n s → Distinct n (held q ∷ s)

distinct_give_back : {n : Place} {s : Store} (p : Place) → Distinct n s → Distinct n (give_back p s)
unfolding give_back
distinct_give_back p empty = empty
distinct_give_back p (skip g) = skip (distinct_give_back p g)
distinct_give_back p (with_holder {q = q} {s = s} h k g) =
    elim (known (eqb p q)) [
      | on b ↦ rw b (skip (distinct_give_back p g))
      | off b ↦ rw b (with_holder h (has_label_give_back q p s ∙ rw k (and-false (not (eqb q p)))) (distinct_give_back p g))
    ]

distinct_hand_out : {n : Place} {s : Store} (p : Place) → p < n → has_label p s ≡ false → Distinct n s
    → Distinct n (hand_out p s)
unfolding has_label hand_out
distinct_hand_out p h k empty = with_holder h k empty
distinct_hand_out p h k (skip g) = with_holder h k g
distinct_hand_out p h k (with_holder {q = q} {s = s} a b g) =
    elim (known (eqb p q)) [
      | on c ↦ absurd (true≢false (rw c at k))
      | off c ↦ with_holder a
          (has_label_hand_out q p s ∙ rw (ne_eqb q p (λ x. eqb-false p q c (sym x))) b)
          (distinct_hand_out p h (rw c at k) g)
    ]

distinct_labelled : {n : Place} {s : Store} (p : Place) → p < n → Distinct n s → Distinct n (labelled p s)
unfolding labelled
distinct_labelled {n} {s} p h g =
    elim (known (has_label p s)) [ on e ↦ rw e g | off e ↦ rw e (distinct_hand_out p h e g) ]

distinct_left : {n : Place} {s : Store} (k : Place) → Distinct n s → Distinct n (left k s)
distinct_left zero g = g
distinct_left (suc k) g = distinct_give_back (suc k) g

pub distinct_step : {n k : Place} {s : Store} (g : Gate) → Placed n k g → Distinct n s → Distinct n (step g s)
unfolding step
distinct_step g p x =
    distinct_labelled g.false_place p.false_below
    (distinct_labelled g.true_place p.true_below (distinct_left g.number x))

-- counting the places that have labels
count_below_same : (f g : Place → Bool) (n : ℕ) → ((p : Place) → p < n → f p ≡ g p) → count_below f n ≡ count_below g n
unfolding count_below
count_below_same f g zero h = refl
count_below_same f g (suc n) h = rw (h n (le_refl _), count_below_same f g n (λ p x. h p (omega arith)))

count_below_more : (f : Place → Bool) (q : Place) (n : ℕ) → q < n → f q ≡ false
    → count_below (λ p. eqb p q || f p) n ≡ suc (count_below f n)
unfolding count_below
count_below_more f q zero h k = absurd (not-suc-le-zero h)
count_below_more f q (suc n) h k =
    elim (known (eqb n q)) [
      | on b ↦ rw (b, eqb-true n q b, k) (ap suc (count_below_same _ f q (λ p x. rw (ne_eqb p q (omega arith)))))
      | off b ↦ rw (b, count_below_more f q n (omega (arith, eqb-false n q b)) k) (shift (f n) (count_below f n))
    ]
  where
    shift : (c : Bool) (m : ℕ) → cond c (suc (suc m)) (suc m) ≡ suc (cond c (suc m) m)
    shift true m = refl
    shift false m = refl

count_below_none : (n : ℕ) → count_below (λ p. false) n ≡ 0
unfolding count_below
count_below_none zero = refl
count_below_none (suc n) = count_below_none n

count_used : {n : Place} {s : Store} → Distinct n s → count_below (λ p. has_label p s) n ≡ used s
unfolding used has_label
count_used {n} empty = count_below_none n
count_used (skip g) = count_used g
count_used {n} (with_holder {q = q} {s = s} h k g) = count_below_more (λ p. has_label p s) q n h k ∙ ap suc (count_used g)

-- taking one gate more
pub stored-suc : (gs : List Gate) (k : ℕ) (d : Gate) (s : Store) → k < length gs
    → stored (take (suc k) gs) s ≡ step (get_or gs k d) (stored (take k gs) s)
unfolding stored
stored-suc gs k d s h = rw (take-suc gs k d) (stored-append (take k gs) (get_or gs k d ∷ []) s)

names-append : (p : Place) (xs ys : List Gate) → names p (xs ++ ys) ≡ (names p xs || names p ys)
unfolding names
names-append p [] ys = refl
names-append p (g ∷ xs) ys =
    rw (names-append p xs ys, or_assoc (eqb p g.true_place || eqb p g.false_place) (names p xs) (names p ys))

names-suc : (gs : List Gate) (k p : Place) (d : Gate) → k < length gs
    → names p (take (suc k) gs) ≡ (names p (take k gs) || (eqb p (get_or gs k d).true_place || eqb p (get_or gs k d).false_place))
unfolding names
names-suc gs k p d h = rw (take-suc gs k d, names-append p (take k gs) (get_or gs k d ∷ []), or-false)

-- a gate adds its two places to those that are awaited
has_label_gap : {n k : Place} (g : Gate) (s : Store) (p : Place) (before : Bool) → Placed n k g
    → has_label p (left g.number s) ≡ (ltb k p && before)
    → has_label p (step g s) ≡ (ltb k p && (before || (eqb p g.true_place || eqb p g.false_place)))
has_label_gap {n} {k} g s p before q h =
    has_label_step p g s
    ∙ elim (known (ltb k p)) [
      | on b ↦ rw (h, b) (or_comm (eqb p g.true_place || eqb p g.false_place) before)
      | off b ↦ let x = ltb-false k p b in
          rw (h, b, ne_eqb p g.true_place (omega arith), ne_eqb p g.false_place (omega arith))
    ]

beyond_next : (k p : Place) (c : Bool) → (not (eqb p (suc k)) && (ltb k p && c)) ≡ (ltb (suc k) p && c)
beyond_next k p c =
    elim (known (ltb (suc k) p)) [
      | on b ↦ let x = ltb-true (suc k) p b in rw (b, ne_eqb p (suc k) (omega arith), lt-ltb k p (omega arith))
      | off b ↦ let x = ltb-false (suc k) p b in
          elim (known (eqb p (suc k))) [ on e ↦ rw (b, e) | off e ↦ rw (b, e, le-ltb k p (omega (arith, eqb-false p (suc k) e))) ]
    ]

module _ (gs : List Gate) (d : Gate) (placed : (k : Place) → k < length gs → Placed (suc (false_end (length gs))) k (get_or gs k d)) where
  gap_from_left : (k p : Place) → k < length gs
      → has_label p (left k (stored (take k gs) [])) ≡ (ltb k p && names p (take k gs))
      → has_label p (stored (take (suc k) gs) []) ≡ awaited gs k p
  unfolding awaited
  gap_from_left k p h e =
      rw (stored-suc gs k d [] h, names-suc gs k p d h)
      (has_label_gap (get_or gs k d) _ p (names p (take k gs)) (placed k h) (rw (placed k h).number e))

  -- the places that have labels after gate k are those awaited in the gap
  pub has_label_awaited : (k p : Place) → k < length gs → has_label p (stored (take (suc k) gs) []) ≡ awaited gs k p
  unfolding stored awaited names has_label
  has_label_awaited zero p h = gap_from_left zero p h (sym (and-false (ltb 0 p)))
  has_label_awaited (suc k) p h =
      gap_from_left (suc k) p h
      (has_label_give_back p (suc k) (stored (take (suc k) gs) [])
      ∙ rw (has_label_awaited k p (omega arith)) (beyond_next k p (names p (take (suc k) gs))))

  pub distinct_stored : (k : Place) → k ≤ length gs → Distinct (suc (false_end (length gs))) (stored (take k gs) [])
  unfolding stored
  distinct_stored zero h = empty
  distinct_stored (suc k) h = rw (stored-suc gs k d [] h) (distinct_step _ (placed k h) (distinct_stored k (omega arith)))

  used_waiting : (k : Place) → k < length gs → used (stored (take (suc k) gs) []) ≡ waiting gs k
  unfolding waiting
  used_waiting k h = sym (count_used (distinct_stored (suc k) h)) ∙ count_below_same _ _ _ (λ p x. has_label_awaited k p h)

  -- the labels handed out before gate k are as many as the most awaited up to there
  pub length-stored : (k : Place) → k ≤ length gs → length (stored (take k gs) []) ≡ greatest_below (waiting gs) k
  unfolding greatest_below stored
  length-stored zero h = refl
  length-stored (suc k) h =
      omega (
        arith,
        ap length (stored-suc gs k d [] h),
        ap used (stored-suc gs k d [] h),
        length-step (get_or gs k d) (stored (take k gs) []),
        length-stored k (omega arith),
        used_waiting k h,
      )

-- any gate, for what is read past the last
abbrev pub some_gate : Gate
some_gate =
    record { number = 0; literal = record { primitive = 0; sense = true; occurrence = 0 }; true_place = 0; false_place = 0 }

pub label_count_awaited : (e : Expr) → (weave e).label_count ≡ most_awaited (gates e)
unfolding weave most_awaited
label_count_awaited e =
    rw take-length at
    (length-stored (gates e) some_gate
    (λ k h. rw (length-gates e) (gate_placed e k some_gate (rw (length-gates e) at h)))
    (length (gates e))
    (le_refl _))

-- the first gate is awaited nowhere, so one place is left out
count_below_skips : (f : Place → Bool) (n : ℕ) → f 0 ≡ false → count_below f (suc n) ≤ n
unfolding count_below
count_below_skips f zero h = rw h (le_refl _)
count_below_skips f (suc n) h = one_more (f (suc n)) (count_below_skips f n h)
  where
    one_more : (c : Bool) → count_below f (suc n) ≤ n → cond c (suc (count_below f (suc n))) (count_below f (suc n)) ≤ suc n
    one_more true x = omega arith
    one_more false x = omega arith

greatest_below_fits : (f : ℕ → ℕ) (n m : ℕ) → ((i : ℕ) → f i ≤ m) → greatest_below f n ≤ m
unfolding greatest_below
greatest_below_fits f zero m h = omega arith
greatest_below_fits f (suc n) m h = omega (arith, greatest_below_fits f n m h, h n)
