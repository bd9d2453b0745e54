-- The label that the page hands out is the number of zeros at the low end of the word that keeps its store: both are the first that is
-- free. Assumes nothing.
use Prim.Native.Nat.{ℕ, zero, suc, ◌<◌, ◌≤◌}
use mathlib.Core.Path.{◌≡◌, ap, ◌∙◌}
use mathlib.Core.Bool.{true, false, true≢false, false≢true}
use mathlib.Core.List.{List, [], ◌∷◌}
use native.Mathlib.Omega.{arith}
use native.Mathlib.Nat.{zero-add}
use lib.Dec.{eqb}
use lib.ListN.{length, get_or}
use lib.Count.{count_trailing_zeros}
use Rattle.terms.specs.Terms.{Place, most_labels}
use Rattle.weaving.specs.declared.label_store.Store as coded
use Rattle.weaving.specs.Labels.{free, held, Store, has_label, slot_of, label_of, hand_out}
use Rattle.weaving.specs.Code.Kept.{label_room, slot_free, Keeps}
use Rattle.weaving.proofs.Store.{on, off, known, eqb_same}
use Rattle.weaving.proofs.CodeStore.{lowest}
use Rattle.weaving.proofs.CodeKeep.{some_free, first_free, held_before}

-- a place that has no label gets the first free slot
slot_handed : (p : Place) (s : Store) (r : ℕ) → has_label p s ≡ false → slot_free (get_or s r free) ≡ true
    → ((j : ℕ) → j < r → slot_free (get_or s j free) ≡ false) → slot_of p (hand_out p s) ≡ r
unfolding has_label slot_of hand_out
slot_handed p [] zero h here before = rw (eqb_same p)
slot_handed p [] (suc r) h here before = absurd (true≢false (before 0 (omega arith)))
slot_handed p (free ∷ s) zero h here before = rw (eqb_same p)
slot_handed p (free ∷ s) (suc r) h here before = absurd (true≢false (before 0 (omega arith)))
slot_handed p (held q ∷ s) zero h here before = absurd (false≢true here)
slot_handed p (held q ∷ s) (suc r) h here before =
    elim (known (eqb p q)) [
      | on b ↦ absurd (true≢false (rw b at h))
      | off b ↦ rw b (ap suc (slot_handed p s r (rw b at h) here (λ j x. before (suc j) (omega arith))))
    ]

pub handed_by_zeros : (st : coded.Store) (hs : List ℕ) (s : Store) (p : Place) → Keeps st hs s → length s ≤ most_labels → has_label p s ≡ false
    → label_of p (hand_out p s) ≡ count_trailing_zeros label_room st.free
handed_by_zeros st hs s p k few none =
    let first = lowest st (some_free st hs s k few) in
    zero-add _ ∙ slot_handed p s (count_trailing_zeros label_room st.free) none (first_free st hs s k _ first) (held_before st hs s k _ first)
