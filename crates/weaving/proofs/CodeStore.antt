-- The word of the store: a label's bit is set and cleared alone, and the zeros at the low end of the word reach to the lowest free
-- label; a store is known by its free labels. Assumes nothing.
use Prim.Native.Nat.{ℕ, ◌-◌, ◌^◌, ◌<◌}
use mathlib.Core.Path.{◌≡◌, sym, ap, ◌∙◌}
use mathlib.Core.Logic.{◌≢◌}
use mathlib.Core.Bool.{Bool, true, false, true≢false, and-false, and-true, or-true, or-false}
use native.Mathlib.Omega.{arith}
use lib.Dec.{ltb}
use lib.Bits.{bit_and, bit_or}
use lib.Count.{count_trailing_zeros}
use borrow.Author.Tests.{lt-ltb, ltb-true, ne_eqb}
use Rattle.terms.specs.Terms.{Label}
use Rattle.terms.specs.First.{First}
use Rattle.terms.specs.Code.Bits.{bit}
use Rattle.terms.proofs.Bits.{bit-set, bit_cleared, bit_of_all, trailing_first, bits_same}
use Rattle.weaving.specs.declared.label_store.Store.{Store}
use Rattle.weaving.specs.Code.Kept.{label_room, is_free, Free, SomeFree, Emptied, Changed}
use Rattle.weaving.proofs.Store.{on, off, known, eqb_same}

-- one bit was changed, and no other
changed : (st : Store) (w l : ℕ) (b : Bool) → l < label_room → bit w l ≡ b
    → ((m : Label) → m < label_room → m ≢ l → bit w m ≡ bit st.free m) → Changed st (record { free = w }) l b
changed st w l b within here others = record { here = rw (lt-ltb l label_room within) here; others = each }
  where
    each : (m : Label) → m ≢ l → is_free (record { free = w }) m ≡ is_free st m
    each m ne =
        elim (known (ltb m label_room)) [ on c ↦ rw c (others m (ltb-true m label_room c) ne) | off c ↦ rw c ]

pub taken : (st : Store) (l x : ℕ) → l < label_room → x ≡ 2 ^ l → Changed st (record { free = bit_and st.free (2 ^ label_room - 1 - x) }) l false
taken st l x within e =
    rw e
    (changed st _ l false within
    (bit_cleared label_room st.free l l within within ∙ rw (eqb_same l) (and-false (bit st.free l)))
    (λ m h ne. bit_cleared label_room st.free l m within h ∙ rw (ne_eqb m l ne) (and-true (bit st.free m))))

pub given_back : (st : Store) (l x : ℕ) → l < label_room → x ≡ 2 ^ l → Changed st (record { free = bit_or st.free x }) l true
given_back st l x within e =
    rw e
    (changed st _ l true within
    (bit-set st.free l l ∙ rw (eqb_same l) (or-true (bit st.free l)))
    (λ m h ne. bit-set st.free l m ∙ rw (ne_eqb m l ne) (or-false (bit st.free m))))

pub emptied : Emptied (record { free = 2 ^ label_room - 1 })
emptied = record { each = λ l h. rw (lt-ltb l label_room h) (bit_of_all label_room l h) }

-- two stores with the same free labels are one: a word has nothing but its bits
pub known_by_its_labels : (s t : Store) → s.free < 2 ^ label_room → t.free < 2 ^ label_room → ((l : Label) → is_free s l ≡ is_free t l) → s ≡ t
known_by_its_labels s t p q same =
    ap (λ (w : ℕ). record { free = w }) (bits_same label_room s.free t.free p q (λ l h. rw (lt-ltb l label_room h) at (same l)))

-- a free label, taken apart
pub free_within : (st : Store) (l : Label) → Free st l → l < label_room
free_within st l h =
    elim (known (ltb l label_room)) [ on b ↦ ltb-true l label_room b | off b ↦ absurd (true≢false (sym h ∙ rw b)) ]

free_bit : (st : Store) (l : Label) → Free st l → bit st.free l ≡ true
free_bit st l h = rw (lt-ltb l label_room (free_within st l h)) at h

pub lowest : (st : Store) → SomeFree st → First (Free st) (count_trailing_zeros label_room st.free)
lowest st some = record { here = rw (lt-ltb _ label_room within) first.here; none_before = λ j x h. first.none_before j x (free_bit st j h) }
  where
    first : First (λ i. bit st.free i ≡ true) (count_trailing_zeros label_room st.free)
    first = trailing_first label_room st.free some.label (free_within st some.label some.is) (free_bit st some.label some.is)

    not-past : ¬ (some.label < count_trailing_zeros label_room st.free)
    not-past h = first.none_before some.label h (free_bit st some.label some.is)

    within : count_trailing_zeros label_room st.free < label_room
    within = omega (arith, not-past, free_within st some.label some.is)
