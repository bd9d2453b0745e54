-- A row's first cost is the greatest, since each cost is put before the first that is not greater; and the first place where two
-- rows differ decides, so the smaller row's first cost is not the greater. Assumes nothing.
use Prim.Native.Nat.{ℕ, suc, ◌≤◌, ◌<◌, max}
use mathlib.Core.Path.{◌≡◌, refl, sym, ◌∙◌}
use mathlib.Core.Bool.{true, false, true≢false}
use mathlib.Core.List.{List, [], ◌∷◌}
use native.Mathlib.Decide.{dec_lt}
use native.Mathlib.Omega.{arith}
use lib.ListN.{length}
use Rattle.formula.specs.Occurrences.{times_of}
use borrow.Author.Tests.{lt-ltb, le-ltb, eq-eqb, ne_eqb}
use Rattle.formula.specs.Formula.{Kind}
use Rattle.turning.specs.Tags.{Tag, priced, inserted, row, smaller, greatest}
use Rattle.turning.specs.Turning.{exchanges}

-- the first cost of a row, or nought
abbrev pub first : List ℕ → ℕ
first [] = 0
first (c ∷ s) = c

-- a row whose largest stands first, and so on
unfoldable pub Falling : List ℕ → Type 0
Falling [] = Unit {0}
Falling (c ∷ s) = (first s ≤ c) × Falling s

-- a cost stands behind one that is greater, and before any other
inserted_cases : (P : List ℕ → Type 0) (c d : ℕ) (s : List ℕ) → (c < d → P (d ∷ inserted c s)) → (d ≤ c → P (c ∷ d ∷ s)) →
    P (inserted c (d ∷ s))
unfolding inserted
inserted_cases P c d s after before =
    elim (dec_lt c d) [ yes h ↦ rw (lt-ltb c d h) (after h) | no h ↦ rw (le-ltb c d (omega arith)) (before (omega arith)) ]

first_inserted : (c : ℕ) (s : List ℕ) → first (inserted c s) ≡ max c (first s)
unfolding inserted
first_inserted c [] = omega arith
first_inserted c (d ∷ s) = inserted_cases (λ z. first z ≡ max c d) c d s (λ h. omega arith) (λ h. omega arith)

falling_inserted : (c : ℕ) (s : List ℕ) → Falling s → Falling (inserted c s)
unfolding inserted Falling
falling_inserted c [] p = (omega arith, tt)
falling_inserted c (d ∷ s) p =
    inserted_cases Falling c d s (λ h. (omega (arith, first_inserted c s), falling_inserted c s p.1)) (λ h. (h, p))

times_inserted : (i c : ℕ) (s : List ℕ) → times_of i (inserted c s) ≡ times_of i (c ∷ s)
unfolding inserted times_of
times_inserted i c [] = refl
times_inserted i c (d ∷ s) =
    inserted_cases (λ z. times_of i z ≡ times_of i (c ∷ d ∷ s)) c d s (λ h. omega (arith, times_inserted i c s)) (λ h. refl)

length_inserted : (c : ℕ) (s : List ℕ) → length (inserted c s) ≡ suc (length s)
unfolding inserted
length_inserted c [] = refl
length_inserted c (d ∷ s) =
    inserted_cases (λ z. length z ≡ suc (suc (length s))) c d s (λ h. omega (arith, length_inserted c s)) (λ h. refl)

-- "The three costs are put in order, largest first"
pub falling_row : (t : Tag) → Falling (row t)
unfolding row Falling
falling_row t = falling_inserted t.c1 _ (falling_inserted t.c2 _ (falling_inserted t.c3 [] tt))

pub times_row : (i : ℕ) (t : Tag) → times_of i (row t) ≡ times_of i (t.c1 ∷ t.c2 ∷ t.c3 ∷ [])
unfolding row times_of
times_row i t = rw (times_inserted i t.c1, times_inserted i t.c2, times_inserted i t.c3)

pub length-row : (t : Tag) → length (row t) ≡ 3
unfolding row
length-row t = rw (length_inserted t.c1, length_inserted t.c2, length_inserted t.c3)

pub first_row : (t : Tag) → first (row t) ≡ greatest t
unfolding row
first_row t = rw (first_inserted t.c1, first_inserted t.c2, first_inserted t.c3) (omega arith)

-- "compared place by place"
pub smaller_less : (c d : ℕ) (s t : List ℕ) → c < d → smaller (c ∷ s) (d ∷ t) ≡ true
unfolding smaller
smaller_less c d s t h = rw (lt-ltb c d h)

pub smaller_same : (c : ℕ) (s t : List ℕ) → smaller (c ∷ s) (c ∷ t) ≡ smaller s t
unfolding smaller
smaller_same c s t = rw (le-ltb c c (omega arith), eq-eqb c c refl)

pub smaller_greater : (c d : ℕ) (s t : List ℕ) → d < c → smaller (c ∷ s) (d ∷ t) ≡ false
unfolding smaller
smaller_greater c d s t h = rw (le-ltb c d (omega arith), ne_eqb c d (λ e. omega arith))

pub smaller_irreflexive : (s : List ℕ) → smaller s s ≡ false
unfolding smaller
smaller_irreflexive [] = refl
smaller_irreflexive (c ∷ s) = smaller_same c s s ∙ smaller_irreflexive s

smaller_first : (s t : List ℕ) → 1 ≤ length s → first s < first t → smaller s t ≡ true
smaller_first [] t p h = absurd (omega arith)
smaller_first (c ∷ s) [] p h = absurd (omega arith)
smaller_first (c ∷ s) (d ∷ t) p h = smaller_less c d s t h

smaller-first-not : (s t : List ℕ) → first t < first s → smaller s t ≡ false
unfolding smaller
smaller-first-not [] t h = refl
smaller-first-not (c ∷ s) [] h = refl
smaller-first-not (c ∷ s) (d ∷ t) h = smaller_greater c d s t h

pub greatest_smaller : (s t : Tag) → smaller (row s) (row t) ≡ true → greatest s ≤ greatest t
greatest_smaller s t e =
    rw (← first_row s, ← first_row t)
    (elim (dec_lt (first (row t)) (first (row s))) [ yes h ↦ absurd (true≢false (sym e ∙ smaller-first-not _ _ h)) | no h ↦ omega arith ])

pub greatest-not-smaller : (s t : Tag) → smaller (row s) (row t) ≡ false → greatest t ≤ greatest s
greatest-not-smaller s t e =
    rw (← first_row s, ← first_row t)
    (elim (dec_lt (first (row s)) (first (row t)))
    [ yes h ↦ absurd (true≢false (sym (smaller_first _ _ (omega (arith, length-row s)) h) ∙ e)) | no h ↦ omega arith ])

module _ (k : Kind) (l r : Tag) where
  pub greatest_exchanged : exchanges k l r ≡ true → greatest (priced k r l) ≤ greatest (priced k l r)
  greatest_exchanged = greatest_smaller (priced k r l) (priced k l r)

  pub greatest_kept : exchanges k l r ≡ false → greatest (priced k l r) ≤ greatest (priced k r l)
  greatest_kept = greatest-not-smaller (priced k r l) (priced k l r)
