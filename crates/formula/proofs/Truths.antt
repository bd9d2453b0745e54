-- Occurrences that all differ can be given any truths, one by one, since each is looked up where it stands and nowhere else.
-- Assumes nothing.
use Prim.Native.Nat.{ℕ, zero, suc, ◌≤◌}
use mathlib.Core.Path.{◌≡◌, refl, sym, ap, ap₂, ◌∙◌}
use mathlib.Core.Bool.{Bool, cond}
use mathlib.Core.List.{List, [], ◌∷◌, map}
use native.Mathlib.Decide.{ℕ_discrete}
use native.Mathlib.Omega.{arith}
use lib.Dec.{eqb}
use lib.ListN.{length}
use borrow.Author.Tests.{eq-eqb, ne_eqb}
use Rattle.formula.specs.Typed.{Typed, numbers, positive}
use Rattle.formula.specs.Marks.{arranged}
use Rattle.formula.specs.Occurrences.{occurrences, counting, times_of, truth_at}
use Rattle.formula.proofs.Marks.{literals_arranged, times_arranged}
use Rattle.formula.proofs.Occurrences.{length-occurrences, literals_positive, occurrences_positive, times_before}

map_absent : (f : ℕ → Bool) (j : ℕ) (t : Bool) (js : List ℕ) → times_of j js ≤ 0 → map (λ i. cond (eqb i j) t (f i)) js ≡ map f js
unfolding times_of
map_absent f j t [] h = refl
map_absent f j t (i ∷ js) h =
    elim (ℕ_discrete j i) [
      | yes e ↦ absurd (omega (arith, rw (eq-eqb j i e) at h))
      | no ne ↦ rw (ne_eqb i j (λ e. ne (sym e))) (ap (λ s. f i ∷ s) (map_absent f j t js (omega arith)))
    ]

map-truth_at : (is : List ℕ) (ts : List Bool) → length ts ≡ length is → ((i : ℕ) → times_of i is ≤ 1) → map (truth_at is ts) is ≡ ts
unfolding truth_at times_of
map-truth_at [] [] e h = refl
map-truth_at [] (t ∷ ts) e h = absurd (omega arith)
map-truth_at (j ∷ js) [] e h = absurd (omega arith)
map-truth_at (j ∷ js) (t ∷ ts) e h =
    ap₂ ◌∷◌ (rw (eq-eqb j j refl))
    (map_absent (truth_at js ts) j t js (omega (arith, rw (eq-eqb j j refl) at (h j))) ∙ map-truth_at js ts (omega arith) (λ i. omega (arith, h i)))

times_counting_le : (i k n : ℕ) → times_of i (counting k n) ≤ 1
unfolding times_of counting
times_counting_le i k zero = omega arith
times_counting_le i k (suc n) =
    elim (ℕ_discrete i k) [
      | yes e ↦ rw (eq-eqb i k e, times_before i (suc k) n (omega arith)) (omega arith)
      | no ne ↦ rw (ne_eqb i k ne) (omega (arith, times_counting_le i (suc k) n))
    ]

-- every row of truths, one for each literal from left to right, is what the occurrences are given by it
pub truths_given : (ms : List Bool) (e : Typed) (ts : List Bool) → length ts ≡ numbers e →
    map (truth_at (occurrences (arranged ms (positive 0 e))) ts) (occurrences (arranged ms (positive 0 e))) ≡ ts
truths_given ms e ts h =
    let turned = arranged ms (positive 0 e) in
    map-truth_at (occurrences turned) ts (h ∙ sym (length-occurrences turned ∙ literals_arranged ms (positive 0 e) ∙ literals_positive 0 e))
    (λ i. rw (times_arranged i ms (positive 0 e), occurrences_positive 0 e) (times_counting_le i 0 (numbers e)))
