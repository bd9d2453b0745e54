-- Left and right keep their sides in the positive form, so its literals are the typed numbers in their order; and each number of
-- a count stands in it once. Assumes nothing.
use Prim.Native.Nat.{ℕ, zero, suc, ◌+◌, ◌≤◌, ◌<◌}
use mathlib.Core.Path.{◌≡◌, refl, sym, ap, ap₂, ◌∙◌}
use mathlib.Core.Bool.{Bool}
use mathlib.Core.List.{List, ◌∷◌, ◌++◌}
use native.Mathlib.Nat.{zero-add, add-zero, suc-add, add-suc}
use native.Mathlib.Decide.{ℕ_discrete}
use native.Mathlib.Omega.{arith}
use lib.ListN.{length, length-append}
use borrow.Author.Tests.{eq-eqb, ne_eqb}
use Rattle.formula.specs.Formula.{Expr, literal, join, literals}
use Rattle.formula.specs.Typed.{Typed, number, complement, plus, times, minus, numbers, positive, negative}
use Rattle.formula.specs.Marks.{arranged}
use Rattle.formula.specs.Occurrences.{occurrences, counting, times_of}
use Rattle.formula.proofs.Marks.{times_arranged}

pub length-occurrences : (e : Expr) → length (occurrences e) ≡ literals e
unfolding occurrences literals
length-occurrences (literal x) = refl
length-occurrences (join k l r) = length-append (occurrences l) (occurrences r) ∙ ap₂ ◌+◌ (length-occurrences l) (length-occurrences r)

pub length-counting : (k n : ℕ) → length (counting k n) ≡ n
unfolding counting
length-counting k zero = refl
length-counting k (suc n) = ap suc (length-counting (suc k) n)

counting-append : (k n m : ℕ) → counting k n ++ counting (k + n) m ≡ counting k (n + m)
unfolding counting
counting-append k zero m = rw (add-zero k, zero-add m)
counting-append k (suc n) m = rw (suc-add n m, add-suc k n, ← suc-add k n) (ap (λ s. k ∷ s) (counting-append (suc k) n m))

joined_counting : (k n m : ℕ) {s t : List ℕ} → s ≡ counting k n → t ≡ counting (k + n) m → s ++ t ≡ counting k (n + m)
joined_counting k n m p q = ap₂ ◌++◌ p q ∙ counting-append k n m

mutual
  unfolding occurrences counting numbers positive negative

  pub occurrences_positive : (k : ℕ) (e : Typed) → occurrences (positive k e) ≡ counting k (numbers e)
  occurrences_positive k (number p) = refl
  occurrences_positive k (complement a) = occurrences_negative k a
  occurrences_positive k (plus a b) = joined_counting k (numbers a) (numbers b) (occurrences_positive k a) (occurrences_positive (k + numbers a) b)
  occurrences_positive k (times a b) = joined_counting k (numbers a) (numbers b) (occurrences_positive k a) (occurrences_positive (k + numbers a) b)
  occurrences_positive k (minus a b) = joined_counting k (numbers a) (numbers b) (occurrences_positive k a) (occurrences_negative (k + numbers a) b)

  pub occurrences_negative : (k : ℕ) (e : Typed) → occurrences (negative k e) ≡ counting k (numbers e)
  occurrences_negative k (number p) = refl
  occurrences_negative k (complement a) = occurrences_positive k a
  occurrences_negative k (plus a b) = joined_counting k (numbers a) (numbers b) (occurrences_negative k a) (occurrences_negative (k + numbers a) b)
  occurrences_negative k (times a b) = joined_counting k (numbers a) (numbers b) (occurrences_negative k a) (occurrences_negative (k + numbers a) b)
  occurrences_negative k (minus a b) = joined_counting k (numbers a) (numbers b) (occurrences_negative k a) (occurrences_positive (k + numbers a) b)

literals_counting : (k n : ℕ) (e : Expr) → occurrences e ≡ counting k n → literals e ≡ n
literals_counting k n e p = sym (length-occurrences e) ∙ ap length p ∙ length-counting k n

pub literals_positive : (k : ℕ) (e : Typed) → literals (positive k e) ≡ numbers e
literals_positive k e = literals_counting k _ _ (occurrences_positive k e)

pub times_before : (i k n : ℕ) → i < k → times_of i (counting k n) ≡ 0
unfolding times_of counting
times_before i k zero h = refl
times_before i k (suc n) h = rw (ne_eqb i k (λ e. omega arith), times_before i (suc k) n (omega arith))

pub times_counting : (i k n : ℕ) → k ≤ i → i < k + n → times_of i (counting k n) ≡ 1
unfolding times_of counting
times_counting i k zero p q = omega arith
times_counting i k (suc n) p q =
    elim (ℕ_discrete i k) [
      | yes e ↦ rw (eq-eqb i k e, times_before i (suc k) n (omega arith))
      | no ne ↦ rw (ne_eqb i k ne, times_counting i (suc k) n (omega arith) (omega arith))
    ]

-- in the positive form and in every arrangement of it each occurrence stands once
pub times_positive : (i : ℕ) (ms : List Bool) (e : Typed) → i < numbers e → times_of i (occurrences (arranged ms (positive 0 e))) ≡ 1
times_positive i ms e h = times_arranged i ms (positive 0 e) ∙ ap (times_of i) (occurrences_positive 0 e) ∙ times_counting i 0 _ (omega arith) (omega arith)
