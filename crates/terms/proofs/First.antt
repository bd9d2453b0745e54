-- The search for the first number that passes a test finds the first of those that have what is tested, since it tries them in order.
-- Assumes nothing.
use Prim.Native.Nat.{ℕ, zero, suc, ◌+◌, ◌≤◌, ◌<◌}
use native.Mathlib.Omega.{arith}
use native.Mathlib.Decide.{dec_le}
use mathlib.Core.Path.{◌≡◌, refl, sym, ◌∙◌, ap}
use mathlib.Core.Bool.{Bool, true, false, true≢false}
use mathlib.Core.Option.{Option, none, some}
use Rattle.terms.specs.First.{First, found, first_from, first_below}

-- the first of the n numbers from i on that passes the test is p
pub record FoundAt (test : ℕ → Bool) (i n p : ℕ) : Type 0 where
  pub from : i ≤ p
  pub below : p < i + n
  pub passes : test p ≡ true
  pub fails_before : (j : ℕ) → i ≤ j → j < p → test j ≡ false

-- from the number i on, or i itself
fails_next : {test : ℕ → Bool} {i : ℕ} {Q : ℕ → Type 0} → test i ≡ false → ((j : ℕ) → suc i ≤ j → Q j → test j ≡ false) → (j : ℕ) → i ≤ j → Q j → test j ≡ false
fails_next {test} {i} fails later j from q =
    elim (dec_le (suc i) j) [
      | yes h ↦ later j h q
      | no h ↦ let same : i ≡ j = omega arith in rw (← same) fails
    ]

-- what the search says, whichever it is
abbrev Found : (ℕ → Bool) → ℕ → ℕ → Option ℕ → Type 0
Found test i n none = (j : ℕ) → i ≤ j → j < i + n → test j ≡ false
Found test i n (some p) = FoundAt test i n p

found_next : (test : ℕ → Bool) (i n : ℕ) (o : Option ℕ) → test i ≡ false → Found test (suc i) n o → Found test i (suc n) o
found_next test i n none fails later = fails_next {test = test} {Q = λ j. j < i + suc n} fails (λ j h q. later j h (omega arith))
found_next test i n (some p) fails later =
    record { from = omega arith; below = omega arith; passes = later.passes; fails_before = fails_next {test = test} {Q = λ j. j < p} fails (λ j h q. later.fails_before j h q) }

pub first_from_found : (test : ℕ → Bool) (i n : ℕ) → Found test i n (first_from test i n)
unfolding first_from
first_from_found test i zero = λ j from below. absurd (omega arith)
first_from_found test i (suc n) = by_test (test i) refl (first_from_found test (suc i) n)
  where
    by_test : (t : Bool) → test i ≡ t → Found test (suc i) n (first_from test (suc i) n) → Found test i (suc n) (found t i (first_from test (suc i) n))
    by_test true is later = record { from = omega arith; below = omega arith; passes = is; fails_before = λ j from below. absurd (omega arith) }
    by_test false is later = found_next test i n (first_from test (suc i) n) is later

pub first_below_some : (test : ℕ → Bool) (n : ℕ) {p : ℕ} → first_below test n ≡ some p → FoundAt test 0 n p
first_below_some test n is = rw is at (first_from_found test 0 n)

pub first_below_none : (test : ℕ → Bool) (n : ℕ) → first_below test n ≡ none → (j : ℕ) → j < n → test j ≡ false
first_below_none test n is j below = (rw is at (first_from_found test 0 n)) j (omega arith) (omega arith)

pub first_unique : {P : ℕ → Type 0} {p q : ℕ} → First P p → First P q → p ≡ q
first_unique {P} {p} {q} a b =
    let not_after : ¬ (q < p) = λ h. a.none_before q h b.here in
    let not_before : ¬ (p < q) = λ h. b.none_before p h a.here in
    omega arith

-- the numbers below n that pass the test are those that have P
pub record Tests (P : ℕ → Type 0) (test : ℕ → Bool) (n : ℕ) : Type 0 where
  pub shows : (i : ℕ) → i < n → test i ≡ true → P i
  pub within : (i : ℕ) → P i → i < n
  pub finds : (i : ℕ) → P i → test i ≡ true

module _ {P : ℕ → Type 0} {test : ℕ → Bool} {n : ℕ} (tests : Tests P test n) where
  pub first_below_first : {p : ℕ} → first_below test n ≡ some p → First P p
  first_below_first {p} is =
      let at = first_below_some test n is in
      record { here = tests.shows p (omega arith) at.passes; none_before = λ j h holds. true≢false (sym (tests.finds j holds) ∙ at.fails_before j (omega arith) h) }

  pub first_below_nowhere : first_below test n ≡ none → (p : ℕ) → ¬ P p
  first_below_nowhere is p holds = true≢false (sym (tests.finds p holds) ∙ first_below_none test n is p (tests.within p holds))

  pub first_first_below : {p : ℕ} → First P p → first_below test n ≡ some p
  first_first_below {p} first = by_found (first_below test n) refl
    where
      by_found : (o : Option ℕ) → first_below test n ≡ o → o ≡ some p
      by_found none is = absurd (first_below_nowhere is p first.here)
      by_found (some q) is = ap some (first_unique (first_below_first is) first)

  pub nowhere_first_below : ((p : ℕ) → ¬ First P p) → first_below test n ≡ none
  nowhere_first_below nowhere = by_found (first_below test n) refl
    where
      by_found : (o : Option ℕ) → first_below test n ≡ o → o ≡ none
      by_found none is = refl
      by_found (some q) is = absurd (nowhere q (first_below_first is))
