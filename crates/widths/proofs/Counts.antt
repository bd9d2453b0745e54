-- A place that is counted besides raises a count by one, if it was not among the places counted: the numbers below it are counted
-- as before, and so are those above. Assumes nothing.
use Prim.Native.Nat.{ℕ, zero, suc, ◌≤◌, ◌<◌}
use mathlib.Core.Path.{◌≡◌, refl}
use mathlib.Core.Bool.{Bool, true, false, cond, ◌||◌}
use native.Mathlib.Decide.{ℕ_discrete}
use native.Mathlib.Omega.{arith}
use lib.Dec.{eqb}
use borrow.Author.Tests.{eq-eqb, ne_eqb}
use Rattle.weaving.specs.Awaited.{count_below}

count_before : (s : ℕ) (test : ℕ → Bool) (n : ℕ) → n ≤ s → count_below (λ p. eqb p s || test p) n ≡ count_below test n
unfolding count_below
count_before s test zero h = refl
count_before s test (suc n) h = rw (ne_eqb n s (λ e. omega arith), count_before s test n (omega arith))

cond_twice : (a : Bool) (c : ℕ) → suc c ≡ cond a (cond a (suc c) c) (suc (cond a (suc c) c))
cond_twice true c = refl
cond_twice false c = refl

cond_cross : (a b : Bool) (c : ℕ) → cond a (suc (cond b c (suc c))) (cond b c (suc c)) ≡ cond b (cond a (suc c) c) (suc (cond a (suc c) c))
cond_cross true true c = refl
cond_cross true false c = refl
cond_cross false true c = refl
cond_cross false false c = refl

-- one place more, if it was not among them
pub count-or : (s : ℕ) (test : ℕ → Bool) (n : ℕ) → s < n →
    count_below (λ p. eqb p s || test p) n ≡ cond (test s) (count_below test n) (suc (count_below test n))
unfolding count_below
count-or s test zero h = absurd (omega arith)
count-or s test (suc n) h =
    elim (ℕ_discrete n s) [
      | yes e ↦ rw (eq-eqb n s e, count_before s test n (omega arith), e) (cond_twice (test s) (count_below test s))
      | no ne ↦ rw (ne_eqb n s ne, count-or s test n (omega arith)) (cond_cross (test n) (test s) (count_below test n))
    ]

pub count_none : (n : ℕ) → count_below (λ p. false) n ≡ 0
unfolding count_below
count_none zero = refl
count_none (suc n) = count_none n
