-- Numbers counted: where the one beyond the most literals stands, as a chain over the places of a text finds it.
-- Assumes nothing.
use Prim.Native.Nat.{ℕ, zero, suc, ◌+◌, ◌≤◌, ◌<◌}
use mathlib.Core.Path.{◌≡◌, refl, ◌∙◌}
use mathlib.Core.Bool.{false}
use mathlib.Core.Option.{none}
use mathlib.Core.List.{List}
use native.Mathlib.Numerals.{add-one}
use native.Mathlib.Omega.{arith}
use lib.Dec.{leb}
use lib.ListN.{length}
use borrow.Author.Tests.{leb-true, leb-false, eqb-false, eq-eqb, ne_eqb}
use Rattle.std.specs.List.{filter, slice_get, range_with_len}
use Rattle.terms.specs.Terms.{most_literals}
use Rattle.terms.specs.First.{first_from}
use Rattle.grammar.specs.Twins.Places.{run_starts, runs_before, surplus_at, surplus}
use Rattle.text.specs.Code.Found.{found_as}
use Rattle.text.proofs.ScanFirst.{first_start, first_skipped, first_end, none_found}
use Rattle.text.proofs.ScanTests.{by_test}

-- with m numbers to pass before the one beyond the most literals, it is the one behind those
surplus_in_range : (text : List ℕ) (m i n : ℕ) → m + runs_before text i ≡ most_literals
    → found_as (slice_get (filter (run_starts text) (range_with_len i n)) m) ≡ first_from (surplus_at text) i n
unfolding first_from runs_before
surplus_in_range text m i zero h = refl
surplus_in_range text zero i (suc n) h =
    by_test (run_starts text i) (λ e. rw (e, eq-eqb (runs_before text i) most_literals (omega (arith, h))))
    (λ e. rw (e, add-one) (surplus_in_range text zero (suc i) n (rw e (omega (arith, h)))))
surplus_in_range text (suc m) i (suc n) h =
    by_test (run_starts text i)
    (λ e.
    rw (e, ne_eqb (runs_before text i) most_literals (λ s. omega (arith, h, s)), add-one)
    (surplus_in_range text m (suc i) n (rw e (omega (arith, h)))))
    (λ e. rw (e, add-one) (surplus_in_range text (suc m) (suc i) n (rw e (omega (arith, h)))))

pub surplus_found : (text : List ℕ) → found_as (slice_get (filter (run_starts text) (range_with_len 0 (length text))) most_literals) ≡ surplus text
unfolding runs_before
surplus_found text = surplus_in_range text most_literals 0 (length text) (omega arith)

-- the count only rises
pub runs_up : (text : List ℕ) (i n : ℕ) → i ≤ n → runs_before text i ≤ runs_before text n
unfolding runs_before
runs_up text i zero h =
    let e : i ≡ 0 = omega arith in
    rw e (omega arith)
runs_up text i (suc n) h =
    by_test (leb i n) (λ e. omega (arith, runs_up text i n (leb-true i n e)))
    (λ e.
    let same : i ≡ suc n = omega (arith, leb-false i n e) in
    rw same (omega arith))

-- where no number stands beyond the most literals, there are no more of them
not_crowded : (text : List ℕ) (n : ℕ) → n ≤ length text → surplus text ≡ none → runs_before text n ≤ most_literals
unfolding runs_before
not_crowded text zero h e = omega arith
not_crowded text (suc n) h e =
    let up = not_crowded text n (omega arith) e in
    let here = none_found (surplus_at text) 0 (length text) e n (omega arith) (omega arith) in
    by_test (run_starts text n)
    (λ t. let other = eqb-false (runs_before text n) most_literals (rw t at here) in rw t (omega arith))
    (λ t. rw t (omega arith))

pub few_numbers : (text : List ℕ) → surplus text ≡ none → runs_before text (length text) ≤ most_literals
few_numbers text e = not_crowded text (length text) (omega arith) e

-- and a text with no more numbers than the most literals has none beyond them
surplus_nowhere : (text : List ℕ) → runs_before text (length text) ≤ most_literals → (i : ℕ) → i < length text → surplus_at text i ≡ false
unfolding runs_before
surplus_nowhere text few i h =
    by_test (run_starts text i)
    (λ e. rw e (ne_eqb (runs_before text i) most_literals (λ m. omega (arith, rw e at (runs_up text (suc i) (length text) h)))))
    (λ e. rw e)

pub surplus_none : (text : List ℕ) → runs_before text (length text) ≤ most_literals → surplus text ≡ none
surplus_none text few =
    let n = length text in
    first_start (surplus_at text) n
    ∙ first_skipped (surplus_at text) n n 0 (λ j p q. surplus_nowhere text few j (omega arith))
    ∙ first_end (surplus_at text) (0 + n) n (omega arith)
