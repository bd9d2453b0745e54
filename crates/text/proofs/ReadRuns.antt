-- Runs of digits and their count, place by place; and what it means that a search finds nothing.
-- Assumes nothing.
use Prim.Native.Nat.{ℕ, ◌+◌, ◌*◌, ◌≤◌, ◌<◌}
use mathlib.Core.Path.{◌≡◌, sym, ap}
use mathlib.Core.Bool.{Bool, true, false, ◌||◌}
use mathlib.Core.Option.{none}
use mathlib.Core.List.{List}
use native.Mathlib.Numerals.{add-one}
use native.Mathlib.Omega.{arith}
use lib.Dec.{ltb}
use lib.ListN.{length, get_or}
use borrow.Author.Tests.{ltb-false}
use Rattle.terms.specs.Terms.{greatest_primitive}
use Rattle.grammar.specs.declared.Sign.TheVariants.{Digit}
use Rattle.grammar.specs.Bytes.{is_digit, numeral_from, numeral}
use Rattle.grammar.specs.Twins.Places.{sign_at, no_digit_before, run_at, runs_before, bad_run_at, bad_run}
use Rattle.text.proofs.ReadSigns.{clash}
use Rattle.text.proofs.ScanBad.{digit_value, run_digit}
use Rattle.text.proofs.ScanFirst.{none_found}

module _ (text : List ℕ) (i : ℕ) where
  pub runs_kept : is_digit (sign_at text i) ≡ false → runs_before text (i + 1) ≡ runs_before text i
  unfolding runs_before
  runs_kept e = rw (add-one, e) (omega arith)

  pub runs_start : is_digit (sign_at text i) ≡ true → no_digit_before text i ≡ true → runs_before text (i + 1) ≡ runs_before text i + 1
  unfolding runs_before
  runs_start e c = rw (add-one i, e, c)

  pub runs_inside : is_digit (sign_at text i) ≡ true → no_digit_before text i ≡ false → runs_before text (i + 1) ≡ runs_before text i
  unfolding runs_before
  runs_inside e c = rw (add-one, e, c) (omega arith)

  pub clear_after : is_digit (sign_at text i) ≡ false → no_digit_before text (i + 1) ≡ true
  clear_after e = rw (add-one, e)

  pub digit_after : is_digit (sign_at text i) ≡ true → no_digit_before text (i + 1) ≡ false
  digit_after e = rw (add-one, e)

-- a run of digits that refusal 3 lets pass has a small value
pub number_small : (text : List ℕ) (i : ℕ) → bad_run text ≡ none → i < length text → is_digit (sign_at text i) ≡ true → no_digit_before text i ≡ true
    → numeral (run_at text i) ≤ greatest_primitive
number_small text i b h d c = small (ltb 4 (length (run_at text i))) (rw (d, c) at (none_found (bad_run_at text) 0 (length text) b i (omega arith) (omega arith)))
  where
    small : (t : Bool) → (t || ltb greatest_primitive (numeral (run_at text i))) ≡ false → numeral (run_at text i) ≤ greatest_primitive
    small true e = absurd (clash (sym e))
    small false e = ltb-false greatest_primitive (numeral (run_at text i)) e

-- one digit of a run, and the value with it
pub numeral_step : (text : List ℕ) (i v : ℕ) {d : ℕ} → i < length text → sign_at text i ≡ Digit d
    → numeral_from v (run_at text i) ≡ numeral_from (10 * v + d) (run_at text (i + 1))
unfolding numeral_from
numeral_step text i v h here = rw (run_digit text i h (ap is_digit here), digit_value (get_or text i 0) here)
