-- The tests for a run of digits find the whole runs, since a run starts where a digit has none before it and goes on as far as digits do;
-- and the runs counted are the numbers of the text. Assumes nothing.
use Prim.Native.Nat.{ℕ, zero, suc, ◌+◌, ◌≤◌, ◌<◌}
use native.Mathlib.Omega.{arith}
use native.Mathlib.Decide.{dec_le}
use native.Mathlib.Nat.{add-zero}
use mathlib.Core.Path.{◌≡◌, refl, sym, ◌∙◌, ap}
use mathlib.Core.Bool.{Bool, true, false, not, ◌&&◌, true≢false, and-eq-true_iff}
use mathlib.Core.List.{List, [], ◌∷◌}
use lib.ListN.{length, get_or, drop, length-drop}
use lib.Seq.{drop-cons, get_or-drop, drop-length}
use borrow.Author.Tests.{not-true}
use Rattle.terms.proofs.First.{Tests}
use Rattle.formula.specs.Typed.{Typed, numbers}
use Rattle.grammar.specs.declared.Sign.{Sign}
use Rattle.grammar.specs.Bytes.{sign_of, is_digit}
use Rattle.grammar.specs.Grammar.{Blanks, Token, token, IsDigit, Digits, NoDigit, Number, run, Factor, numbered, parenthesised, Product, a_factor, by_times, Sum, a_product, by_plus, by_minus, Expression, a_sum, Derives, whole}
use Rattle.grammar.specs.Twins.Places.{sign_at, no_digit_before, run_starts, leading_digits, run_at, one_if, runs_before}
use Rattle.grammar.specs.Rows.{RunAt, Starts, NumberAt, first, next}
use Rattle.grammar.proofs.Signs.{is_digit_test, is_no_digit, digit_test, no_digit_test}

-- the digits that s begins with, as a run
record Leads (s : List ℕ) : Type 0 where
  rest : List ℕ
  digits : Digits s (leading_digits s) rest
  ends : NoDigit rest

leading_digits_run : (s : List ℕ) → Leads s
unfolding leading_digits
leading_digits_run [] = record { rest = []; digits = Digits.none; ends = NoDigit.at_end }
leading_digits_run (b ∷ s) = by_test (is_digit (sign_of b)) refl (leading_digits_run s)
  where
    by_test : (t : Bool) → is_digit (sign_of b) ≡ t → Leads s → Leads (b ∷ s)
    by_test true is later = record { rest = later.rest; digits = rw is (Digits.digit (digit_test is) later.digits); ends = later.ends }
    by_test false is later = record { rest = b ∷ s; digits = rw is Digits.none; ends = NoDigit.another (no_digit_test is) }

digits_leading : {s w rest : List ℕ} → Digits s w rest → NoDigit rest → leading_digits s ≡ w
unfolding leading_digits
digits_leading Digits.none NoDigit.at_end = refl
digits_leading Digits.none (NoDigit.another other) = rw (is_no_digit other)
digits_leading (Digits.digit {b} is more) ends = rw (is_digit_test is) (ap (λ (w : List ℕ). b ∷ w) (digits_leading more ends))

pub run_at_is : {text w : List ℕ} {i : ℕ} → RunAt text i w → run_at text i ≡ w
run_at_is at = digits_leading at.digits at.ends

-- a run has a first digit
digits_first : {s w rest : List ℕ} → Digits s w rest → 0 < length w → (0 < length s) × (is_digit (sign_of (get_or s 0 0)) ≡ true)
digits_first Digits.none h = absurd (omega arith)
digits_first (Digits.digit is more) h = (omega arith, is_digit_test is)

no_digit_before_test : (text : List ℕ) (i : ℕ) → ((j : ℕ) → suc j ≡ i → ¬ IsDigit (get_or text j 0)) → no_digit_before text i ≡ true
no_digit_before_test text zero starts = refl
no_digit_before_test text (suc i) starts = rw (is_no_digit (starts i refl))

test_no_digit_before : (text : List ℕ) (i : ℕ) → no_digit_before text i ≡ true → (j : ℕ) → suc j ≡ i → ¬ IsDigit (get_or text j 0)
test_no_digit_before text zero is j at = absurd (omega arith)
test_no_digit_before text (suc i) is j at = let same : j ≡ i = omega arith in rw same (no_digit_test (not-true (is_digit (sign_at text i)) is))

pub run_within : {text w : List ℕ} {i : ℕ} → RunAt text i w → i < length text
run_within {text} {i} at = omega (arith, length-drop i text, (digits_first at.digits at.some).0)

pub run_starts_at : {text w : List ℕ} {i : ℕ} → RunAt text i w → run_starts text i ≡ true
run_starts_at {text} {i} at =
    (and-eq-true_iff (is_digit (sign_at text i)) (no_digit_before text i)).1
    (rw (get_or-drop i text 0 0, add-zero i) at (digits_first at.digits at.some).1, no_digit_before_test text i at.starts)

pub run_at_starts : (text : List ℕ) (i : ℕ) → i < length text → run_starts text i ≡ true → RunAt text i (run_at text i)
unfolding leading_digits
run_at_starts text i within is =
    let both = (and-eq-true_iff (is_digit (sign_at text i)) (no_digit_before text i)).0 is in
    let leads = leading_digits_run (drop i text) in
    record {
      rest = leads.rest;
      some = rw (drop-cons text i 0 within, both.0) (omega arith);
      digits = leads.digits;
      ends = leads.ends;
      starts = test_no_digit_before text i both.1;
    }

pub starts_tests : (text : List ℕ) → Tests (Starts text) (run_starts text) (length text)
starts_tests text =
    record {
      shows = λ i within is. record { digits = run_at text i; run = run_at_starts text i within is };
      within = λ i starts. run_within starts.run;
      finds = λ i starts. run_starts_at starts.run;
    }

-- a run that starts is counted, and nothing else is
runs_before_start : (text : List ℕ) (i : ℕ) → run_starts text i ≡ true → runs_before text (suc i) ≡ suc (runs_before text i)
unfolding runs_before
runs_before_start text i is = rw is (omega arith)

runs_before_skip : (text : List ℕ) (i : ℕ) → run_starts text i ≡ false → runs_before text (suc i) ≡ runs_before text i
unfolding runs_before
runs_before_skip text i is = rw is (omega arith)

runs_before_next : (text : List ℕ) (i : ℕ) → runs_before text i ≤ runs_before text (suc i)
unfolding runs_before
runs_before_next text i = omega arith

runs_before_le : (text : List ℕ) (i j : ℕ) → i ≤ j → runs_before text i ≤ runs_before text j
runs_before_le text i zero h = let same : i ≡ 0 = omega arith in rw same (omega arith)
runs_before_le text i (suc j) h =
    elim (dec_le i j) [
      | yes k ↦ omega (arith, runs_before_le text i j k, runs_before_next text j)
      | no k ↦ let same : i ≡ suc j = omega arith in rw same (omega arith)
    ]

pub runs_before_lt : (text : List ℕ) (i j : ℕ) → run_starts text i ≡ true → i < j → runs_before text i < runs_before text j
runs_before_lt text i j is h = omega (arith, runs_before_start text i is, runs_before_le text (suc i) j h)

-- no run starts from i up to j: as many start before j as before i
runs_before_same : (text : List ℕ) (i j : ℕ) → i ≤ j → ((m : ℕ) → i ≤ m → m < j → run_starts text m ≡ false) → runs_before text j ≡ runs_before text i
runs_before_same text i zero h fails = let same : i ≡ 0 = omega arith in rw same
runs_before_same text i (suc j) h fails =
    elim (dec_le i j) [
      | yes k ↦ runs_before_skip text j (fails j k (omega arith)) ∙ runs_before_same text i j k (λ m from below. fails m from (omega arith))
      | no k ↦ let same : i ≡ suc j = omega arith in rw same
    ]

-- the number k of the text starts where a run starts and k runs start before
pub record Counted (text : List ℕ) (k i : ℕ) : Type 0 where
  pub within : i < length text
  pub starts : run_starts text i ≡ true
  pub count : runs_before text i ≡ k

-- where no run starts, the test fails
no_start : (text : List ℕ) (m : ℕ) → m < length text → ¬ Starts text m → run_starts text m ≡ false
no_start text m within isnt = by_test (run_starts text m) refl
  where
    by_test : (t : Bool) → run_starts text m ≡ t → t ≡ false
    by_test true is = absurd (isnt ((starts_tests text).shows m within is))
    by_test false is = refl

pub number_counted : {text : List ℕ} {k i : ℕ} → NumberAt text k i → Counted text k i
unfolding runs_before
number_counted {text} (first {i} at) =
    let within : i < length text = (starts_tests text).within i at.here in
    record {
      within = within;
      starts = (starts_tests text).finds i at.here;
      count = runs_before_same text 0 i (omega arith) (λ m from below. no_start text m (omega arith) (at.none_before m below));
    }
number_counted {text} (next {k} {i} {j} before at) =
    let counted : Counted text k i = number_counted before in
    let later : i < j = at.here.0 in
    let within : j < length text = (starts_tests text).within j at.here.1 in
    record {
      within = within;
      starts = (starts_tests text).finds j at.here.1;
      count = runs_before_same text (suc i) j later (λ m from below. no_start text m (omega arith) (λ starts. at.none_before m below (from, starts)))
          ∙ runs_before_start text i counted.starts ∙ ap suc counted.count;
    }

-- the last run that starts before i
record LastBefore (text : List ℕ) (i k : ℕ) : Type 0 where
  place : ℕ
  before : place < i
  starts : run_starts text place ≡ true
  count : runs_before text place ≡ k
  none_between : (m : ℕ) → place < m → m < i → run_starts text m ≡ false

last_before : (text : List ℕ) (i k : ℕ) → runs_before text i ≡ suc k → LastBefore text i k
unfolding runs_before
last_before text zero k is = absurd (omega arith)
last_before text (suc i) k is = by_test (run_starts text i) refl (last_before text i k)
  where
    by_test : (t : Bool) → run_starts text i ≡ t → (runs_before text i ≡ suc k → LastBefore text i k) → LastBefore text (suc i) k
    by_test true starts later =
        record { place = i; before = omega arith; starts = starts; count = omega (arith, runs_before_start text i starts); none_between = λ m from below. absurd (omega arith) }
    by_test false fails later =
        let last = later (sym (runs_before_skip text i fails) ∙ is) in
        record {
          place = last.place;
          before = omega arith;
          starts = last.starts;
          count = last.count;
          none_between = λ m from below. elim (dec_le (suc m) i) [ yes h ↦ last.none_between m from h | no h ↦ let same : m ≡ i = omega arith in rw same fails ];
        }

pub counted_number : (text : List ℕ) (k : ℕ) {i : ℕ} → Counted text k i → NumberAt text k i
counted_number text zero {i} counted =
    first (record { here = (starts_tests text).shows i counted.within counted.starts; none_before = λ j h starts. omega (arith, counted.count, runs_before_lt text j i ((starts_tests text).finds j starts) h) })
counted_number text (suc k) {i} counted =
    let last = last_before text i k counted.count in
    next
    (counted_number text k (record { within = omega arith; starts = last.starts; count = last.count }))
    (record { here = (last.before, (starts_tests text).shows i counted.within counted.starts); none_before = λ j h both. true≢false (sym ((starts_tests text).finds j both.1) ∙ last.none_between j both.0 h) })

-- the runs of digits that start in s, where a byte that is no digit stands before s, or nothing
runs_from : Bool → List ℕ → ℕ
runs_from fresh [] = 0
runs_from fresh (b ∷ s) = one_if (is_digit (sign_of b) && fresh) + runs_from (not (is_digit (sign_of b))) s

runs_before_from : (text : List ℕ) (i : ℕ) → i ≤ length text → runs_before text i + runs_from (no_digit_before text i) (drop i text) ≡ runs_from true text
unfolding runs_before runs_from
runs_before_from text zero h = omega arith
runs_before_from text (suc i) h = sym (rw (drop-cons text i 0 h) (omega arith)) ∙ runs_before_from text i (omega arith)

-- a byte that is no digit starts no run, and so do the digits of a run behind its first
runs_blanks : {s q : List ℕ} → Blanks s q → runs_from true s ≡ runs_from true q
unfolding runs_from
runs_blanks Blanks.none = refl
runs_blanks (Blanks.blank is more) = rw is (omega (arith, runs_blanks more))

runs_token : {k : Sign} {s q : List ℕ} → is_digit k ≡ false → Token k s q → runs_from true s ≡ runs_from true q
unfolding runs_from
runs_token test (token blanks is) = runs_blanks blanks ∙ rw (is, test) (omega arith)

runs_digits : {s w q : List ℕ} → Digits s w q → runs_from false s ≡ runs_from false q
unfolding runs_from
runs_digits Digits.none = refl
runs_digits (Digits.digit is more) = rw (is_digit_test is) (omega (arith, runs_digits more))

runs_ends : {q : List ℕ} → NoDigit q → runs_from false q ≡ runs_from true q
unfolding runs_from
runs_ends NoDigit.at_end = refl
runs_ends (NoDigit.another other) = rw (is_no_digit other)

runs_number : {s q : List ℕ} {p : ℕ} → Number s p q → runs_from true s ≡ 1 + runs_from true q
unfolding runs_from
runs_number (run blanks is more ends) = runs_blanks blanks ∙ rw (is_digit_test is) (omega (arith, runs_digits more, runs_ends ends))

mutual
  unfolding numbers

  runs_factor : {s q : List ℕ} {e : Typed} → Factor s e q → runs_from true s ≡ numbers e + runs_from true q
  runs_factor (Factor.complemented bang f) = runs_token refl bang ∙ runs_factor f
  runs_factor (numbered n) = runs_number n
  runs_factor (parenthesised opens inner closes) = omega (arith, runs_token refl opens, runs_expression inner, runs_token refl closes)

  runs_product : {s q : List ℕ} {e : Typed} → Product s e q → runs_from true s ≡ numbers e + runs_from true q
  runs_product (a_factor f) = runs_factor f
  runs_product (by_times before mark f) = omega (arith, runs_product before, runs_token refl mark, runs_factor f)

  runs_sum : {s q : List ℕ} {e : Typed} → Sum s e q → runs_from true s ≡ numbers e + runs_from true q
  runs_sum (a_product p) = runs_product p
  runs_sum (by_plus before mark p) = omega (arith, runs_sum before, runs_token refl mark, runs_product p)
  runs_sum (by_minus before mark p) = omega (arith, runs_sum before, runs_token refl mark, runs_product p)

  runs_expression : {s q : List ℕ} {e : Typed} → Expression s e q → runs_from true s ≡ numbers e + runs_from true q
  runs_expression (a_sum s) = runs_sum s

-- a text has as many runs of digits as the expression that it derives has numbers
pub runs_numbers : {text : List ℕ} {e : Typed} → Derives text e → runs_before text (length text) ≡ numbers e
unfolding runs_from
runs_numbers {text} (whole expression blanks) =
    omega (arith, rw (drop-length text) at (runs_before_from text (length text) (omega arith)), runs_expression expression, runs_blanks blanks)
