-- The tests of refusals 1 to 4 and 6 agree with the rows as stated, place by place, since each passes where its row's fault stands.
-- Assumes nothing.
use Prim.Native.Nat.{ℕ, suc, ◌+◌, ◌<◌}
use native.Mathlib.Omega.{arith}
use native.Mathlib.Nat.{zero-add}
use mathlib.Core.Path.{◌≡◌, refl, sym, ◌∙◌, ap}
use mathlib.Core.Bool.{Bool, true, false, ◌||◌, true≢false, and-eq-true_iff, or-true}
use mathlib.Core.Logic.{◌⊎◌, inl, inr}
use mathlib.Core.List.{List, [], ◌∷◌}
use lib.Dec.{ltb, eqb}
use lib.ListN.{length, take}
use borrow.Author.Tests.{ltb-true, lt-ltb, eqb-true, eq-eqb}
use Rattle.terms.specs.Terms.{longest_text, most_digits, greatest_primitive, deepest, most_literals}
use Rattle.terms.specs.First.{First, first_below}
use Rattle.terms.proofs.First.{Tests, first_below_first, first_first_below}
use Rattle.terms.proofs.Rows.{Decides, where_so_decides}
use Rattle.formula.specs.Typed.{Typed}
use Rattle.grammar.specs.declared.Sign.{Sign}
use Rattle.grammar.specs.declared.Sign.TheVariants.{Open, Close}
use Rattle.grammar.specs.Bytes.{sign_of, is_other, numeral}
use Rattle.grammar.specs.Grammar.{Derives}
use Rattle.grammar.specs.Twins.Places.{sign_at, run_starts, run_at, one_if, is_open, is_close, opened, shut, runs_before, over_long, foreign_at, foreign_byte, too_large, bad_run_at, bad_run, too_deep_at, too_deep, surplus_at, surplus}
use Rattle.grammar.specs.Rows.{TooLong, Foreign, NotAllowed, BadRun, BadNumber, Signs, Passes, TooDeep, NumberAt, TooMany}
use Rattle.grammar.proofs.Signs.{is_other_true, is_open_true, is_close_true}
use Rattle.grammar.proofs.Runs.{run_at_is, run_within, run_starts_at, run_at_starts, runs_before_lt, number_counted, counted_number, runs_numbers}

first_decides : {P : ℕ → Type 0} {test : ℕ → Bool} {n : ℕ} → Tests P test n → Decides (First P) (first_below test n)
first_decides tests p = (first_below_first tests, first_first_below tests)

-- 1
pub over_long_decides : (text : List ℕ) → Decides (TooLong text) (over_long text)
over_long_decides text =
    where_so_decides (ltb longest_text (length text)) longest_text
    (λ is. record { long = ltb-true longest_text (length text) is; place = refl })
    λ q row. (lt-ltb longest_text (length text) row.long, row.place)

-- 2
foreign_tests : (text : List ℕ) → Tests (Foreign text) (foreign_at text) (length text)
foreign_tests text =
    record {
      shows = λ i within is. record { within = within; other = is_other_true (sign_at text i) is };
      within = λ i foreign. foreign.within;
      finds = λ i foreign. ap is_other foreign.other;
    }

pub foreign_byte_decides : (text : List ℕ) → Decides (NotAllowed text) (foreign_byte text)
foreign_byte_decides text = first_decides (foreign_tests text)

-- 3
too_large_bad : (w : List ℕ) → too_large w ≡ true → (most_digits < length w) ⊎ (greatest_primitive < numeral w)
too_large_bad w = either (ltb most_digits (length w)) (ltb greatest_primitive (numeral w)) (ltb-true most_digits (length w)) (ltb-true greatest_primitive (numeral w))
  where
    either : {A B : Type 0} (a b : Bool) → (a ≡ true → A) → (b ≡ true → B) → (a || b) ≡ true → A ⊎ B
    either true b f g is = inl (f refl)
    either false b f g is = inr (g is)

bad_too_large : (w : List ℕ) → (most_digits < length w) ⊎ (greatest_primitive < numeral w) → too_large w ≡ true
bad_too_large w (inl long) = rw (lt-ltb most_digits (length w) long)
bad_too_large w (inr large) = rw (lt-ltb greatest_primitive (numeral w) large) (or-true (ltb most_digits (length w)))

pub bad_run_tests : (text : List ℕ) → Tests (BadRun text) (bad_run_at text) (length text)
bad_run_tests text =
    record {
      shows = λ i within is.
          let both = (and-eq-true_iff (run_starts text i) (too_large (run_at text i))).0 is in
          record { digits = run_at text i; run = run_at_starts text i within both.0; bad = too_large_bad (run_at text i) both.1 };
      within = λ i bad. run_within bad.run;
      finds = λ i bad.
          (and-eq-true_iff (run_starts text i) (too_large (run_at text i))).1
          (run_starts_at bad.run, rw (run_at_is bad.run) (bad_too_large bad.digits bad.bad));
    }

pub bad_run_decides : (text : List ℕ) → Decides (BadNumber text) (bad_run text)
bad_run_decides text = first_decides (bad_run_tests text)

-- 4
-- a count by a test that only the sign k passes
module _ (k : Sign) (test : Sign → Bool) (only : (j : Sign) → test j ≡ true → j ≡ k) (passes : test k ≡ true)
    (count : List ℕ → ℕ) (count_none : count [] ≡ 0) (count_one : (b : ℕ) (s : List ℕ) → count (b ∷ s) ≡ one_if (test (sign_of b)) + count s) where
  test_fails : (j : Sign) → ¬ (j ≡ k) → test j ≡ false
  test_fails j isnt = by_test (test j) refl
    where
      by_test : (t : Bool) → test j ≡ t → t ≡ false
      by_test true is = absurd (isnt (only j is))
      by_test false is = refl

  count_signs : (s : List ℕ) → Signs k s (count s)
  count_signs [] = rw count_none Signs.none
  count_signs (b ∷ s) = rw (count_one b s) (by_test (test (sign_of b)) refl (count_signs s))
    where
      by_test : (t : Bool) → test (sign_of b) ≡ t → Signs k s (count s) → Signs k (b ∷ s) (one_if t + count s)
      by_test true is later = let more : 1 + count s ≡ suc (count s) = omega arith in rw more (Signs.one (only (sign_of b) is) later)
      by_test false is later = rw (zero-add (count s)) (Signs.other (λ same. true≢false (sym passes ∙ ap test (sym same) ∙ is)) later)

  signs_count : {s : List ℕ} {n : ℕ} → Signs k s n → count s ≡ n
  signs_count Signs.none = count_none
  signs_count (Signs.one {b} {s} is later) = count_one b s ∙ rw (is, passes) (omega (arith, signs_count later))
  signs_count (Signs.other {b} {s} isnt later) = count_one b s ∙ rw (test_fails (sign_of b) isnt) (omega (arith, signs_count later))

opened_signs : (s : List ℕ) → Signs Open s (opened s)
unfolding opened
opened_signs = count_signs Open is_open is_open_true refl opened refl (λ b s. refl)

signs_opened : {s : List ℕ} {n : ℕ} → Signs Open s n → opened s ≡ n
unfolding opened
signs_opened = signs_count Open is_open is_open_true refl opened refl (λ b s. refl)

shut_signs : (s : List ℕ) → Signs Close s (shut s)
unfolding shut
shut_signs = count_signs Close is_close is_close_true refl shut refl (λ b s. refl)

signs_shut : {s : List ℕ} {n : ℕ} → Signs Close s n → shut s ≡ n
unfolding shut
signs_shut = signs_count Close is_close is_close_true refl shut refl (λ b s. refl)

too_deep_tests : (text : List ℕ) → Tests (Passes text) (too_deep_at text) (length text)
too_deep_tests text =
    record {
      shows = λ i within is.
          let both = (and-eq-true_iff (is_open (sign_at text i)) (ltb (shut (take (suc i) text) + deepest) (opened (take (suc i) text)))).0 is in
          record {
            within = within;
            here = is_open_true (sign_at text i) both.0;
            opened = opened (take (suc i) text);
            shut = shut (take (suc i) text);
            opens = opened_signs (take (suc i) text);
            closes = shut_signs (take (suc i) text);
            passes = ltb-true (shut (take (suc i) text) + deepest) (opened (take (suc i) text)) both.1;
          };
      within = λ i passes. passes.within;
      finds = λ i passes.
          (and-eq-true_iff (is_open (sign_at text i)) (ltb (shut (take (suc i) text) + deepest) (opened (take (suc i) text)))).1
          (ap is_open passes.here, rw (signs_opened passes.opens, signs_shut passes.closes) (lt-ltb (passes.shut + deepest) passes.opened passes.passes));
    }

pub too_deep_decides : (text : List ℕ) → Decides (TooDeep text) (too_deep text)
too_deep_decides text = first_decides (too_deep_tests text)

-- 6
surplus_tests : (text : List ℕ) → Tests (NumberAt text most_literals) (surplus_at text) (length text)
surplus_tests text =
    record {
      shows = λ i within is.
          let both = (and-eq-true_iff (run_starts text i) (eqb (runs_before text i) most_literals)).0 is in
          counted_number text most_literals (record { within = within; starts = both.0; count = eqb-true (runs_before text i) most_literals both.1 });
      within = λ i at. (number_counted at).within;
      finds = λ i at.
          (and-eq-true_iff (run_starts text i) (eqb (runs_before text i) most_literals)).1
          ((number_counted at).starts, eq-eqb (runs_before text i) most_literals (number_counted at).count);
    }

-- a number starts at one place only
number_first : {text : List ℕ} {k i : ℕ} → NumberAt text k i → First (NumberAt text k) i
number_first {text} {i} at =
    record { here = at; none_before = λ j h there. omega (arith, (number_counted at).count, (number_counted there).count, runs_before_lt text j i (number_counted there).starts h) }

pub surplus_decides : {text : List ℕ} {e : Typed} → Derives text e → Decides (TooMany text) (surplus text)
surplus_decides {text} {e} derives p = (
  λ is.
      let at = first_below_first (surplus_tests text) is in
      let counted = number_counted at.here in
      record {
        meaning = e;
        derives = derives;
        many = omega (arith, counted.count, runs_before_lt text p (length text) counted.starts counted.within, runs_numbers derives);
        place = at.here;
      },
  λ row. first_first_below (surplus_tests text) (number_first row.place),
)
