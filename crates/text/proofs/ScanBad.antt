-- Runs of digits: the run at a place, and when the digits that bytes begin with are too large for a number.
-- Assumes nothing.
use Prim.Native.Nat.{ℕ, suc, ◌+◌, ◌-◌, ◌*◌, ◌≤◌, ◌<◌}
use mathlib.Core.Path.{◌≡◌, refl, ap, ◌∙◌}
use mathlib.Core.Bool.{Bool, true, false, cond, ◌&&◌, ◌||◌, or-true}
use mathlib.Core.List.{List, [], ◌∷◌}
use native.Mathlib.Nat.{le_trans}
use native.Mathlib.Numerals.{add-one}
use native.Mathlib.Omega.{arith}
use lib.Dec.{leb, ltb, eqb}
use lib.ListN.{length, get_or, drop_of_length-le}
use lib.Seq.{drop-cons}
use borrow.Author.Tests.{lt-ltb, le-ltb}
use Rattle.terms.specs.Terms.{most_digits, greatest_primitive}
use Rattle.grammar.specs.declared.Operator.TheVariants.{Plus, Times, Minus}
use Rattle.grammar.specs.declared.Sign.TheVariants.{Digit, Joins, Bang, Open, Close, Blank, Other}
use Rattle.grammar.specs.Bytes.{sign_of, is_digit, zero_digit, nine_digit, shifted, numeral_from}
use Rattle.grammar.specs.Twins.Places.{sign_at, leading_digits, run_at, too_large}
use Rattle.text.proofs.ScanTests.{by_test, not_both}

-- behind the test for digits no sign is one
no_digit_else : (p t m x o c s n : Bool)
    → is_digit (cond p (Joins Plus) (cond t (Joins Times) (cond m (Joins Minus) (cond x Bang (cond o Open (cond c Close (cond s Blank (cond n Blank Other)))))))) ≡ false
no_digit_else true t m x o c s n = refl
no_digit_else false true m x o c s n = refl
no_digit_else false false true x o c s n = refl
no_digit_else false false false true o c s n = refl
no_digit_else false false false false true c s n = refl
no_digit_else false false false false false true s n = refl
no_digit_else false false false false false false true n = refl
no_digit_else false false false false false false false true = refl
no_digit_else false false false false false false false false = refl

pub digit_value : (b : ℕ) {d : ℕ} → sign_of b ≡ Digit d → d ≡ b - zero_digit
unfolding sign_of
digit_value b h =
    by_test (leb zero_digit b && leb b nine_digit) (λ e. let same = rw e at h in cc)
    (λ e.
    absurd (not_both _ (ap is_digit (rw e at h))
    (no_digit_else (eqb b 43) (eqb b 42) (eqb b 45) (eqb b 33) (eqb b 40) (eqb b 41) (eqb b 32) (eqb b 10))))

-- the run at a place: a digit and the run behind it, or nothing
pub run_digit : (text : List ℕ) (i : ℕ) → i < length text → is_digit (sign_at text i) ≡ true → run_at text i ≡ get_or text i 0 ∷ run_at text (i + 1)
unfolding leading_digits
run_digit text i h e = rw (add-one, drop-cons text i 0 h, e)

pub run_none : (text : List ℕ) (i : ℕ) → i < length text → is_digit (sign_at text i) ≡ false → run_at text i ≡ []
unfolding leading_digits
run_none text i h e = rw (drop-cons text i 0 h, e)

pub run_end : (text : List ℕ) (i : ℕ) → length text ≤ i → run_at text i ≡ []
unfolding leading_digits
run_end text i h = rw (drop_of_length-le text h)

-- a value never falls as digits follow
pub numeral_grows : (v : ℕ) (w : List ℕ) → v ≤ numeral_from v w
unfolding numeral_from
numeral_grows v [] = omega arith
numeral_grows v (b ∷ w) = le_trans (omega arith) (numeral_grows (shifted v (b - zero_digit)) w)

-- whether digits that follow so many others with such a value make them too large for a number
abbrev large_behind : ℕ → ℕ → List ℕ → Bool
large_behind i value w = ltb most_digits (i + length w) || ltb greatest_primitive (numeral_from value w)

-- i digits have been passed, and they are not too large yet
pub record Passed (bytes : List ℕ) (i value : ℕ) : Type 0 where
  pub few : i ≤ most_digits
  pub small : value ≤ greatest_primitive
  pub left : too_large (leading_digits bytes) ≡ large_behind i value (run_at bytes i)

pub passed_none : (bytes : List ℕ) → Passed bytes 0 0
passed_none bytes =
    let z : 0 + length (leading_digits bytes) ≡ length (leading_digits bytes) = omega arith in
    record { few = omega arith; small = omega arith; left = rw z }

module _ {bytes : List ℕ} {i value : ℕ} (p : Passed bytes i value) where
  passed_over : run_at bytes i ≡ [] → too_large (leading_digits bytes) ≡ false
  unfolding numeral_from
  passed_over e =
      let few = p.few in
      let n : i + 0 ≡ i = omega arith in
      p.left ∙ rw (e, n, le-ltb most_digits i few, le-ltb greatest_primitive value p.small)

  pub passed_end : length bytes ≤ i → too_large (leading_digits bytes) ≡ false
  passed_end h = passed_over (run_end bytes i h)

  pub passed_other : i < length bytes → is_digit (sign_at bytes i) ≡ false → too_large (leading_digits bytes) ≡ false
  passed_other h e = passed_over (run_none bytes i h e)

  module _ {d : ℕ} (h : i < length bytes) (here : sign_at bytes i ≡ Digit d) where
    passed_digit : too_large (leading_digits bytes) ≡ large_behind (i + 1) (10 * value + d) (run_at bytes (i + 1))
    unfolding numeral_from
    passed_digit =
        let e : is_digit (sign_at bytes i) ≡ true = ap is_digit here in
        let v = digit_value (get_or bytes i 0) here in
        let n : i + suc (length (run_at bytes (i + 1))) ≡ i + 1 + length (run_at bytes (i + 1)) = omega arith in
        p.left ∙ rw (run_digit bytes i h e, v, n)

    pub passed_many : most_digits ≤ i → too_large (leading_digits bytes) ≡ true
    passed_many q =
        let w = run_at bytes (i + 1) in
        passed_digit ∙ rw (lt-ltb most_digits (i + 1 + length w) (omega arith))

    pub passed_great : greatest_primitive < 10 * value + d → too_large (leading_digits bytes) ≡ true
    passed_great q =
        let w = run_at bytes (i + 1) in
        let v = 10 * value + d in
        passed_digit ∙ rw (lt-ltb greatest_primitive (numeral_from v w) (omega (arith, numeral_grows v w))) (or-true _)

    pub passed_on : i < most_digits → 10 * value + d ≤ greatest_primitive → Passed bytes (i + 1) (10 * value + d)
    passed_on m g = record { few = omega arith; small = omega arith; left = passed_digit }
