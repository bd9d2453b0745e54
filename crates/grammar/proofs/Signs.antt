-- What a byte's sign tells of the byte, by the tests of `sign_of` one after the other.
-- Assumes nothing.
use Prim.Native.Nat.{ℕ, ◌-◌}
use mathlib.Core.Path.{◌≡◌, refl, sym, ◌∙◌, ap}
use mathlib.Core.Bool.{Bool, true, false, cond, ◌&&◌, true≢false}
use lib.Dec.{leb, eqb}
use native.Mathlib.Omega.{arith}
use Rattle.grammar.specs.declared.Operator.TheVariants.{Plus, Times, Minus}
use Rattle.grammar.specs.declared.Sign.{Sign}
use Rattle.grammar.specs.declared.Sign.TheVariants.{Digit, Joins, Bang, Open, Close, Blank, Other}
use Rattle.grammar.specs.Bytes.{sign_of, is_other, is_digit, shifted, zero_digit, nine_digit}
use Rattle.grammar.specs.Grammar.{IsDigit}
use Rattle.grammar.specs.Twins.Places.{is_open, is_close}

-- a digit's value stands with it
only_digit : (v d : ℕ) (a b c e f g h i j : Bool) → cond a (Digit v) (cond b (Joins Plus) (cond c (Joins Times) (cond e (Joins Minus) (cond f Bang (cond g Open (cond h Close (cond i Blank (cond j Blank Other)))))))) ≡ Digit d → d ≡ v
only_digit v d true b c e f g h i j is = cc
only_digit v d false true c e f g h i j is = cc
only_digit v d false false true e f g h i j is = cc
only_digit v d false false false true f g h i j is = cc
only_digit v d false false false false true g h i j is = cc
only_digit v d false false false false false true h i j is = cc
only_digit v d false false false false false false true i j is = cc
only_digit v d false false false false false false false true j is = cc
only_digit v d false false false false false false false false true is = cc
only_digit v d false false false false false false false false false is = cc

pub digit_value : (b : ℕ) {d : ℕ} → sign_of b ≡ Digit d → d ≡ b - zero_digit
unfolding sign_of
digit_value b {d} is =
    only_digit (b - zero_digit) d (leb zero_digit b && leb b nine_digit) (eqb b 43) (eqb b 42) (eqb b 45) (eqb b 33) (eqb b 40) (eqb b 41) (eqb b 32) (eqb b 10) is

pub shifted-zero : (d : ℕ) → shifted 0 d ≡ d
shifted-zero d = omega arith

-- what passes a test for one sign is that sign
pub is_other_true : (k : Sign) → is_other k ≡ true → k ≡ Other
is_other_true (Digit d) is = cc
is_other_true (Joins o) is = cc
is_other_true Bang is = cc
is_other_true Open is = cc
is_other_true Close is = cc
is_other_true Blank is = cc
is_other_true Other is = refl

pub is_open_true : (k : Sign) → is_open k ≡ true → k ≡ Open
is_open_true (Digit d) is = cc
is_open_true (Joins o) is = cc
is_open_true Bang is = cc
is_open_true Open is = refl
is_open_true Close is = cc
is_open_true Blank is = cc
is_open_true Other is = cc

pub is_close_true : (k : Sign) → is_close k ≡ true → k ≡ Close
is_close_true (Digit d) is = cc
is_close_true (Joins o) is = cc
is_close_true Bang is = cc
is_close_true Open is = cc
is_close_true Close is = refl
is_close_true Blank is = cc
is_close_true Other is = cc

pub data DigitOrNot : Sign → Type 0 where
  a_digit : (d : ℕ) → DigitOrNot (Digit d)
  no_digit : {k : Sign} → is_digit k ≡ false → DigitOrNot k

pub digit-or-not : (k : Sign) → DigitOrNot k
digit-or-not (Digit d) = a_digit d
digit-or-not (Joins o) = no_digit refl
digit-or-not Bang = no_digit refl
digit-or-not Open = no_digit refl
digit-or-not Close = no_digit refl
digit-or-not Blank = no_digit refl
digit-or-not Other = no_digit refl

pub is_digit_test : {b : ℕ} → IsDigit b → is_digit (sign_of b) ≡ true
is_digit_test digit = ap is_digit digit.stands

pub digit_test : {b : ℕ} → is_digit (sign_of b) ≡ true → IsDigit b
digit_test {b} is = go (digit-or-not (sign_of b)) refl is
  where
    go : {k : Sign} → DigitOrNot k → sign_of b ≡ k → is_digit k ≡ true → IsDigit b
    go (a_digit d) stands is = record { digit = d; stands = stands }
    go (no_digit test) stands is = absurd (true≢false (sym is ∙ test))

pub not_digit : {b : ℕ} {k : Sign} → sign_of b ≡ k → is_digit k ≡ false → ¬ IsDigit b
not_digit is test digit = true≢false (sym (is_digit_test digit) ∙ ap is_digit is ∙ test)

pub no_digit_test : {b : ℕ} → is_digit (sign_of b) ≡ false → ¬ IsDigit b
no_digit_test is = not_digit refl is

pub is_no_digit : {b : ℕ} → ¬ IsDigit b → is_digit (sign_of b) ≡ false
is_no_digit {b} other = go (digit-or-not (sign_of b)) refl
  where
    go : {k : Sign} → DigitOrNot k → sign_of b ≡ k → is_digit k ≡ false
    go (a_digit d) is = absurd (other (record { digit = d; stands = is }))
    go (no_digit test) is = test
