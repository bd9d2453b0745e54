-- What derives goes on deriving before more text, if that begins with no digit: only a number looks at what follows it. So an operator
-- and its operand may be written behind a text. Assumes nothing.
use Prim.Native.Nat.{ℕ}
use mathlib.Core.Path.{◌≡◌, refl}
use mathlib.Core.List.{List, [], ◌∷◌, ◌++◌}
use native.Mathlib.Omega.{arith}
use Rattle.formula.specs.Typed.{Typed, number, plus, times, minus}
use Rattle.grammar.specs.declared.Sign.{Sign}
use Rattle.grammar.specs.Bytes.{sign_of, numeral_from}
use Rattle.grammar.specs.Grammar.{Blanks, Token, token, Digits, NoDigit, at_end, another, Number, run, Factor, complemented, numbered, parenthesised, Product, a_factor, by_times, Sum, a_product, by_plus, by_minus, Expression, a_sum, Derives, whole}
use Rattle.grammar.proofs.Signs.{not_digit}
use Rattle.grammar.proofs.Complete.{derives_unique}

module _ (t : List ℕ) where
  blanks-append : {s q : List ℕ} → Blanks s q → Blanks (s ++ t) (q ++ t)
  blanks-append Blanks.none = Blanks.none
  blanks-append (Blanks.blank is more) = Blanks.blank is (blanks-append more)

  token-append : {k : Sign} {s q : List ℕ} → Token k s q → Token k (s ++ t) (q ++ t)
  token-append (token blanks is) = token (blanks-append blanks) is

  digits_append : {s w q : List ℕ} → Digits s w q → Digits (s ++ t) w (q ++ t)
  digits_append Digits.none = Digits.none
  digits_append (Digits.digit is more) = Digits.digit is (digits_append more)

  module _ (fresh : NoDigit t) where
    ends-append : {q : List ℕ} → NoDigit q → NoDigit (q ++ t)
    ends-append at_end = fresh
    ends-append (another other) = another other

    number_append : {s q : List ℕ} {p : ℕ} → Number s p q → Number (s ++ t) p (q ++ t)
    number_append (run blanks is more ends) = run (blanks-append blanks) is (digits_append more) (ends-append ends)

    mutual
      factor_append : {s q : List ℕ} {e : Typed} → Factor s e q → Factor (s ++ t) e (q ++ t)
      factor_append (complemented bang f) = complemented (token-append bang) (factor_append f)
      factor_append (numbered n) = numbered (number_append n)
      factor_append (parenthesised opens inner closes) = parenthesised (token-append opens) (expression_append inner) (token-append closes)

      product-append : {s q : List ℕ} {e : Typed} → Product s e q → Product (s ++ t) e (q ++ t)
      product-append (a_factor f) = a_factor (factor_append f)
      product-append (by_times before mark f) = by_times (product-append before) (token-append mark) (factor_append f)

      sum-append : {s q : List ℕ} {e : Typed} → Sum s e q → Sum (s ++ t) e (q ++ t)
      sum-append (a_product p) = a_product (product-append p)
      sum-append (by_plus before mark p) = by_plus (sum-append before) (token-append mark) (product-append p)
      sum-append (by_minus before mark p) = by_minus (sum-append before) (token-append mark) (product-append p)

      expression_append : {s q : List ℕ} {e : Typed} → Expression s e q → Expression (s ++ t) e (q ++ t)
      expression_append (a_sum s) = a_sum (sum-append s)

-- `+`, `-` and `*` behind what derives, before their right operand
pub derives_plus : {x p q : List ℕ} {a b : Typed} → Derives x a → Product p b q → Blanks q [] → Derives (x ++ 43 ∷ p) (plus a b)
unfolding sign_of
derives_plus {p = p} (whole (a_sum sum) blanks) product ends =
    whole (a_sum (by_plus (sum-append (43 ∷ p) (another (not_digit refl refl)) sum) (token (blanks-append (43 ∷ p) blanks) refl) product)) ends

pub derives_minus : {x p q : List ℕ} {a b : Typed} → Derives x a → Product p b q → Blanks q [] → Derives (x ++ 45 ∷ p) (minus a b)
unfolding sign_of
derives_minus {p = p} (whole (a_sum sum) blanks) product ends =
    whole (a_sum (by_minus (sum-append (45 ∷ p) (another (not_digit refl refl)) sum) (token (blanks-append (45 ∷ p) blanks) refl) product)) ends

pub product_times : {x p q r : List ℕ} {a b : Typed} → Product x a q → Blanks q [] → Factor p b r → Product (x ++ 42 ∷ p) (times a b) r
unfolding sign_of
product_times {p = p} product blanks factor =
    by_times (product-append (42 ∷ p) (another (not_digit refl refl)) product) (token (blanks-append (42 ∷ p) blanks) refl) factor

-- a product with a `+` or a `-` in it would give a text two meanings: what stands before it could end with either of the two
derives_one : Derives (49 ∷ []) (number 1)
unfolding sign_of numeral_from
derives_one = whole (a_sum (a_product (a_factor (numbered (run Blanks.none (record { digit = 1; stands = refl }) Digits.none at_end))))) Blanks.none

plus_or_minus : {a b c d : Typed} → plus a b ≡ minus c d → ⊥
plus_or_minus is = let z : ◌≡◌ {A = ℕ} 0 1 = cc in omega arith

pub no_minus_product : {x p q r s : List ℕ} {a b e : Typed} → Product x a q → Blanks q [] → Product p b r → Blanks r [] → Product (x ++ 45 ∷ p) e s → ¬ Blanks s []
no_minus_product left ends right ends' both ends'' =
    plus_or_minus (derives_unique (derives_plus derives_one both ends'') (derives_minus (derives_plus derives_one left ends) right ends'))

pub no_plus_product : {x p q r s : List ℕ} {a b e : Typed} → Product x a q → Blanks q [] → Product p b r → Blanks r [] → Product (x ++ 43 ∷ p) e s → ¬ Blanks s []
no_plus_product left ends right ends' both ends'' =
    plus_or_minus (derives_unique (derives_plus (derives_minus derives_one left ends) right ends') (derives_minus derives_one both ends''))
