-- The grammar as derivations, rule by rule as on the page. Limits are set aside: numbers of any length and value, any nesting.
--   Blanks s q       == s is blanks, and then q
--   Token k s q      == s is blanks, a byte that stands for k, and then q
--   Number s p q     == s is blanks, a whole run of digits with the value p, and then q
--   Factor s e q     == s is a factor that means e, and then q; so Product, Sum and Expression
--   Derives text e   == the whole text is an expression that means e
--   Completable s    == some ending makes s such a text
-- Assumes nothing.
use Rattle.std.specs.Prelude.{ℕ, ◌≡◌, List, [], ◌∷◌, ◌++◌}
use Rattle.terms.specs.Terms.{Primitive}
use Rattle.formula.specs.Typed.{Typed, number, complement, plus, times, minus}
use Rattle.grammar.specs.declared.Operator.TheVariants.{Plus, Times, Minus}
use Rattle.grammar.specs.declared.Sign.{Sign}
use Rattle.grammar.specs.declared.Sign.TheVariants.{Digit, Joins, Bang, Open, Close, Blank}
use Rattle.grammar.specs.Bytes.{sign_of, numeral}

-- "Spaces and newlines may stand anywhere but inside a number, and mean nothing." (scope 2.1)
pub data Blanks : List ℕ → List ℕ → Type 0 where
  none : {q : List ℕ} → Blanks q q
  blank : {b : ℕ} {s q : List ℕ} → sign_of b ≡ Blank → Blanks s q → Blanks (b ∷ s) q

pub data Token (k : Sign) : List ℕ → List ℕ → Type 0 where
  token : {b : ℕ} {s q : List ℕ} → Blanks s (b ∷ q) → sign_of b ≡ k → Token k s q

-- the byte stands for a digit
pub record IsDigit (b : ℕ) : Type 0 where
  pub digit : ℕ
  pub stands : sign_of b ≡ Digit digit

-- `Digits s w q`: s is the digits w, and then q
pub data Digits : List ℕ → List ℕ → List ℕ → Type 0 where
  none : {q : List ℕ} → Digits q [] q
  digit : {b : ℕ} {s w q : List ℕ} → IsDigit b → Digits s w q → Digits (b ∷ s) (b ∷ w) q

-- no digit stands first in q
pub data NoDigit : List ℕ → Type 0 where
  at_end : NoDigit []
  another : {b : ℕ} {q : List ℕ} → ¬ IsDigit b → NoDigit (b ∷ q)

-- "A number is a whole run of .. digits .. and names a primitive" (scope 2.1, 2.3)
pub data Number : List ℕ → Primitive → List ℕ → Type 0 where
  run : {b : ℕ} {s m w q : List ℕ} → Blanks s (b ∷ m) → IsDigit b → Digits m w q → NoDigit q → Number s (numeral (b ∷ w)) q

mutual
  -- "A factor is `!` and a factor, or a number, or a sum in parentheses." (scope 2.2)
  pub data Factor : List ℕ → Typed → List ℕ → Type 0 where
    complemented : {s r q : List ℕ} {e : Typed} → Token Bang s r → Factor r e q → Factor s (complement e) q
    numbered : {s q : List ℕ} {p : Primitive} → Number s p q → Factor s (number p) q
    parenthesised : {s a b q : List ℕ} {e : Typed} → Token Open s a → Expression a e b → Token Close b q → Factor s e q

  -- "a product has `*` only": it is one or more factors joined by it. "Both levels group from the left." (scope 2.2)
  pub data Product : List ℕ → Typed → List ℕ → Type 0 where
    a_factor : {s q : List ℕ} {e : Typed} → Factor s e q → Product s e q
    by_times : {s r m q : List ℕ} {a b : Typed} → Product s a r → Token (Joins Times) r m → Factor m b q → Product s (times a b) q

  -- "a sum is products joined by `+` or `-`, grouped from the left" (scope 2.2)
  pub data Sum : List ℕ → Typed → List ℕ → Type 0 where
    a_product : {s q : List ℕ} {e : Typed} → Product s e q → Sum s e q
    by_plus : {s r m q : List ℕ} {a b : Typed} → Sum s a r → Token (Joins Plus) r m → Product m b q → Sum s (plus a b) q
    by_minus : {s r m q : List ℕ} {a b : Typed} → Sum s a r → Token (Joins Minus) r m → Product m b q → Sum s (minus a b) q

  -- what a whole text is and what stands in parentheses: a sum
  pub data Expression : List ℕ → Typed → List ℕ → Type 0 where
    a_sum : {s q : List ℕ} {e : Typed} → Sum s e q → Expression s e q

pub data Derives : List ℕ → Typed → Type 0 where
  whole : {text q : List ℕ} {e : Typed} → Expression text e q → Blanks q [] → Derives text e

-- "some ending would complete"; an ending may be of any length (scope 7.1)
pub record Completable (s : List ℕ) : Type 0 where
  pub ending : List ℕ
  pub meaning : Typed
  pub derives : Derives (s ++ ending) meaning
