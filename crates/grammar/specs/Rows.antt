-- Refusals 1 to 6 as the page states them, over places and derivations.
--   RunAt text i w   == the digits w are a whole run that starts at i
--   NumberAt text k i == number k of the text, counted from 0, starts at i
--   TooLong, .., TooMany == the rows of the refusal table, each with its place
--   text_rows text   == these rows, in the order in which they are tested
-- Assumes nothing.
use Rattle.std.specs.Prelude.{ℕ, zero, suc, ◌+◌, ◌≤◌, ◌<◌, ◌≡◌, ◌⊎◌, List, [], ◌∷◌, length, get_or, take, drop}
use Rattle.terms.specs.Terms.{longest_text, most_digits, greatest_primitive, deepest, most_literals}
use Rattle.terms.specs.First.{First}
use Rattle.terms.specs.Rows.{Row, row}
use Rattle.formula.specs.Typed.{Typed, numbers}
use Rattle.grammar.specs.declared.Sign.{Sign}
use Rattle.grammar.specs.declared.Sign.TheVariants.{Open, Close, Other}
use Rattle.grammar.specs.Bytes.{sign_of, numeral}
use Rattle.grammar.specs.Grammar.{IsDigit, Digits, NoDigit, Derives, Completable}

-- 1: "text longer than 16,384 bytes"; place 16,384 (scope 7.1)
pub record TooLong (text : List ℕ) (at : ℕ) : Type 0 where
  pub long : longest_text < length text
  pub place : at ≡ longest_text

-- 2: "a byte not allowed"; "the first such" (scope 7.1)
pub record Foreign (text : List ℕ) (i : ℕ) : Type 0 where
  pub within : i < length text
  pub other : sign_of (get_or text i 0) ≡ Other

abbrev pub NotAllowed : List ℕ → ℕ → Type 0
NotAllowed text at = First (Foreign text) at

-- a whole run of digits that starts at i: no digit stands before it or after it
pub record RunAt (text : List ℕ) (i : ℕ) (w : List ℕ) : Type 0 where
  pub rest : List ℕ
  pub some : 0 < length w
  pub digits : Digits (drop i text) w rest
  pub ends : NoDigit rest
  pub starts : (j : ℕ) → suc j ≡ i → ¬ IsDigit (get_or text j 0)

-- 3: "a run of digits longer than 4, or a value over 1,023"; "first digit of the first such run" (scope 7.1)
pub record BadRun (text : List ℕ) (i : ℕ) : Type 0 where
  pub digits : List ℕ
  pub run : RunAt text i digits
  pub bad : (most_digits < length digits) ⊎ (greatest_primitive < numeral digits)

abbrev pub BadNumber : List ℕ → ℕ → Type 0
BadNumber text at = First (BadRun text) at

-- so many bytes of s stand for the sign k
pub data Signs (k : Sign) : List ℕ → ℕ → Type 0 where
  none : Signs k [] 0
  one : {b n : ℕ} {s : List ℕ} → sign_of b ≡ k → Signs k s n → Signs k (b ∷ s) (suc n)
  other : {b n : ℕ} {s : List ℕ} → ¬ (sign_of b ≡ k) → Signs k s n → Signs k (b ∷ s) n

-- 4: "the running count of `(` less `)`, which may fall under nought, passes 64"; "that `(`" (scope 7.1)
pub record Passes (text : List ℕ) (i : ℕ) : Type 0 where
  pub within : i < length text
  pub here : sign_of (get_or text i 0) ≡ Open
  pub opened : ℕ
  pub shut : ℕ
  pub opens : Signs Open (take (suc i) text) opened
  pub closes : Signs Close (take (suc i) text) shut
  pub passes : shut + deepest < opened

abbrev pub TooDeep : List ℕ → ℕ → Type 0
TooDeep text at = First (Passes text) at

-- 5: "not a sum by the grammar"; "length of the longest beginning that some ending would complete, limits set aside" (scope 7.1)
pub record NotASum (text : List ℕ) (at : ℕ) : Type 0 where
  pub no_meaning : (e : Typed) → ¬ Derives text e
  pub within : at ≤ length text
  pub completable : Completable (take at text)
  pub longest : (n : ℕ) → n ≤ length text → Completable (take n text) → n ≤ at

-- a number starts at i
pub record Starts (text : List ℕ) (i : ℕ) : Type 0 where
  pub digits : List ℕ
  pub run : RunAt text i digits

-- number k of the text, counted from 0, starts at i
pub data NumberAt (text : List ℕ) : ℕ → ℕ → Type 0 where
  first : {i : ℕ} → First (Starts text) i → NumberAt text zero i
  next : {k i j : ℕ} → NumberAt text k i → First (λ m. (i < m) × Starts text m) j → NumberAt text (suc k) j

-- 6: "over 1,024 literals"; "first digit of the 1,025th number" (scope 7.1)
pub record TooMany (text : List ℕ) (at : ℕ) : Type 0 where
  pub meaning : Typed
  pub derives : Derives text meaning
  pub many : most_literals < numbers meaning
  pub place : NumberAt text most_literals at

-- "Compiling tests 1 to 8 in that order, each over the whole text before the next": those that reading a text tests (scope 7.2)
abbrev pub text_rows : List ℕ → List Row
text_rows text =
    row 1 (TooLong text)
    ∷ row 2 (NotAllowed text)
    ∷ row 3 (BadNumber text)
    ∷ row 4 (TooDeep text)
    ∷ row 5 (NotASum text)
    ∷ row 6 (TooMany text)
    ∷ []
