-- Places in a text, as tests that compute: a byte not allowed, a run of digits, the parentheses counted so far.
--   sign_at text i     == what the byte at i stands for; nothing allowed beyond the end
--   run_starts text i  == a run of digits starts at i, and run_at text i is that run
--   opened s, shut s   == how many `(` and how many `)` stand in s
-- Assumes nothing.
use Rattle.std.specs.Prelude.{ℕ, zero, suc, ◌+◌, Bool, true, false, cond, not, ◌&&◌, ◌||◌, List, [], ◌∷◌, ltb, eqb, length, get_or, take, drop}
use Rattle.std.proofs.Math.Option.{Option}
use Rattle.terms.specs.Terms.{longest_text, most_digits, greatest_primitive, deepest, most_literals}
use Rattle.terms.specs.First.{first_below, where_so}
use Rattle.grammar.specs.declared.Sign.{Sign}
use Rattle.grammar.specs.declared.Sign.TheVariants.{Digit, Joins, Bang, Open, Close, Blank, Other}
use Rattle.grammar.specs.Bytes.{sign_of, is_other, is_digit, numeral}

abbrev pub sign_at : List ℕ → ℕ → Sign
sign_at text i = sign_of (get_or text i 0)

-- no digit stands directly before i
abbrev pub no_digit_before : List ℕ → ℕ → Bool
no_digit_before text zero = true
no_digit_before text (suc i) = not (is_digit (sign_at text i))

abbrev pub run_starts : List ℕ → ℕ → Bool
run_starts text i = is_digit (sign_at text i) && no_digit_before text i

-- the digits that s begins with
unfoldable pub leading_digits : List ℕ → List ℕ
leading_digits [] = []
leading_digits (b ∷ s) = cond (is_digit (sign_of b)) (b ∷ leading_digits s) []

abbrev pub run_at : List ℕ → ℕ → List ℕ
run_at text i = leading_digits (drop i text)

-- how many bytes of s stand for `(`, and how many for `)`
abbrev pub one_if : Bool → ℕ
one_if test = cond test 1 0

abbrev pub is_open : Sign → Bool
is_open (Digit d) = false
is_open (Joins o) = false
is_open Bang = false
is_open Open = true
is_open Close = false
is_open Blank = false
is_open Other = false

abbrev pub is_close : Sign → Bool
is_close (Digit d) = false
is_close (Joins o) = false
is_close Bang = false
is_close Open = false
is_close Close = true
is_close Blank = false
is_close Other = false

unfoldable pub opened : List ℕ → ℕ
opened [] = 0
opened (b ∷ s) = one_if (is_open (sign_of b)) + opened s

unfoldable pub shut : List ℕ → ℕ
shut [] = 0
shut (b ∷ s) = one_if (is_close (sign_of b)) + shut s

-- how many runs of digits start before i
unfoldable pub runs_before : List ℕ → ℕ → ℕ
runs_before text zero = 0
runs_before text (suc i) = runs_before text i + one_if (run_starts text i)

-- 1: "text longer than 16,384 bytes", place 16,384 (scope 7.1)
abbrev pub over_long : List ℕ → Option ℕ
over_long text = where_so (ltb longest_text (length text)) longest_text

-- 2: "a byte not allowed", "the first such" (scope 7.1)
abbrev pub foreign_at : List ℕ → ℕ → Bool
foreign_at text i = is_other (sign_at text i)

abbrev pub foreign_byte : List ℕ → Option ℕ
foreign_byte text = first_below (foreign_at text) (length text)

-- 3: "a run of digits longer than 4, or a value over 1,023", "first digit of the first such run" (scope 7.1)
abbrev pub too_large : List ℕ → Bool
too_large w = ltb most_digits (length w) || ltb greatest_primitive (numeral w)

abbrev pub bad_run_at : List ℕ → ℕ → Bool
bad_run_at text i = run_starts text i && too_large (run_at text i)

abbrev pub bad_run : List ℕ → Option ℕ
bad_run text = first_below (bad_run_at text) (length text)

-- 4: "the running count of `(` less `)`, which may fall under nought, passes 64", "that `(`" (scope 7.1)
abbrev pub too_deep_at : List ℕ → ℕ → Bool
too_deep_at text i = is_open (sign_at text i) && ltb (shut (take (suc i) text) + deepest) (opened (take (suc i) text))

abbrev pub too_deep : List ℕ → Option ℕ
too_deep text = first_below (too_deep_at text) (length text)

-- 6: "over 1,024 literals", "first digit of the 1,025th number" (scope 7.1)
abbrev pub surplus_at : List ℕ → ℕ → Bool
surplus_at text i = run_starts text i && eqb (runs_before text i) most_literals

abbrev pub surplus : List ℕ → Option ℕ
surplus text = first_below (surplus_at text) (length text)
