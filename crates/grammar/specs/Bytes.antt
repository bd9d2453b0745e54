-- What the bytes of a text stand for.
--   sign_of b == what the byte b stands for; Other is a byte that is not allowed
--   numeral w == the value of the digits w
-- Assumes nothing.
use Rattle.std.specs.Prelude.{ℕ, ◌+◌, ◌-◌, ◌*◌, Bool, true, false, cond, ◌&&◌, List, [], ◌∷◌, leb, eqb}
use Rattle.grammar.specs.declared.Operator.TheVariants.{Plus, Times, Minus}
use Rattle.grammar.specs.declared.Sign.{Sign}
use Rattle.grammar.specs.declared.Sign.TheVariants.{Digit, Joins, Bang, Open, Close, Blank, Other}

-- a digit's value stands with it
abbrev pub zero_digit : ℕ
zero_digit = 48

abbrev pub nine_digit : ℕ
nine_digit = 57

-- "Bytes allowed: digits, `+` (union), `*` (intersection), `-` (difference), `!` (complement), `(`, `)`, space, and newline (10)."
-- (scope 2.1)
unfoldable pub sign_of : ℕ → Sign
sign_of b =
    cond (leb zero_digit b && leb b nine_digit) (Digit (b - zero_digit))
    (cond (eqb b 43) (Joins Plus)
    (cond (eqb b 42) (Joins Times)
    (cond (eqb b 45) (Joins Minus)
    (cond (eqb b 33) Bang
    (cond (eqb b 40) Open
    (cond (eqb b 41) Close
    (cond (eqb b 32) Blank
    (cond (eqb b 10) Blank Other))))))))

abbrev pub is_other : Sign → Bool
is_other (Digit d) = false
is_other (Joins o) = false
is_other Bang = false
is_other Open = false
is_other Close = false
is_other Blank = false
is_other Other = true

abbrev pub is_digit : Sign → Bool
is_digit (Digit d) = true
is_digit (Joins o) = false
is_digit Bang = false
is_digit Open = false
is_digit Close = false
is_digit Blank = false
is_digit Other = false

-- one digit more behind a value
abbrev pub shifted : ℕ → ℕ → ℕ
shifted v d = 10 * v + d

-- the value of a row of digits, behind those whose value is v
unfoldable pub numeral_from : ℕ → List ℕ → ℕ
numeral_from v [] = v
numeral_from v (b ∷ w) = numeral_from (shifted v (b - zero_digit)) w

abbrev pub numeral : List ℕ → ℕ
numeral w = numeral_from 0 w
