-- The reader with nothing built: where it stands and how many parentheses are open, one step a byte.
--   verdict r               == what a reading says of the text: that it fits, or where it is at fault
--   flat_step m k n         == the next mode and count of open parentheses by the sign k
--   flat_from m n at s      == the verdict on the bytes s, which start at the place `at`
-- Assumes nothing.
use Rattle.std.specs.Prelude.{ℕ, zero, suc, cond, List, [], ◌∷◌, Option, None, Some, Result, Ok, Err}
use Rattle.grammar.specs.declared.Sign.{Sign}
use Rattle.grammar.specs.declared.Sign.TheVariants.{Digit, Joins, Bang, Open, Close, Blank, Other}
use Rattle.text.specs.declared.scan.Mode.{Mode}
use Rattle.text.specs.declared.scan.Mode.TheVariants.{Wanted, Inside, Complete}
use Rattle.text.specs.declared.Stop.{Stop}
use Rattle.grammar.specs.Bytes.{sign_of, is_digit}
use Rattle.grammar.specs.Twins.Reader.{Outcome, means, stops}

-- `Err` with p exactly when the reading stops at p, `Ok` exactly when it means an expression
abbrev pub verdict : Outcome → Result (Unit {0}) Stop
verdict (means e) = Ok tt
verdict (stops at) = Err (record { 0 = at })

abbrev pub flat_wanted : Sign → ℕ → Option (Mode × ℕ)
flat_wanted (Digit d) depth = Some (Inside, depth)
flat_wanted (Joins o) depth = None
flat_wanted Bang depth = Some (Wanted, depth)
flat_wanted Open depth = Some (Wanted, suc depth)
flat_wanted Close depth = None
flat_wanted Blank depth = Some (Wanted, depth)
flat_wanted Other depth = None

abbrev pub flat_close : ℕ → Option (Mode × ℕ)
flat_close zero = None
flat_close (suc depth) = Some (Complete, depth)

abbrev pub flat_complete : Sign → ℕ → Option (Mode × ℕ)
flat_complete (Digit d) depth = None
flat_complete (Joins o) depth = Some (Wanted, depth)
flat_complete Bang depth = None
flat_complete Open depth = None
flat_complete Close depth = flat_close depth
flat_complete Blank depth = Some (Complete, depth)
flat_complete Other depth = None

-- a number goes on with a digit, and ends with anything else
abbrev pub flat_inside : Sign → ℕ → Option (Mode × ℕ)
flat_inside k depth = cond (is_digit k) (Some (Inside, depth)) (flat_complete k depth)

abbrev pub flat_step : Mode → Sign → ℕ → Option (Mode × ℕ)
flat_step Wanted k depth = flat_wanted k depth
flat_step Inside k depth = flat_inside k depth
flat_step Complete k depth = flat_complete k depth

-- at the end of the text: every parenthesis must be closed
abbrev pub flat_closed : ℕ → ℕ → Result (Unit {0}) Stop
flat_closed zero at = Ok tt
flat_closed (suc depth) at = Err (record { 0 = at })

abbrev pub flat_end : Mode → ℕ → ℕ → Result (Unit {0}) Stop
flat_end Wanted depth at = Err (record { 0 = at })
flat_end Inside depth at = flat_closed depth at
flat_end Complete depth at = flat_closed depth at

abbrev pub flat_onward : Option (Mode × ℕ) → ℕ → (Mode → ℕ → Result (Unit {0}) Stop) → Result (Unit {0}) Stop
flat_onward None at go_on = Err (record { 0 = at })
flat_onward (Some (mode, depth)) at go_on = go_on mode depth

unfoldable pub flat_from : Mode → ℕ → ℕ → List ℕ → Result (Unit {0}) Stop
flat_from mode depth at [] = flat_end mode depth at
flat_from mode depth at (b ∷ s) = flat_onward (flat_step mode (sign_of b) depth) at (λ mode' depth'. flat_from mode' depth' (suc at) s)
