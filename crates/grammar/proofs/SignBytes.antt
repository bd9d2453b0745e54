-- What a byte stands for, read off its code: a digit, one of the signs, or nothing allowed.
-- Assumes nothing.
use Prim.Native.Nat.{ℕ, ◌-◌, ◌≤◌, ◌<◌}
use mathlib.Core.Path.{◌≡◌}
use mathlib.Core.Bool.{false, ◌&&◌, and-false}
use mathlib.Core.Logic.{◌≢◌, ◌⊎◌, ⊎_elim}
use lib.Dec.{leb}
use borrow.Author.Tests.{le-leb, lt-leb, ne_eqb}
use Rattle.grammar.specs.declared.Sign.TheVariants.{Digit, Other}
use Rattle.grammar.specs.Bytes.{sign_of, zero_digit, nine_digit}

pub sign_digit : (b : ℕ) → zero_digit ≤ b → b ≤ nine_digit → sign_of b ≡ Digit (b - zero_digit)
unfolding sign_of
sign_digit b low high = rw (le-leb zero_digit b low, le-leb b nine_digit high)

-- outside the digits the first test fails
pub no_digit : (b : ℕ) → (b < zero_digit) ⊎ (nine_digit < b) → (leb zero_digit b && leb b nine_digit) ≡ false
no_digit b h =
    ⊎_elim (λ low. rw (lt-leb zero_digit b low)) (λ high. rw (lt-leb b nine_digit high) (and-false (leb zero_digit b))) h

pub sign_other : (b : ℕ) → (b < zero_digit) ⊎ (nine_digit < b) → b ≢ 43 → b ≢ 42 → b ≢ 45 → b ≢ 33 → b ≢ 40 → b ≢ 41 → b ≢ 32 → b ≢ 10
    → sign_of b ≡ Other
unfolding sign_of
sign_other b h p t m x o c s n =
    rw (no_digit b h, ne_eqb b 43 p, ne_eqb b 42 t, ne_eqb b 45 m, ne_eqb b 33 x, ne_eqb b 40 o, ne_eqb b 41 c, ne_eqb b 32 s, ne_eqb b 10 n)
