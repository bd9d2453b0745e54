-- The decimal digits of a number are those of its tenth part and its last one, however many digits it was granted; and the library
-- writes the same. Assumes nothing.
use Prim.Native.Nat.{ℕ, zero, suc, ◌+◌, ◌/◌, ◌%◌, ◌^◌, ◌≤◌, ◌<◌}
use mathlib.Core.Path.{◌≡◌, sym, ap, ◌∙◌}
use mathlib.Core.List.{List, [], ◌∷◌, ◌++◌}
use native.Mathlib.Omega.{arith}
use native.Mathlib.Decide.{dec_le}
use borrow.Author.Tests.{lt-ltb, le-ltb}
use lib.ListN.{length, length-append}
use Rattle.std.specs.Fmt as library
use Rattle.std.proofs.lemmas.Fmt.{decimal_from_appends, length-decimal-le_succ}
use Rattle.listing.specs.Lines.{digit, digits, decimal}

last_of : (most n : ℕ) → n < 10 → digits (suc most) n ≡ digit n ∷ []
unfolding digits
last_of most n h = simp (lt-ltb n 10 h)

more_of : (most n : ℕ) → 10 ≤ n → digits (suc most) n ≡ digits most (n / 10) ++ (digit (n % 10) ∷ [])
unfolding digits
more_of most n h = simp (le-ltb n 10 h)

-- as many digits as are granted, or more
enough : (most other n : ℕ) → n < most → n < other → digits most n ≡ digits other n
enough zero other n a b = absurd (omega arith)
enough (suc most) zero n a b = absurd (omega arith)
enough (suc most) (suc other) n a b =
    elim (dec_le 10 n) [
      | yes h ↦ more_of most n h ∙ ap (λ (l : List ℕ). l ++ (digit (n % 10) ∷ [])) (enough most other (n / 10) (omega arith) (omega arith)) ∙ sym (more_of other n h)
      | no h ↦ last_of most n (omega arith) ∙ sym (last_of other n (omega arith))
    ]

pub decimal_last : (n : ℕ) → n < 10 → decimal n ≡ digit n ∷ []
decimal_last n h = last_of n n h

pub decimal_more : (n : ℕ) → 10 ≤ n → decimal n ≡ decimal (n / 10) ++ (digit (n % 10) ∷ [])
decimal_more n h =
    more_of n n h ∙ ap (λ (l : List ℕ). l ++ (digit (n % 10) ∷ [])) (enough n (suc (n / 10)) (n / 10) (omega arith) (omega arith))

pub length_more : (n : ℕ) → 10 ≤ n → length (decimal n) ≡ length (decimal (n / 10)) + 1
length_more n h = ap length (decimal_more n h) ∙ length-append (decimal (n / 10)) (digit (n % 10) ∷ [])

-- a number below a power of ten has no more digits than the power
pub decimal_short : (k n : ℕ) → n < 10 ^ suc k → length (decimal n) ≤ suc k
decimal_short zero n h = omega (arith, ap length (decimal_last n (omega arith)))
decimal_short (suc k) n h =
    elim (dec_le 10 n) [
      | yes l ↦ let e = length_more n l in let s = decimal_short k (n / 10) (omega arith) in omega arith
      | no l ↦ omega (arith, ap length (decimal_last n (omega arith)))
    ]

-- as the library writes a number
pub decimal_written : (n : ℕ) → n < 2 ^ 64 → library.decimal n ≡ decimal n
decimal_written n h = sym (decimal_from_appends digits (record { one = last_of; more = more_of }) (suc n) n h (omega (arith, length-decimal-le_succ n h)))
