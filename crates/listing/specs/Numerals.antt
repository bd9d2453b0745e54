-- What it is for bytes to be a number's decimal digits, said without computing them (scope 9).
--   Numeral n text == the text is one or more digits, says n, and has no leading zero
-- Assumes nothing.
use Rattle.std.specs.Prelude.{ℕ, ◌+◌, ◌*◌, ◌-◌, ◌≤◌, ◌<◌, ◌≡◌, ◌≢◌, List, [], ◌∷◌, length, get_or}
use Rattle.listing.specs.Lines.{digit}

-- the number that digits say, behind those that said `before`
unfoldable pub said : ℕ → List ℕ → ℕ
said before [] = before
said before (b ∷ text) = said (10 * before + (b - digit 0)) text

pub record Numeral (n : ℕ) (text : List ℕ) : Type 0 where
  pub some_digit : 1 ≤ length text
  pub least : (i : ℕ) → i < length text → digit 0 ≤ get_or text i 0
  pub most : (i : ℕ) → i < length text → get_or text i 0 ≤ digit 9
  pub says : said 0 text ≡ n
  pub no_leading_zero : 1 < length text → get_or text 0 0 ≢ digit 0
