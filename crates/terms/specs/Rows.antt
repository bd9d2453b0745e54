-- The rows of the refusal table that an entry point tests, in the order in which it tests them.
--   row r Holds       == row number r, with the places at which it holds
--   FirstOf rows r at == the first of the rows that holds is number r, and its place is `at`
--   NoneOf rows       == none of the rows holds anywhere
-- The order is the list's and not that of the numbers; one entry point's rows stand behind another's by `++`.
-- Assumes nothing.
use Rattle.std.specs.Prelude.{ℕ, ◌≡◌, ◌⊎◌, List, [], ◌∷◌}

-- "No.", "When", "Place returned" (scope 7.1)
pub record Row : Type 1 where
  pub number : ℕ
  pub Holds : ℕ → Type 0

abbrev pub row : ℕ → (ℕ → Type 0) → Row
row number Holds = record { number = number; Holds = Holds }

abbrev pub Nowhere : Row → Type 0
Nowhere x = (at : ℕ) → ¬ x.Holds at

-- "each over the whole text before the next": a row is come to only where the ones before it hold nowhere (scope 7.2)
unfoldable pub FirstOf : List Row → ℕ → ℕ → Type 0
FirstOf [] r at = ⊥
FirstOf (x ∷ xs) r at = ((r ≡ x.number) × x.Holds at) ⊎ (Nowhere x × FirstOf xs r at)

unfoldable pub NoneOf : List Row → Type 0
NoneOf [] = Unit {0}
NoneOf (x ∷ xs) = Nowhere x × NoneOf xs
