-- "the first such", as a statement and as a search.
--   First P i        == i has P, and no number before it has
--   first_from t i n == the first of the n numbers from i on that passes the test t
--   first_below t n  == the first number below n that passes the test t
-- Assumes nothing. (scope 7.1)
use Rattle.std.specs.Prelude.{ℕ, zero, suc, ◌<◌, Bool, true, false}
use Rattle.std.proofs.Math.Option.{Option, none, some}

pub record First (P : ℕ → Type 0) (i : ℕ) : Type 0 where
  pub here : P i
  pub none_before : (j : ℕ) → j < i → ¬ P j

abbrev pub found : Bool → ℕ → Option ℕ → Option ℕ
found true i later = some i
found false i later = later

unfoldable pub first_from : (ℕ → Bool) → ℕ → ℕ → Option ℕ
first_from test i zero = none
first_from test i (suc n) = found (test i) i (first_from test (suc i) n)

abbrev pub first_below : (ℕ → Bool) → ℕ → Option ℕ
first_below test n = first_from test 0 n

-- a place given where the test passes
abbrev pub where_so : Bool → ℕ → Option ℕ
where_so true p = some p
where_so false p = none
