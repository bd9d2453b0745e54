-- The bits of a word, the lowest first.
--   bit w i == the bit i of the word w is set
-- Assumes nothing.
use Rattle.std.specs.Prelude.{ℕ, ◌/◌, ◌%◌, ◌^◌, Bool, eqb}

unfoldable pub bit : ℕ → ℕ → Bool
bit w i = eqb (w / 2 ^ i % 2) 1
