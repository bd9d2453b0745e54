-- What a flat pass answers, as the place that the refusal rows speak of.
--   found_as f == the place of f, if it has one
-- Assumes nothing.
use Rattle.std.specs.Prelude.{ℕ, Option, None, Some}
use Rattle.std.proofs.Math.Option as maybe

abbrev pub found_as : Option ℕ → maybe.Option ℕ
found_as (Some i) = maybe.some i
found_as None = maybe.none
