-- What an entry point answers: a result, or one numbered refusal with a place.
--   refuse r p a   == refusal r at the place p, if there is such a place, and else the answer a
--   on_result a f  == f of the result of a; a refusal stays
-- Assumes nothing.
use Rattle.std.specs.Prelude.{ℕ}
use Rattle.std.proofs.Math.Option.{Option, none, some}

-- "answers either a result or one numbered refusal with a place" (scope 11)
pub data Answer (A : Type 0) : Type 0 where
  result : A → Answer A
  refused : ℕ → ℕ → Answer A

module _ {A : Type 0} where
  -- a row of the refusal table: its number, and the place where it holds, if it does; then the rows after it
  abbrev pub refuse : ℕ → Option ℕ → Answer A → Answer A
  refuse r none a = a
  refuse r (some p) a = refused r p

  abbrev pub on_result : {B : Type 0} → Answer A → (A → Answer B) → Answer B
  on_result (result x) f = f x
  on_result (refused r p) f = refused r p
