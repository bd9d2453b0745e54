-- What a right answer of compile is: the length of the table, or the refusal's number and place.
--   CompiledRight text b a r == r shows the answer that the definitions give, and the buffer, which held b, holds a
-- Assumes nothing.
use Rattle.std.specs.Prelude.{ℕ, ◌≡◌, List, length, Result}
use Rattle.terms.specs.Answer.{Answer, result, refused}
use Rattle.terms.specs.declared.Refusal.{Refusal}
use Rattle.terms.specs.Refusals.{shown}
use Rattle.compiler.specs.Compiled.{written}
use Rattle.compiler.specs.Twins.Compiling.{compiled}

-- "and returns that length" (scope 5.2)
abbrev pub length_of : Answer (List ℕ) → Answer ℕ
length_of (result bytes) = result (length bytes)
length_of (refused r at) = refused r at

pub record CompiledRight (text before after : List ℕ) (r : Result ℕ Refusal) : Type 0 where
  pub answer : shown (λ n. n) r ≡ length_of (compiled text (length before))
  pub buffer : after ≡ written (compiled text (length before)) before
