-- Two right answers for the same text and buffer are the same, buffer and all, since both are what the definitions give.
-- Assumes nothing.
use Prim.Native.Nat.{ℕ}
use mathlib.Core.Path.{◌≡◌, sym, ◌∙◌}
use mathlib.Core.List.{List}
use Rattle.std.specs.Prelude.{Result}
use Rattle.terms.specs.declared.Refusal.{Refusal}
use Rattle.terms.proofs.Refusals.{shown_known}
use Rattle.compiler.specs.Shown.{CompiledRight}

pub answers_alike : {text before after after' : List ℕ} {a b : Result ℕ Refusal} → CompiledRight text before after a → CompiledRight text before after' b → a ≡ b
answers_alike {a = a} {b = b} x y = shown_known (λ n. n) (λ m n e. e) a b (x.answer ∙ sym y.answer)

pub buffers_alike : {text before after after' : List ℕ} {a b : Result ℕ Refusal} → CompiledRight text before after a → CompiledRight text before after' b → after ≡ after'
buffers_alike x y = x.buffer ∙ sym y.buffer
