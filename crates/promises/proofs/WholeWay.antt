-- The whole way: a table driven from start to answer by values that meet the contracts, and a text compiled into a buffer before that.
-- Assumes nothing.
use Prim.Native.Nat.{ℕ}
use mathlib.Core.Path.{◌≡◌}
use mathlib.Core.Bool.{Bool, false}
use mathlib.Core.List.{List}
use lib.ListN.{length, take}
use Rattle.std.specs.Prelude.{Result, Ok}
use Rattle.terms.specs.declared.Refusal.{Refusal}
use Rattle.formula.specs.Typed.{Typed, numbers, typed_value}
use Rattle.formula.specs.Occurrences.{truth_at}
use Rattle.grammar.specs.Grammar.{Derives}
use Rattle.compiler.specs.Shown.{CompiledRight}
use Rattle.promises.specs.Words.{Accepted, gate_of_each}
use Rattle.promises.specs.Driving.{Trace, was_refused}
use Rattle.promises.proofs.Laws.Driving.{driven_truth, never_refused, some_trace}
use Rattle.promises.proofs.Laws.Meant.{right_is_accepted}

-- Any table can be driven with any truths: there are values that meet the contracts.
pub trace_exists : (table : List ℕ) (truths : List Bool) → (a : Result Bool Refusal) × Trace table truths a
trace_exists = some_trace

-- An accepted text's table, driven with one truth per gate: the answer is the typed expression's value, and nothing on the way is
-- refused.
module _ {text table : List ℕ} {room : ℕ} {e : Typed} (accepted : Accepted text room e table) (truths : List Bool) (one_each : length truths ≡ numbers e) where
  pub driven_as_typed : {a : Result Bool Refusal} → Trace table truths a → a ≡ Ok (typed_value (truth_at (gate_of_each e) truths) 0 e)
  driven_as_typed = driven_truth accepted truths one_each

  pub never_refused_on_the_way : {a : Result Bool Refusal} (way : Trace table truths a) → was_refused way ≡ false
  never_refused_on_the_way = never_refused accepted truths one_each

-- Compile, then start, then n feeds, then answer is the value of the one expression that the text means, for every text that compile
-- answers a table for and every row of truths; and nothing on the way is refused.
pub compiled_and_driven : {text before after : List ℕ} {n : ℕ} → CompiledRight text before after (Ok n)
    → (e : Typed) × Derives text e × ((truths : List Bool) → length truths ≡ numbers e → (a : Result Bool Refusal) (way : Trace (take n after) truths a)
    → (a ≡ Ok (typed_value (truth_at (gate_of_each e) truths) 0 e)) × (was_refused way ≡ false))
compiled_and_driven right =
    let (e, accepted) = right_is_accepted right in
    (e, accepted.means, λ truths h a way. (driven_as_typed accepted truths h way, never_refused_on_the_way accepted truths h way))
