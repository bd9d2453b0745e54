-- Reading, planning and finishing together answer what `compiled` says: the definitions are put together in the same order.
-- Assumes nothing.
use Prim.Native.Nat.{ℕ, ◌≤◌}
use mathlib.Core.Path.{◌≡◌, refl, sym}
use mathlib.Core.List.{List}
use native.Mathlib.Omega.{arith}
use Rattle.terms.specs.declared.Refusal.{Refusal}
use Rattle.terms.specs.Terms.{most_literals}
use Rattle.terms.specs.Answer.{Answer, result, refused, on_result}
use Rattle.formula.specs.Formula.{Expr, literals}
use Rattle.formula.specs.Typed.{Typed, positive}
use Rattle.formula.proofs.Occurrences.{literals_positive}
use Rattle.grammar.specs.Twins.Reading.{typed_reading, reading}
use Rattle.text.specs.Code.Answers.{HeldRight, RefusedAs}
use Rattle.grammar.proofs.Few.{derives_few}
use Rattle.grammar.proofs.Refusals.{typed_reading_result, not_too_many}
use Rattle.turning.specs.Turning.{marks}
use Rattle.std.specs.Prelude.{Result, Err}
use Rattle.compiler.specs.Twins.Compiling.{compiled}
use Rattle.compiler.specs.Shown.{CompiledRight}
use Rattle.compiler.specs.Code.Finished.{HeldTree, Marking, Planned, FinishedBy}

-- an accepted text has no more literals than may be
few_typed : (text : List ℕ) (e : Expr) (a : Answer Typed) → typed_reading text ≡ a → on_result a (λ t. result (positive 0 t)) ≡ result e
    → literals e ≤ most_literals
few_typed text e (result t) is same =
    let form : positive 0 t ≡ e = cc in
    let known = (typed_reading_result text t).0 is in
    rw (← form, literals_positive 0 t) (derives_few known.1 (not_too_many known.0))
few_typed text e (refused r p) is same = let z : ◌≡◌ {A = ℕ} 0 1 = cc in absurd (omega arith)

few_literals : (text : List ℕ) (e : Expr) → reading text ≡ result e → literals e ≤ most_literals
unfolding reading
few_literals text e is = few_typed text e (typed_reading text) refl is

pub read_tree : {text ks ss : List ℕ} {n : ℕ} → HeldRight text ks ss n → HeldTree ks ss n
read_tree {text} h =
    record { tree = h.form; holds = h.holds; count = sym h.count; few = omega (arith, h.count, few_literals text h.form h.answer) }

pub read_marking : {text ks ss bs : List ℕ} {n : ℕ} → HeldRight text ks ss n → Planned ks ss bs n → Marking ks ss bs n
unfolding read_tree
read_marking h planned = record { held = read_tree h; row = marks h.form; marked = planned.each h.form h.holds }

pub compiled_refused : {text before : List ℕ} {f : Refusal} → RefusedAs text f → CompiledRight text before before (Err f)
unfolding compiled
compiled_refused h = record { answer = rw h; buffer = rw h }

pub compiled_held : {text ks ss bs before after : List ℕ} {n : ℕ} {a : Result ℕ Refusal} → HeldRight text ks ss n → Planned ks ss bs n
    → FinishedBy ks ss bs n before after a → CompiledRight text before after a
unfolding compiled
compiled_held h planned finished_by =
    let told = finished_by.each h.form (marks h.form) h.holds (planned.each h.form h.holds) (sym h.count) in
    record { answer = rw h.answer told.answer; buffer = rw h.answer told.buffer }
