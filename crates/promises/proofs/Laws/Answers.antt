-- An answer of the code is a refusal, or a result, exactly where the definitions' answer is, since its contract lets no other answer
-- be right. Assumes nothing.
use Prim.Native.Nat.{ℕ}
use mathlib.Core.Path.{◌≡◌, refl, sym, ap, ◌∙◌, subst}
use mathlib.Core.Logic.{◌↔◌}
use mathlib.Core.Bool.{Bool}
use mathlib.Core.List.{List}
use native.Mathlib.Omega.{arith}
use lib.ListN.{length}
use Rattle.std.specs.Prelude.{Result, Ok, Err}
use Rattle.std.specs.Result.{result_map_both}
use Rattle.terms.specs.Refusals.{number_of, shown}
use Rattle.run.specs.declared.FeedRefused as held_refused
use Rattle.terms.specs.declared.Refusal.{Refusal}
use Rattle.terms.specs.Answer.{Answer, result, refused}
use Rattle.compiler.specs.Compiled.{written}
use Rattle.compiler.specs.Twins.Compiling.{compiled}
use Rattle.compiler.specs.Shown.{length_of, CompiledRight}
use Rattle.compiler.proofs.Conform.{answers_alike}
use Rattle.run.specs.declared.Run as held
use Rattle.run.specs.Twins.Answers.{started, fed, answered}
use Rattle.run.specs.Shown.{shown_run, HandedBack, StartedRight, FedRight, AnsweredRight}
use Rattle.run.proofs.Conform.{started_alike, fed_alike, answered_alike}

-- a length is counted of a table, and a refusal stays
pub length_refused : (a : Answer (List ℕ)) {r at : ℕ} → length_of a ≡ refused r at → a ≡ refused r at
length_refused (result bytes) is = let never : ◌≡◌ {A = ℕ} 0 1 = cc in absurd (omega arith)
length_refused (refused q p) {r} {at} is = let number : q ≡ r = cc in let place : p ≡ at = cc in rw (number, place)

pub length_given : (a : Answer (List ℕ)) {n : ℕ} → length_of a ≡ result n → (table : List ℕ) × (a ≡ result table)
length_given (result bytes) is = (bytes, refl)
length_given (refused q p) is = let never : ◌≡◌ {A = ℕ} 0 1 = cc in absurd (omega arith)

module _ {text before after : List ℕ} {r : Result ℕ Refusal} (right : CompiledRight text before after r) where
  abbrev answer : Answer (List ℕ)
  answer = compiled text (length before)

  pub compile_refused : (f : Refusal) → (r ≡ Err f) ↔ (answer ≡ refused (number_of f.reason) f.at)
  compile_refused f = (
    λ is. length_refused answer (sym right.answer ∙ ap (shown (λ n. n)) is),
    λ is. answers_alike {after' = before} right (record { answer = sym (ap length_of is); buffer = sym (ap (λ x. written x before) is) }),
  )

  pub compile_unwritten : (f : Refusal) → r ≡ Err f → after ≡ before
  compile_unwritten f is = right.buffer ∙ ap (λ x. written x before) ((compile_refused f).0 is)

  pub compile_given : ((n : ℕ) × (r ≡ Ok n)) ↔ ((table : List ℕ) × (answer ≡ result table))
  compile_given = (
    λ some. length_given answer (sym right.answer ∙ ap (shown (λ n. n)) some.1),
    λ some. (
      length some.0,
      answers_alike {after' = written answer before} right
          (record { answer = sym (ap length_of some.1); buffer = refl }),
    ),
  )

module _ {table : List ℕ} {r : Result held.Run Refusal} (right : StartedRight table r) where
  pub start_refused : (f : Refusal) → (r ≡ Err f) ↔ (started table ≡ refused (number_of f.reason) f.at)
  start_refused f = (
    λ is. sym right.shown ∙ ap (shown shown_run) is,
    λ is. started_alike table r (Err f) right (record { shown = sym is }),
  )

  pub start_given : (run : held.Run) → (r ≡ Ok run) ↔ (started table ≡ result (shown_run run))
  start_given run = (
    λ is. sym right.shown ∙ ap (shown shown_run) is,
    λ is. started_alike table r (Ok run) right (record { shown = sym is }),
  )

module _ {run : held.Run} {table : List ℕ} {truth : Bool} {r : Result held.Run held_refused.FeedRefused} (right : FedRight run table truth r) where
  pub feed_refused : (f : Refusal) → (r ≡ Err (record { refusal = f; run = run })) ↔ (fed (shown_run run) table truth ≡ refused (number_of f.reason) f.at)
  feed_refused f = (
    λ is. sym right.shown ∙ ap (λ x. shown shown_run (result_map_both (λ y. y) (λ h. h.refusal) x)) is,
    λ is. fed_alike run table truth r (Err (record { refusal = f; run = run })) right (record { shown = sym is; handed_back = refl }),
  )

  pub feed_handed_back : (f : Refusal) (back : held.Run) → r ≡ Err (record { refusal = f; run = back }) → back ≡ run
  feed_handed_back f back is = subst (HandedBack run) is right.handed_back

  pub feed_given : (next : held.Run) → (r ≡ Ok next) ↔ (fed (shown_run run) table truth ≡ result (shown_run next))
  feed_given next = (
    λ is. sym right.shown ∙ ap (λ x. shown shown_run (result_map_both (λ y. y) (λ h. h.refusal) x)) is,
    λ is. fed_alike run table truth r (Ok next) right (record { shown = sym is; handed_back = tt }),
  )

module _ {run : held.Run} {table : List ℕ} {r : Result Bool Refusal} (right : AnsweredRight run table r) where
  pub answer_refused : (f : Refusal) → (r ≡ Err f) ↔ (answered (shown_run run) table ≡ refused (number_of f.reason) f.at)
  answer_refused f = (
    λ is. sym right.shown ∙ ap (shown (λ t. t)) is,
    λ is. answered_alike run table r (Err f) right (record { shown = sym is }),
  )

  pub answer_given : (truth : Bool) → (r ≡ Ok truth) ↔ (answered (shown_run run) table ≡ result truth)
  answer_given truth = (
    λ is. sym right.shown ∙ ap (shown (λ t. t)) is,
    λ is. answered_alike run table r (Ok truth) right (record { shown = sym is }),
  )
