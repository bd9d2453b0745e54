-- A trace ends as the typed expression's value, since each of its steps is the one that the definitions give. Assumes nothing.
use Prim.Native.Nat.{ℕ}
use mathlib.Core.Path.{◌≡◌, refl, sym, ap, ◌∙◌}
use mathlib.Core.Bool.{Bool, false}
use mathlib.Core.List.{List, [], ◌∷◌}
use native.Mathlib.Omega.{arith}
use lib.ListN.{length}
use Rattle.std.specs.Prelude.{Result, Ok, Err}
use Rattle.terms.specs.declared.Refusal.{Refusal}
use Rattle.terms.specs.Refusals.{shown}
use Rattle.terms.proofs.Rows.{first_number}
use Rattle.terms.specs.Answer.{Answer, result, refused, on_result}
use Rattle.formula.specs.Typed.{Typed, numbers, typed_value}
use Rattle.formula.specs.Occurrences.{truth_at}
use Rattle.run.specs.declared.Run as held
use Rattle.run.specs.Run.{Run}
use Rattle.run.specs.Whole.{fed_all, whole_run}
use Rattle.run.specs.Twins.Answers.{started, fed, answered}
use Rattle.run.specs.Rows.{start_rows, feed_rows, answer_rows}
use Rattle.run.specs.Shown.{shown_run}
use Rattle.run.proofs.Rows.{start_refused, feed_refused, answer_refused}
use Rattle.promises.specs.Words.{Accepted, gate_of_each}
use Rattle.promises.specs.Driving.{Onward, Trace, was_refused_onward, was_refused}
use Rattle.promises.proofs.Laws.Reasons.{Reasoned, start_reasoned, feed_reasoned, answer_reasoned}
use Rattle.promises.proofs.Laws.Accepted.{run_typed}

-- what follows a run
abbrev onward : Run → List ℕ → List Bool → Answer Bool
onward r table us = on_result (fed_all r table us) (λ last. answered last table)

on_result_twice : {A B C : Type 0} (a : Answer A) (f : A → Answer B) (g : B → Answer C)
    → on_result a (λ x. on_result (f x) g) ≡ on_result (on_result a f) g
on_result_twice (result x) f g = refl
on_result_twice (refused r p) f g = refl

onward_next : (table : List ℕ) (us : List Bool) (u : Bool) (r : Run) {a : Answer Run} → a ≡ fed r table u
    → on_result a (λ next. onward next table us) ≡ onward r table (u ∷ us)
unfolding fed_all
onward_next table us u r {a} is = rw (sym is) (on_result_twice a (λ next. fed_all next table us) (λ last. answered last table))

onward_shown : {table : List ℕ} {r : held.Run} {us : List Bool} {a : Result Bool Refusal} → Onward table r us a → shown (λ t. t) a ≡ onward (shown_run r) table us
unfolding fed_all
onward_shown (Onward.asked right) = right.shown
onward_shown {table} {r} {us = u ∷ us} (Onward.fed right rest) = onward_shown rest ∙ onward_next table us u (shown_run r) right.shown
onward_shown {table} {r} {us = u ∷ us} (Onward.feed_refused right) = onward_next table us u (shown_run r) right.shown

started_next : (table : List ℕ) (us : List Bool) {a : Answer Run} → a ≡ started table → on_result a (λ r. onward r table us) ≡ whole_run table us
unfolding whole_run
started_next table us is = rw is

pub trace_shown : {table : List ℕ} {us : List Bool} {a : Result Bool Refusal} → Trace table us a → shown (λ t. t) a ≡ whole_run table us
trace_shown {table} {us} (Trace.started right rest) = onward_shown rest ∙ started_next table us right.shown
trace_shown {table} {us} (Trace.start_refused right) = started_next table us right.shown

-- an answer that shows a truth is that truth
truth_shown : (a : Result Bool Refusal) (t : Bool) → shown (λ t. t) a ≡ result t → a ≡ Ok t
truth_shown (Ok u) t e = cc
truth_shown (Err f) t e = let z : ◌≡◌ {A = ℕ} 0 1 = cc in absurd (omega arith)

-- a trace that ends on a truth has no refusal on its way
unrefused_onward : {table : List ℕ} {r : held.Run} {us : List Bool} {t : Bool} (way : Onward table r us (Ok t)) → was_refused_onward way ≡ false
unfolding was_refused_onward
unrefused_onward (Onward.asked right) = refl
unrefused_onward (Onward.fed right rest) = unrefused_onward rest

unrefused : {table : List ℕ} {us : List Bool} {t : Bool} (way : Trace table us (Ok t)) → was_refused way ≡ false
unfolding was_refused
unrefused (Trace.started right rest) = unrefused_onward rest

module _ {text table : List ℕ} {room : ℕ} {e : Typed} (accepted : Accepted text room e table) (truths : List Bool) (one_each : length truths ≡ numbers e) where
  -- start, one feed a gate, answer: the typed expression's value
  pub driven_truth : {a : Result Bool Refusal} → Trace table truths a → a ≡ Ok (typed_value (truth_at (gate_of_each e) truths) 0 e)
  driven_truth {a} way = truth_shown a _ (trace_shown way ∙ run_typed accepted truths one_each)

  -- and nothing on the way is refused
  pub never_refused : {a : Result Bool Refusal} (way : Trace table truths a) → was_refused way ≡ false
  never_refused {a} way = by a (driven_truth way) way
    where
      by : (a : Result Bool Refusal) → a ≡ Ok (typed_value (truth_at (gate_of_each e) truths) 0 e) → (way : Trace table truths a) → was_refused way ≡ false
      by (Ok t) is way = unrefused way
      by (Err f) is way = let z : ◌≡◌ {A = ℕ} 0 1 = cc in absurd (omega arith)

-- There is such a trace for every table and every row of truths: the definitions' own answers are conforming.
onward_exists : (table : List ℕ) (us : List Bool) (r : held.Run) → (a : Result Bool Refusal) × Onward table r us a
onward_exists table [] r = by (answered (shown_run r) table) refl
  where
    by : (x : Answer Bool) → answered (shown_run r) table ≡ x → (a : Result Bool Refusal) × Onward table r [] a
    by (result t) is = (Ok t, Onward.asked (record { shown = sym is }))
    by (refused n at) is =
        let (x, same) = first_number Reasoned (answer_rows (shown_run r) table) (answer_reasoned (shown_run r) table) n at ((answer_refused (shown_run r) table n at).0 is) in
        (Err (record { reason = x; at = at }), Onward.asked (record { shown = ap (λ q. refused q at) same ∙ sym is }))
onward_exists table (u ∷ us) r = by (fed (shown_run r) table u) refl (onward_exists table us)
  where
    by : (x : Answer Run) → fed (shown_run r) table u ≡ x → ((next : held.Run) → (a : Result Bool Refusal) × Onward table next us a)
        → (a : Result Bool Refusal) × Onward table r (u ∷ us) a
    by (result next) is later =
        let (a, rest) = later (record { gate = next.gate; label = record { 0 = next.label } }) in
        (a, Onward.fed (record { shown = sym is; handed_back = tt }) rest)
    by (refused n at) is later =
        let (x, same) = first_number Reasoned (feed_rows (shown_run r) table) (feed_reasoned (shown_run r) table) n at ((feed_refused (shown_run r) table u n at).0 is) in (
          Err (record { reason = x; at = at }),
          Onward.feed_refused {back = r} (record { shown = ap (λ q. refused q at) same ∙ sym is; handed_back = refl }),
        )

pub some_trace : (table : List ℕ) (us : List Bool) → (a : Result Bool Refusal) × Trace table us a
some_trace table us = by (started table) refl
  where
    by : (x : Answer Run) → started table ≡ x → (a : Result Bool Refusal) × Trace table us a
    by (result r) is =
        let (a, rest) = onward_exists table us (record { gate = r.gate; label = record { 0 = r.label } }) in
        (a, Trace.started (record { shown = sym is }) rest)
    by (refused n at) is =
        let (x, same) = first_number Reasoned (start_rows table) (start_reasoned table) n at ((start_refused table n at).0 is) in
        (Err (record { reason = x; at = at }), Trace.start_refused (record { shown = ap (λ q. refused q at) same ∙ sym is }))
