-- The fields that the library's functions return say a refusal, or a result, exactly where the definitions' answer is one: nought is
-- no refusal's number. Assumes nothing.
use Prim.Native.Nat.{ℕ}
use mathlib.Core.Path.{◌≡◌, refl, sym, ap, ◌∙◌}
use mathlib.Core.Logic.{◌↔◌, ◌≢◌}
use mathlib.Core.List.{List}
use native.Mathlib.Decide.{ℕ_discrete}
use native.Mathlib.Omega.{arith}
use lib.ListN.{length}
use Rattle.terms.specs.Answer.{Answer, result, refused}
use Rattle.compiler.specs.Compiled.{written}
use Rattle.compiler.specs.Twins.Compiling.{compiled}
use Rattle.compiler.specs.Shown.{length_of}
use Rattle.blist.specs.declared.PlainTable.{PlainTable}
use Rattle.blist.specs.declared.PlainRun.{PlainRun}
use Rattle.blist.specs.Plain.{plain_run, CompileRight, FeedRight, Told, Read}
use Rattle.blist.proofs.Conform.{compile_told, feed_told}
use Rattle.promises.proofs.Laws.Answers.{length_refused, length_given}

no_both : {A : Type 0} {x : A} {n p : ℕ} {answer : Answer A} → answer ≡ result x → ¬ (answer ≡ refused n p)
no_both is isnt = let never : ◌≡◌ {A = ℕ} 0 1 = cc in omega arith

-- fields that tell an answer
module _ {A : Type 0} {refusal at : ℕ} {x : A} {answer : Answer A} (told : Told refusal at x answer) where
  pub told_refused : (n p : ℕ) → n ≢ 0 → ((refusal ≡ n) × (at ≡ p)) ↔ (answer ≡ refused n p)
  told_refused n p some = (
    λ is. let there = told.refusal_told (λ none. some (sym is.0 ∙ none)) in rw (← is.0, ← is.1) there,
    λ is.
        elim (ℕ_discrete refusal 0) [
          | yes none ↦ absurd (no_both (told.result_told none) is)
          | no one ↦ let there = told.refusal_told one in let number : refusal ≡ n = cc in let place : at ≡ p = cc in (number, place)
        ],
  )

  pub told_given : (refusal ≡ 0) ↔ (answer ≡ result x)
  told_given = (
    told.result_told,
    λ is. elim (ℕ_discrete refusal 0) [ yes none ↦ none | no one ↦ absurd (no_both is (told.refusal_told one)) ],
  )

module _ {text before after : List ℕ} {r : PlainTable} (right : CompileRight text before after r) where
  abbrev answer : Answer (List ℕ)
  answer = compiled text (length before)

  pub compile_refused : (n p : ℕ) → n ≢ 0 → ((r.refusal ≡ n) × (r.at ≡ p)) ↔ (answer ≡ refused n p)
  compile_refused n p some = (
    λ is. length_refused answer ((told_refused (compile_told right) n p some).0 is),
    λ is. (told_refused (compile_told right) n p some).1 (ap length_of is),
  )

  pub compile_unwritten : r.refusal ≢ 0 → after ≡ before
  compile_unwritten some =
      right.buffer ∙ ap (λ x. written x before) ((compile_refused r.refusal r.at some).0 (refl, refl))

  pub compile_given : (r.refusal ≡ 0) ↔ ((table : List ℕ) × (answer ≡ result table))
  compile_given = (
    λ none. length_given answer ((told_given (compile_told right)).0 none),
    λ some.
        elim (ℕ_discrete r.refusal 0) [
          | yes none ↦ none
          | no one ↦ absurd (no_both some.1 ((compile_refused r.refusal r.at one).0 (refl, refl)))
        ],
  )

module _ {gate label : ℕ} {table : List ℕ} {truth : ℕ} {r : PlainRun} (right : FeedRight gate label table truth r) where
  -- on a refusal gate and label are those handed in
  pub feed_handed_back : r.refusal ≢ 0 → (r.gate ≡ gate) × (r.label ≡ label)
  feed_handed_back some =
      let is = right.fields ∙ ap (plain_run gate label) ((told_refused (feed_told right) r.refusal r.at some).0 (refl, refl)) in
      (ap (λ (x : PlainRun). x.gate) is, ap (λ (x : PlainRun). x.label) is)

-- fields of a record that was read
module _ {A B : Type 0} {plain : Answer A → B} {r : B} {refusal at : ℕ} {answer : Answer A} (read : Read plain r refusal at answer) where
  pub read_refused : (n p : ℕ) → n ≢ 0 → ((refusal ≡ n) × (at ≡ p)) ↔ (answer ≡ refused n p)
  read_refused n p some = (
    λ is. let there = read.refusal_told (λ none. some (sym is.0 ∙ none)) in rw (← is.0, ← is.1) there,
    λ is.
        elim (ℕ_discrete refusal 0) [
          | yes none ↦ absurd (no_both (read.result_told none).answers is)
          | no one ↦ let there = read.refusal_told one in let number : refusal ≡ n = cc in let place : at ≡ p = cc in (number, place)
        ],
  )

  read_none : (x : A) → answer ≡ result x → refusal ≡ 0
  read_none x is = elim (ℕ_discrete refusal 0) [ yes none ↦ none | no one ↦ absurd (no_both is (read.refusal_told one)) ]

  -- no refusal means that no row holds, and that the fields are those of the one result
  pub read_whole : {Clear : Type 0} {y : A} → ((x : A) → (answer ≡ result x) ↔ (Clear × (x ≡ y))) → (refusal ≡ 0) ↔ (Clear × (r ≡ plain (result y)))
  read_whole {y = y} given = (
    λ none.
        let found = read.result_told none in
        let there = (given found.value).0 found.answers in
        (there.0, found.shows ∙ ap (λ (x : A). plain (result x)) there.1),
    λ both. read_none y ((given y).1 (both.0, refl)),
  )
