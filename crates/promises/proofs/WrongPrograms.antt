-- Programs that no contract lets through: a compiler that refuses everything, writes one fixed table, writes nothing, or invents a
-- label count; and a run that honours its first feed and then only counts gates. Assumes nothing.
use Prim.Native.Nat.{ℕ}
use mathlib.Core.Path.{◌≡◌, refl, sym, ap, ◌∙◌}
use mathlib.Core.Bool.{Bool, true, false, true≢false}
use mathlib.Core.List.{List, [], ◌∷◌}
use native.Mathlib.Omega.{arith}
use lib.ListN.{get_or, take, replicate}
use Rattle.std.specs.Prelude.{Result, Ok, Err}
use Rattle.terms.specs.Refusals.{number_of}
use Rattle.terms.specs.declared.Refusal.{Refusal}
use Rattle.terms.specs.Answer.{Answer, result, refused}
use Rattle.formula.specs.Typed.{Typed, number, times, positive}
use Rattle.grammar.specs.Grammar.{Derives}
use Rattle.grammar.proofs.Sound.{read_sound}
use Rattle.turning.specs.Turning.{turned}
use Rattle.weaving.specs.Gates.{gates}
use Rattle.weaving.specs.Awaited.{most_awaited}
use Rattle.table.specs.Layout.{header_of}
use Rattle.compiler.specs.Compiled.{written}
use Rattle.compiler.specs.Twins.Compiling.{compiled}
use Rattle.compiler.specs.Shown.{length_of, CompiledRight}
use Rattle.run.specs.Run.{Run}
use Rattle.run.specs.Shown.{FedRight}
use Rattle.terms.specs.Texts.{bytes}
use Rattle.promises.proofs.Laws.Computing.{computing}
use Rattle.promises.specs.Words.{Accepted}
use Rattle.promises.specs.Examples.Counting.{fed_by, run_by, only_counting, EndsAsTyped}
use Rattle.promises.proofs.Laws.Meant.{right_is_accepted}
use Rattle.promises.proofs.Demands.{labels_are_awaited}

-- "a header with an invented label count": the awaited places of the expression say it
pub no_invented_count : {text before after : List ℕ} {n : ℕ} → CompiledRight text before after (Ok n)
    → (e : Typed) × Derives text e × ((header_of (take n after)).labels ≡ most_awaited (gates (turned (positive 0 e))))
no_invented_count right = let a = right_is_accepted right in (a.0, a.1.means, labels_are_awaited a.1)

-- a buffer of thirteen noughts, which has room for the table of one literal
abbrev noughts : List ℕ
noughts = replicate 13 0

five : compiled (bytes "5") 13 ≡ result (72 ∷ 1 ∷ 0 ∷ 2 ∷ 80 ∷ 5 ∷ 0 ∷ 0 ∷ 0 ∷ 1 ∷ 69 ∷ 0 ∷ 1 ∷ [])
unfolding computing
five = refl

six : compiled (bytes "6") 13 ≡ result (72 ∷ 1 ∷ 0 ∷ 2 ∷ 80 ∷ 6 ∷ 0 ∷ 0 ∷ 0 ∷ 1 ∷ 69 ∷ 0 ∷ 1 ∷ [])
unfolding computing
six = refl

-- "a compiler that refuses everything": it would have to refuse `5`
pub no_refusing_everything : (after : List ℕ) (f : Refusal) → ¬ CompiledRight (bytes "5") noughts after (Err f)
no_refusing_everything after f right =
    let is : ◌≡◌ {A = Answer ℕ} (refused (number_of f.reason) f.at) (result 13) = right.answer ∙ ap length_of five in
    let z : ◌≡◌ {A = ℕ} 0 1 = cc in
    omega arith

-- "or writes one fixed table": `5` and `6` would have the same
pub no_fixed_table : (after : List ℕ) (r s : Result ℕ Refusal) → CompiledRight (bytes "5") noughts after r → ¬ CompiledRight (bytes "6") noughts after s
no_fixed_table after r s right wrong =
    let is : written (compiled (bytes "5") 13) noughts ≡ written (compiled (bytes "6") 13) noughts = sym right.buffer ∙ wrong.buffer in
    let same : ◌≡◌ {A = ℕ} 5 6 = ap (λ (l : List ℕ). get_or l 5 0) (sym (ap (λ a. written a noughts) five) ∙ is ∙ ap (λ a. written a noughts) six) in
    omega arith

-- "and a compiler that writes nothing": the buffer would still hold noughts
pub no_writing_nothing : (r : Result ℕ Refusal) → ¬ CompiledRight (bytes "5") noughts noughts r
no_writing_nothing r right =
    let same : ◌≡◌ {A = ℕ} 0 72 = ap (λ (l : List ℕ). get_or l 0 0) (right.buffer ∙ ap (λ a. written a noughts) five) in
    omega arith

-- the table of `1*2`
abbrev product_table : List ℕ
product_table = 72 ∷ 2 ∷ 0 ∷ 2 ∷ 80 ∷ 1 ∷ 0 ∷ 0 ∷ 0 ∷ 1 ∷ 80 ∷ 2 ∷ 0 ∷ 0 ∷ 0 ∷ 1 ∷ 69 ∷ 0 ∷ 1 ∷ []

-- the label of the run that an answer gives
label_given : Answer Run → ℕ
label_given (result r) = r.label
label_given (refused r p) = 0

-- "a run that honours its first feed and then only counts gates": at gate 1 on label 0 a false truth leads to label 1
pub no_counting_only : ¬ FedRight (record { gate = 1; label = record { 0 = 0 } }) product_table false (Ok (record { gate = 2; label = record { 0 = 0 } }))
unfolding computing label_given
no_counting_only right =
    let is : ◌≡◌ {A = Answer Run} (result (record { gate = 2; label = 0 })) (result (record { gate = 2; label = 1 })) = right.shown in
    let same : ◌≡◌ {A = ℕ} 0 1 = ap label_given is in
    omega arith

-- `1*2` is accepted
product : Typed
product = times (number 1) (number 2)

product_accepted : Accepted (bytes "1*2") 19 product product_table
unfolding computing product
product_accepted = record { answers = refl; means = read_sound refl }

-- and demand 2 shuts that run out by the final truth: with truths 1 and 0 it ends true, where the expression is false
pub no_counting_run : ¬ EndsAsTyped (run_by only_counting)
unfolding computing product fed_by run_by
no_counting_run ends =
    let is : ◌≡◌ {A = Answer Bool} (result true) (result false) = ends (bytes "1*2") product_table 19 product product_accepted (true ∷ false ∷ []) refl in
    let same : true ≡ false = cc in
    true≢false same
