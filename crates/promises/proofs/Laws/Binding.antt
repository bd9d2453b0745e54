-- What compiling refuses does not depend on how operators bind: the tests before the reader do not look at operators, readers stop together
-- and read as many numbers, and the table's length follows from these. Assumes nothing.
use Prim.Native.Nat.{ℕ, ◌≤◌}
use mathlib.Core.Path.{◌≡◌, refl}
use mathlib.Core.Bool.{Bool, true, false}
use mathlib.Core.Logic.{◌↔◌}
use mathlib.Core.Option.{Option, none, some}
use mathlib.Core.List.{List}
use native.Mathlib.Omega.{arith}
use lib.Dec.{ltb}
use borrow.Author.Tests.{le-ltb}
use Rattle.terms.specs.Terms.{most_literals, most_labels}
use Rattle.terms.specs.Answer.{Answer, result, refused, refuse, on_result}
use Rattle.terms.specs.First.{where_so}
use Rattle.formula.specs.Typed.{Typed, numbers, positive}
use Rattle.formula.proofs.Occurrences.{literals_positive}
use Rattle.grammar.specs.Twins.Reader.{Outcome, means, stops, read}
use Rattle.grammar.specs.Twins.Places.{over_long, foreign_byte, bad_run, too_deep, surplus}
use Rattle.grammar.specs.Twins.Reading.{grammatical, tested, typed_reading, reading}
use Rattle.grammar.proofs.Few.{derives_few}
use Rattle.grammar.proofs.Refusals.{typed_reading_result, not_too_many}
use Rattle.turning.specs.Turning.{marks, turned}
use Rattle.weaving.specs.Labels.{weave}
use Rattle.table.specs.Layout.{table_length}
use Rattle.compiler.specs.Compiled.{table_of}
use Rattle.compiler.specs.Twins.Compiling.{finished, compiled}
use Rattle.promises.specs.Words.{arrangement}
use Rattle.promises.specs.Examples.Binding.{Levels, read_by, compiled_by}
use Rattle.promises.proofs.Laws.Accepted.{label_count_enough}
use Rattle.promises.proofs.Laws.Levels.{AlikeOutcome, read_alike}

-- two answers of the tests that refuse alike, or give as many numbers
abbrev AlikeAnswer : Answer Typed → Answer Typed → Type 0
AlikeAnswer (result e) (result f) = numbers e ≡ numbers f
AlikeAnswer (result e) (refused r p) = ⊥
AlikeAnswer (refused r p) (result f) = ⊥
AlikeAnswer (refused r p) (refused q o) = (r ≡ q) × (p ≡ o)

refuse_alike : (r : ℕ) (at : Option ℕ) (a b : Answer Typed) → AlikeAnswer a b → AlikeAnswer (refuse r at a) (refuse r at b)
refuse_alike r none a b alike = alike
refuse_alike r (some p) a b alike = (refl, refl)

grammatical_alike : (text : List ℕ) (r q : Outcome) → AlikeOutcome r q
    → AlikeAnswer (on_result (grammatical r) (λ e. refuse 6 (surplus text) (result e))) (on_result (grammatical q) (λ e. refuse 6 (surplus text) (result e)))
grammatical_alike text (means e) (means f) same = refuse_alike 6 (surplus text) (result e) (result f) same
grammatical_alike text (means e) (stops q) same = absurd same
grammatical_alike text (stops p) (means f) same = absurd same
grammatical_alike text (stops p) (stops q) same = (refl, same)

tested_alike : (text : List ℕ) (r q : Outcome) → AlikeOutcome r q → AlikeAnswer (tested text r) (tested text q)
tested_alike text r q same =
    refuse_alike 1 (over_long text) _ _
    (refuse_alike 2 (foreign_byte text) _ _
    (refuse_alike 3 (bad_run text) _ _
    (refuse_alike 4 (too_deep text) _ _ (grammatical_alike text r q same))))

-- where there are few numbers the room alone is refused
abbrev in_room : Typed → ℕ → Answer (List ℕ)
in_room e room = finished (positive 0 e) (marks (positive 0 e)) room

finished_by_room : (e : Typed) (room : ℕ) → numbers e ≤ most_literals
    → in_room e room ≡ refuse 8 (where_so (ltb room (table_length (numbers e))) (table_length (numbers e))) (result (table_of (weave (arrangement e))))
unfolding finished turned
finished_by_room e room few =
    let ten_labels : (weave (arrangement e)).label_count ≤ 10 = label_count_enough e 10 (omega arith) in
    rw (literals_positive 0 e, le-ltb most_labels (weave (arrangement e)).label_count (omega arith))

result_or_refused : {A : Type 0} {x : A} {r at : ℕ} → result x ≡ refused r at → ⊥
result_or_refused is = let z : ◌≡◌ {A = ℕ} 0 1 = cc in omega arith

room_alike : (t : Bool) (n : ℕ) (a b : List ℕ) (r at : ℕ) → (refuse 8 (where_so t n) (result a) ≡ refused r at) ↔ (refuse 8 (where_so t n) (result b) ≡ refused r at)
room_alike true n a b r at = (λ is. is, λ is. is)
room_alike false n a b r at = (λ is. absurd (result_or_refused is), λ is. absurd (result_or_refused is))

module _ (text : List ℕ) (room r at : ℕ) where
  answer_alike : (a b : Answer Typed) → typed_reading text ≡ b → AlikeAnswer a b
      → (on_result a (λ e. in_room e room) ≡ refused r at) ↔ (on_result b (λ e. in_room e room) ≡ refused r at)
  answer_alike (result e) (result f) is same =
      let known = (typed_reading_result text f).0 is in
      let few : numbers f ≤ most_literals = derives_few known.1 (not_too_many known.0) in
      rw (finished_by_room e room (omega arith), finished_by_room f room few, same)
      (room_alike (ltb room (table_length (numbers f))) (table_length (numbers f)) _ _ r at)
  answer_alike (result e) (refused q p) is alike = absurd alike
  answer_alike (refused q p) (result f) is alike = absurd alike
  answer_alike (refused q p) (refused q' p') is alike = rw (alike.0, alike.1) (λ same. same, λ same. same)

compiled_tested : (text : List ℕ) (room : ℕ) → compiled text room ≡ on_result (typed_reading text) (λ e. in_room e room)
unfolding compiled reading
compiled_tested text room = by_answer (typed_reading text)
  where
    by_answer : (a : Answer Typed) → on_result (on_result a (λ e. result (positive 0 e))) (λ e. finished e (marks e) room) ≡ on_result a (λ e. in_room e room)
    by_answer (result e) = refl
    by_answer (refused q p) = refl

pub refused_alike : (levels : Levels) (text : List ℕ) (room r at : ℕ) → (compiled_by levels text room ≡ refused r at) ↔ (compiled text room ≡ refused r at)
unfolding compiled_by typed_reading
refused_alike levels text room r at =
    rw (compiled_tested text room)
    (answer_alike text room r at (tested text (read_by levels text)) (tested text (read text)) refl
    (tested_alike text (read_by levels text) (read text) (read_alike levels text)))

-- a reader that reads a text alike compiles it alike
pub compiled_read : (levels : Levels) (text : List ℕ) (room : ℕ) → read_by levels text ≡ read text → compiled_by levels text room ≡ compiled text room
unfolding compiled_by typed_reading
compiled_read levels text room same = rw (compiled_tested text room, same)
