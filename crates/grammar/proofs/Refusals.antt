-- The reading of a text refuses by the first of rows 1 to 6 that holds, at its place, and else gives what the text derives, since each
-- row's test decides it and the tests are made in the order of the rows. Assumes nothing.
use Prim.Native.Nat.{ℕ, ◌≤◌, ◌<◌}
use native.Mathlib.Omega.{arith}
use mathlib.Core.Path.{◌≡◌, refl}
use mathlib.Core.Logic.{◌↔◌, inl}
use mathlib.Core.List.{List, [], ◌∷◌}
use Rattle.terms.specs.Answer.{result, refuse}
use Rattle.terms.specs.Rows.{row, FirstOf, NoneOf}
use Rattle.terms.proofs.Rows.{decides_unique, Says, gives, refuses, refuse_says, result_says, on_result_says, OnePlace, EachNumber, first_number, result_by_none}
use Rattle.formula.specs.Formula.{Expr}
use Rattle.formula.specs.Typed.{Typed, positive}
use Rattle.grammar.specs.Grammar.{Derives}
use Rattle.grammar.specs.Twins.Reader.{Outcome, means, stops, read}
use Rattle.grammar.specs.Twins.Places.{over_long, foreign_byte, bad_run, too_deep, surplus}
use Rattle.grammar.specs.Rows.{TooLong, NotAllowed, BadNumber, TooDeep, NotASum, TooMany, text_rows}
use Rattle.grammar.specs.Twins.Reading.{grammatical, typed_reading, reading}
use Rattle.grammar.proofs.Complete.{derives_unique}
use Rattle.grammar.proofs.Sound.{read_sound}
use Rattle.grammar.proofs.Longest.{read_stops, not_a_sum_unique}
use Rattle.grammar.proofs.Passes.{over_long_decides, foreign_byte_decides, bad_run_decides, too_deep_decides, surplus_decides}

-- 5
grammatical_says : {text : List ℕ} (r : Outcome) → read text ≡ r → Says (row 5 (NotASum text) ∷ []) (Derives text) (grammatical r)
unfolding FirstOf NoneOf
grammatical_says (means e) is = let derives = read_sound is in gives (λ p row. row.no_meaning e derives, tt) derives
grammatical_says (stops p) is = refuses (inl (refl, read_stops is))

pub typed_reading_says : (text : List ℕ) → Says (text_rows text) (Derives text) (typed_reading text)
unfolding typed_reading
typed_reading_says text =
    refuse_says 1 (TooLong text) _ (over_long text) _ (over_long_decides text) λ _.
    refuse_says 2 (NotAllowed text) _ (foreign_byte text) _ (foreign_byte_decides text) λ _.
    refuse_says 3 (BadNumber text) _ (bad_run text) _ (bad_run_decides text) λ _.
    refuse_says 4 (TooDeep text) _ (too_deep text) _ (too_deep_decides text) λ _.
    on_result_says (row 5 (NotASum text) ∷ []) (row 6 (TooMany text) ∷ []) (λ e. refuse 6 (surplus text) (result e))
    (grammatical_says (read text) refl)
    λ e derives. refuse_says 6 (TooMany text) [] (surplus text) (result e) (surplus_decides derives) λ _. result_says derives

-- the positive form of what the text derives
pub record FormMeant (text : List ℕ) (form : Expr) : Type 0 where
  pub meaning : Typed
  pub derives : Derives text meaning
  pub form_is : form ≡ positive 0 meaning

pub reading_says : (text : List ℕ) → Says (text_rows text) (FormMeant text) (reading text)
unfolding reading
reading_says text =
    on_result_says (text_rows text) [] (λ e. result (positive 0 e)) (typed_reading_says text)
    λ e derives. result_says (record { meaning = e; derives = derives; form_is = refl })

pub text_rows_one_place : (text : List ℕ) → OnePlace (text_rows text)
unfolding OnePlace
text_rows_one_place text = (
  decides_unique (over_long_decides text),
  (
    decides_unique (foreign_byte_decides text),
    (
      decides_unique (bad_run_decides text),
      (
        decides_unique (too_deep_decides text),
        (
          λ p q. not_a_sum_unique,
          (λ p q a b. decides_unique (surplus_decides a.derives) p q a b, tt),
        ),
      ),
    ),
  ),
)

pub typed_reading_result : (text : List ℕ) (e : Typed) → (typed_reading text ≡ result e) ↔ (NoneOf (text_rows text) × Derives text e)
typed_reading_result text = result_by_none (λ x y. derives_unique) (typed_reading_says text)

pub text_rows_numbered : (text : List ℕ) (r at : ℕ) → FirstOf (text_rows text) r at → (1 ≤ r) × (r < 7)
unfolding EachNumber
text_rows_numbered text r at =
    first_number (λ q. (1 ≤ q) × (q < 7)) (text_rows text)
    (omega arith, (omega arith, (omega arith, (omega arith, (omega arith, (omega arith, tt)))))) r at

-- single rows of those that do not hold
pub no_bad_number : {text : List ℕ} → NoneOf (text_rows text) → (p : ℕ) → ¬ BadNumber text p
unfolding NoneOf
no_bad_number none = none.1.1.0

pub not_too_many : {text : List ℕ} → NoneOf (text_rows text) → (p : ℕ) → ¬ TooMany text p
unfolding NoneOf
not_too_many none = none.1.1.1.1.1.0
