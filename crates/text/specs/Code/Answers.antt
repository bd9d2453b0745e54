-- What reading a text answers, in the terms of Reading.
--   ReadRight text ks ss r == the answer r is `reading text`; accepted, the lists ks and ss hold the positive form
--   EarlyRight, CrowdedRight == the same of refusals 1 to 4, and of 5 and 6 where nothing is built
-- Assumes nothing.
use Rattle.std.specs.Prelude.{ℕ, ◌-◌, ◌*◌, ◌≡◌, List, Option, None, Some, Result, Ok, Err, MatchResult}
use Rattle.std.proofs.Math.Option.{none}
use Rattle.terms.specs.Answer.{result, refused, refuse, on_result}
use Rattle.terms.specs.declared.Reason.{Reason}
use Rattle.terms.specs.declared.Refusal.{Refusal}
use Rattle.terms.specs.Refusals.{number_of}
use Rattle.formula.specs.Formula.{Expr, literals}
use Rattle.formula.specs.Code.Held.{Holds}
use Rattle.grammar.specs.Twins.Places.{over_long, foreign_byte, bad_run, too_deep, surplus}
use Rattle.grammar.specs.Twins.Reader.{read}
use Rattle.grammar.specs.Twins.Reading.{grammatical, reading}

-- none of refusals 1 to 4 is given
pub record Allowed (text : List ℕ) : Type 0 where
  pub short : over_long text ≡ none
  pub plain : foreign_byte text ≡ none
  pub sound : bad_run text ≡ none
  pub shallow : too_deep text ≡ none

-- the refusal for such a reason at the place that a pass found, if it found one
abbrev pub given : Reason → Option ℕ → Result Unit Refusal
given reason (Some p) = Err (record { reason = reason; at = p })
given reason None = Ok tt

-- the text is refused for such a reason at such a place
abbrev pub RefusedAs : List ℕ → Refusal → Type 0
RefusedAs text r = reading text ≡ refused (number_of r.reason) r.at

abbrev pub EarlyRight : List ℕ → Result Unit Refusal → Type 0
EarlyRight text r = MatchResult r (λ x. Allowed text) (RefusedAs text)

-- refusal 5 or 6, where none of 1 to 4 is given
abbrev pub CrowdedRight : List ℕ → Refusal → Type 0
CrowdedRight text r = on_result (grammatical (read text)) (λ e. refuse 6 (surplus text) (result e)) ≡ refused (number_of r.reason) r.at

-- so many literals are held, and the last of their slots is the root
pub record HeldRight (text ks ss : List ℕ) (n : ℕ) : Type 0 where
  pub form : Expr
  pub answer : reading text ≡ result form
  pub count : n ≡ literals form
  pub holds : Holds ks ss (2 * n - 2) form

abbrev pub ReadRight : List ℕ → List ℕ → List ℕ → Result ℕ Refusal → Type 0
ReadRight text ks ss r = MatchResult r (HeldRight text ks ss) (RefusedAs text)
