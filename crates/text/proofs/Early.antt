-- Refusals 1 to 4 in their order, and 5 and 6 of a text with too many numbers.
-- Assumes nothing.
use Prim.Native.Nat.{ℕ, ◌≤◌, ◌<◌}
use mathlib.Core.Path.{◌≡◌, sym, ap, ◌∙◌}
use mathlib.Core.Option as maybe
use mathlib.Core.List.{List}
use native.Mathlib.Omega.{arith}
use lib.ListN.{length}
use borrow.Author.Tests.{lt-ltb, le-ltb}
use Rattle.std.specs.Prelude.{Option, None, Some, Ok, Err}
use Rattle.terms.specs.Terms.{longest_text}
use Rattle.terms.specs.Answer.{refused}
use Rattle.terms.specs.declared.Reason.{Reason}
use Rattle.terms.specs.declared.Reason.TheVariants.{NotAllowed, BadNumber, TooDeep, NotASum, TooMany}
use Rattle.terms.specs.declared.Refusal.{Refusal}
use Rattle.grammar.specs.Twins.Places.{foreign_byte, bad_run, too_deep, surplus}
use Rattle.grammar.specs.Twins.Reader.{read}
use Rattle.grammar.specs.Twins.Reading.{typed_reading, reading}
use Rattle.text.specs.declared.Stop.{Stop}
use Rattle.text.specs.Code.Found.{found_as}
use Rattle.text.specs.Code.Flat.{verdict}
use Rattle.text.specs.Code.Answers.{given, RefusedAs, EarlyRight, CrowdedRight}
use Rattle.text.proofs.Flat.{fits_means, fault_stops}

-- what a pass found, by the refusal that was given for it or not
module _ (reason : Reason) {o : maybe.Option ℕ} where
  none_given : (f : Option ℕ) {x : Unit {0}} → found_as f ≡ o → Ok x ≡ given reason f → o ≡ maybe.none
  none_given None e g = sym e
  none_given (Some p) e g = absurd (grind arith)

  place_given : (f : Option ℕ) (r : Refusal) → found_as f ≡ o → Err r ≡ given reason f → (o ≡ maybe.some r.at) × (r.reason ≡ reason)
  place_given None r e g = absurd (grind arith)
  place_given (Some p) r e g =
      let same : ◌≡◌ {A = Refusal} r (record { reason = reason; at = p }) = grind arith in
      (sym e ∙ sym (ap (λ (x : Refusal). maybe.some x.at) same), ap (λ (x : Refusal). x.reason) same)

-- each row, where none of those before it is given
module _ (text : List ℕ) where
  pub refused_long : longest_text < length text → reading text ≡ refused 1 longest_text
  unfolding reading typed_reading
  refused_long h = rw (lt-ltb longest_text (length text) h)

  module _ (short : length text ≤ longest_text) (f : Option ℕ) (foreign : found_as f ≡ foreign_byte text) where
    pub refused_foreign : (r : Refusal) → Err r ≡ given NotAllowed f → RefusedAs text r
    unfolding reading typed_reading
    refused_foreign r g =
        let p = place_given NotAllowed f r foreign g in
        rw (le-ltb longest_text (length text) short, p.0, p.1)

    module _ {x : Unit {0}} (no_foreign : Ok x ≡ given NotAllowed f) (b : Option ℕ) (run : found_as b ≡ bad_run text) where
      pub refused_run : (r : Refusal) → Err r ≡ given BadNumber b → RefusedAs text r
      unfolding reading typed_reading
      refused_run r g =
          let p = place_given BadNumber b r run g in
          rw (le-ltb longest_text (length text) short, none_given NotAllowed f foreign no_foreign, p.0, p.1)

      pub deep_last : {y : Unit {0}} → Ok y ≡ given BadNumber b → (d : Option ℕ) → found_as d ≡ too_deep text → EarlyRight text (given TooDeep d)
      unfolding reading typed_reading
      deep_last no_run d deep = inner d deep
        where
          plain : foreign_byte text ≡ maybe.none
          plain = none_given NotAllowed f foreign no_foreign

          sound : bad_run text ≡ maybe.none
          sound = none_given BadNumber b run no_run

          inner : (d : Option ℕ) → found_as d ≡ too_deep text → EarlyRight text (given TooDeep d)
          inner (Some p) deep = rw (le-ltb longest_text (length text) short, plain, sound, ← deep)
          inner None deep = record { short = rw (le-ltb longest_text (length text) short); plain = plain; sound = sound; shallow = sym deep }

-- of a text with too many numbers the flat pass says whether it is a sum
module _ (text : List ℕ) where
  pub sum_beyond : {p : ℕ} {x : Unit {0}} → maybe.some p ≡ surplus text → Ok x ≡ verdict (read text) → CrowdedRight text (record { reason = TooMany; at = p })
  sum_beyond found fits = rw ((fits_means (read text) (sym fits)).1, ← found)

  pub no_sum : {stop : Stop} → Err stop ≡ verdict (read text) → CrowdedRight text (record { reason = NotASum; at = stop.0 })
  no_sum e = rw (fault_stops (read text) _ (sym e))
