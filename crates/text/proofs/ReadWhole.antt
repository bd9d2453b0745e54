-- A whole text: what its reading means where an expression ends with it, and which refusal is given where none does.
-- Assumes nothing.
use Prim.Native.Nat.{ℕ, ◌-◌, ◌*◌, ◌≤◌, ◌<◌}
use mathlib.Core.Path.{◌≡◌, refl, ap, ◌∙◌}
use mathlib.Core.Bool.{true}
use mathlib.Core.Option.{none}
use mathlib.Core.List.{List, []}
use native.Mathlib.Omega.{arith}
use lib.ListN.{length, drop, drop_of_length-le}
use Rattle.std.specs.Int.{div_ceil}
use Rattle.std.proofs.lemmas.Grind.{div_ceil_times}
use Rattle.terms.specs.Terms.{most_literals}
use Rattle.terms.specs.declared.Reason.TheVariants.{NotASum}
use Rattle.terms.specs.declared.Refusal.{Refusal}
use Rattle.formula.specs.Typed.{positive}
use Rattle.grammar.specs.Twins.Places.{runs_before, surplus}
use Rattle.grammar.specs.Twins.Reader.{of_sums, complete, means, stops, read_from, read}
use Rattle.grammar.specs.Twins.Reading.{typed_reading, reading}
use Rattle.text.specs.Code.Readers.{Slots, slots, most_slots, Ready, SumMeans, SumStops, Built, Whole}
use Rattle.text.specs.Code.Answers.{Allowed, RefusedAs, CrowdedRight, HeldRight}
use Rattle.grammar.specs.Twins.Places.{sign_at}
use Rattle.text.proofs.ReadSigns.{complete_stuck}
use Rattle.text.proofs.ReadSteps.{stuck_here}
use Rattle.text.proofs.ReadForms.{form_literals}

-- the expression ends with the text, or does not
module _ {text : List ℕ} {a b : Slots} {i n : ℕ} (g : Built SumMeans of_sums text 0 true 0 a b i n) where
  pub whole_read : Ready text 0 0 a → i ≡ length text → Whole text b n
  unfolding read read_from runs_before
  whole_read u e =
      let m = g.means in
      let ended : drop i text ≡ [] = drop_of_length-le text {i = i} (omega arith) in
      let means_it : read text ≡ means g.meaning = m.reads [] ∙ rw ended (ap means m.is) in
      let fits : n ≤ most_slots = omega (arith, g.filled, g.counted, u.few, ap (runs_before text) e) in
      record { meaning = g.meaning; means = means_it; filled = omega (arith, g.filled); fits = fits; holds = g.holds 0 }

  pub whole_more : i < length text → read text ≡ stops i
  unfolding read
  whole_more h =
      let m = g.means in
      m.reads []
      ∙ stuck_here text i (complete m.sum m.product) [] h
      (complete_stuck m.sum m.product [] (sign_at text i) g.ends g.lower (λ c. refl))

pub whole_fault : (text : List ℕ) (p : ℕ) → SumStops text 0 p → read text ≡ stops p
unfolding read
whole_fault text p g = g []

-- the answer, where none of them is given
module _ {text : List ℕ} (a : Allowed text) where
  pub refused_crowded : (r : Refusal) → CrowdedRight text r → RefusedAs text r
  unfolding reading typed_reading
  refused_crowded r c = rw (a.short, a.plain, a.sound, a.shallow, c)

  pub refused_fault : (p : ℕ) → read text ≡ stops p → RefusedAs text (record { reason = NotASum; at = p })
  unfolding reading typed_reading
  refused_fault p s = rw (a.short, a.plain, a.sound, a.shallow, s)

  pub ready : runs_before text (length text) ≤ most_literals → {s : Slots} → most_slots ≤ length s.kinds → most_slots ≤ length s.spans → Ready text 0 0 s
  ready few ks ss = record { within = omega arith; clear = refl; sound = a.sound; few = few; so_far = omega arith; kinds_room = ks; spans_room = ss }

  pub held_right : {ks ss : List ℕ} {n : ℕ} → surplus text ≡ none → Whole text (slots ks ss) n → HeldRight text ks ss (div_ceil n 2)
  unfolding reading typed_reading
  held_right {ks} {ss} {n} few w =
      let e = w.meaning in
      let f = w.filled in
      let m = div_ceil_times n 2 (omega arith) in
      let back : 2 * div_ceil n 2 - 2 ≡ n - 1 = omega (arith, f, m.0, m.1) in
      record {
        form = positive 0 e;
        answer = rw (a.short, a.plain, a.sound, a.shallow, w.means, few);
        count = omega (arith, f, m.0, m.1, form_literals true 0 e);
        holds = rw back w.holds;
      }
