-- What a factor's answer is made of: its literal, or what stands in parentheses, behind its complements.
-- Assumes nothing.
use Prim.Native.Nat.{ℕ, ◌+◌, ◌-◌, ◌≤◌, ◌<◌}
use mathlib.Core.Path.{◌≡◌, refl, ap, ◌∙◌}
use mathlib.Core.Bool.{Bool, true, false}
use mathlib.Core.List.{List, ◌∷◌}
use Rattle.std.specs.Prelude.{Result, Ok, Err}
use native.Mathlib.Omega.{arith}
use lib.ListN.{length, set}
use Rattle.formula.specs.Typed.{Typed, number, numbers}
use Rattle.formula.specs.Code.Held.{literal_number}
use Rattle.formula.proofs.Held.{holds_leaf}
use Rattle.grammar.specs.declared.Sign.{Sign}
use Rattle.text.specs.declared.Stop.{Stop}
use Rattle.text.specs.declared.readers.Cursor.{Cursor}
use Rattle.text.specs.declared.readers.Numeral.{Numeral}
use Rattle.grammar.specs.Bytes.{is_digit}
use Rattle.grammar.specs.Twins.Places.{sign_at, is_open, is_close}
use Rattle.grammar.specs.Twins.Reader.{of_sums, Waiting, nothing, wanted, complete, complemented, product_with, next_state, closing}
use Rattle.text.specs.Code.Readers.{of_factors, leads, complementing, Slots, slots, most_slots, Ready, Skipped, Passed, Numbered, FactorMeans, FactorStops, SumMeans, SumStops, Built, FactorRead, Closed, reads_on}
use Rattle.grammar.proofs.Signs.{is_open_true, is_close_true}
use Rattle.grammar.proofs.Numbers.{numbers_complemented}
use Rattle.text.proofs.ReadSigns.{wanted_stuck, complete_stuck, binding_low}
use Rattle.text.proofs.ReadSteps.{stands, step_on, step_stuck}
use Rattle.text.proofs.ReadRuns.{runs_kept, clear_after}
use Rattle.text.proofs.ScanRuns.{runs_up}
use Rattle.text.proofs.ReadForms.{form_number, form_complemented, product_complemented, kept_set}

-- a `)` that is read stands in the text
pub close_stands : (text : List ℕ) (i : ℕ) → is_close (sign_at text i) ≡ true → i < length text
close_stands text i e = stands text i is_close refl e

-- a number as an operand
module _ {text : List ℕ} {at next : ℕ} {a : Slots} (g : Ready text at next a) {r : Numeral} (m : Numbered text at r) where
  pub literal_fits : next < most_slots
  literal_fits = let u = runs_up text r.next (length text) m.within in omega (arith, g.so_far, g.few, m.runs)

  pub literal_read : (sense : Bool) {l code : ℕ} {ks ss : List ℕ} → Skipped text r.next l
      → ks ≡ set a.kinds next code → code ≡ literal_number r.value.0 sense → ss ≡ set a.spans next 1
      → Built FactorMeans of_factors text at sense next a (slots ks ss) l (next + 1)
  unfolding numbers
  literal_read sense {l} s e f h =
      let room = literal_fits in
      let back : next + 1 - 1 ≡ next = omega arith in
      rw (e, f, h)
      (record {
        meaning = number r.value.0;
        means = λ w outer. m.reads w outer ∙ s.over.reads w.sum (product_with w (number r.value.0)) outer;
        past = omega (arith, m.past, s.over.from);
        within = s.over.within;
        ends = s.ends;
        lower = binding_low (sign_at text l);
        counted = omega (arith, m.runs, s.over.runs);
        filled = omega arith;
        holds = λ k. rw (back, form_number sense k r.value.0)
            (holds_leaf a.kinds a.spans next (record { primitive = r.value.0; sense = sense; occurrence = k })
            (omega (arith, g.kinds_room)) (omega (arith, g.spans_room)));
        kept = kept_set next _ _ a;
      })

-- an operand behind its complements
module _ {text : List ℕ} {at i : ℕ} {sense s : Bool} (p : Passed text at sense i s) where
  pub prefixed : {next l n : ℕ} {a b : Slots} → Built FactorMeans of_factors text i s next a b l n → Built FactorMeans of_factors text at sense next a b l n
  prefixed {l = l} g =
      let e = g.meaning in
      let same = numbers_complemented p.count e in
      record {
        meaning = complemented p.count e;
        means = λ w outer. p.reads w outer
            ∙ g.means (complementing p.count w) outer
            ∙ ap (λ (x : Typed). reads_on text (complete w.sum x) outer l) (product_complemented p.count w e);
        past = omega (arith, p.from, g.past);
        within = g.within;
        ends = g.ends;
        lower = g.lower;
        counted = omega (arith, p.runs, g.counted);
        filled = omega (arith, g.filled);
        holds = λ k. rw (form_complemented p.count sense k e) (rw p.sensed at (g.holds k));
        kept = g.kept;
      }

  pub prefixed_late : {q : ℕ} → FactorStops text i q → FactorStops text at q
  prefixed_late g = λ w outer. p.reads w outer ∙ g (complementing p.count w) outer

-- where no operand starts
pub nothing_read : (text : List ℕ) (i : ℕ) → i ≤ length text → leads (sign_at text i) ≡ false
    → is_digit (sign_at text i) ≡ false → is_open (sign_at text i) ≡ false → FactorStops text i i
nothing_read text i h p d o = λ w outer. step_stuck text i (wanted w) outer h (wanted_stuck w outer (sign_at text i) p d o) refl

-- an expression in parentheses
pub open_stands : (text : List ℕ) (i : ℕ) → is_open (sign_at text i) ≡ true → i < length text
open_stands text i e = stands text i is_open refl e

pub ready_inner : {text : List ℕ} {at i next : ℕ} {sense s : Bool} {a : Slots} → Ready text at next a → Passed text at sense i s
    → is_open (sign_at text i) ≡ true → Ready text (i + 1) next a
ready_inner {text} {at} {i} g p o =
    let h = open_stands text i o in
    let k = ap is_digit (is_open_true (sign_at text i) o) in
    let q = runs_kept text i k in
    record {
      within = omega arith;
      clear = clear_after text i k;
      sound = g.sound;
      few = g.few;
      so_far = omega (arith, g.so_far, p.runs);
      kinds_room = g.kinds_room;
      spans_room = g.spans_room;
    }

pub ready_literal : {text : List ℕ} {at i next : ℕ} {sense s : Bool} {a : Slots} → Ready text at next a → Passed text at sense i s → Ready text i next a
ready_literal g p =
    record {
      within = p.within;
      clear = p.clear;
      sound = g.sound;
      few = g.few;
      so_far = omega (arith, g.so_far, p.runs);
      kinds_room = g.kinds_room;
      spans_room = g.spans_room;
    }

module _ (text : List ℕ) (i : ℕ) (o : is_open (sign_at text i) ≡ true) where
  -- the machine at the `(`
  opened : (w : Waiting) (outer : List Waiting) → reads_on text (wanted w) outer i ≡ reads_on text (wanted nothing) (w ∷ outer) (i + 1)
  opened w outer =
      step_on text i (wanted w) (wanted nothing) outer (w ∷ outer) (open_stands text i o)
      (ap (λ (x : Sign). next_state (wanted w) x outer) (is_open_true (sign_at text i) o))

  inner_shut : {j n l next : ℕ} {s : Bool} {a b : Slots} → Built SumMeans of_sums text (i + 1) s next a b j n → is_close (sign_at text j) ≡ true → Skipped text (j + 1) l
      → Built FactorMeans of_factors text i s next a b l n
  inner_shut {j} {n} {l} g c k =
      let e = g.meaning in
      let m = g.means in
      let here = is_close_true (sign_at text j) c in
      let q = runs_kept text i (ap is_digit (is_open_true (sign_at text i) o)) in
      let q' = runs_kept text j (ap is_digit here) in
      record {
        meaning = e;
        means = λ w outer. opened w outer
            ∙ m.reads (w ∷ outer)
            ∙ step_on text j (complete m.sum m.product) (complete w.sum (product_with w e)) (w ∷ outer) outer (close_stands text j c)
            (ap (λ (x : Sign). next_state (complete m.sum m.product) x (w ∷ outer)) here ∙ ap (λ (x : Typed). closing x (w ∷ outer)) m.is)
            ∙ k.over.reads w.sum (product_with w e) outer;
        past = omega (arith, g.past, k.over.from);
        within = k.over.within;
        ends = k.ends;
        lower = binding_low (sign_at text l);
        counted = omega (arith, g.counted, k.over.runs);
        filled = g.filled;
        holds = g.holds;
        kept = g.kept;
      }

  inner_missing : {j n next : ℕ} {s : Bool} {a b : Slots} → Built SumMeans of_sums text (i + 1) s next a b j n → is_close (sign_at text j) ≡ false → FactorStops text i j
  inner_missing {j} g c =
      let m = g.means in
      λ w outer. opened w outer
      ∙ m.reads (w ∷ outer)
      ∙ step_stuck text j (complete m.sum m.product) (w ∷ outer) g.within
      (complete_stuck m.sum m.product (w ∷ outer) (sign_at text j) g.ends g.lower (λ t. cc)) refl

  pub inner_read : {at next : ℕ} {sense s : Bool} {a b : Slots} → Passed text at sense i s → (inner : Cursor) (r : Result Cursor Stop)
      → Built SumMeans of_sums text (i + 1) s next a b inner.at inner.free → Closed text inner r → FactorRead text at sense next a b r
  inner_read p inner (Ok outer) g c = rw c.free (prefixed p (inner_shut g c.close c.skipped))
  inner_read p inner (Err stop) g c = rw c.here (prefixed_late p (inner_missing g c.close))

  pub inner_late : {at q : ℕ} {sense s : Bool} → Passed text at sense i s → SumStops text (i + 1) q → FactorStops text at q
  inner_late p g = prefixed_late p (λ w outer. opened w outer ∙ g (w ∷ outer))
