-- Operands joined by operators from the left: a product of factors, and a sum of products.
-- Assumes nothing.
use Prim.Native.Nat.{ℕ, suc, ◌+◌, ◌-◌, ◌≤◌, ◌<◌}
use mathlib.Core.Path.{◌≡◌, refl, ap, ◌∙◌}
use mathlib.Core.Bool.{Bool}
use mathlib.Core.List.{List}
use native.Mathlib.Decide.{dec_lt}
use native.Mathlib.Omega.{arith}
use lib.ListN.{length, set}
use Rattle.formula.specs.Formula.{Kind, Expr, join}
use Rattle.formula.specs.Typed.{Typed, numbers}
use Rattle.formula.specs.Code.Held.{nodes, join_number, Holds}
use Rattle.formula.proofs.Held.{holds_joint, intersects}
use Rattle.grammar.specs.declared.Operator.{Operator}
use Rattle.grammar.specs.declared.Operator.TheVariants.{Times}
use Rattle.grammar.specs.declared.Sign.{Sign}
use Rattle.grammar.specs.Twins.Places.{sign_at}
use Rattle.grammar.specs.Twins.Reader.{of_sums, of_products, applied, Pending, alone, half, Waiting, wanted, complete, complemented, awaiting, next_state}
use Rattle.grammar.proofs.Numbers.{numbers_applied}
use Rattle.text.specs.Code.Readers.{of_factors, right_sense, behind, intersecting, meets, binding, after, form, Slots, slots, Kept, Ready, most_slots, FactorMeans, FactorStops, ProductMeans, ProductStops, SumMeans, SumStops, Built, reads_on}
use Rattle.text.proofs.ReadSigns.{binds_no_digit, times_is, OfSums, sum_is}
use Rattle.text.proofs.ReadSteps.{beyond, step_on}
use Rattle.text.proofs.ReadRuns.{runs_kept, clear_after}
use Rattle.text.proofs.ScanRuns.{runs_up}
use Rattle.text.proofs.ReadForms.{numbers_some, form_nodes, kind_in, kind_number, form_applied, kept_refl, kept_trans, kept_set, holds_below}

-- an operator stands in the text
pub binds_stands : (text : List ℕ) (i : ℕ) → 1 ≤ binding (sign_at text i) → i < length text
binds_stands text i h = go_on (dec_lt i (length text))
  where
    go_on : Dec (i < length text) → i < length text
    go_on (yes l) = l
    go_on (no f) = absurd (let e = ap binding (beyond text i (omega arith)) in omega arith)

-- an operator's node behind its two operands
node_joined : (kd : Kind) (l r : Expr) (start n m : ℕ) (c : Slots) → n ≡ start + nodes l → m ≡ n + nodes r → 1 ≤ n
    → m < length c.kinds → m < length c.spans → Holds c.kinds c.spans (n - 1) l → Holds c.kinds c.spans (m - 1) r
    → Holds (set c.kinds m (join_number (intersects kd))) (set c.spans m (m + 1 - start)) m (join kd l r)
node_joined kd l r start n m c e f pos hk hs a b =
    let span : m + 1 - start ≡ suc (nodes l + nodes r) = omega arith in
    let left : n - 1 ≡ m - 1 - nodes r = omega arith in
    rw span (holds_joint c.kinds c.spans m kd l r hk hs (omega arith) (rw left at a) b)

-- there is room for an operator behind its operands
pub record Room (start n m : ℕ) (c : Slots) : Type 0 where
  pub left : start ≤ n
  pub right : n ≤ m
  pub below : m < most_slots
  pub kinds_room : most_slots ≤ length c.kinds
  pub spans_room : most_slots ≤ length c.spans

module _ {M : List ℕ → ℕ → ℕ → Typed → Type 0} {lv : ℕ} {text : List ℕ} {at start i n : ℕ} {sense : Bool} {a z b : Slots}
    (u : Ready text at start a) (f : Kept start a z) (k : Built M lv text at sense start z b i n) (h : 1 ≤ binding (sign_at text i)) where
  pub ready_next : Ready text (i + 1) n b
  ready_next =
      let l = binds_stands text i h in
      let d = binds_no_digit (sign_at text i) h in
      let q = runs_kept text i d in
      record {
        within = omega arith;
        clear = clear_after text i d;
        sound = u.sound;
        few = u.few;
        so_far = omega (arith, u.so_far, k.counted, k.filled);
        kinds_room = omega (arith, u.kinds_room, f.kinds_long, k.kept.kinds_long);
        spans_room = omega (arith, u.spans_room, f.spans_long, k.kept.spans_long);
      }

  pub room : {N : List ℕ → ℕ → ℕ → Typed → Type 0} {lw : ℕ} {s : Bool} {c : Slots} {j m : ℕ} → Built N lw text (i + 1) s n b c j m → Room start n m c
  room {j = j} g =
      let d = binds_no_digit (sign_at text i) h in
      let q = runs_kept text i d in
      let up = runs_up text j (length text) g.within in
      let x = numbers_some k.meaning in
      let y = numbers_some g.meaning in
      record {
        left = omega (arith, k.filled);
        right = omega (arith, g.filled);
        below = omega (arith, u.so_far, u.few, k.counted, k.filled, g.counted, g.filled);
        kinds_room = omega (arith, u.kinds_room, f.kinds_long, k.kept.kinds_long, g.kept.kinds_long);
        spans_room = omega (arith, u.spans_room, f.spans_long, k.kept.spans_long, g.kept.spans_long);
      }

  -- two operands and the operator between them
  chained : (P : List ℕ → ℕ → ℕ → Typed → Type 0) (o : Operator) {N : List ℕ → ℕ → ℕ → Typed → Type 0} {lw : ℕ} {s : Bool} {c : Slots} {j m : ℕ}
      (g : Built N lw text (i + 1) s n b c j m) → s ≡ right_sense o sense → P text at j (applied o k.meaning g.meaning)
      → {ks ss : List ℕ} → ks ≡ set c.kinds m (join_number (intersecting o sense)) → ss ≡ set c.spans m (m + 1 - start)
      → Built P lw text at sense start z (slots ks ss) j (m + 1)
  chained P o {s = s} {c = c} {m = m} g sensed p {ks = ks} eks ess =
      let d = binds_no_digit (sign_at text i) h in
      let q = runs_kept text i d in
      let fits = room g in
      let x = numbers_some k.meaning in
      let y = numbers_some g.meaning in
      let both = numbers_applied o k.meaning g.meaning in
      let back : m + 1 - 1 ≡ m = omega arith in
      let first = fits.left in
      let second = fits.right in
      let made : ks ≡ set c.kinds m (join_number (intersects (kind_in (intersecting o sense)))) = rw (kind_number (intersecting o sense)) eks in
      rw (made, ess)
      (record {
        meaning = applied o k.meaning g.meaning;
        means = p;
        past = omega (arith, k.past, g.past);
        within = g.within;
        ends = g.ends;
        lower = g.lower;
        counted = omega (arith, k.counted, g.counted);
        filled = omega (arith, k.filled, g.filled);
        holds = λ v. rw (back, form_applied o sense v k.meaning g.meaning, ← sensed)
            (node_joined (kind_in (intersecting o sense)) (form sense v k.meaning) (form s (v + numbers k.meaning) g.meaning) start n m c
            (omega (arith, k.filled, form_nodes sense v k.meaning))
            (omega (arith, g.filled, form_nodes s (v + numbers k.meaning) g.meaning))
            (omega (arith, k.filled))
            (omega (arith, fits.below, fits.kinds_room))
            (omega (arith, fits.below, fits.spans_room))
            (holds_below (omega (arith, k.filled)) g.kept (k.holds v))
            (g.holds (v + numbers k.meaning)));
        kept = kept_trans first k.kept (kept_trans second g.kept (kept_set m _ _ c));
      })

-- a product starts with its first factor
pub product_first : {text : List ℕ} {at start next n : ℕ} {sense : Bool} {a b : Slots} → Built FactorMeans of_factors text at sense start a b next n
    → Built ProductMeans of_factors text at sense start b b next n
unfolding complemented
product_first {start = start} {b = b} g =
    record {
      meaning = g.meaning;
      means = λ sum outer. g.means (after sum) outer;
      past = g.past;
      within = g.within;
      ends = g.ends;
      lower = g.lower;
      counted = g.counted;
      filled = g.filled;
      holds = g.holds;
      kept = kept_refl start b;
    }

module _ {text : List ℕ} {at start i n : ℕ} {sense : Bool} {a z b : Slots} (u : Ready text at start a) (f : Kept start a z)
    (k : Built ProductMeans of_factors text at sense start z b i n) (h : of_products ≤ binding (sign_at text i)) where
  -- the machine at the operator
  at_times : (sum : Pending) (outer : List Waiting) → reads_on text (wanted (after sum)) outer at ≡ reads_on text (wanted (awaiting of_products sum k.meaning Times)) outer (i + 1)
  at_times sum outer = k.means sum outer
      ∙ step_on text i (complete sum k.meaning) _ outer outer (binds_stands text i (omega arith))
      (ap (λ (x : Sign). next_state (complete sum k.meaning) x outer) (times_is (sign_at text i) h))

  pub product_again : {c : Slots} {j m : ℕ} → Built FactorMeans of_factors text (i + 1) sense n b c j m
      → {ks ss : List ℕ} → ks ≡ set c.kinds m (join_number sense) → ss ≡ set c.spans m (m + 1 - start)
      → Built ProductMeans of_factors text at sense start z (slots ks ss) j (m + 1)
  unfolding complemented
  product_again g =
      chained u f k (omega arith) ProductMeans Times g refl (λ sum outer. at_times sum outer ∙ g.means (awaiting of_products sum k.meaning Times) outer)

  pub product_late : {p : ℕ} → FactorStops text (i + 1) p → ProductStops text at p
  product_late g = λ sum outer. at_times sum outer ∙ g _ outer

-- a sum
module _ {text : List ℕ} {at start i n : ℕ} {sense : Bool} {a z b : Slots} (u : Ready text at start a) (f : Kept start a z)
    (k : Built SumMeans of_products text at sense start z b i n) (h : of_sums ≤ binding (sign_at text i)) where
  here : OfSums (sign_at text i)
  here = sum_is (sign_at text i) h k.lower

  -- the machine at the operator
  at_operator : (outer : List Waiting) → reads_on text (wanted (after alone)) outer at ≡ reads_on text (wanted (after (half k.meaning here.operator))) outer (i + 1)
  at_operator outer =
      let m = k.means in
      m.reads outer
      ∙ step_on text i (complete m.sum m.product) (wanted (after (half k.meaning here.operator))) outer outer (binds_stands text i h)
      (rw (here.is, here.binds, m.is))

  pub sum_again : {s t : Bool} {c : Slots} {j m : ℕ} → s ≡ behind (sign_at text i) sense → t ≡ meets (sign_at text i) sense
      → Built ProductMeans of_products text (i + 1) s n b c j m → {ks ss : List ℕ} → ks ≡ set c.kinds m (join_number t)
      → ss ≡ set c.spans m (m + 1 - start) → Built SumMeans of_products text at sense start z (slots ks ss) j (m + 1)
  sum_again sensed met g eks ess =
      let o = here.operator in
      chained u f k h SumMeans o g (sensed ∙ ap (λ (x : Sign). behind x sense) here.is)
      (record { sum = half k.meaning o; product = g.meaning; is = refl; reads = λ outer. at_operator outer ∙ g.means (half k.meaning o) outer })
      (rw (← (met ∙ ap (λ (x : Sign). meets x sense) here.is)) eks) ess

  pub sum_late : {p : ℕ} → ProductStops text (i + 1) p → SumStops text at p
  sum_late g = λ outer. at_operator outer ∙ g (half k.meaning here.operator) outer
