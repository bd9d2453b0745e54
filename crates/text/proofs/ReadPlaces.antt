-- What a reader leads over one byte at a time: blanks behind an operand, complements before one, the digits of a number.
-- Assumes nothing.
use Prim.Native.Nat.{ℕ, suc, ◌+◌, ◌*◌, ◌≤◌, ◌<◌}
use mathlib.Core.Path.{◌≡◌, refl, sym, ap, ◌∙◌, subst}
use mathlib.Core.Bool.{Bool, true, false, not}
use mathlib.Core.Logic.{◌⊎◌, inl, inr}
use mathlib.Core.Option.{none}
use mathlib.Core.List.{List, [], ◌∷◌}
use native.Mathlib.Nat.{le_refl, zero-add}
use native.Mathlib.Omega.{arith}
use lib.ListN.{length, get_or, drop, length-drop}
use Rattle.std.specs.List.{prefix_len, take_while}
use Rattle.std.proofs.lemmas.List.Folds.{length-prefix_len}
use Rattle.terms.specs.Terms.{greatest_primitive}
use Rattle.formula.specs.Typed.{number}
use Rattle.grammar.specs.declared.Sign.{Sign}
use Rattle.grammar.specs.declared.Sign.TheVariants.{Digit, Bang, Blank}
use Rattle.grammar.specs.Bytes.{sign_of, is_digit, numeral_from}
use Rattle.grammar.specs.Twins.Places.{sign_at, no_digit_before, run_at, runs_before, bad_run}
use Rattle.grammar.specs.Twins.Reader.{Waiting, wanted, inside, complete, product_with, next_state}
use Rattle.text.specs.Code.Readers.{is_blank, leads, behind, more, flipped, complementing, reads_on, Over, Skipped, Passed, OperandAt, Numbered}
use Rattle.grammar.proofs.Complete.{inside_another}
use Rattle.text.proofs.ScanTests.{by_test, not_both}
use Rattle.text.proofs.ReadSigns.{pass_is, blank_is, tested}
use Rattle.text.proofs.ReadSteps.{place-cons, beyond, stands, step_on, step_same}
use Rattle.text.proofs.ReadRuns.{runs_kept, runs_start, runs_inside, clear_after, digit_after, number_small, numeral_step}
use Rattle.text.proofs.ScanBad.{numeral_grows}

-- blanks behind an operand
pub over_start : (text : List ℕ) (at : ℕ) → at ≤ length text → Over text at at
over_start text at h = record { from = le_refl at; within = h; runs = refl; reads = λ sum e outer. refl }

pub blank_stands : (text : List ℕ) (i : ℕ) → is_blank (sign_at text i) ≡ true → i < length text
blank_stands text i e = stands text i is_blank refl e

pub over_next : {text : List ℕ} {at i : ℕ} → Over text at i → is_blank (sign_at text i) ≡ true → Over text at (i + 1)
over_next {text} {at} {i} p e =
    let k = blank_is (sign_at text i) e in
    let h = blank_stands text i e in
    record {
      from = omega (arith, p.from);
      within = omega arith;
      runs = runs_kept text i (ap is_digit k) ∙ p.runs;
      reads = λ sum x outer. p.reads sum x outer
          ∙ step_on text i (complete sum x) (complete sum x) outer outer h (ap (λ (s : Sign). next_state (complete sum x) s outer) k);
    }

-- as many blanks as the text goes on with
skipped_from : (text : List ℕ) (at i : ℕ) (s : List ℕ) → drop i text ≡ s → Over text at i → Skipped text at (i + prefix_len (λ b. is_blank (sign_of b)) s)
skipped_from text at i [] e o =
    let end : length text ≤ i = omega (arith, length-drop i text, ap length e) in
    let same : i + 0 ≡ i = omega arith in
    rw same (record { over = o; ends = ap is_blank (beyond text i end) })
skipped_from text at i (b ∷ s) e o =
    let h : i < length text = omega (arith, length-drop i text, ap length e) in
    let both = sym (place-cons text i h) ∙ e in
    let here : get_or text i 0 ≡ b = cc in
    let rest : drop (i + 1) text ≡ s = cc in
    by_test (is_blank (sign_of b))
    (λ t.
    let more : i + (1 + prefix_len (λ c. is_blank (sign_of c)) s) ≡ i + 1 + prefix_len (λ c. is_blank (sign_of c)) s = omega arith in
    rw (t, more) (skipped_from text at (i + 1) s rest (over_next o (rw here t))))
    (λ t. let same : i + 0 ≡ i = omega arith in rw (t, same) (record { over = o; ends = rw here t }))

pub skipped_all : (text : List ℕ) (at : ℕ) → at ≤ length text → Skipped text at (at + length (take_while (λ b. is_blank (sign_of b)) (drop at text)))
skipped_all text at h =
    rw length-prefix_len (skipped_from text at at (drop at text) refl (over_start text at h))

-- blanks and complements before an operand
pub passed_start : (text : List ℕ) (at : ℕ) (sense : Bool) → at ≤ length text → no_digit_before text at ≡ true → Passed text at sense at sense
unfolding more flipped
passed_start text at sense h c =
    record { from = le_refl at; within = h; clear = c; runs = refl; count = 0; sensed = refl; reads = λ w outer. refl }

pub pass_stands : (text : List ℕ) (i : ℕ) → leads (sign_at text i) ≡ true → i < length text
pass_stands text i e = stands text i leads refl e

module _ {text : List ℕ} {at i : ℕ} {sense s : Bool} (p : Passed text at sense i s) (h : i < length text) where
  passed_bang : sign_at text i ≡ Bang → Passed text at sense (i + 1) (behind (sign_at text i) s)
  unfolding more flipped
  passed_bang k =
      record {
        from = omega (arith, p.from);
        within = omega arith;
        clear = clear_after text i (ap is_digit k);
        runs = runs_kept text i (ap is_digit k) ∙ p.runs;
        count = suc p.count;
        sensed = ap (λ (x : Sign). behind x s) k ∙ ap not p.sensed;
        reads = λ w outer. p.reads w outer
            ∙ step_on text i (wanted (complementing p.count w)) (wanted (complementing (suc p.count) w)) outer outer h
            (ap (λ (x : Sign). next_state (wanted (complementing p.count w)) x outer) k);
      }

  passed_blank : sign_at text i ≡ Blank → Passed text at sense (i + 1) (behind (sign_at text i) s)
  passed_blank k =
      record {
        from = omega (arith, p.from);
        within = omega arith;
        clear = clear_after text i (ap is_digit k);
        runs = runs_kept text i (ap is_digit k) ∙ p.runs;
        count = p.count;
        sensed = ap (λ (x : Sign). behind x s) k ∙ p.sensed;
        reads = λ w outer. p.reads w outer
            ∙ step_on text i (wanted (complementing p.count w)) (wanted (complementing p.count w)) outer outer h
            (ap (λ (x : Sign). next_state (wanted (complementing p.count w)) x outer) k);
      }

  passed_by : (sign_at text i ≡ Bang) ⊎ (sign_at text i ≡ Blank) → Passed text at sense (i + 1) (behind (sign_at text i) s)
  passed_by (inl k) = passed_bang k
  passed_by (inr k) = passed_blank k

pub passed_next : {text : List ℕ} {at i : ℕ} {sense s : Bool} → Passed text at sense i s → leads (sign_at text i) ≡ true
    → Passed text at sense (i + 1) (behind (sign_at text i) s)
passed_next {text} {at} {i} p e = passed_by p (pass_stands text i e) (pass_is (sign_at text i) e)

-- the same by what calls of `leads` and `behind` gave
pub passed_on : {text : List ℕ} {at i : ℕ} {sense s t s' : Bool} {k : Sign} → Passed text at sense i s → k ≡ sign_at text i → t ≡ leads k → t ≡ true
    → s' ≡ behind k s → Passed text at sense (i + 1) s'
passed_on {text} {at} {i} {sense} {s} p e f g h =
    subst (λ (x : Bool). Passed text at sense (i + 1) x) (sym (h ∙ ap (λ (x : Sign). behind x s) e)) (passed_next p (tested leads e f g))

-- up to the end of the text
pub passed_all : {text : List ℕ} {at i : ℕ} {sense s : Bool} → Passed text at sense i s → length text ≤ i
    → OperandAt text at sense (record { at = length text; sense = s })
passed_all {text} {i = i} p h =
    let e : i ≡ length text = omega (arith, p.within) in
    record { passed = rw e at p; ends = ap leads (beyond text (length text) (le_refl (length text))) }

-- the digits of a number from `at` to i, with the value v so far
pub record Digits (text : List ℕ) (at i v : ℕ) : Type 0 where
  pub past : at < i
  pub within : i ≤ length text
  pub small : numeral_from v (run_at text i) ≤ greatest_primitive
  pub runs : runs_before text i ≡ runs_before text at + 1
  pub cut : no_digit_before text i ≡ false
  pub reads : (w : Waiting) (outer : List Waiting) → reads_on text (wanted w) outer at ≡ reads_on text (inside w v) outer i

pub digit_stands : (text : List ℕ) (i : ℕ) → is_digit (sign_at text i) ≡ true → i < length text
digit_stands text i e = stands text i is_digit refl e

pub digits_start : (text : List ℕ) (at : ℕ) {d : ℕ} → sign_at text at ≡ Digit d → no_digit_before text at ≡ true → bad_run text ≡ none
    → Digits text at (at + 1) d
digits_start text at {d} here c b =
    let e = ap is_digit here in
    let h = digit_stands text at e in
    record {
      past = omega arith;
      within = omega arith;
      small = rw (zero-add d) at (rw (numeral_step text at 0 h here) at (number_small text at b h e c));
      runs = runs_start text at e c;
      cut = digit_after text at e;
      reads = λ w outer. step_on text at (wanted w) (inside w d) outer outer h (ap (λ (x : Sign). next_state (wanted w) x outer) here);
    }

module _ {text : List ℕ} {at i v : ℕ} (p : Digits text at i v) where
  pub digits_small : v ≤ greatest_primitive
  digits_small = let g = numeral_grows v (run_at text i) in omega (arith, p.small)

  pub digits_next : {d : ℕ} → sign_at text i ≡ Digit d → Digits text at (i + 1) (10 * v + d)
  digits_next {d} here =
      let e = ap is_digit here in
      let h = digit_stands text i e in
      record {
        past = omega (arith, p.past);
        within = omega arith;
        small = rw (numeral_step text i v h here) at p.small;
        runs = runs_inside text i e p.cut ∙ p.runs;
        cut = digit_after text i e;
        reads = λ w outer. p.reads w outer
            ∙ step_on text i (inside w v) (inside w (10 * v + d)) outer outer h (ap (λ (x : Sign). next_state (inside w v) x outer) here);
      }

  pub digits_end : is_digit (sign_at text i) ≡ false → Numbered text at (record { value = record { 0 = v }; next = i })
  digits_end d =
      record {
        past = p.past;
        within = p.within;
        small = digits_small;
        runs = p.runs;
        reads = λ w outer. p.reads w outer
            ∙ step_same text i (inside w v) (complete w.sum (product_with w (number v))) outer p.within
            (inside_another w v (sign_at text i) outer d) refl;
      }

  pub digits_all : length text ≤ i → Numbered text at (record { value = record { 0 = v }; next = length text })
  digits_all h =
      let e : i ≡ length text = omega (arith, p.within) in
      rw (← e) (digits_end (ap is_digit (beyond text i h)))

-- none of the digits of the number at `at` has been passed, or n of them, with the value v so far
abbrev pub Begun : List ℕ → ℕ → ℕ → ℕ → Type 0
Begun text at n v = ((n ≡ 0) × (v ≡ 0)) ⊎ Digits text at (at + n) v

module _ {text : List ℕ} {at n v : ℕ} where
  pub begun_small : Begun text at n v → v ≤ greatest_primitive
  begun_small (inl h) = omega (arith, h.1)
  begun_small (inr p) = digits_small p

  pub begun_next : {d : ℕ} → no_digit_before text at ≡ true → bad_run text ≡ none → Begun text at n v → sign_at text (at + n) ≡ Digit d
      → Begun text at (n + 1) (10 * v + d)
  begun_next {d} c b (inl h) here =
      let z : at + n ≡ at = omega (arith, h.0) in
      let one : at + (n + 1) ≡ at + 1 = omega (arith, h.0) in
      let e : 10 * v + d ≡ d = omega (arith, h.1) in
      inr (rw (one, e) (digits_start text at (rw z at here) c b))
  begun_next c b (inr p) here =
      let e : at + (n + 1) ≡ at + n + 1 = omega arith in
      inr (rw e (digits_next p here))

  pub begun_end : is_digit (sign_at text at) ≡ true → Begun text at n v → is_digit (sign_at text (at + n)) ≡ false
      → Numbered text at (record { value = record { 0 = v }; next = at + n })
  begun_end d (inl h) e =
      let z : at + n ≡ at = omega (arith, h.0) in
      absurd (not_both _ d (rw z at e))
  begun_end d (inr p) e = digits_end p e

  pub begun_all : is_digit (sign_at text at) ≡ true → Begun text at n v → length text ≤ at + n
      → Numbered text at (record { value = record { 0 = v }; next = length text })
  begun_all d (inl h) l =
      let s = digit_stands text at d in
      absurd (omega (arith, h.0))
  begun_all d (inr p) l = digits_all p l
