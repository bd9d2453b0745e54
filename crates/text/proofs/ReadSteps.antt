-- One step of the machine at a place of a text, by what stands there.
-- Assumes nothing.
use Prim.Native.Nat.{ℕ, ◌+◌, ◌-◌, ◌≤◌, ◌<◌}
use mathlib.Core.Path.{◌≡◌, sym, ap, ◌∙◌}
use mathlib.Core.Bool.{Bool, true, false}
use mathlib.Core.List.{List, ◌∷◌}
use native.Mathlib.Decide.{dec_lt}
use native.Mathlib.Numerals.{add-one}
use native.Mathlib.Omega.{arith}
use lib.ListN.{length, get_or, take, drop, length-drop, drop_of_length-le, get_or-eq_default}
use Rattle.std.proofs.lemmas.List.{take_rest, get_or-drop}
use lib.Seq.{drop-cons}
use Rattle.grammar.specs.declared.Sign.{Sign}
use Rattle.grammar.specs.declared.Sign.TheVariants.{Other}
use Rattle.grammar.specs.Bytes.{sign_of}
use Rattle.grammar.specs.Twins.Places.{sign_at}
use Rattle.grammar.specs.Twins.Reader.{Waiting, State, stops, stuck, go, next_state, at_end, read_from}
use Rattle.text.specs.Code.Readers.{reads_on}
use Rattle.text.proofs.ReadSigns.{clash}

pub place-cons : (text : List ℕ) (i : ℕ) → i < length text → drop i text ≡ get_or text i 0 ∷ drop (i + 1) text
place-cons text i h = rw (add-one, drop-cons text i 0)

-- the bytes from a place on, as a loop over them reads them
module _ (text : List ℕ) (at i : ℕ) where
  pub sign_on : {k : Sign} → k ≡ sign_of (get_or (take (length text - at) (drop at text)) i 0) → k ≡ sign_at text (at + i)
  sign_on e = e ∙ rw (take_rest text at) (ap sign_of (get_or-drop at text i 0))

  pub ended_on : length (take (length text - at) (drop at text)) ≤ i → length text ≤ at + i
  ended_on h = omega (arith, rw (take_rest text at, length-drop at text) at h)

pub beyond : (text : List ℕ) (i : ℕ) → length text ≤ i → sign_at text i ≡ Other
unfolding sign_of
beyond text i h = ap sign_of (get_or-eq_default text 0 h)

-- what a sign at the end does not pass, stands in the text
pub stands : (text : List ℕ) (i : ℕ) (test : Sign → Bool) → test Other ≡ false → test (sign_at text i) ≡ true → i < length text
stands text i test f e = go_on (dec_lt i (length text))
  where
    go_on : Dec (i < length text) → i < length text
    go_on (yes h) = h
    go_on (no n) = absurd (clash (sym f ∙ sym (ap test (beyond text i (omega arith))) ∙ e))

module _ (text : List ℕ) (i : ℕ) where
  pub step_on : (st st' : State) (outer outer' : List Waiting) → i < length text → next_state st (sign_at text i) outer ≡ go st' outer'
      → reads_on text st outer i ≡ reads_on text st' outer' (i + 1)
  unfolding read_from
  step_on st st' outer outer' h e = rw (place-cons text i h, e, add-one)

  pub stuck_here : (st : State) (outer : List Waiting) → i < length text → next_state st (sign_at text i) outer ≡ stuck → reads_on text st outer i ≡ stops i
  unfolding read_from
  stuck_here st outer h e = rw (place-cons text i h, e)

  pub step_stuck : (st : State) (outer : List Waiting) → i ≤ length text → next_state st (sign_at text i) outer ≡ stuck → at_end st outer i ≡ stops i
      → reads_on text st outer i ≡ stops i
  unfolding read_from
  step_stuck st outer l e f = go_on (dec_lt i (length text))
    where
      go_on : Dec (i < length text) → reads_on text st outer i ≡ stops i
      go_on (yes h) = stuck_here st outer h e
      go_on (no n) = rw (drop_of_length-le text {i = i} (omega arith)) f

  -- two states that step alike here and end alike, read alike
  pub step_same : (st st' : State) (outer : List Waiting) → i ≤ length text → next_state st (sign_at text i) outer ≡ next_state st' (sign_at text i) outer
      → at_end st outer i ≡ at_end st' outer i → reads_on text st outer i ≡ reads_on text st' outer i
  unfolding read_from
  step_same st st' outer l e f = go_on (dec_lt i (length text))
    where
      go_on : Dec (i < length text) → reads_on text st outer i ≡ reads_on text st' outer i
      go_on (yes h) = rw (place-cons text i h, e)
      go_on (no n) = rw (drop_of_length-le text {i = i} (omega arith)) f
