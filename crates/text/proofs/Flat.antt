-- The flat reader agrees with the reader: it is what the reader does, seen by mode and count of open parentheses alone.
-- Assumes nothing.
use Prim.Native.Nat.{ℕ, zero, suc, ◌+◌, ◌≤◌, ◌<◌}
use mathlib.Core.Path.{◌≡◌, refl, ap}
use mathlib.Core.List.{List, [], ◌∷◌}
use Rattle.std.specs.Prelude.{Option, None, Some, Result, Ok, Err}
use native.Mathlib.Numerals.{add-one}
use native.Mathlib.Omega.{arith}
use lib.ListN.{length, drop, drop_of_length-le}
use lib.Seq.{drop-cons}
use Rattle.formula.specs.Typed.{Typed}
use Rattle.grammar.specs.declared.Sign.{Sign}
use Rattle.grammar.specs.declared.Sign.TheVariants.{Digit, Joins, Bang, Open, Close, Blank, Other}
use Rattle.text.specs.declared.scan.Mode.{Mode}
use Rattle.text.specs.declared.scan.Mode.TheVariants.{Wanted, Inside, Complete}
use Rattle.text.specs.declared.Stop.{Stop}
use Rattle.grammar.specs.Bytes.{sign_of}
use Rattle.grammar.specs.Twins.Places.{sign_at}
use Rattle.grammar.specs.Twins.Reader.{Pending, Waiting, State, wanted, inside, complete, Next, stuck, go, closing, on_complete, next_state, closed, at_end, onward, Outcome, means, stops, read_from, read}
use Rattle.text.specs.Code.Flat.{verdict, flat_close, flat_complete, flat_step, flat_closed, flat_end, flat_onward, flat_from}

-- the reader's state and what it leads to, with nothing but the mode and the count
abbrev mode_of : State → Mode
mode_of (wanted w) = Wanted
mode_of (inside w v) = Inside
mode_of (complete sum p) = Complete

abbrev step_of : Next → Option (Mode × ℕ)
step_of stuck = None
step_of (go st outer) = Some (mode_of st, length outer)

close_agrees : (e : Typed) (outer : List Waiting) → step_of (closing e outer) ≡ flat_close (length outer)
close_agrees e [] = refl
close_agrees e (w ∷ outer) = refl

complete_agrees : (sum : Pending) (p : Typed) (k : Sign) (outer : List Waiting) → step_of (on_complete sum p k outer) ≡ flat_complete k (length outer)
complete_agrees sum p (Digit d) outer = refl
complete_agrees sum p (Joins o) outer = refl
complete_agrees sum p Bang outer = refl
complete_agrees sum p Open outer = refl
complete_agrees sum p Close outer = close_agrees _ outer
complete_agrees sum p Blank outer = refl
complete_agrees sum p Other outer = refl

step_agrees : (st : State) (k : Sign) (outer : List Waiting) → step_of (next_state st k outer) ≡ flat_step (mode_of st) k (length outer)
step_agrees (wanted w) (Digit d) outer = refl
step_agrees (wanted w) (Joins o) outer = refl
step_agrees (wanted w) Bang outer = refl
step_agrees (wanted w) Open outer = refl
step_agrees (wanted w) Close outer = refl
step_agrees (wanted w) Blank outer = refl
step_agrees (wanted w) Other outer = refl
step_agrees (inside w v) (Digit d) outer = refl
step_agrees (inside w v) (Joins o) outer = refl
step_agrees (inside w v) Bang outer = refl
step_agrees (inside w v) Open outer = refl
step_agrees (inside w v) Close outer = close_agrees _ outer
step_agrees (inside w v) Blank outer = refl
step_agrees (inside w v) Other outer = refl
step_agrees (complete sum p) k outer = complete_agrees sum p k outer

closed_agrees : (e : Typed) (outer : List Waiting) (at : ℕ) → verdict (closed e outer at) ≡ flat_closed (length outer) at
closed_agrees e [] at = refl
closed_agrees e (w ∷ outer) at = refl

end_agrees : (st : State) (outer : List Waiting) (at : ℕ) → verdict (at_end st outer at) ≡ flat_end (mode_of st) (length outer) at
end_agrees (wanted w) outer at = refl
end_agrees (inside w v) outer at = closed_agrees _ outer at
end_agrees (complete sum p) outer at = closed_agrees _ outer at

onward_agrees : (n : Next) (at : ℕ) (f : State → List Waiting → Outcome) (g : Mode → ℕ → Result (Unit {0}) Stop)
    → ((st : State) (outer : List Waiting) → verdict (f st outer) ≡ g (mode_of st) (length outer))
    → verdict (onward n at f) ≡ flat_onward (step_of n) at g
onward_agrees stuck at f g same = refl
onward_agrees (go st outer) at f g same = same st outer

-- for all that waits
from_agrees : (s : List ℕ) (st : State) (outer : List Waiting) (at : ℕ) → verdict (read_from st outer at s) ≡ flat_from (mode_of st) (length outer) at s
unfolding read_from flat_from
from_agrees [] st outer at = end_agrees st outer at
from_agrees (b ∷ s) st outer at =
    rw (← step_agrees st (sign_of b) outer)
    (onward_agrees (next_state st (sign_of b) outer) at (λ st' outer'. read_from st' outer' (suc at) s) (λ mode depth. flat_from mode depth (suc at) s)
    (λ st' outer'. from_agrees s st' outer' (suc at)))

pub flat_agrees : (text : List ℕ) → verdict (read text) ≡ flat_from Wanted 0 0 text
unfolding read
flat_agrees text = from_agrees text _ [] 0

-- one byte of the walk: stuck there, or on with the next
module _ (text : List ℕ) (i : ℕ) (mode : Mode) (depth : ℕ) (h : i < length text) where
  flat_here : flat_from mode depth i (drop i text) ≡ flat_onward (flat_step mode (sign_at text i) depth) i (λ mode' depth'. flat_from mode' depth' (i + 1) (drop (i + 1) text))
  unfolding flat_from
  flat_here = rw (drop-cons text i 0 h, add-one)

  pub flat_stuck : flat_step mode (sign_at text i) depth ≡ None → flat_from mode depth i (drop i text) ≡ Err (record { 0 = i })
  flat_stuck e = rw (flat_here, e)

  pub flat_next : {mode' : Mode} {depth' : ℕ} → flat_step mode (sign_at text i) depth ≡ Some (mode', depth') → flat_from mode depth i (drop i text) ≡ flat_from mode' depth' (i + 1) (drop (i + 1) text)
  flat_next e = rw (flat_here, e)

pub flat_done : (text : List ℕ) (i : ℕ) (mode : Mode) (depth : ℕ) → i ≡ length text → flat_from mode depth i (drop i text) ≡ flat_end mode depth (length text)
unfolding flat_from
flat_done text i mode depth e =
    let beyond : length text ≤ i = omega arith in
    let none : drop i text ≡ [] = drop_of_length-le text beyond in
    rw (none, e)

-- a byte opens at most one parenthesis
abbrev open_of : Option (Mode × ℕ) → ℕ
open_of None = 0
open_of (Some (mode, depth)) = depth

close_less : (depth : ℕ) → open_of (flat_close depth) ≤ suc depth
close_less zero = omega arith
close_less (suc depth) = omega arith

complete_less : (k : Sign) (depth : ℕ) → open_of (flat_complete k depth) ≤ suc depth
complete_less (Digit d) depth = omega arith
complete_less (Joins o) depth = omega arith
complete_less Bang depth = omega arith
complete_less Open depth = omega arith
complete_less Close depth = close_less depth
complete_less Blank depth = omega arith
complete_less Other depth = omega arith

step_less : (mode : Mode) (k : Sign) (depth : ℕ) → open_of (flat_step mode k depth) ≤ suc depth
step_less Wanted (Digit d) depth = omega arith
step_less Wanted (Joins o) depth = omega arith
step_less Wanted Bang depth = omega arith
step_less Wanted Open depth = omega arith
step_less Wanted Close depth = omega arith
step_less Wanted Blank depth = omega arith
step_less Wanted Other depth = omega arith
step_less Inside (Digit d) depth = omega arith
step_less Inside (Joins o) depth = omega arith
step_less Inside Bang depth = omega arith
step_less Inside Open depth = omega arith
step_less Inside Close depth = close_less depth
step_less Inside Blank depth = omega arith
step_less Inside Other depth = omega arith
step_less Complete k depth = complete_less k depth

pub one_more : (mode : Mode) (k : Sign) (depth : ℕ) {mode' : Mode} {depth' : ℕ} → flat_step mode k depth ≡ Some (mode', depth') → depth' ≤ depth + 1
one_more mode k depth e = omega (arith, step_less mode k depth, ap open_of e)

-- what a verdict says of the reading
pub fault_stops : (r : Outcome) (stop : Stop) → verdict r ≡ Err stop → r ≡ stops stop.0
fault_stops (means e) stop h = grind arith
fault_stops (stops p) stop h = grind arith

pub fits_means : (r : Outcome) → verdict r ≡ Ok tt → (e : Typed) × (r ≡ means e)
fits_means (means e) h = (e, refl)
fits_means (stops p) h = absurd (grind arith)
