-- Where the reader stops, the longest completable beginning ends: a byte at which it is stuck no ending mends, and while it is not stuck
-- a `0`, if an operand is wanted, and the missing `)` complete what it has read. Assumes nothing.
use Prim.Native.Nat.{ℕ, suc, ◌+◌, ◌-◌, ◌≤◌}
use native.Mathlib.Omega.{arith}
use native.Mathlib.Numerals.{add-one}
use native.Mathlib.Decide.{dec_le}
use mathlib.Core.Path.{◌≡◌, refl, ◌∙◌, ap, subst}
use mathlib.Core.List.{List, [], ◌∷◌, ◌++◌, append_assoc}
use lib.ListN.{length, take, length-append}
use lib.Seq.{take-append-add, take-append_seam}
use Rattle.formula.specs.Typed.{Typed, number}
use Rattle.grammar.specs.Bytes.{sign_of}
use Rattle.grammar.specs.Grammar.{NoDigit, Completable}
use Rattle.grammar.specs.Twins.Reader.{Pending, joined, Waiting, nothing, State, wanted, inside, complete, product_with, Next, stuck, go, next_state, Outcome, means, stops, at_end, read_from, read, onward}
use Rattle.grammar.specs.Rows.{NotASum}
use Rattle.grammar.proofs.Signs.{not_digit}
use Rattle.grammar.proofs.Complete.{read_step, inside_ends, read_complete}
use Rattle.grammar.proofs.Sound.{read_sound}

-- the reader comes to this state behind these bytes, whatever follows them
pub record Reached (before : List ℕ) (st : State) (outer : List Waiting) : Type 0 where
  pub read_on : (after : List ℕ) → read (before ++ after) ≡ read_from st outer (length before) after

-- a `)` for each parenthesis that is open
abbrev closes : List Waiting → List ℕ
closes [] = []
closes (w ∷ outer) = 41 ∷ closes outer

abbrev completing : State → List Waiting → List ℕ
completing (wanted w) outer = 48 ∷ closes outer
completing (inside w v) outer = closes outer
completing (complete sum p) outer = closes outer

record Accepted (r : Outcome) : Type 0 where
  meaning : Typed
  accepts : r ≡ means meaning

closes_no_digit : (outer : List Waiting) → NoDigit (closes outer)
unfolding sign_of
closes_no_digit [] = NoDigit.at_end
closes_no_digit (w ∷ outer) = NoDigit.another (not_digit refl refl)

complete_closes : (sum : Pending) (p : Typed) (outer : List Waiting) (at : ℕ) → Accepted (read_from (complete sum p) outer at (closes outer))
unfolding read_from sign_of
complete_closes sum p [] at = record { meaning = joined sum p; accepts = refl }
complete_closes sum p (w ∷ outer) at = complete_closes w.sum (product_with w (joined sum p)) outer (suc at)

inside_closes : (w : Waiting) (v : ℕ) (outer : List Waiting) (at : ℕ) → Accepted (read_from (inside w v) outer at (closes outer))
inside_closes w v outer at =
    let ends = inside_ends (closes_no_digit outer) w v outer in
    rw (ends.same at) (complete_closes w.sum (product_with w (number v)) outer (ends.place at))

completing_accepted : (st : State) (outer : List Waiting) (at : ℕ) → Accepted (read_from st outer at (completing st outer))
unfolding read_from sign_of
completing_accepted (wanted w) outer at = inside_closes w 0 outer (suc at)
completing_accepted (inside w v) outer at = inside_closes w v outer at
completing_accepted (complete sum p) outer at = complete_closes sum p outer at

reached_completable : (before : List ℕ) (st : State) (outer : List Waiting) → Reached before st outer → Completable before
reached_completable before st outer reached =
    let ends = completing_accepted st outer (length before) in
    record { ending = completing st outer; meaning = ends.meaning; derives = read_sound (reached.read_on (completing st outer) ∙ ends.accepts) }

means-or-stops : {r : Outcome} {e : Typed} {p : ℕ} → r ≡ means e → r ≡ stops p → ⊥
means-or-stops is isnt = let z : ◌≡◌ {A = ℕ} 0 1 = cc in omega arith

-- no ending completes a beginning that goes beyond a byte at which the reader is stuck
stuck_beyond : (before : List ℕ) (b : ℕ) (s : List ℕ) → ((after : List ℕ) → read (before ++ b ∷ after) ≡ stops (length before)) → (m : ℕ) → ¬ Completable (take (length before + suc m) (before ++ b ∷ s))
stuck_beyond before b s stopped m completable =
    means-or-stops (rw (take-append-add before (b ∷ s) (suc m), append_assoc before (b ∷ take m s) completable.ending) at (read_complete completable.derives)) (stopped (take m s ++ completable.ending))

stuck_longest : (before : List ℕ) (b : ℕ) (s : List ℕ) → ((after : List ℕ) → read (before ++ b ∷ after) ≡ stops (length before)) → (n : ℕ) → Completable (take n (before ++ b ∷ s)) → n ≤ length before
stuck_longest before b s stopped n completable =
    elim (dec_le n (length before)) [
      | yes h ↦ h
      | no h ↦
          let far : n ≡ length before + suc (n - suc (length before)) = omega arith in
          absurd (stuck_beyond before b s stopped (n - suc (length before)) (subst (λ (i : ℕ). Completable (take i (before ++ b ∷ s))) far completable))
    ]

-- the longest completable beginning of the text has this length
pub record LongestAt (text : List ℕ) (at : ℕ) : Type 0 where
  pub within : at ≤ length text
  pub completable : Completable (take at text)
  pub longest : (n : ℕ) → n ≤ length text → Completable (take n text) → n ≤ at

abbrev pub Stopped : List ℕ → Outcome → Type 0
Stopped text (means e) = Unit {0}
Stopped text (stops at) = LongestAt text at

reached_longest : (before s : List ℕ) (st : State) (outer : List Waiting) → Reached before st outer → ((n : ℕ) → n ≤ length (before ++ s) → Completable (take n (before ++ s)) → n ≤ length before) → LongestAt (before ++ s) (length before)
reached_longest before s st outer reached longest =
    record {
      within = omega (arith, length-append before s);
      completable = rw (take-append_seam before s) (reached_completable before st outer reached);
      longest = longest;
    }

end_stopped : {text : List ℕ} {at : ℕ} (st : State) (outer : List Waiting) → LongestAt text at → Stopped text (at_end st outer at)
end_stopped (wanted w) outer longest = longest
end_stopped (inside w v) [] longest = tt
end_stopped (inside w v) (x ∷ outer) longest = longest
end_stopped (complete sum p) [] longest = tt
end_stopped (complete sum p) (x ∷ outer) longest = longest

reached_step : {before : List ℕ} (b : ℕ) {st st' : State} {outer outer' : List Waiting} → Reached before st outer → next_state st (sign_of b) outer ≡ go st' outer' → Reached (before ++ b ∷ []) st' outer'
reached_step {before} b {st} {outer} reached moves =
    record { read_on = λ after. rw (append_assoc before (b ∷ []) after, length-append before (b ∷ []), add-one (length before)) (reached.read_on (b ∷ after) ∙ read_step st outer b moves (length before) after) }

pub read_from_stopped : (s before : List ℕ) (st : State) (outer : List Waiting) → Reached before st outer → Stopped (before ++ s) (read_from st outer (length before) s)
unfolding read_from
read_from_stopped [] before st outer reached = end_stopped st outer (reached_longest before [] st outer reached (λ n h completable. omega (arith, length-append before [])))
read_from_stopped (b ∷ s) before st outer reached = by_next (next_state st (sign_of b) outer) refl (read_from_stopped s (before ++ b ∷ []))
  where
    by_next : (n : Next) → next_state st (sign_of b) outer ≡ n
        → ((st' : State) (outer' : List Waiting) → Reached (before ++ b ∷ []) st' outer' → Stopped ((before ++ b ∷ []) ++ s) (read_from st' outer' (length (before ++ b ∷ [])) s))
        → Stopped (before ++ b ∷ s) (onward n (length before) (λ st' outer'. read_from st' outer' (suc (length before)) s))
    by_next stuck moves later = reached_longest before (b ∷ s) st outer reached (λ n h. stuck_longest before b s (λ after. reached.read_on (b ∷ after) ∙ read_step st outer b moves (length before) after) n)
    by_next (go st' outer') moves later = rw (append_assoc before (b ∷ []) s, length-append before (b ∷ []), add-one (length before)) at (later st' outer' (reached_step b reached moves))

pub read_stops : {text : List ℕ} {p : ℕ} → read text ≡ stops p → NotASum text p
unfolding read
read_stops {text} {p} is =
    let longest : LongestAt text p = subst (Stopped text) is (read_from_stopped text [] (wanted nothing) [] (record { read_on = λ after. refl })) in
    record {
      no_meaning = λ e derives. means-or-stops (read_complete derives) is;
      within = longest.within;
      completable = longest.completable;
      longest = longest.longest;
    }

pub not_a_sum_unique : {text : List ℕ} {p q : ℕ} → NotASum text p → NotASum text q → p ≡ q
not_a_sum_unique {p} {q} a b = omega (arith, a.longest q b.within b.completable, b.longest p a.within a.completable)

pub stops_read : {text : List ℕ} {p : ℕ} → NotASum text p → read text ≡ stops p
stops_read {text} {p} row = by_reading (read text) refl
  where
    by_reading : (r : Outcome) → read text ≡ r → r ≡ stops p
    by_reading (means e) is = absurd (row.no_meaning e (read_sound is))
    by_reading (stops q) is = ap stops (not_a_sum_unique (read_stops is) row)
