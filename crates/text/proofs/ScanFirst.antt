-- A search over the places of a text: as the search through a range or through the bytes themselves, as one that has passed
-- some places, and what it means that it finds nothing.
-- Assumes nothing.
use Prim.Native.Nat.{ℕ, zero, suc, ◌+◌, ◌-◌, ◌≤◌, ◌<◌}
use mathlib.Core.Path.{◌≡◌, refl, sym, ap, ◌∙◌}
use mathlib.Core.Bool.{Bool, true, false}
use mathlib.Core.List.{List, [], ◌∷◌}
use mathlib.Core.Option as maybe
use native.Mathlib.Decide.{dec_lt}
use native.Mathlib.Omega.{arith}
use native.Mathlib.Numerals.{add-one}
use lib.Dec.{ltb}
use lib.ListN.{length, get_or}
use borrow.Author.Tests.{ltb-true, ltb-false}
use Rattle.std.specs.Prelude.{Option, None, Some, option_map}
use Rattle.std.specs.List.{find, position, position_from, range_with_len}
use Rattle.std.proofs.lemmas.Iterator.Adapters.{position_from-zero}
use Rattle.terms.specs.First.{first_from, first_below, found}
use Rattle.text.specs.Code.Found.{found_as}
use Rattle.text.proofs.ScanTests.{by_test}

-- what a chain of iterators finds, where it gives the items as they are
pub found_same : (r : Option ℕ) → found_as (option_map (λ x. x) r) ≡ found_as r
found_same None = refl
found_same (Some i) = refl

-- a search through a range
pub found_in_range : (test : ℕ → Bool) (i n : ℕ) → found_as (find test (range_with_len i n)) ≡ first_from test i n
unfolding first_from
found_in_range test i zero = refl
found_in_range test i (suc n) =
    by_test (test i) (λ e. rw e) (λ e. rw (e, add-one) (found_in_range test (suc i) n))

-- a search that has passed i places is the search from i on
pub first_start : (test : ℕ → Bool) (n : ℕ) → first_below test n ≡ first_from test 0 (n - 0)
first_start test n =
    let e : n - 0 ≡ n = omega arith in
    rw e

module _ (test : ℕ → Bool) (i n : ℕ) where
  -- what is left of the search, one number at a time
  first_next : i < n → first_from test i (n - i) ≡ found (test i) i (first_from test (i + 1) (n - (i + 1)))
  unfolding first_from
  first_next h =
      let e : n - i ≡ suc (n - (i + 1)) = omega arith in
      let f : suc i ≡ i + 1 = omega arith in
      rw (e, f)

  pub first_passed : i < n → test i ≡ false → first_from test i (n - i) ≡ first_from test (i + 1) (n - (i + 1))
  first_passed h e = rw (first_next h, e)

  pub first_here : i < n → test i ≡ true → first_from test i (n - i) ≡ maybe.some i
  first_here h e = rw (first_next h, e)

  pub first_end : n ≤ i → first_from test i (n - i) ≡ maybe.none
  unfolding first_from
  first_end h =
      let e : n - i ≡ 0 = omega arith in
      rw e

-- several passed at once
pub first_skipped : (test : ℕ → Bool) (n d i : ℕ) → ((j : ℕ) → i ≤ j → j < i + d → test j ≡ false)
    → first_from test i (n - i) ≡ first_from test (i + d) (n - (i + d))
first_skipped test n zero i passed =
    let e : i + 0 ≡ i = omega arith in
    rw e
first_skipped test n (suc d) i passed =
    let e : i + suc d ≡ (i + 1) + d = omega arith in
    by_test (ltb i n)
    (λ h. rw e (first_passed test i n (ltb-true i n h) (passed i (omega arith) (omega arith))
    ∙ first_skipped test n d (i + 1) (λ j p q. passed j (omega arith) (omega arith))))
    (λ h.
    let beyond = ltb-false i n h in
    first_end test i n beyond ∙ sym (first_end test (i + suc d) n (omega arith)))

-- a search that finds nothing
found_none : (t : Bool) (i : ℕ) (later : maybe.Option ℕ) → found t i later ≡ maybe.none → (t ≡ false) × (later ≡ maybe.none)
found_none true i later e = absurd (let z : ◌≡◌ {A = ℕ} 0 1 = cc in omega arith)
found_none false i later e = (refl, e)

pub none_found : (test : ℕ → Bool) (i n : ℕ) → first_from test i n ≡ maybe.none → (j : ℕ) → i ≤ j → j < i + n → test j ≡ false
unfolding first_from
none_found test i zero e j a b = absurd (omega arith)
none_found test i (suc n) e j a b = go_on (dec_lt i j) (λ h l m. none_found test (suc i) n h j l m)
  where
    both : (test i ≡ false) × (first_from test (suc i) n ≡ maybe.none)
    both = found_none (test i) i (first_from test (suc i) n) e

    go_on : Dec (i < j) → (first_from test (suc i) n ≡ maybe.none → suc i ≤ j → j < suc i + n → test j ≡ false) → test j ≡ false
    go_on (yes l) rest = rest both.1 l (omega arith)
    go_on (no f) rest = let q : j ≡ i = omega arith in rw q both.0

-- a search through the bytes themselves
position_found_from : (test : ℕ → Bool) (text : List ℕ) (i : ℕ) (at : ℕ → Bool) → ((k : ℕ) → at (i + k) ≡ test (get_or text k 0))
    → found_as (position_from test i text) ≡ first_from at i (length text)
unfolding first_from
position_found_from test [] i at same = refl
position_found_from test (b ∷ text) i at same =
    let z : i + 0 ≡ i = omega arith in
    let here : at i ≡ test b = rw z at (same 0) in
    let later = position_found_from test text (suc i) at (λ k. let e : suc i + k ≡ i + suc k = omega arith in rw e (same (suc k))) in
    by_test (test b) (λ e. rw (here, e)) (λ e. rw (here, e, add-one) later)

pub position_found : (test : ℕ → Bool) (text : List ℕ) → found_as (position test text) ≡ first_below (λ i. test (get_or text i 0)) (length text)
position_found test text =
    ap found_as (position_from-zero test text)
    ∙ position_found_from test text 0 (λ i. test (get_or text i 0)) (λ k. let z : 0 + k ≡ k = omega arith in rw z)
