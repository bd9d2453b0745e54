-- A text whose 1,025th number starts nowhere means no more than 1,024 literals: each number of its meaning is a run of digits.
-- Assumes nothing.
use Prim.Native.Nat.{ℕ, zero, suc, ◌+◌, ◌≤◌, ◌<◌}
use mathlib.Core.Path.{◌≡◌, refl}
use mathlib.Core.Bool.{Bool, true, false}
use mathlib.Core.List.{List}
use native.Mathlib.Decide.{dec_le}
use native.Mathlib.Nat.{not-suc-le-zero}
use native.Mathlib.Omega.{arith}
use lib.ListN.{length}
use Rattle.terms.specs.Terms.{most_literals}
use Rattle.formula.specs.Typed.{Typed, numbers}
use Rattle.grammar.specs.Grammar.{Derives}
use Rattle.grammar.specs.Twins.Places.{one_if, run_starts, runs_before}
use Rattle.grammar.specs.Rows.{TooMany}
use Rattle.grammar.proofs.Runs.{Counted, counted_number, runs_numbers}

-- the run that starts at n, if the count passes k there
counted_here : (text : List ℕ) (k n : ℕ) (b : Bool) → run_starts text n ≡ b → n < length text → k < runs_before text n + one_if b
    → runs_before text n ≤ k → (i : ℕ) × Counted text k i
counted_here text k n true starts within up down = (n, record { within = within; starts = starts; count = omega arith })
counted_here text k n false starts within up down = absurd (omega arith)

-- where so many runs start before n, one of them has number k
counted_below : (text : List ℕ) (k n : ℕ) → k < runs_before text n → n ≤ length text → (i : ℕ) × Counted text k i
unfolding runs_before
counted_below text k zero h within = absurd (not-suc-le-zero h)
counted_below text k (suc n) h within =
    elim (dec_le (suc k) (runs_before text n)) [
      | yes earlier ↦ counted_below text k n earlier (omega arith)
      | no later ↦ counted_here text k n (run_starts text n) refl (omega arith) h (omega arith)
    ]

pub derives_few : {text : List ℕ} {e : Typed} → Derives text e → ((p : ℕ) → ¬ TooMany text p) → numbers e ≤ most_literals
derives_few {text} {e} derives nowhere =
    elim (dec_le (numbers e) most_literals) [
      | yes few ↦ few
      | no many ↦
          let found = counted_below text most_literals (length text) (omega (arith, runs_numbers derives)) (omega arith) in
          absurd (nowhere found.0 (record { meaning = e; derives = derives; many = omega arith; place = counted_number text most_literals found.1 }))
    ]
