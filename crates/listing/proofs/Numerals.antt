-- `decimal` gives a number's decimal digits, since one more digit at the end of a numeral makes ten times its number and that digit.
-- Assumes nothing.
use Prim.Native.Nat.{ℕ, zero, suc, ◌+◌, ◌*◌, ◌-◌, ◌/◌, ◌%◌, ◌≤◌, ◌<◌}
use mathlib.Core.Path.{◌≡◌, ap, ◌∙◌}
use mathlib.Core.Logic.{◌≢◌}
use mathlib.Core.List.{List, [], ◌∷◌, ◌++◌}
use native.Mathlib.Omega.{arith}
use native.Mathlib.Decide.{dec_le}
use lib.ListN.{length, get_or, length-append, get_or-append}
use lib.Seq.{get_or-append_seam}
use Rattle.listing.specs.Lines.{digit, decimal}
use Rattle.listing.specs.Numerals.{said, Numeral}
use Rattle.listing.proofs.Decimals.{decimal_last, decimal_more}

said_more : (before : ℕ) (text : List ℕ) (d : ℕ) → said before (text ++ (digit d ∷ [])) ≡ 10 * said before text + d
unfolding said
said_more before [] d = omega arith
said_more before (b ∷ text) d = said_more (10 * before + (b - digit 0)) text d

one : (n : ℕ) → n < 10 → Numeral n (digit n ∷ [])
unfolding said
one n h =
    record {
      some_digit = omega arith;
      least = λ i l. let e : i ≡ 0 = omega arith in rw e (omega arith);
      most = λ i l. let e : i ≡ 0 = omega arith in rw e (omega arith);
      says = omega arith;
      no_leading_zero = λ l. absurd (omega arith);
    }

-- a number above nought does not start with a zero
starts : (n : ℕ) (text : List ℕ) → 1 ≤ n → Numeral n text → get_or text 0 0 ≢ digit 0
unfolding said
starts n [] h w = absurd (omega (arith, w.some_digit))
starts n (b ∷ []) h w = λ e. omega (arith, w.says)
starts n (b ∷ (c ∷ text)) h w = w.no_leading_zero (omega arith)

module _ (m d : ℕ) (text : List ℕ) (some : 1 ≤ m) (small : d < 10) (w : Numeral m text) where
  long : length (text ++ (digit d ∷ [])) ≡ length text + 1
  long = length-append text (digit d ∷ [])

  -- a digit of the longer text is one of the shorter, or the new one
  each : (P : ℕ → Type 0) → ((i : ℕ) → i < length text → P (get_or text i 0)) → P (digit d) → (i : ℕ) → i < length (text ++ (digit d ∷ [])) → P (get_or (text ++ (digit d ∷ [])) i 0)
  each P before here i l =
      elim (dec_le (suc i) (length text)) [
        | yes h ↦ rw (get_or-append text (digit d ∷ []) 0 i h) (before i h)
        | no h ↦ let e : i ≡ length text = omega (arith, long) in rw (e, get_or-append_seam text (digit d) [] 0) here
      ]

  more : Numeral (10 * m + d) (text ++ (digit d ∷ []))
  more =
      record {
        some_digit = omega (arith, long);
        least = each (λ b. digit 0 ≤ b) w.least (omega arith);
        most = each (λ b. b ≤ digit 9) w.most (omega arith);
        says = said_more 0 text d ∙ ap (λ k. 10 * k + d) w.says;
        no_leading_zero = λ l. rw (get_or-append text (digit d ∷ []) 0 0 w.some_digit) (starts m text some w);
      }

-- any number up to a bound
up_to : (bound n : ℕ) → n < bound → Numeral n (decimal n)
up_to zero n h = absurd (omega arith)
up_to (suc bound) n h =
    elim (dec_le 10 n) [
      | yes l ↦
          let w = more (n / 10) (n % 10) (decimal (n / 10)) (omega arith) (omega arith) (up_to bound (n / 10) (omega arith)) in
          let e : 10 * (n / 10) + n % 10 ≡ n = omega arith in
          rw (decimal_more n l) (rw e at w)
      | no l ↦ rw (decimal_last n (omega arith)) (one n (omega arith))
    ]

pub decimal_numeral : (n : ℕ) → Numeral n (decimal n)
decimal_numeral n = up_to (suc n) n (omega arith)
