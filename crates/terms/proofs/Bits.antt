-- The bits of a word, by induction on the bit: the bit 0 is the remainder by two, and the others are the bits of the half. So `and`,
-- `or` and `not` go bit by bit, a power of two is one bit, and the zeros at a word's low end reach to its first set bit.
-- Assumes nothing.
use Prim.Native.Nat.{ℕ, zero, suc, ◌+◌, ◌-◌, ◌/◌, ◌%◌, ◌^◌, ◌<◌, min, max}
use mathlib.Core.Path.{◌≡◌, refl, sym, ap, ◌∙◌}
use mathlib.Core.Bool.{true, false, not, ◌&&◌, ◌||◌, true≢false, false≢true}
use native.Mathlib.Nat.{div-one, add_comm, pow-suc, sub-zero, not-suc-le-zero}
use native.Mathlib.Numerals.{add-one}
use native.Mathlib.Omega.{arith}
use lib.Dec.{eqb, eqb-suc-zero, eqb-zero-suc, eqb-suc-suc}
use lib.Arith.{lt-one, digits_mod}
use lib.Pow.{shr-shr, pow-lt, pow_pos}
use lib.Bits.{bit_and, bit_or, and_shr, and_step, or_shr, or_step}
use lib.Count.{under, count_trailing_zeros}
use Rattle.terms.specs.First.{First}
use Rattle.terms.specs.Code.Bits.{bit}

-- a remainder by two is nought or one
data Digit : ℕ → Type 0 where
  nought : Digit 0
  one : Digit 1

digit : (n : ℕ) → n < 2 → Digit n
digit zero h = nought
digit (suc zero) h = one
digit (suc (suc n)) h = absurd (omega arith)

last : (w : ℕ) → Digit (w % 2)
last w = digit (w % 2) (omega arith)

-- the bit 0, and the others
pub bit_first : (w : ℕ) → bit w 0 ≡ eqb (w % 2) 1
unfolding bit
bit_first w = rw (div-one w)

bit_last : (w d : ℕ) → w % 2 ≡ d → bit w 0 ≡ eqb d 1
bit_last w d e = bit_first w ∙ ap (λ (x : ℕ). eqb x 1) e

pub bit_next : (w i : ℕ) → bit w (suc i) ≡ bit (w / 2) i
unfolding bit
bit_next w i = ap (λ (x : ℕ). eqb (w / 2 ^ x % 2) 1) (sym (add_comm 1 i ∙ add-one i)) ∙ ap (λ (x : ℕ). eqb (x % 2) 1) (sym (shr-shr w 1 i))

-- `and` and `or`
least : {x y : ℕ} → Digit x → Digit y → eqb (min x y) 1 ≡ (eqb x 1 && eqb y 1)
least nought nought = refl
least nought one = refl
least one nought = refl
least one one = refl

most : {x y : ℕ} → Digit x → Digit y → eqb (max x y) 1 ≡ (eqb x 1 || eqb y 1)
most nought nought = refl
most nought one = refl
most one nought = refl
most one one = refl

pub bit-and : (a b i : ℕ) → bit (bit_and a b) i ≡ (bit a i && bit b i)
unfolding bit
bit-and a b i =
    ap (λ (x : ℕ). eqb (x % 2) 1) (and_shr a b i ∙ and_step (a / 2 ^ i) (b / 2 ^ i))
    ∙ ap (λ (x : ℕ). eqb x 1) (digits_mod (bit_and (a / 2 ^ i / 2) (b / 2 ^ i / 2)) (omega arith))
    ∙ least (last (a / 2 ^ i)) (last (b / 2 ^ i))

pub bit-or : (a b i : ℕ) → bit (bit_or a b) i ≡ (bit a i || bit b i)
unfolding bit
bit-or a b i =
    ap (λ (x : ℕ). eqb (x % 2) 1) (or_shr a b i ∙ or_step (a / 2 ^ i) (b / 2 ^ i))
    ∙ ap (λ (x : ℕ). eqb x 1) (digits_mod (bit_or (a / 2 ^ i / 2) (b / 2 ^ i / 2)) (omega arith))
    ∙ most (last (a / 2 ^ i)) (last (b / 2 ^ i))

-- `not`, in a word of k bits
other : {x : ℕ} → Digit x → (y : ℕ) → x + y ≡ 1 → eqb y 1 ≡ not (eqb x 1)
other nought y e = let f : y ≡ 1 = omega arith in rw f
other one y e = let f : y ≡ 0 = omega arith in rw f

pub bit_not : (k a i : ℕ) → a < 2 ^ k → i < k → bit (2 ^ k - 1 - a) i ≡ not (bit a i)
bit_not zero a i fits within = absurd (not-suc-le-zero within)
bit_not (suc k) a zero fits within =
    bit_first (2 ^ suc k - 1 - a) ∙ other (last a) ((2 ^ suc k - 1 - a) % 2) (omega (arith, pow-suc 2 k)) ∙ ap not (sym (bit_first a))
bit_not (suc k) a (suc i) fits within =
    bit_next (2 ^ suc k - 1 - a) i ∙ ap (λ (x : ℕ). bit x i) half ∙ bit_not k (a / 2) i (omega (arith, pow-suc 2 k)) (omega arith)
    ∙ ap not (sym (bit_next a i))
  where
    half : (2 ^ suc k - 1 - a) / 2 ≡ 2 ^ k - 1 - a / 2
    half = omega (arith, pow-suc 2 k)

-- a power of two
pub bit_of_nought : (i : ℕ) → bit 0 i ≡ false
bit_of_nought zero = bit_first 0
bit_of_nought (suc i) = bit_next 0 i ∙ bit_of_nought i

pub bit_power : (l i : ℕ) → bit (2 ^ l) i ≡ eqb i l
bit_power zero zero = bit_first 1
bit_power zero (suc i) = bit_next 1 i ∙ bit_of_nought i ∙ sym (eqb-suc-zero i)
bit_power (suc l) zero = bit_last (2 ^ suc l) 0 (omega (arith, pow-suc 2 l)) ∙ sym (eqb-zero-suc l)
bit_power (suc l) (suc i) = bit_next (2 ^ suc l) i ∙ ap (λ (x : ℕ). bit x i) half ∙ bit_power l i ∙ sym (eqb-suc-suc i l)
  where
    half : 2 ^ suc l / 2 ≡ 2 ^ l
    half = omega (arith, pow-suc 2 l)

-- a bit set, and a bit cleared: that bit alone
pub bit-set : (w l i : ℕ) → bit (bit_or w (2 ^ l)) i ≡ (bit w i || eqb i l)
bit-set w l i = bit-or w (2 ^ l) i ∙ rw (bit_power l i)

pub bit_cleared : (k w l i : ℕ) → l < k → i < k → bit (bit_and w (2 ^ k - 1 - 2 ^ l)) i ≡ (bit w i && not (eqb i l))
bit_cleared k w l i power within = bit-and w (2 ^ k - 1 - 2 ^ l) i ∙ rw (bit_not k (2 ^ l) i (pow-lt power) within, bit_power l i)

-- a word whose k bits are all set
pub bit_of_all : (k i : ℕ) → i < k → bit (2 ^ k - 1) i ≡ true
bit_of_all k i within = ap (λ (x : ℕ). bit x i) (sym (sub-zero (2 ^ k - 1))) ∙ bit_not k 0 i (pow_pos k) within ∙ ap not (bit_of_nought i)

-- the zeros at the low end
module _ (w t : ℕ) where
  under_first : (d : ℕ) → w % 2 ≡ d → Digit d → (d ≡ 0 → First (λ i. bit (w / 2) i ≡ true) t) → First (λ i. bit w i ≡ true) (under d t)
  under_first d e one later = record { here = bit_last w d e; none_before = λ i h. absurd (not-suc-le-zero h) }
  under_first d e nought later = record { here = bit_next w t ∙ (later refl).here; none_before = before }
    where
      before : (i : ℕ) → i < suc t → ¬ (bit w i ≡ true)
      before zero h is = true≢false (sym is ∙ bit_last w d e)
      before (suc i) h is = (later refl).none_before i (omega arith) (sym (bit_next w i) ∙ is)

pub trailing_first : (k w j : ℕ) → j < k → bit w j ≡ true → First (λ i. bit w i ≡ true) (count_trailing_zeros k w)
unfolding count_trailing_zeros
trailing_first zero w j within is = absurd (not-suc-le-zero within)
trailing_first (suc k) w zero within is =
    under_first w (count_trailing_zeros k (w / 2)) (w % 2) refl (last w)
    (λ e. absurd (true≢false (sym is ∙ bit_last w 0 e)))
trailing_first (suc k) w (suc j) within is =
    under_first w (count_trailing_zeros k (w / 2)) (w % 2) refl (last w)
    (λ e. trailing_first k (w / 2) j (omega arith) (sym (bit_next w j) ∙ is))

-- two words with the same bits are one
digits_same : {m n : ℕ} → Digit m → Digit n → eqb m 1 ≡ eqb n 1 → m ≡ n
digits_same nought nought e = refl
digits_same nought one e = absurd (false≢true e)
digits_same one nought e = absurd (true≢false e)
digits_same one one e = refl

pub bits_same : (k a b : ℕ) → a < 2 ^ k → b < 2 ^ k → ((i : ℕ) → i < k → bit a i ≡ bit b i) → a ≡ b
bits_same zero a b x y same = lt-one x ∙ sym (lt-one y)
bits_same (suc k) a b x y same =
    let halves =
    bits_same k (a / 2) (b / 2) (omega (arith, pow-suc 2 k)) (omega (arith, pow-suc 2 k))
    (λ i h. sym (bit_next a i) ∙ same (suc i) (omega arith) ∙ bit_next b i) in
    let lasts = digits_same (last a) (last b) (sym (bit_first a) ∙ same 0 (omega arith) ∙ bit_first b) in
    omega arith

-- 40 is 101000: its bits 3 and 5 are set, and three zeros stand at its low end; 0 has sixteen in sixteen bits
pub forty_in_bits : (bit 40 0 ≡ false) × (bit 40 2 ≡ false) × (bit 40 3 ≡ true) × (bit 40 4 ≡ false) × (bit 40 5 ≡ true) × (bit 40 6 ≡ false)
unfolding bit
forty_in_bits = (refl, refl, refl, refl, refl, refl)

pub zeros_at_the_low_end : (count_trailing_zeros 16 40 ≡ 3) × (count_trailing_zeros 16 1 ≡ 0) × (count_trailing_zeros 16 32768 ≡ 15) × (count_trailing_zeros 16 0 ≡ 16)
unfolding count_trailing_zeros
zeros_at_the_low_end = (refl, refl, refl, refl)
