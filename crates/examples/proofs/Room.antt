-- All of the texts of a fixed length find room in the buffer, so that nothing of them is left out. Assumes nothing.
use Prim.Native.Nat.{ℕ, zero, suc, ◌+◌, ◌*◌, ◌^◌, ◌≤◌, ◌%◌}
use mathlib.Core.Path.{◌≡◌, refl, sym, ap, ◌∙◌}
use mathlib.Core.Bool.{Bool, true, false, cond}
use mathlib.Core.List.{List, [], ◌∷◌}
use native.Mathlib.Omega.{arith}
use native.Mathlib.Nat.{suc-mul}
use lib.Dec.{eqb}
use lib.ListN.{length, length-append}
use Rattle.terms.specs.Texts.{bytes}
use Rattle.examples.specs.Code.Texts.{room, repeated, sign, halved, left_deep_text, right_deep_text, deep_chain_text, crossed_text, balanced_text}

length-repeated : (n : ℕ) (w : List ℕ) → length (repeated n w) ≡ n * length w
unfolding repeated
length-repeated zero w = omega arith
length-repeated (suc n) w = length-append (repeated n w) w ∙ ap (λ (k : ℕ). k + length w) (length-repeated n w) ∙ sym (suc-mul n (length w))

length-sign : (level : ℕ) → length (sign level) ≡ 1
unfolding bytes
length-sign level = by_test (eqb (level % 2) 0)
  where
    by_test : (t : Bool) → length {A = ℕ} (cond t (43 ∷ []) (42 ∷ [])) ≡ 1
    by_test true = refl
    by_test false = refl

length-halved : (level : ℕ) → length (halved level) + 3 ≡ 4 * 2 ^ level
unfolding halved bytes
length-halved zero = refl
length-halved (suc level) = simp length-append (omega (arith, length-halved level, length-sign level))

pub room_for_left_deep : length left_deep_text ≤ room
unfolding bytes
room_for_left_deep = simp (length-append, length-repeated) (omega arith)

pub room_for_right_deep : length right_deep_text ≤ room
unfolding bytes
room_for_right_deep = simp (length-append, length-repeated) (omega arith)

pub room_for_deep_chain : length deep_chain_text ≤ room
unfolding bytes
room_for_deep_chain = simp (length-append, length-repeated) (omega arith)

pub room_for_crossed : length crossed_text ≤ room
unfolding bytes
room_for_crossed = simp (length-append, length-repeated) (omega arith)

pub room_for_balanced : length balanced_text ≤ room
room_for_balanced = omega (arith, length-halved 10)
