-- Bytes put behind bytes are put as one, since what finds no room is left out either way. Assumes nothing.
use Prim.Native.Nat.{ℕ, zero, suc, ◌+◌, ◌-◌, ◌%◌, ◌<◌}
use mathlib.Core.Path.{◌≡◌, refl, sym, ap, ◌∙◌, subst}
use mathlib.Core.List.{List, [], ◌∷◌, ◌++◌}
use mathlib.Core.Bool.{false}
use native.Mathlib.Omega.{arith}
use native.Mathlib.Numerals.{add-one}
use lib.Dec.{eqb}
use lib.ListN.{length, get_or, take, length-take, length-append}
use lib.Seq.{sets, take-nil, take-suc}
use Rattle.terms.specs.Texts.{bytes}
use Rattle.terms.proofs.Stores.{sets_append}
use Rattle.examples.specs.Code.Texts.{room, fitting, Put, repeated, sign, halved}

-- take-append: the first of two lists, and what is left of the second

take-append : (n : ℕ) (xs ys : List ℕ) → take n (xs ++ ys) ≡ take n xs ++ take (n - length xs) ys
take-append zero [] ys = refl
take-append (suc n) [] ys = let all : suc n ≡ suc n - length {A = ℕ} [] = omega arith in ap (λ (k : ℕ). take k ys) all
take-append zero (x ∷ xs) ys = let none : 0 ≡ 0 - length (x ∷ xs) = omega arith in ap (λ (k : ℕ). take k ys) none
take-append (suc n) (x ∷ xs) ys =
    let same : n - length xs ≡ suc n - length (x ∷ xs) = omega arith in
    ap (λ (l : List ℕ). x ∷ l) (take-append n xs ys ∙ ap (λ (k : ℕ). take n xs ++ take k ys) same)

-- put_none: nothing

pub put_none : (l : List ℕ) (at : ℕ) → Put l l at [] at
put_none l at = let none = take-nil {A = ℕ} (room - at) in record { stored = rw none; ends = omega (arith, ap length none) }

-- put_chain: bytes behind bytes

pub put_chain : {a b c : List ℕ} {at e r : ℕ} {xs ys : List ℕ} → Put a b at xs e → Put b c e ys r → Put a c at (xs ++ ys) r
put_chain {a} {b} {c} {at} {e} {r} {xs} {ys} p q =
    let long = length-take (room - at) xs in
    let left : room - e ≡ room - at - length xs = omega (arith, p.ends) in
    let second : fitting e ys ≡ take (room - at - length xs) ys = ap (λ (n : ℕ). take n ys) left in
    let both : fitting at (xs ++ ys) ≡ fitting at xs ++ fitting e ys =
    take-append (room - at) xs ys ∙ ap (λ (l : List ℕ). fitting at xs ++ l) (sym second) in
    record {
      stored =
          q.stored
          ∙ ap (λ (l : List ℕ). sets l e (fitting e ys)) p.stored
          ∙ ap (λ (i : ℕ). sets (sets a at (fitting at xs)) i (fitting e ys)) p.ends
          ∙ sym (sets_append a at (fitting at xs) (fitting e ys))
          ∙ ap (sets a at) (sym both);
      ends = omega (arith, p.ends, q.ends, ap length both, length-append (fitting at xs) (fitting e ys));
    }

-- a word: its next byte

pub put_next : {a b c : List ℕ} {at e r : ℕ} (w : List ℕ) (i : ℕ) → Put a b at (take i w) e → i < length w → Put b c e (get_or w i 0 ∷ []) r
    → Put a c at (take (i + 1) w) r
put_next {a} {c = c} {at = at} {r = r} w i p h q =
    subst (λ (xs : List ℕ). Put a c at xs r) (sym (ap (λ (j : ℕ). take j w) (add-one i) ∙ take-suc w i 0 h)) (put_chain p q)

-- a word so many times: not once, and once more

pub put_no_times : (l : List ℕ) (at : ℕ) (w : List ℕ) → Put l l at (repeated 0 w) at
unfolding repeated
put_no_times l at w = put_none l at

pub put_again : {a b c : List ℕ} {at e r : ℕ} (n : ℕ) (w : List ℕ) → Put a b at (repeated n w) e → Put b c e w r
    → Put a c at (repeated (n + 1) w) r
unfolding repeated
put_again n w p q = rw (add-one n) (put_chain p q)

-- a number halved so many times: its operator, not at all, and in two halves

pub put_plus : {a b : List ℕ} {at r : ℕ} (level : ℕ) → level % 2 ≡ 0 → Put a b at (bytes "+") r → Put a b at (sign level) r
put_plus level h p = rw h p

pub put_star : {a b : List ℕ} {at r : ℕ} (level : ℕ) → eqb (level % 2) 0 ≡ false → Put a b at (bytes "*") r → Put a b at (sign level) r
put_star level h p = rw h p

pub put_number : {a b : List ℕ} {at r : ℕ} (level : ℕ) → level ≡ 0 → Put a b at (bytes "1") r → Put a b at (halved level) r
unfolding halved
put_number level h p = rw h p

pub put_halves : {l₀ l₁ l₂ l₃ l₄ l₅ : List ℕ} {at r₁ r₂ r₃ r₄ r₅ : ℕ} (level half : ℕ) → level ≡ suc half → Put l₀ l₁ at (bytes "(") r₁
    → Put l₁ l₂ r₁ (halved half) r₂ → Put l₂ l₃ r₂ (sign half) r₃ → Put l₃ l₄ r₃ (halved half) r₄ → Put l₄ l₅ r₄ (bytes ")") r₅
    → Put l₀ l₅ at (halved level) r₅
unfolding halved
put_halves level half h opened first joined second closed =
    rw h (put_chain (put_chain (put_chain (put_chain opened first) joined) second) closed)
