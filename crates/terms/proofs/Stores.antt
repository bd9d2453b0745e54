-- Runs of stores: one run behind another is one run, and a run reads back as what it stored. Assumes nothing.
use Prim.Native.Nat.{ℕ, suc, ◌+◌, ◌≤◌, ◌<◌}
use mathlib.Core.Path.{◌≡◌, refl, sym, ap, ◌∙◌}
use mathlib.Core.List.{List, [], ◌∷◌, ◌++◌}
use native.Mathlib.Nat.{le_refl, add-zero, add-suc, suc-add, zero-add}
use native.Mathlib.Omega.{arith}
use lib.ListN.{length, set, drop}
use lib.Seq.{sets, sets-eq, set_comm}

pub sets_append : (l : List ℕ) (i : ℕ) (xs ys : List ℕ) → sets l i (xs ++ ys) ≡ sets (sets l i xs) (i + length xs) ys
sets_append l i [] ys = rw add-zero
sets_append l i (x ∷ xs) ys = sets_append (set l i x) (suc i) xs ys ∙ rw (suc-add, add-suc)

-- a store before a run does not meet it
set_sets : (l : List ℕ) (i v j : ℕ) (xs : List ℕ) → i < j → set (sets l j xs) i v ≡ sets (set l i v) j xs
set_sets l i v j [] h = refl
set_sets l i v j (x ∷ xs) h =
    set_sets (set l j x) i v (suc j) xs (omega arith) ∙ ap (λ (m : List ℕ). sets m (suc j) xs) (set_comm l j i x v (λ e. omega arith))

-- and so a run that ends before another
sets_comm : (l : List ℕ) (i : ℕ) (xs : List ℕ) (j : ℕ) (ys : List ℕ) → i + length xs ≤ j → sets (sets l j ys) i xs ≡ sets (sets l i xs) j ys
sets_comm l i [] j ys h = refl
sets_comm l i (x ∷ xs) j ys h =
    ap (λ (m : List ℕ). sets m (suc i) xs) (set_sets l i x j ys (omega arith)) ∙ sets_comm (set l i x) (suc i) xs j ys (omega arith)

-- a run stored before the one that ends where it begins
pub sets_behind : (l : List ℕ) (i : ℕ) (xs ys : List ℕ) → sets (sets l (i + length xs) ys) i xs ≡ sets l i (xs ++ ys)
sets_behind l i xs ys = sets_comm l i xs (i + length xs) ys (le_refl _) ∙ sym (sets_append l i xs ys)

-- a run from the front
pub sets_front : (l xs : List ℕ) → length xs ≤ length l → sets l 0 xs ≡ xs ++ drop (length xs) l
sets_front l xs h = sets-eq xs l 0 (omega arith) ∙ rw zero-add
