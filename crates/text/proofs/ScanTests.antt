-- A statement by the two answers of a test.
-- Assumes nothing.
use Prim.Native.Nat.{ℕ}
use mathlib.Core.Path.{◌≡◌, refl}
use mathlib.Core.Bool.{Bool, true, false}
use native.Mathlib.Omega.{arith}

pub by_test : {P : Type 0} (t : Bool) → (t ≡ true → P) → (t ≡ false → P) → P
by_test true f g = f refl
by_test false f g = g refl

-- no test gives both answers
pub not_both : (t : Bool) → t ≡ true → t ≡ false → ⊥
not_both t e f =
    let same : true ≡ false = cc in
    let z : ◌≡◌ {A = ℕ} 0 1 = cc in
    omega arith
