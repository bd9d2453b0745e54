-- A row falls at every place, since a falling row is one whose first cost is not below the next and whose rest falls. Assumes nothing.
use Prim.Native.Nat.{ℕ, zero, suc, ◌≤◌}
use mathlib.Core.List.{List, [], ◌∷◌}
use native.Mathlib.Nat.{le_refl}
use lib.ListN.{get_or}
use Rattle.turning.specs.Tags.{Tag, row}
use Rattle.turning.proofs.Rows.{Falling, falling_row}

falls : (s : List ℕ) → Falling s → (k : ℕ) → get_or s (suc k) 0 ≤ get_or s k 0
unfolding Falling
falls [] f k = le_refl 0
falls (c ∷ []) f zero = f.0
falls (c ∷ (d ∷ s)) f zero = f.0
falls (c ∷ s) f (suc k) = falls s f.1 k

pub row_falls : (t : Tag) (k : ℕ) → get_or (row t) (suc k) 0 ≤ get_or (row t) k 0
row_falls t = falls (row t) (falling_row t)
