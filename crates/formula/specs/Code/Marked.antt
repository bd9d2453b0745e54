-- How a slice of bytes holds a row of marks: the mark of an operator in its own slot, nought as typed and one exchanged.
--   Marked bs i e ms == the slots of the operators of e, held up to the slot i, have the marks ms
-- Assumes nothing.
use Rattle.std.specs.Prelude.{ℕ, ◌-◌, ◌≡◌, Bool, cond, List, [], ◌∷◌, ◌++◌, get_or}
use Rattle.formula.specs.Formula as formula
use Rattle.formula.specs.Formula.{Kind, Expr, literal, join}
use Rattle.formula.specs.Code.Held.{nodes}

-- a mark as a byte
abbrev pub mark_byte : Bool → ℕ
mark_byte m = cond m 1 0

pub data Marked (bs : List ℕ) : ℕ → Expr → List Bool → Type 0 where
  leaf : {i : ℕ} {x : formula.Literal} → Marked bs i (literal x) []
  joint : {i : ℕ} {k : Kind} {l r : Expr} {m : Bool} {ls rs : List Bool} → get_or bs i 0 ≡ mark_byte m → Marked bs (i - 1 - nodes r) l ls
      → Marked bs (i - 1) r rs → Marked bs i (join k l r) (m ∷ (ls ++ rs))
