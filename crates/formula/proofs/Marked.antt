-- A row of marks that a slice holds has one mark an operator, so it splits where the operands do; and it is still held where
-- only other slots change. Assumes nothing.
use Prim.Native.Nat.{ℕ, suc, ◌+◌, ◌≤◌, ◌<◌}
use mathlib.Core.Path.{◌≡◌, refl, sym, ap, ap₂, ◌∙◌}
use mathlib.Core.Bool.{Bool}
use mathlib.Core.List.{List, ◌∷◌, ◌++◌}
use native.Mathlib.Nat.{le_refl}
use native.Mathlib.Omega.{arith}
use lib.ListN.{length, get_or, length-append}
use lib.Seq.{take-append_seam, drop-append_seam}
use Rattle.formula.specs.Formula.{Kind, Expr, join, operators}
use Rattle.formula.specs.Marks.{placed, arranged}
use Rattle.formula.specs.Code.Held.{nodes}
use Rattle.formula.specs.Code.Marked.{Marked, leaf, joint}
use Rattle.formula.proofs.Held.{nodes_some}

pub marked-length : {bs : List ℕ} {i : ℕ} {e : Expr} {ms : List Bool} → Marked bs i e ms → length ms ≡ operators e
unfolding operators
marked-length leaf = refl
marked-length (joint {ls = ls} {rs = rs} h a b) = ap suc (length-append ls rs ∙ ap₂ (◌+◌) (marked-length a) (marked-length b))

-- an operator arranged by its own mark and by the rows of its operands
pub arranged_join : (m : Bool) (k : Kind) (l r : Expr) (ls rs : List Bool) → length ls ≡ operators l
    → arranged (m ∷ (ls ++ rs)) (join k l r) ≡ placed m k (arranged ls l) (arranged rs r)
unfolding arranged
arranged_join m k l r ls rs e =
    rw (sym e) (rw (take-append_seam ls rs, drop-append_seam ls rs))

-- the entries outside the nodes e slots up to i do not matter
pub marked_kept : {bs bs' : List ℕ} {i : ℕ} {e : Expr} {ms : List Bool} → Marked bs i e ms → nodes e ≤ i + 1
    → ((j : ℕ) → i < j + nodes e → j ≤ i → get_or bs' j 0 ≡ get_or bs j 0) → Marked bs' i e ms
unfolding nodes
marked_kept leaf fits same = leaf
marked_kept (joint {i = i} {k = k} {l = l} {r = r} h x y) fits same =
    let s = nodes_some l in
    let t = nodes_some r in
    joint (same i (omega arith) (le_refl i) ∙ h)
    (marked_kept x (omega arith) (λ j p q. same j (omega arith) (omega arith)))
    (marked_kept y (omega arith) (λ j p q. same j (omega arith) (omega arith)))
