-- The run, and what one gate does to it.
--   Run              == a gate number and a label, which its holder may have altered
--   moved g truth l  == the label of a run after the gate whose record is g
--   stepped r g truth == the run after that gate
-- Assumes nothing.
use Rattle.std.specs.Prelude.{ℕ, suc, Bool, cond, not, eqb}
use Rattle.terms.specs.Terms.{Label}
use Rattle.table.specs.Layout.{N, GateFields}

pub record Run : Type 0 where
  pub gate : ℕ
  pub label : Label

-- "the truth of the primitive; an `N` gate takes the opposite" (scope 6.2)
abbrev pub taken : ℕ → Bool → Bool
taken kind truth = cond (eqb kind N) (not truth) truth

-- "If the run's label is the gate's own, it becomes the gate's true or false label; otherwise it stays." (scope 6.2)
abbrev pub moved : GateFields → Bool → Label → Label
moved g truth l = cond (eqb l g.own) (cond (taken g.kind truth) g.on_true g.on_false) l

-- "The gate number rises by one." (scope 6.2)
abbrev pub stepped : Run → GateFields → Bool → Run
stepped r g truth = record { gate = suc r.gate; label = moved g truth r.label }
