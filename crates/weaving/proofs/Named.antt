-- Which labels a table's records and ends name (scope 4.6).
--   names_label l rs    == some record of rs names the label l
--   label_named l w     == a record or an end of w names the label l
-- Assumes nothing.
use mathlib.Core.Bool.{Bool, false, ◌||◌}
use mathlib.Core.List.{List, [], ◌∷◌}
use lib.Dec.{eqb}
use Rattle.terms.specs.Terms.{Label}
use Rattle.weaving.specs.Labels.{GateRecord, Woven}

unfoldable pub names_label : Label → List GateRecord → Bool
names_label l [] = false
names_label l (r ∷ rs) = (eqb l r.own || (eqb l r.on_true || eqb l r.on_false)) || names_label l rs

unfoldable pub label_named : Label → Woven → Bool
label_named l w = (eqb l w.true_label || eqb l w.false_label) || names_label l w.gate_records
