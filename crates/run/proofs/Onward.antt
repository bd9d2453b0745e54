-- On a well-formed table a run goes on: it starts, every feed before the last gate moves it, and only its label can be refused at the end.
-- Assumes nothing.
use Prim.Native.Nat.{ℕ, ◌<◌}
use mathlib.Core.Path.{◌≡◌, refl}
use mathlib.Core.Bool.{Bool}
use mathlib.Core.List.{List}
use borrow.Author.Tests.{lt-ltb, eq-eqb}
use Rattle.terms.specs.Terms.{Label, first_label}
use Rattle.terms.specs.Answer.{result}
use Rattle.table.specs.Layout.{header_of, gate_of, end_of}
use Rattle.table.specs.WellFormed.{WellFormed}
use Rattle.table.proofs.Tested.{no_frame_fault, gate_told, end_told, well_formed_told}
use Rattle.run.specs.Run.{Run, stepped}
use Rattle.run.specs.Twins.Answers.{started, fed, answered, ended}

module _ (table : List ℕ) (w : WellFormed table) where
  pub starts : started table ≡ result (record { gate = 0; label = first_label })
  unfolding started
  starts = rw ((well_formed_told table).1 w) refl

  pub moves : (r : Run) (truth : Bool) → r.gate < (header_of table).gates → fed r table truth ≡ result (stepped r (gate_of table r.gate) truth)
  unfolding fed
  moves r truth l =
      rw (
        (no_frame_fault table).1 (record { header = w.header; long = w.long }),
        lt-ltb _ _ l,
        (gate_told table r.gate).1 (w.gates r.gate l),
      )
      refl

  pub ends : (l : Label)
      → answered (record { gate = (header_of table).gates; label = l }) table ≡ ended (end_of table (header_of table).gates) l
  unfolding answered
  ends l =
      rw (
        (no_frame_fault table).1 (record { header = w.header; long = w.long }),
        (end_told table (header_of table).gates).1 w.end,
        eq-eqb (header_of table).gates (header_of table).gates refl,
      )
      refl
