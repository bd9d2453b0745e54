-- Request 1, "minus belongs with plus": what it leaves as it was, each theorem under its sentence. What the grammar says since is in
-- Demands.antt. Assumes nothing.
use Prim.Native.Nat.{ℕ}
use mathlib.Core.Path.{◌≡◌, refl}
use mathlib.Core.Bool.{false}
use mathlib.Core.Logic.{◌↔◌}
use mathlib.Core.List.{List}
use Rattle.terms.specs.Answer.{refused}
use Rattle.compiler.specs.Twins.Compiling.{compiled}
use Rattle.promises.specs.Examples.Binding.{Levels, minus_in_products, read_from_by, read_by, compiled_by, told_apart_from, told_apart, OthersKeepTheirTables}
use Rattle.promises.proofs.Laws.Computing.{computing}
use Rattle.promises.proofs.Laws.Chains.{read_matched}
use Rattle.promises.proofs.Laws.Binding.{refused_alike, compiled_read}

-- "Refusals: unchanged." However its operators bind, a text is refused with the same number at the same place, or not at all.
pub refusals_unchanged : (levels : Levels) (text : List ℕ) (room r at : ℕ) → (compiled_by levels text room ≡ refused r at) ↔ (compiled text room ≡ refused r at)
refusals_unchanged = refused_alike

-- A text keeps its table, unless in one of its chains a `-` follows a `+`, or a `*` follows a `-` with no `+` between,
pub unchanged_unless_told_apart : (text : List ℕ) (room : ℕ) → told_apart text ≡ false → compiled_by minus_in_products text room ≡ compiled text room
unchanged_unless_told_apart text room alike = compiled_read minus_in_products text room (read_matched text alike)

-- and "the other examples of 01 keep their tables."
pub other_examples_keep_their_tables : OthersKeepTheirTables
unfolding computing read_from_by read_by compiled_by told_apart_from
other_examples_keep_their_tables = record { tables = refl; before = refl; seen = refl }
