-- Refusals 7 and 8 as the page states them, and all the rows that compiling tests.
--   TooManyLabels, TooLittleRoom == rows 7 and 8, each with its place
--   compile_rows text room       == the rows that compiling tests, in the order in which it tests them
--   TableMeant text table        == the table is that of what the text derives
-- Assumes nothing.
use Rattle.std.specs.Prelude.{ℕ, ◌<◌, ◌≡◌, List, [], ◌∷◌, ◌++◌}
use Rattle.terms.specs.Terms.{most_labels}
use Rattle.terms.specs.Rows.{Row, row}
use Rattle.formula.specs.Formula.{literals}
use Rattle.formula.specs.Typed.{Typed, positive}
use Rattle.grammar.specs.Grammar.{Derives}
use Rattle.grammar.specs.Rows.{text_rows}
use Rattle.turning.specs.Turning.{turned}
use Rattle.weaving.specs.Labels.{weave}
use Rattle.table.specs.Layout.{table_length}
use Rattle.compiler.specs.Compiled.{table_of}

-- 7: "the table would need over 15 labels"; place 0 (scope 7.1)
pub record TooManyLabels (text : List ℕ) (at : ℕ) : Type 0 where
  pub meaning : Typed
  pub derives : Derives text meaning
  pub many : most_labels < (weave (turned (positive 0 meaning))).label_count
  pub place : at ≡ 0

-- 8: "output buffer under 6n + 7 bytes"; place 6n + 7 (scope 7.1)
pub record TooLittleRoom (text : List ℕ) (room at : ℕ) : Type 0 where
  pub meaning : Typed
  pub derives : Derives text meaning
  pub place : at ≡ table_length (literals (positive 0 meaning))
  pub little : room < at

-- "Compiling tests 1 to 8 in that order, each over the whole text before the next": those of the text, then those of the table
-- (scope 7.2)
abbrev pub table_rows : List ℕ → ℕ → List Row
table_rows text room = row 7 (TooManyLabels text) ∷ row 8 (TooLittleRoom text room) ∷ []

abbrev pub compile_rows : List ℕ → ℕ → List Row
compile_rows text room = text_rows text ++ table_rows text room

-- "and answers a table whenever none of them holds": which one (scope 7.2)
pub record TableMeant (text table : List ℕ) : Type 0 where
  pub meaning : Typed
  pub derives : Derives text meaning
  pub table_is : table ≡ table_of (weave (turned (positive 0 meaning)))
