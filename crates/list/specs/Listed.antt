-- What the listing program writes: the lines of the text's table, or the line of its refusal (scope 9).
--   roomy       == room for the table of every accepted text
--   listed text == those lines
-- Assumes nothing.
use Rattle.std.specs.Prelude.{ℕ, List}
use Rattle.terms.specs.Answer.{Answer, result, refused}
use Rattle.compiler.specs.Twins.Compiling.{compiled}
use Rattle.listing.specs.Lines.{lines, refusal_line}

abbrev pub roomy : ℕ
roomy = 6151

abbrev pub shown : Answer (List ℕ) → List ℕ
shown (result table) = lines table
shown (refused r at) = refusal_line r at

unfoldable pub listed : List ℕ → List ℕ
listed text = shown (compiled text roomy)
