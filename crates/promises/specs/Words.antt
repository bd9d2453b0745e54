-- The words in which the promises are made.
--   Accepted text room e table == the text derives e, and compiling it with that room answers the table
--   arrangement e            == the turned expression of what was typed
--   gate_of_each e           == which occurrence each gate is, gate by gate
--   typed_numbers e          == the numbers as typed, from left to right
--   typed_senses sense e     == whether each of them is plain, where e as a whole has that sense
--   Asks table e             == each gate of the table asks for the number and has the sense of its occurrence
--   Names table l            == a record of the table names the label l
--   Enough n j               == j labels are enough for n literals, by the paper's bound
--   Alike t u at n           == two tables agree in n bytes from a place on
--   header_rows, ends_rows   == the rows that the library's readers of a header and of the ends test
-- Assumes nothing.
use Rattle.std.specs.Prelude.{ℕ, ◌+◌, ◌*◌, ◌^◌, ◌≤◌, ◌<◌, ◌≡◌, Bool, true, not, cond, List, [], ◌∷◌, ◌++◌, get_or}
use Rattle.terms.specs.Terms.{Primitive, Label}
use Rattle.terms.specs.Answer.{result}
use Rattle.terms.specs.Rows.{Row, row}
use Rattle.formula.specs.Formula.{Expr}
use Rattle.formula.specs.Typed.{Typed, number, complement, plus, times, minus, numbers, positive}
use Rattle.formula.specs.Occurrences.{occurrences}
use Rattle.grammar.specs.Grammar.{Derives}
use Rattle.turning.specs.Turning.{turned}
use Rattle.table.specs.Layout.{P, N, byte_at, header_of, gate_of, end_of}
use Rattle.table.specs.WellFormed.{FrameFault}
use Rattle.compiler.specs.Twins.Compiling.{compiled}
use Rattle.run.specs.Rows.{end_rows}

-- a text that compiles, with its meaning and its table: any two meanings of a text are equal (`one_meaning`)
pub record Accepted (text : List ℕ) (room : ℕ) (e : Typed) (table : List ℕ) : Type 0 where
  pub answers : compiled text room ≡ result table
  pub means : Derives text e

abbrev pub arrangement : Typed → Expr
arrangement e = turned (positive 0 e)

abbrev pub gate_of_each : Typed → List ℕ
gate_of_each e = occurrences (arrangement e)

-- "3 times 2 to the j is at least 2n + 6": j labels are enough for n literals (scope 1.4)
abbrev pub Enough : ℕ → ℕ → Type 0
Enough n j = 2 * n + 6 ≤ 3 * 2 ^ j

-- the numbers as typed, from left to right
unfoldable pub typed_numbers : Typed → List Primitive
typed_numbers (number p) = p ∷ []
typed_numbers (complement a) = typed_numbers a
typed_numbers (plus a b) = typed_numbers a ++ typed_numbers b
typed_numbers (times a b) = typed_numbers a ++ typed_numbers b
typed_numbers (minus a b) = typed_numbers a ++ typed_numbers b

-- a `!` makes the opposite of all that it stands before, and a `-` of its right operand: true is plain, false complemented
unfoldable pub typed_senses : Bool → Typed → List Bool
typed_senses sense (number p) = sense ∷ []
typed_senses sense (complement a) = typed_senses (not sense) a
typed_senses sense (plus a b) = typed_senses sense a ++ typed_senses sense b
typed_senses sense (times a b) = typed_senses sense a ++ typed_senses sense b
typed_senses sense (minus a b) = typed_senses sense a ++ typed_senses (not sense) b

-- the occurrence that gate k is
abbrev pub occurrence_at : Typed → ℕ → ℕ
occurrence_at e k = get_or (gate_of_each e) k 0

pub record Asks (table : List ℕ) (e : Typed) : Type 0 where
  pub within : (k : ℕ) → k < numbers e → occurrence_at e k < numbers e
  pub primitive : (k : ℕ) → k < numbers e → (gate_of table k).primitive ≡ get_or (typed_numbers e) (occurrence_at e k) 0
  -- "`P` (80), plain gate, or `N` (78), complemented gate" (scope 5.1)
  pub kind : (k : ℕ) → k < numbers e → (gate_of table k).kind ≡ cond (get_or (typed_senses true e) (occurrence_at e k) true) P N

-- a gate's record or the `E` record names the label
pub data Names (table : List ℕ) (l : Label) : Type 0 where
  by_own : (k : ℕ) → k < (header_of table).gates → (gate_of table k).own ≡ l → Names table l
  by_true : (k : ℕ) → k < (header_of table).gates → (gate_of table k).on_true ≡ l → Names table l
  by_false : (k : ℕ) → k < (header_of table).gates → (gate_of table k).on_false ≡ l → Names table l
  by_True : (end_of table (header_of table).gates).on_true ≡ l → Names table l
  by_False : (end_of table (header_of table).gates).on_false ≡ l → Names table l

abbrev pub Alike : List ℕ → List ℕ → ℕ → ℕ → Type 0
Alike t u at n = (i : ℕ) → i < n → byte_at t (at + i) ≡ byte_at u (at + i)

-- the rows that the library's readers of a header and of the ends test: 9 alone, since the ends are asked for at gate n
abbrev pub header_rows : List ℕ → List Row
header_rows table = row 9 (FrameFault table) ∷ []

abbrev pub ends_rows : List ℕ → List Row
ends_rows table = header_rows table ++ end_rows table (header_of table).gates
