-- The lines that the listing program writes, as bytes.
--   decimal n        == a number's decimal digits
--   lines table      == the lines of a table: the counts, a line per gate, the two end labels
--   refusal_line r p == the line of a refusal
-- Assumes nothing.
use Rattle.std.specs.Prelude.{ℕ, zero, suc, ◌+◌, ◌/◌, ◌%◌, cond, List, [], ◌∷◌, ◌++◌, ltb, eqb}
use Rattle.terms.specs.Terms.{Label}
use Rattle.terms.specs.Texts.{bytes}
use Rattle.table.specs.Layout.{P, GateFields, header_of, gate_of, end_of}

-- `0` to `9`
abbrev pub digit : ℕ → ℕ
digit d = 48 + d

-- the digits of n, of which there are no more than `most`: the last one stands behind those of the tenth part
unfoldable pub digits : ℕ → ℕ → List ℕ
digits zero n = []
digits (suc most) n = cond (ltb n 10) (digit n ∷ []) (digits most (n / 10) ++ (digit (n % 10) ∷ []))

-- no leading zeros, and `0` for nought; a number above nought has no more digits than its value says
abbrev pub decimal : ℕ → List ℕ
decimal n = digits (suc n) n

abbrev pub newline : List ℕ
newline = 10 ∷ []

abbrev pub spaced : ℕ → List ℕ
spaced n = bytes " " ++ decimal n

-- a line of two words, each with a number behind it
abbrev pub pair_line : List ℕ → ℕ → List ℕ → ℕ → List ℕ
pair_line first m second n = first ++ (decimal m ++ (second ++ (decimal n ++ newline)))

-- "one line of gate and label counts" (scope 9)
abbrev pub counts_line : ℕ → ℕ → List ℕ
counts_line gates labels = pair_line (bytes "gates ") gates (bytes " labels ") labels

-- "`+` plain or `-` complemented" (scope 9)
abbrev pub sign : ℕ → List ℕ
sign kind = cond (eqb kind P) (bytes " +") (bytes " -")

-- "own, true and false label" (scope 9)
abbrev pub three_labels : Label → Label → Label → List ℕ
three_labels own on_true on_false = spaced own ++ (spaced on_true ++ spaced on_false)

-- "a line per gate (gate, primitive, `+` plain or `-` complemented, own, true and false label)" (scope 9)
abbrev pub gate_line : ℕ → GateFields → List ℕ
gate_line k gate =
    decimal k ++ (spaced gate.primitive ++ (sign gate.kind ++ (three_labels gate.own gate.on_true gate.on_false ++ newline)))

-- the lines of the first n gates of a table
unfoldable pub gate_lines : List ℕ → ℕ → List ℕ
gate_lines table zero = []
gate_lines table (suc n) = gate_lines table n ++ gate_line n (gate_of table n)

-- "the two end labels" (scope 9)
abbrev pub ends_line : Label → Label → List ℕ
ends_line on_true on_false = pair_line (bytes "true ") on_true (bytes " false ") on_false

unfoldable pub lines : List ℕ → List ℕ
lines table =
    let n = (header_of table).gates in
    counts_line n (header_of table).labels ++ (gate_lines table n ++ ends_line (end_of table n).on_true (end_of table n).on_false)

-- "A refusal is the single line `refused R at P`." (scope 9)
unfoldable pub refusal_line : ℕ → ℕ → List ℕ
refusal_line number at = pair_line (bytes "refused ") number (bytes " at ") at
