-- The listing of the page's example, `1+2*3`, is what the page prints; so is the line of a refusal. The definitions compute it.
-- Assumes nothing.
use Prim.Native.Nat.{ℕ}
use mathlib.Core.Path.{◌≡◌, refl}
use mathlib.Core.Bool.{true, false}
use mathlib.Core.List.{List, ◌++◌}
use Rattle.terms.specs.Texts.{bytes}
use Rattle.table.specs.Layout.{header_bytes, gate_bytes, end_bytes}
use Rattle.listing.specs.Lines.{digits, gate_lines, lines, refusal_line}

-- the gates 2, 3 and 1
abbrev pub table : List ℕ
table = header_bytes 3 2 ++ (gate_bytes true 2 0 0 1 ++ (gate_bytes true 3 0 0 1 ++ (gate_bytes true 1 1 0 1 ++ end_bytes 0 1)))

pub as_printed : lines table ≡ bytes "gates 3 labels 2\n0 2 + 0 0 1\n1 3 + 0 0 1\n2 1 + 1 0 1\ntrue 0 false 1\n"
unfolding bytes digits gate_lines lines
as_printed = refl

-- a complemented gate, and numbers of several digits
pub complemented : lines (header_bytes 1 12 ++ (gate_bytes false 1023 0 10 11 ++ end_bytes 10 11)) ≡ bytes "gates 1 labels 12\n0 1023 - 0 10 11\ntrue 10 false 11\n"
unfolding bytes digits gate_lines lines
complemented = refl

pub refused : refusal_line 5 16384 ≡ bytes "refused 5 at 16384\n"
unfolding bytes digits refusal_line
refused = refl
