-- The parts of a line, written one behind the other, are the line; the lines, written one behind the other, are the listing, and it
-- fits the buffer because a gate's line has no more than 26 bytes (25 below the most gates). Assumes nothing.
use Prim.Native.Nat.{ℕ, ◌+◌, ◌*◌, ◌≤◌}
use mathlib.Core.Path.{◌≡◌, refl, ap, subst, ◌∙◌}
use mathlib.Core.List.{List, ◌++◌}
use native.Mathlib.Numerals.{add-one}
use native.Mathlib.Omega.{arith}
use lib.ListN.{length}
use Rattle.table.specs.Layout.{GateFields, header_of, gate_of}
use Rattle.table.specs.Shown.{shown_header, shown_gate}
use Rattle.table.specs.Code.Checked.{header_said, coded_gate, coded_end, gate_under, end_under}
use Rattle.table.specs.declared.Header as coded_header
use Rattle.table.specs.declared.Gate.{Gate}
use Rattle.table.specs.declared.End.{End}
use Rattle.listing.specs.declared.Page.{Page}
use Rattle.listing.specs.Lines.{decimal, newline, spaced, counts_line, sign, three_labels, gate_line, gate_lines, pair_line, ends_line, lines}
use Rattle.listing.specs.Code.Written.{Written, WrittenWithin, Printed, Listable}
use Rattle.listing.proofs.Writing.{nothing, then, then_within, whole, printed}

-- a word and a number, twice, and the end of the line
pub two_numbers : {a b c d e f : Page} (v w : List ℕ) (m n : ℕ)
    → Written a b v → WrittenWithin 20 b c (decimal m) → Written c d w → WrittenWithin 20 d e (decimal n) → Written e f newline
    → WrittenWithin (length v + (length w + 41)) a f (pair_line v m w n)
two_numbers v w m n p q s t u =
    let line = then_within (whole p) (then_within q (then_within (whole s) (then_within t (whole u)))) in
    record { written = line.written; near = omega (arith, line.near) }

-- a gate's line, where its number has no more than m bytes
pub gate_written : {m : ℕ} {a b c d e f : Page} (g : ℕ) (fields : GateFields)
    → WrittenWithin m a b (decimal g) → WrittenWithin 6 b c (spaced fields.primitive) → WrittenWithin 2 c d (sign fields.kind)
    → WrittenWithin 12 d e (three_labels fields.own fields.on_true fields.on_false) → Written e f newline
    → WrittenWithin (m + 21) a f (gate_line g fields)
gate_written g fields v w x y z = then_within v (then_within w (then_within x (then_within y (whole z))))

-- h is what the header of the table says
module _ (table : List ℕ) (h : coded_header.Header) (eh : h ≡ header_said table) where
  pub no_gate : (p : Page) → WrittenWithin (26 * 0) p p (gate_lines table 0)
  unfolding gate_lines
  no_gate p = record { written = nothing p; near = omega arith }

  pub gates_are : h.gates ≡ (header_of table).gates
  gates_are = ap (λ (x : coded_header.Header). x.gates) eh

  pub next_gate : {a b c : Page} (k : ℕ) (g : Gate) → g ≡ coded_gate (gate_under (shown_header h) table k)
      → WrittenWithin (26 * k) a b (gate_lines table k) → WrittenWithin 26 b c (gate_line k (shown_gate g))
      → WrittenWithin (26 * (k + 1)) a c (gate_lines table (k + 1))
  unfolding gate_lines
  next_gate {b = b} {c = c} k g eg v w =
      let is : shown_gate g ≡ gate_of table k = ap shown_gate eg ∙ ap (λ (x : coded_header.Header). gate_under (shown_header x) table k) eh in
      let w' = subst (λ (x : GateFields). WrittenWithin 26 b c (gate_line k x)) is w in
      rw add-one (record { written = then v.written w'.written; near = omega (arith, v.near, w'.near) })

  pub all_lines : {a b c d : Page} {old new : List ℕ} (k : ℕ) (e : End) → e ≡ coded_end (end_under (shown_header h) table) → Listable table
      → a.at ≡ 0 → a.out.now ≡ old → new ≡ d.out.now → length old ≡ 32768 → k ≤ h.gates → h.gates ≤ k
      → WrittenWithin 55 a b (counts_line h.gates h.labels) → WrittenWithin (26 * k) b c (gate_lines table k)
      → WrittenWithin 53 c d (ends_line e.on_true.0 e.on_false.0)
      → Printed old new (lines table) d.at
  unfolding lines
  all_lines {a} {b} {c} {d} k e ee fits start before after long h₁ h₂ v w x =
      let ek : k ≡ h.gates = omega arith in
      let all : Written a d (counts_line h.gates h.labels ++ (gate_lines table k ++ ends_line e.on_true.0 e.on_false.0)) = then v.written (then w.written x.written) in
      let same : counts_line h.gates h.labels ++ (gate_lines table k ++ ends_line e.on_true.0 e.on_false.0) ≡ lines table = rw (ee, ek, eh) refl in
      let written : Written a d (lines table) = rw same at all in
      printed written start before after (omega (arith, written.place, fits.few_gates, gates_are, v.near, w.near, x.near))
