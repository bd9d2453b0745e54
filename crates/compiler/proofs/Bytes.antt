-- What stands in the table of a weave, byte by byte: each record starts where the layout says, and reading it back gives what was
-- written. Assumes nothing.
use Prim.Native.Nat.{ℕ, zero, suc, ◌+◌, ◌*◌, ◌/◌, ◌%◌, ◌<◌}
use mathlib.Core.Path.{◌≡◌, refl, ap, ◌∙◌}
use mathlib.Core.Bool.{true}
use mathlib.Core.List.{List, [], ◌∷◌, ◌++◌, append_assoc}
use native.Mathlib.Nat.{not-suc-le-zero}
use native.Mathlib.Omega.{arith}
use lib.ListN.{length, get_or, length-append, get_or-append}
use lib.Seq.{get_or-append-add}
use Rattle.weaving.specs.Labels.{GateRecord, Woven}
use Rattle.table.specs.Layout.{H, E, header_length, gate_length, record_start, table_length, header_for, kind_by_sense, header_bytes, end_bytes, byte_at, Header, header_of, GateFields, gate_of, end_of}
use Rattle.compiler.specs.Compiled.{record_bytes, all_records, table_of}

-- a gate record that stands nowhere
abbrev pub no_record : GateRecord
no_record = record { literal = record { primitive = 0; sense = true; occurrence = 0 }; own = 0; on_true = 0; on_false = 0 }

abbrev pub record_of : Woven → ℕ → GateRecord
record_of w k = get_or w.gate_records k no_record

abbrev pub gate_count : Woven → ℕ
gate_count w = length w.gate_records

-- the header that is written for a weave
abbrev header_made : Woven → Header
header_made w = header_for (gate_count w) w.label_count

all_records-length : (h : Header) (gs : List GateRecord) → length (all_records gs) ≡ gate_length h * length gs
unfolding all_records
all_records-length h [] = refl
all_records-length h (g ∷ gs) = omega (arith, all_records-length h gs)

pub table_of-length : (w : Woven) → length (table_of w) ≡ table_length (gate_count w)
unfolding table_of
table_of-length w =
    let gs = w.gate_records in
    omega (arith, all_records-length (header_made w) gs, length-append (all_records gs) (end_bytes w.true_label w.false_label))

-- byte j of record k, counted from the first gate record
among_records : (h : Header) (gs : List GateRecord) (rest : List ℕ) (k j : ℕ) → k < length gs → j < gate_length h
    → get_or (all_records gs ++ rest) (gate_length h * k + j) 0 ≡ get_or (record_bytes (get_or gs k no_record)) j 0
unfolding all_records
among_records h [] rest k j l g = absurd (not-suc-le-zero l)
among_records h (x ∷ gs) rest zero j l g =
    let e : gate_length h * 0 + j ≡ j = omega arith in
    rw e (ap (λ (l : List ℕ). get_or l j 0) (append_assoc (record_bytes x) (all_records gs) rest) ∙ get_or-append (record_bytes x) (all_records gs ++ rest) 0 j g)
among_records h (x ∷ gs) rest (suc k) j l g =
    let e : gate_length h * suc k + j ≡ gate_length h + (gate_length h * k + j) = omega arith in
    rw e
    (ap (λ (l : List ℕ). get_or l (gate_length h + (gate_length h * k + j)) 0) (append_assoc (record_bytes x) (all_records gs) rest)
    ∙ get_or-append-add (record_bytes x) (all_records gs ++ rest) (gate_length h * k + j) 0
    ∙ among_records h gs rest k j (omega arith) g)

module _ (w : Woven) where
  body : List ℕ
  body = all_records w.gate_records ++ end_bytes w.true_label w.false_label

  behind_header : (i : ℕ) → byte_at (table_of w) (header_length (header_made w) + i) ≡ get_or body i 0
  unfolding table_of body
  behind_header i = get_or-append-add (header_bytes (gate_count w) w.label_count) body i 0

  pub record_byte : (k j i : ℕ) → k < gate_count w → j < gate_length (header_made w) → i ≡ record_start (header_made w) k + j
      → byte_at (table_of w) i ≡ get_or (record_bytes (record_of w k)) j 0
  unfolding body
  record_byte k j i h g e =
      let s : i ≡ header_length (header_made w) + (gate_length (header_made w) * k + j) = omega arith in
      rw s (behind_header (gate_length (header_made w) * k + j) ∙ among_records (header_made w) w.gate_records (end_bytes w.true_label w.false_label) k j h g)

  pub end_byte : (j i : ℕ) → i ≡ record_start (header_made w) (gate_count w) + j
      → byte_at (table_of w) i ≡ get_or (end_bytes w.true_label w.false_label) j 0
  unfolding body
  end_byte j i e =
      let s : i ≡ header_length (header_made w) + (length (all_records w.gate_records) + j) = omega (arith, all_records-length (header_made w) w.gate_records) in
      rw s
      (behind_header (length (all_records w.gate_records) + j) ∙ get_or-append-add (all_records w.gate_records) (end_bytes w.true_label w.false_label) j 0)

-- a number below 65,536 comes back from its two bytes
two_bytes_back : (x : ℕ) → x < 65536 → x % 256 + 256 * (x / 256 % 256) ≡ x
two_bytes_back x h = omega arith

pub header_back : (w : Woven) → gate_count w < 65536 → header_of (table_of w) ≡ record { kind = H; gates = gate_count w; labels = w.label_count }
unfolding table_of
header_back w h = rw (two_bytes_back (gate_count w) h)

-- what is read back of a gate's record
abbrev pub fields_of : GateRecord → GateFields
fields_of g = record { kind = kind_by_sense g.literal.sense; primitive = g.literal.primitive; own = g.own; on_true = g.on_true; on_false = g.on_false }

pub gate_back : (w : Woven) (k : ℕ) → k < gate_count w → (record_of w k).literal.primitive < 65536 → gate_of (table_of w) k ≡ fields_of (record_of w k)
gate_back w k h p =
    simp (
      record_byte w k 0 (record_start (header_made w) k) h (omega arith) (omega arith),
      record_byte w k 1 (record_start (header_made w) k + 1) h (omega arith) (omega arith),
      record_byte w k 2 (record_start (header_made w) k + 1 + 1) h (omega arith) (omega arith),
      record_byte w k 3 (record_start (header_made w) k + 3) h (omega arith) (omega arith),
      record_byte w k 4 (record_start (header_made w) k + 4) h (omega arith) (omega arith),
      record_byte w k 5 (record_start (header_made w) k + 5) h (omega arith) (omega arith),
      two_bytes_back (record_of w k).literal.primitive p,
    )

pub end_back : (w : Woven) → end_of (table_of w) (gate_count w) ≡ record { kind = E; on_true = w.true_label; on_false = w.false_label }
end_back w =
    let n = gate_count w in
    simp (end_byte w 0 (record_start (header_made w) n) (omega arith), end_byte w 1 (record_start (header_made w) n + 1) refl, end_byte w 2 (record_start (header_made w) n + 2) refl)
