-- A well-formed table, part by part, as the page says it.
--   HeaderFits, LengthFits, GateFits, EndFits == the parts of it
--   WellFormed                                == all of them
--   FrameFault table at                       == header or length are at fault, which have the place 0
--   Fault table at                            == the table is not well formed, and its first record at fault starts at that place
-- Assumes nothing.
use Rattle.std.specs.Prelude.{ℕ, ◌+◌, ◌≤◌, ◌<◌, ◌≡◌, ◌⊎◌, ◌≢◌, List, length}
use Rattle.terms.specs.Terms.{Label, first_label, greatest_primitive, most_literals, least_labels, most_labels}
use Rattle.terms.specs.First.{First}
use Rattle.table.specs.Layout.{H, P, N, E, header_length, record_start, length_by, header_of, gate_of, end_of}

-- "it starts with `H`, n is 1 to 1,024, the label count 2 to 15" (scope 5.3)
pub record HeaderFits (table : List ℕ) : Type 0 where
  pub holds_one : header_length (header_of table) ≤ length table
  pub kind : (header_of table).kind ≡ H
  pub some_gate : 1 ≤ (header_of table).gates
  pub few_gates : (header_of table).gates ≤ most_literals
  pub some_labels : least_labels ≤ (header_of table).labels
  pub few_labels : (header_of table).labels ≤ most_labels

-- "its length 6n + 7" (scope 5.3)
abbrev pub LengthFits : List ℕ → Type 0
LengthFits table = length table ≡ length_by (header_of table)

-- "labels below the label count" (scope 5.3)
pub record InRange (count : ℕ) (l : Label) : Type 0 where
  pub from_first : first_label ≤ l
  pub below_count : l < first_label + count

-- "every gate record is `P` or `N` with a primitive up to 1,023 and labels below the label count, gate 0's own label is 0"
-- (scope 5.3)
pub record GateFits (table : List ℕ) (k : ℕ) : Type 0 where
  pub kind : ((gate_of table k).kind ≡ P) ⊎ ((gate_of table k).kind ≡ N)
  pub primitive : (gate_of table k).primitive ≤ greatest_primitive
  pub own : InRange (header_of table).labels (gate_of table k).own
  pub on_true : InRange (header_of table).labels (gate_of table k).on_true
  pub on_false : InRange (header_of table).labels (gate_of table k).on_false
  pub first_gate : k ≡ 0 → (gate_of table k).own ≡ first_label

-- "the last record is `E` with two different labels below the count"; n is the number of gates (scope 5.3)
pub record EndFits (table : List ℕ) (n : ℕ) : Type 0 where
  pub kind : (end_of table n).kind ≡ E
  pub on_true : InRange (header_of table).labels (end_of table n).on_true
  pub on_false : InRange (header_of table).labels (end_of table n).on_false
  pub different : (end_of table n).on_true ≢ (end_of table n).on_false

pub record WellFormed (table : List ℕ) : Type 0 where
  pub header : HeaderFits table
  pub long : LengthFits table
  pub gates : (k : ℕ) → k < (header_of table).gates → GateFits table k
  pub end : EndFits table (header_of table).gates

-- "Header and length faults have place 0; the length is tested after the header." (scope 5.3)
pub data FrameFault (table : List ℕ) : ℕ → Type 0 where
  of_header : ¬ HeaderFits table → FrameFault table 0
  of_length : HeaderFits table → ¬ LengthFits table → FrameFault table 0

-- a gate's record at fault
pub record GateFault (table : List ℕ) (k : ℕ) : Type 0 where
  pub within : k < (header_of table).gates
  pub fault : ¬ GateFits table k

-- header and length are right
pub record Framed (table : List ℕ) : Type 0 where
  pub header : HeaderFits table
  pub long : LengthFits table

-- 9: "not a well-formed table"; "start of the first record at fault" (scope 7.1)
pub data Fault (table : List ℕ) : ℕ → Type 0 where
  of_frame : {at : ℕ} → FrameFault table at → Fault table at
  of_gate : {k : ℕ} → Framed table → First (GateFault table) k → Fault table (record_start (header_of table) k)
  of_end : Framed table → ((k : ℕ) → k < (header_of table).gates → GateFits table k) → ¬ EndFits table (header_of table).gates
      → Fault table (record_start (header_of table) (header_of table).gates)
