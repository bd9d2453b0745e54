-- A well-formed table can be listed: it has few gates, and is as long as it says. Assumes nothing.
use Prim.Native.Nat.{ℕ}
use mathlib.Core.List.{List}
use Rattle.table.specs.WellFormed.{WellFormed}
use Rattle.listing.specs.Code.Written.{Listable}

pub well_formed_listable : (table : List ℕ) → WellFormed table → Listable table
well_formed_listable table w = record { few_gates = w.header.few_gates; long = w.long }
