-- A text for which a table is answered has a meaning: the table is answered where the reader has read the whole text. So a right answer
-- of compile with a table in the buffer is an accepted text's. Assumes nothing.
use Prim.Native.Nat.{ℕ, ◌+◌, ◌*◌}
use mathlib.Core.Path.{◌≡◌, refl, ◌∙◌}
use mathlib.Core.Logic.{◌↔◌}
use mathlib.Core.List.{List, ◌++◌}
use native.Mathlib.Omega.{arith}
use lib.ListN.{length, take, drop}
use lib.Seq.{take-append_seam}
use Rattle.std.specs.Prelude.{Ok}
use Rattle.terms.specs.Answer.{Answer, result, refused}
use Rattle.terms.specs.Rows.{NoneOf}
use Rattle.formula.specs.Typed.{Typed, numbers}
use Rattle.compiler.specs.Compiled.{written}
use Rattle.compiler.specs.Twins.Compiling.{compiled}
use Rattle.compiler.specs.Rows.{compile_rows}
use Rattle.compiler.specs.Shown.{length_of, CompiledRight}
use Rattle.compiler.proofs.Refusals.{compiled_result_by, answered_whenever}
use Rattle.promises.specs.Words.{Accepted}
use Rattle.promises.proofs.Laws.Said.{long}

pub has_meaning : {text table : List ℕ} {room : ℕ} → compiled text room ≡ result table → (e : Typed) × Accepted text room e table
has_meaning {text} {table} {room} is =
    let meant = ((compiled_result_by text room table).0 is).1 in
    (meant.meaning, record { answers = is; means = meant.derives })

-- a table is answered exactly where no row holds
pub some_table : (text : List ℕ) (room : ℕ) → ((table : List ℕ) × (compiled text room ≡ result table)) ↔ NoneOf (compile_rows text room)
some_table text room = (λ some. ((compiled_result_by text room some.0).0 some.1).0, answered_whenever text room)

pub some_accepted : (text : List ℕ) (room : ℕ) → ((table : List ℕ) × (e : Typed) × Accepted text room e table) ↔ NoneOf (compile_rows text room)
some_accepted text room = (
  λ some. (some_table text room).0 (some.0, some.2.answers),
  λ clear.
      let (table, is) = answered_whenever text room clear in
      let (e, accepted) = has_meaning is in
      (table, e, accepted),
)

-- the table stands at the front of the buffer, and what stood behind it still does
record Fronted (text before after : List ℕ) (n : ℕ) : Type 0 where
  answers : compiled text (length before) ≡ result (take n after)
  long : n ≡ length (take n after)
  behind : after ≡ take n after ++ drop n before

fronted_by : (text before after : List ℕ) (n : ℕ) (a : Answer (List ℕ)) → compiled text (length before) ≡ a → result n ≡ length_of a → after ≡ written a before
    → Fronted text before after n
fronted_by text before after n (result table) is answer buffer =
    let long : n ≡ length table = cc in
    let front : take n after ≡ table = rw (buffer, long) (take-append_seam table (drop (length table) before)) in
    record { answers = rw front is; long = rw front long; behind = rw (front, long) buffer }
fronted_by text before after n (refused r p) is answer buffer = let z : ◌≡◌ {A = ℕ} 0 1 = cc in absurd (omega arith)

module _ {text before after : List ℕ} {n : ℕ} (right : CompiledRight text before after (Ok n)) where
  fronted : Fronted text before after n
  fronted = fronted_by text before after n (compiled text (length before)) refl right.answer right.buffer

  pub right_is_accepted : (e : Typed) × Accepted text (length before) e (take n after)
  right_is_accepted = has_meaning fronted.answers

  pub table_in_front : (e : Typed) × Accepted text (length before) e (take n after) × (n ≡ 6 * numbers e + 7) × (after ≡ take n after ++ drop n before)
  table_in_front =
      let (e, accepted) = right_is_accepted in
      (e, accepted, fronted.long ∙ long accepted, fronted.behind)
