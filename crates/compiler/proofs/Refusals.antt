-- Compiling refuses by the first row that holds, at its place, and else answers the table: reading decides rows 1 to 6, and two
-- tests on numbers decide rows 7 and 8. Assumes nothing.
use Prim.Native.Nat.{ℕ, ◌≤◌, ◌<◌}
use mathlib.Core.Path.{◌≡◌, refl, sym, ap, ◌∙◌, subst}
use mathlib.Core.Logic.{◌⊎◌, inl, inr, ◌↔◌}
use mathlib.Core.List.{List, []}
use native.Mathlib.Omega.{arith}
use lib.Dec.{ltb}
use borrow.Author.Tests.{ltb-true, lt-ltb}
use Rattle.terms.specs.Terms.{most_labels}
use Rattle.terms.specs.Answer.{Answer, result, refused}
use Rattle.terms.specs.First.{where_so}
use Rattle.terms.specs.Rows.{FirstOf, NoneOf}
use Rattle.terms.proofs.Rows.{Decides, where_so_decides, Says, refuses, refuse_says, result_says, on_result_says, OnePlace, one_place_behind, none_parts, none_first, first_parts, EachNumber, first_number, refused_by_first, result_by_none}
use Rattle.formula.specs.Formula.{literals}
use Rattle.formula.specs.Typed.{Typed, positive}
use Rattle.grammar.specs.Grammar.{Derives}
use Rattle.grammar.specs.Rows.{text_rows}
use Rattle.grammar.proofs.Complete.{derives_unique}
use Rattle.grammar.proofs.Refusals.{reading_says, text_rows_one_place, text_rows_numbered}
use Rattle.turning.specs.Turning.{marks, turned}
use Rattle.weaving.specs.Labels.{weave}
use Rattle.table.specs.Layout.{table_length}
use Rattle.compiler.specs.Compiled.{table_of}
use Rattle.compiler.specs.Twins.Compiling.{finished, compiled}
use Rattle.compiler.specs.Rows.{TooManyLabels, TooLittleRoom, table_rows, compile_rows, TableMeant}

-- how long the table of e is, and how many labels it needs
abbrev length_for : Typed → ℕ
length_for e = table_length (literals (positive 0 e))

abbrev labels_for : Typed → ℕ
labels_for e = (weave (turned (positive 0 e))).label_count

-- rows 7 and 8 over a text that derives e
module _ {text : List ℕ} {e : Typed} (derives : Derives text e) where
  too_many_labels_decides : Decides (TooManyLabels text) (where_so (ltb most_labels (labels_for e)) 0)
  too_many_labels_decides =
      where_so_decides (ltb most_labels (labels_for e)) 0
      (λ is. record { meaning = e; derives = derives; many = ltb-true most_labels (labels_for e) is; place = refl })
      λ p row.
      (lt-ltb most_labels (labels_for e) (subst (λ x. most_labels < labels_for x) (derives_unique row.derives derives) row.many), row.place)

  too_little_room_decides : (room : ℕ) → Decides (TooLittleRoom text room) (where_so (ltb room (length_for e)) (length_for e))
  too_little_room_decides room =
      where_so_decides (ltb room (length_for e)) (length_for e)
      (λ is. record { meaning = e; derives = derives; place = refl; little = ltb-true room (length_for e) is })
      λ p row.
      let place : p ≡ length_for e = row.place ∙ ap length_for (derives_unique row.derives derives) in
      (lt-ltb room (length_for e) (omega (arith, row.little)), place)

  finished_says : (room : ℕ) → Says (table_rows text room) (TableMeant text) (finished (positive 0 e) (marks (positive 0 e)) room)
  unfolding finished turned
  finished_says room =
      refuse_says 7 (TooManyLabels text) _ _ _ too_many_labels_decides λ _.
      refuse_says 8 (TooLittleRoom text room) [] _ _ (too_little_room_decides room) λ _.
      result_says (record { meaning = e; derives = derives; table_is = refl })

pub compiled_says : (text : List ℕ) (room : ℕ) → Says (compile_rows text room) (TableMeant text) (compiled text room)
unfolding compiled
compiled_says text room =
    on_result_says (text_rows text) (table_rows text room) (λ form. finished form (marks form) room) (reading_says text)
    λ form meant. rw meant.form_is (finished_says meant.derives room)

pub compile_rows_one_place : (text : List ℕ) (room : ℕ) → OnePlace (compile_rows text room)
unfolding OnePlace
compile_rows_one_place text room =
    one_place_behind (text_rows text) (table_rows text room) (text_rows_one_place text) (
      λ p q a b. a.place ∙ sym b.place,
      (λ p q a b. a.place ∙ ap length_for (derives_unique a.derives b.derives) ∙ sym b.place, tt),
    )

pub table_meant_unique : {text : List ℕ} (s t : List ℕ) → TableMeant text s → TableMeant text t → s ≡ t
table_meant_unique s t a b =
    a.table_is ∙ ap (λ e. table_of (weave (turned (positive 0 e)))) (derives_unique a.derives b.derives) ∙ sym b.table_is

pub compiled_refused_by : (text : List ℕ) (room r at : ℕ) → (compiled text room ≡ refused r at) ↔ FirstOf (compile_rows text room) r at
compiled_refused_by text room = refused_by_first (compile_rows_one_place text room) (compiled_says text room)

pub compiled_result_by : (text : List ℕ) (room : ℕ) (table : List ℕ) → (compiled text room ≡ result table) ↔ (NoneOf (compile_rows text room) × TableMeant text table)
compiled_result_by text room = result_by_none table_meant_unique (compiled_says text room)

-- where no row holds, a table is answered
pub answered_whenever : (text : List ℕ) (room : ℕ) → NoneOf (compile_rows text room) → (table : List ℕ) × (compiled text room ≡ result table)
answered_whenever text room clear = go (compiled text room) refl (compiled_says text room)
  where
    go : (a : Answer (List ℕ)) → compiled text room ≡ a → Says (compile_rows text room) (TableMeant text) a → (table : List ℕ) × (compiled text room ≡ result table)
    go (result table) is says = (table, is)
    go (refused r p) is (refuses first) = absurd (none_first (compile_rows text room) r p clear first)

-- the rows of the text among them, and row 7 behind them
pub none_of_text : (text : List ℕ) (room : ℕ) → NoneOf (compile_rows text room) → NoneOf (text_rows text)
none_of_text text room clear = (none_parts (text_rows text) (table_rows text room) clear).0

row_7_of_two : (text : List ℕ) (room at : ℕ) → FirstOf (table_rows text room) 7 at → TooManyLabels text at
unfolding FirstOf
row_7_of_two text room at (inl here) = here.1
row_7_of_two text room at (inr (nowhere, inl wrong)) = absurd (omega (arith, wrong.0))
row_7_of_two text room at (inr (nowhere, inr none)) = absurd none.1

pub row_7_first : (text : List ℕ) (room at : ℕ) → FirstOf (compile_rows text room) 7 at → NoneOf (text_rows text) × TooManyLabels text at
row_7_first text room at first = by_part (first_parts (text_rows text) (table_rows text room) 7 at first)
  where
    by_part : FirstOf (text_rows text) 7 at ⊎ (NoneOf (text_rows text) × FirstOf (table_rows text room) 7 at) → NoneOf (text_rows text) × TooManyLabels text at
    by_part (inl early) = absurd (omega (arith, (text_rows_numbered text 7 at early).1))
    by_part (inr late) = (late.0, row_7_of_two text room at late.1)

pub compile_rows_numbered : (text : List ℕ) (room r at : ℕ) → FirstOf (compile_rows text room) r at → 1 ≤ r
unfolding EachNumber
compile_rows_numbered text room r at =
    first_number (λ q. 1 ≤ q) (compile_rows text room)
    (omega arith, (omega arith, (omega arith, (omega arith, (omega arith, (omega arith, (omega arith, (omega arith, tt)))))))) r at
