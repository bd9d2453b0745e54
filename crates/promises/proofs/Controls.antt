-- The definitions in which the slips are choices are, with the right choice, the right ones: so a slip differs for its own reason.
-- Assumes nothing.
use Prim.Native.Nat.{ℕ, zero, suc, ◌+◌, ◌≤◌, ◌<◌}
use mathlib.Core.Path.{◌≡◌, refl, sym, ap, ap₂, ◌∙◌}
use mathlib.Core.Bool.{Bool, true, false}
use mathlib.Core.Option.{some}
use mathlib.Core.List.{List, [], ◌∷◌, ◌++◌, map, map-append}
use native.Mathlib.Omega.{arith}
use lib.ListN.{length, get_or}
use Rattle.terms.specs.Terms.{Primitive, greatest_primitive, most_literals}
use Rattle.terms.specs.Answer.{on_result}
use Rattle.formula.specs.Formula.{Literal, Kind, Expr, literal, join, literals}
use Rattle.formula.specs.Typed.{Typed, number, numbers, positive}
use Rattle.formula.specs.Marks.{placed}
use Rattle.formula.proofs.Small.{SmallPrimitives, one, both}
use Rattle.grammar.specs.Twins.Reader.{level, read}
use Rattle.turning.specs.Tags.{priced, price}
use Rattle.turning.specs.Turning.{exchanges, marks, turned}
use Rattle.turning.proofs.Turned.{turned_literal, turned_join}
use Rattle.weaving.specs.Gates.{Gate, in_order}
use Rattle.weaving.specs.Labels.{Store, step, stored, weave}
use Rattle.weaving.proofs.Places.{length-in_order}
use Rattle.table.specs.Layout.{gate_of}
use Rattle.compiler.specs.Compiled.{table_of}
use Rattle.compiler.specs.Twins.Compiling.{compiled}
use Rattle.compiler.proofs.Bytes.{no_record}
use Rattle.run.specs.Run.{Run}
use Rattle.run.specs.Whole.{fed_all, whole_run}
use Rattle.run.specs.Twins.Answers.{started, fed, answered}
use Rattle.promises.specs.Words.{arrangement, typed_numbers, occurrence_at, Asks}
use Rattle.promises.specs.Examples.Binding.{read_by, compiled_by}
use Rattle.promises.specs.Examples.Counting.{fed_by, run_by}
use Rattle.promises.specs.Examples.Slips.{turned_by, as_priced, stored_by, every, kept_by, renamed, renamed_table}
use Rattle.promises.proofs.Laws.Computing.{computing}
use Rattle.promises.proofs.Laws.Levels.{read_by_level}
use Rattle.promises.proofs.Laws.Binding.{compiled_read}
use Rattle.promises.proofs.Laws.Accepted.{literals_arrangement}
use Rattle.promises.proofs.Laws.Asked.{literal_at, literal_primitive, gate_primitive}

get_or_map_below : {A : Type 0} (f : A → A) (xs : List A) (k : ℕ) (d : A) → k < length xs → get_or (map f xs) k d ≡ f (get_or xs k d)
get_or_map_below f [] k d h = absurd (omega arith)
get_or_map_below f (x ∷ xs) zero d h = refl
get_or_map_below f (x ∷ xs) (suc k) d h = get_or_map_below f xs k d (omega arith)

pub turned_as_priced : (e : Expr) → turned_by as_priced e ≡ turned e
unfolding turned_by
turned_as_priced (literal x) = sym (turned_literal x)
turned_as_priced (join k l r) = rw (turned_as_priced l, turned_as_priced r) (sym (turned_join k l r))

pub stored_by_step : (gs : List Gate) (s : Store) → stored_by step gs s ≡ stored gs s
unfolding stored_by stored
stored_by_step [] s = refl
stored_by_step (g ∷ gs) s = stored_by_step gs (step g s)

pub every_kept : (before : List Literal) (e : Expr) → kept_by every before e ≡ some e
unfolding kept_by
every_kept before (literal x) = refl
every_kept before (join k l r) = rw (every_kept before l, every_kept (before ++ in_order l) r)

pub renamed_as_named : (e : Expr) → renamed (λ p. p) e ≡ e
unfolding renamed
renamed_as_named (literal x) = refl
renamed_as_named (join k l r) = ap₂ (join k) (renamed_as_named l) (renamed_as_named r)

pub read_as_levelled : (text : List ℕ) → read_by level text ≡ read text
read_as_levelled = read_by_level

pub compiled_as_levelled : (text : List ℕ) (room : ℕ) → compiled_by level text room ≡ compiled text room
compiled_as_levelled text room = compiled_read level text room (read_by_level text)

fed_by_fed : (r : Run) (table : List ℕ) (us : List Bool) → fed_by fed r table us ≡ fed_all r table us
unfolding fed_by fed_all
fed_by_fed r table [] = refl
fed_by_fed r table (u ∷ us) = ap (on_result (fed r table u)) (λ i next. fed_by_fed next table us i)

pub run_by_fed : (table : List ℕ) (us : List Bool) → run_by fed table us ≡ whole_run table us
unfolding run_by whole_run
run_by_fed table us = ap (on_result (started table)) (λ i r. on_result (fed_by_fed r table us i) (λ last. answered last table))

-- A renamed primitive is seen: if the table with renamed primitives still asks for what was typed, every number typed kept its name.
module _ (name : Primitive → Primitive) (small : (p : Primitive) → name p ≤ greatest_primitive) where
  small_renamed : (e : Expr) → SmallPrimitives (renamed name e)
  unfolding renamed
  small_renamed (literal x) = one (small x.primitive)
  small_renamed (join k l r) = both (small_renamed l) (small_renamed r)

  renamed_placed : (m : Bool) (k : Kind) (l r : Expr) → renamed name (placed m k l r) ≡ placed m k (renamed name l) (renamed name r)
  unfolding renamed
  renamed_placed true k l r = refl
  renamed_placed false k l r = refl

  price_renamed : (e : Expr) → price (renamed name e) ≡ price e
  unfolding renamed price
  price_renamed (literal x) = refl
  price_renamed (join k l r) = ap₂ (priced k) (price_renamed l) (price_renamed r)

  literals_renamed : (e : Expr) → literals (renamed name e) ≡ literals e
  unfolding renamed literals
  literals_renamed (literal x) = refl
  literals_renamed (join k l r) = ap₂ ◌+◌ (literals_renamed l) (literals_renamed r)

  turned_renamed : (e : Expr) → turned (renamed name e) ≡ renamed name (turned e)
  unfolding renamed
  turned_renamed (literal x) = turned_literal _ ∙ ap (renamed name) (sym (turned_literal x))
  turned_renamed (join k l r) =
      turned_join k (renamed name l) (renamed name r)
      ∙ rw (turned_renamed l, turned_renamed r, price_renamed (turned l), price_renamed (turned r))
      (sym (renamed_placed (exchanges k (price (turned l)) (price (turned r))) k (turned l) (turned r)))
      ∙ ap (renamed name) (sym (turned_join k l r))

  abbrev renamed_literal : Literal → Literal
  renamed_literal x = record { primitive = name x.primitive; sense = x.sense; occurrence = x.occurrence }

  in_order_renamed : (e : Expr) → in_order (renamed name e) ≡ map renamed_literal (in_order e)
  unfolding renamed in_order
  in_order_renamed (literal x) = refl
  in_order_renamed (join k l r) =
      ap₂ ◌++◌ (in_order_renamed l) (in_order_renamed r) ∙ sym (map-append renamed_literal (in_order l) (in_order r))

  literal_renamed : (e : Expr) (k : ℕ) → k < literals e → (literal_at (renamed name e) k).primitive ≡ name (literal_at e k).primitive
  literal_renamed e k h =
      ap (λ (x : Literal). x.primitive)
      (ap (λ (xs : List Literal). get_or xs k no_record.literal) (in_order_renamed e)
      ∙ get_or_map_below renamed_literal (in_order e) k no_record.literal (rw (length-in_order e) h))

  pub renaming_is_seen : (e : Typed) → numbers e ≤ most_literals → Asks (renamed_table name e) e → (k : ℕ) → k < numbers e
      → name (get_or (typed_numbers e) (occurrence_at e k) 0) ≡ get_or (typed_numbers e) (occurrence_at e k) 0
  unfolding turned
  renaming_is_seen e few asks k h =
      let there : k < literals (arrangement e) = rw (literals_arrangement e) h in
      let here : k < literals (renamed name (arrangement e)) = rw (literals_renamed (arrangement e)) there in
      let fits : literals (renamed name (arrangement e)) ≤ most_literals = rw (literals_renamed (arrangement e), literals_arrangement e) few in
      let said = gate_primitive (renamed name (arrangement e)) (small_renamed (arrangement e)) fits k here in
      ap name (sym (literal_primitive e (marks (positive 0 e)) k there))
      ∙ sym (literal_renamed (arrangement e) k there)
      ∙ sym said
      ∙ ap (λ (x : Expr). (gate_of (table_of (weave x)) k).primitive) (sym (turned_renamed (positive 0 e)))
      ∙ asks.primitive k h

-- so a compiler for which every literal has primitive 0 does not keep demand 2
pub not_all_nought : ¬ Asks (renamed_table (λ p. 0) (number 5)) (number 5)
unfolding computing typed_numbers
not_all_nought asks =
    let same : ◌≡◌ {A = ℕ} 0 5 = renaming_is_seen (λ p. 0) (λ p. omega arith) (number 5) (omega arith) asks 0 (omega arith) in
    omega arith
