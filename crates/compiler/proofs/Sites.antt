-- What the parts of compile ask of each other: an expression of n literals held in slots has room in them. Assumes nothing.
use Prim.Native.Nat.{ℕ, ◌≤◌, ◌<◌}
use mathlib.Core.Path.{◌≡◌, sym, ap, ◌∙◌, subst}
use mathlib.Core.Bool.{Bool, true, false}
use mathlib.Core.List.{List, ◌++◌, map}
use native.Mathlib.Nat.{le_refl}
use native.Mathlib.Omega.{arith}
use lib.Dec.{ltb}
use lib.ListN.{length, drop, length-append, length-drop, length-map}
use borrow.Author.Tests.{lt-ltb, le-ltb}
use Rattle.terms.specs.Terms.{most_literals, most_labels}
use Rattle.formula.specs.Formula.{Expr, literals}
use Rattle.formula.specs.Marks.{arranged}
use Rattle.formula.specs.Code.Held.{Holds}
use Rattle.formula.specs.Code.Marked.{Marked}
use Rattle.formula.proofs.Marks.{literals_some, literals_arranged}
use Rattle.turning.specs.Tags.{Tag, greatest}
use Rattle.turning.specs.Code.Coded as turning
use Rattle.weaving.specs.Gates.{gates}
use Rattle.weaving.specs.Labels.{weave}
use Rattle.weaving.specs.Code.Laid.{SameLiterals, Laid, LaidOut, Layable}
use Rattle.weaving.specs.Code.Labelled.{Labelable, Labelled, Labelling}
use Rattle.terms.specs.declared.Ends.{Ends}
use Rattle.terms.specs.declared.LaidGate.{LaidGate}
use Rattle.terms.specs.Laid.{primitives_of, senses_of, true_places_of, false_places_of, owns_of, on_trues_of, on_falses_of}
use Rattle.table.specs.Layout.{table_length}
use Rattle.table.specs.Code.Written.{table_bytes}
use Rattle.std.specs.Prelude.{Ok, Err}
use Rattle.terms.specs.declared.Reason.TheVariants.{TooManyLabels, TooLittleRoom}
use Rattle.compiler.specs.Compiled.{table_of}
use Rattle.compiler.specs.Twins.Compiling.{finished}
use Rattle.compiler.specs.Code.Finished.{root_of, HeldTree, Marking, Planned, Weavable, WovenInto, FinishedBy}
use Rattle.widths.proofs.LabelCount.{label_count_greatest}
use Rattle.compiler.proofs.Bytes.{table_of-length}
use Rattle.weaving.proofs.Range.{length-gate_records}
use Rattle.compiler.proofs.Weaving.{labelable, table_woven}

pub tree_some : {ks ss : List ℕ} {n : ℕ} → HeldTree ks ss n → (1 ≤ n) × (n ≤ 1024)
tree_some s = (omega (arith, s.count, literals_some s.tree), s.few)

-- turning and pricing find their expression at the root
pub turn_site : {ks ss : List ℕ} {n i : ℕ} → HeldTree ks ss n → i ≡ root_of n → turning.Site ks ss i
turn_site {ks} {ss} {n = n} {i = i} s is =
    let small = tree_some s in
    record { held = record { tree = s.tree; holds = rw is s.holds }; low = omega arith }

pub turned_planned : {ks ss bs bs' : List ℕ} {n i : ℕ} {t : Tag} → i ≡ root_of n → turning.Turned ks ss bs bs' i t → Planned ks ss bs' n
turned_planned {ks} {ss} {bs' = bs'} is turned = record { each = λ e h. rw (sym is) (turned.each e (rw is h)).marked }

-- the table of an arranged expression is as long as its literals say
long_woven : (e : Expr) (ms : List Bool) (n : ℕ) → literals e ≡ n → length (table_of (weave (arranged ms e))) ≡ table_length n
long_woven e ms n count =
    table_of-length (weave (arranged ms e)) ∙ ap (λ (k : ℕ). table_length k) (length-gate_records (arranged ms e) ∙ literals_arranged ms e ∙ count)

-- laying out finds its expression and its marks
pub layable : {ks ss bs : List ℕ} {n : ℕ} → Marking ks ss bs n → Layable ks ss bs n
layable m =
    record {
      tree = m.held.tree;
      row = m.row;
      holds = m.held.holds;
      marked = m.marked;
      count = m.held.count;
      few = m.held.few;
    }

-- the lists laid out are those of the arranged expression
module _ {ks ss bs ps qs ts fs ps' qs' ts' fs' : List ℕ} {n : ℕ} (laid : LaidOut ks ss bs n ps qs ts fs ps' qs' ts' fs')
    (few : n ≤ most_literals) (room_ts : n ≤ length ts') (room_fs : n ≤ length fs') where
  module _ (e : Expr) (ms : List Bool) (holds : Holds ks ss (root_of n) e) (marked : Marked bs (root_of n) e ms) (count : literals e ≡ n) where
    laid_arranged : Laid ps qs ts fs ps' qs' ts' fs' (gates (arranged ms e))
    laid_arranged = laid.each e ms holds marked count

    arranged_count : literals (arranged ms e) ≡ n
    arranged_count = literals_arranged ms e ∙ count

    labels_asked : (weave (arranged ms e)).label_count ≤ most_labels → Labelable ts' fs' n (arranged ms e)
    labels_asked = labelable (arranged ms e) n arranged_count ps qs ts fs ps' qs' ts' fs' laid_arranged (omega arith) (omega arith)

  module _ {labels : ℕ} {out : List ℕ} (r : Weavable ks ss bs n labels out) where
    labelable_ready : Labelable ts' fs' n (arranged r.marking.row r.marking.held.tree)
    labelable_ready =
        labels_asked r.marking.held.tree r.marking.row r.marking.held.holds r.marking.marked r.marking.held.count
        (omega (arith, r.needs, r.few_labels))

    pub label_ready : {os us vs : List ℕ} → n ≤ length os → n ≤ length us → n ≤ length vs → Labelling ts' fs' n os us vs
    label_ready room_os room_us room_vs =
        record {
          tree = arranged r.marking.row r.marking.held.tree;
          labelable = labelable_ready;
          few = few;
          trues_long = omega arith;
          falses_long = omega arith;
          owns_long = omega arith;
          on_trues_long = omega arith;
          on_falses_long = omega arith;
        }

  -- what labelling and writing then give
  module _ {os us vs os' us' vs' : List ℕ} {ends : Ends} (labelled : Labelled ts' fs' n os us vs os' us' vs' ends) (room_ps : n ≤ length ps')
      (room_qs : n ≤ length qs') (room_os : n ≤ length os') (room_us : n ≤ length us') (room_vs : n ≤ length vs') where
    woven_arranged : (e : Expr) (ms : List Bool) → Holds ks ss (root_of n) e → Marked bs (root_of n) e ms → literals e ≡ n → (labels : ℕ)
        → labels ≤ most_labels → (weave (arranged ms e)).label_count ≡ labels
        → table_bytes n labels ps' qs' os' us' vs' ends.on_true.0 ends.on_false.0 ≡ table_of (weave (arranged ms e))
    woven_arranged e ms holds marked count labels low needs =
        table_woven (arranged ms e) n (arranged_count e ms holds marked count) ps qs ts fs ps' qs' ts' fs' (laid_arranged e ms holds marked count)
        os us vs os' us' vs' (omega arith) (omega arith) (omega arith) (omega arith) (omega arith) ends
        (labelled.each (arranged ms e) (labels_asked e ms holds marked count (omega arith))) labels needs

    pub woven_into : {out out' : List ℕ} {labels : ℕ} → labels ≤ most_labels
        → out' ≡ table_bytes n labels ps' qs' os' us' vs' ends.on_true.0 ends.on_false.0 ++ drop (table_length n) out
        → WovenInto ks ss bs n labels out out'
    woven_into {out} {labels = labels} low is_written =
        record {
          each = λ e ms holds marked count needs.
              is_written
              ∙ ap (λ (l : List ℕ). l ++ drop (table_length n) out) (woven_arranged e ms holds marked count labels low needs);
        }

row_long : (xs : List LaidGate) {n : ℕ} (f : LaidGate → ℕ) → length xs ≡ n → n ≤ length (map f xs)
row_long xs {n} f e = rw (length-map xs f, e) (le_refl n)

-- and so of the gates that carry them
module _ {ks ss bs ps qs ts fs out : List ℕ} {m n labels : ℕ} (gates : List LaidGate) (as_many : m ≡ n) (long : length gates ≡ n)
    (laid : LaidOut ks ss bs m ps qs ts fs (primitives_of gates) (senses_of gates) (true_places_of gates) (false_places_of gates))
    (r : Weavable ks ss bs n labels out) where
  by_n : LaidOut ks ss bs n ps qs ts fs (primitives_of gates) (senses_of gates) (true_places_of gates) (false_places_of gates)
  by_n = rw as_many at laid

  pub gates_ready : Labelling (true_places_of gates) (false_places_of gates) (length gates) (owns_of gates) (on_trues_of gates) (on_falses_of gates)
  gates_ready =
      rw long
      (label_ready by_n r.marking.held.few (row_long gates _ long) (row_long gates _ long) r (row_long gates _ long) (row_long gates _ long) (row_long gates _ long))

  pub gates_woven : {gates' : List LaidGate} {out' : List ℕ} {ends : Ends} → length gates' ≡ n → SameLiterals gates gates'
      → Labelled (true_places_of gates) (false_places_of gates) (length gates) (owns_of gates) (on_trues_of gates) (on_falses_of gates) (owns_of gates')
      (on_trues_of gates') (on_falses_of gates') ends
      → out' ≡ table_bytes (length gates') labels (primitives_of gates') (senses_of gates') (owns_of gates') (on_trues_of gates') (on_falses_of gates')
      ends.on_true.0 ends.on_false.0
      ++ drop (table_length (length gates')) out
      → WovenInto ks ss bs n labels out out'
  gates_woven {gates'} long' same labelled is_written =
      woven_into by_n r.marking.held.few (row_long gates _ long) (row_long gates _ long) (rw long at labelled) (row_long gates _ long) (row_long gates _ long) (row_long gates' _ long')
      (row_long gates' _ long') (row_long gates' _ long') r.few_labels
      (rw (long', same.primitives, same.senses) at is_written)

-- the buffer stays as long as it was
pub same_long : {ks ss bs out out' : List ℕ} {n labels : ℕ} → Weavable ks ss bs n labels out → WovenInto ks ss bs n labels out out'
    → length out' ≡ length out
same_long {out = out} {n = n} r woven =
    let e = r.marking.held.tree in
    let ms = r.marking.row in
    ap length (woven.each e ms r.marking.held.holds r.marking.marked r.marking.held.count r.needs)
    ∙ length-append (table_of (weave (arranged ms e))) (drop (table_length n) out)
    ∙ rw (long_woven e ms n r.marking.held.count, length-drop (table_length n) out) (omega (arith, r.room))

-- pricing by the marks finds them
pub price_site : {ks ss bs : List ℕ} {n i : ℕ} → Marking ks ss bs n → i ≡ root_of n → turning.MarkedSite ks ss bs i
unfolding turn_site
price_site {bs = bs} m is =
    record { site = turn_site m.held is; row = m.row; marked = subst (λ (j : ℕ). Marked bs j m.held.tree m.row) (sym is) m.marked }

-- the labels that the greatest cost counts
pub labels_needed : {ks ss bs : List ℕ} (n : ℕ) {i : ℕ} {t : Tag} (labels : ℕ) → i ≡ root_of n → turning.PricedBy ks ss bs i t → labels ≡ greatest t
    → (e : Expr) (ms : List Bool) → Holds ks ss (root_of n) e → Marked bs (root_of n) e ms → (weave (arranged ms e)).label_count ≡ labels
labels_needed n labels is priced same e ms holds marked =
    label_count_greatest (arranged ms e) ∙ ap greatest (sym (priced.each e ms (rw is holds) (rw is marked))) ∙ sym same

pub weave_room : {ks ss bs out : List ℕ} {n labels : ℕ} (m : Marking ks ss bs n)
    → ((e : Expr) (ms : List Bool) → Holds ks ss (root_of n) e → Marked bs (root_of n) e ms → (weave (arranged ms e)).label_count ≡ labels)
    → labels ≤ most_labels → table_length n ≤ length out → Weavable ks ss bs n labels out
weave_room m needs low room =
    record { marking = m; needs = needs m.held.tree m.row m.held.holds m.marked; few_labels = low; room = room }

-- the three ways in which finishing ends
module _ {ks ss bs before : List ℕ} {n labels : ℕ}
    (needs : (e : Expr) (ms : List Bool) → Holds ks ss (root_of n) e → Marked bs (root_of n) e ms → (weave (arranged ms e)).label_count ≡ labels) where
  pub finished_7 : most_labels < labels → FinishedBy ks ss bs n before before (Err (record { reason = TooManyLabels; at = 0 }))
  unfolding finished
  finished_7 many =
      record {
        each = λ e ms holds marked count.
            let over : ltb most_labels (weave (arranged ms e)).label_count ≡ true = rw (needs e ms holds marked) (lt-ltb most_labels labels many) in
            record { answer = rw over; buffer = rw over };
      }

  pub finished_8 : (at : ℕ) → at ≡ table_length n → labels ≤ most_labels → length before < at
      → FinishedBy ks ss bs n before before (Err (record { reason = TooLittleRoom; at = at }))
  unfolding finished
  finished_8 at is low little =
      record {
        each = λ e ms holds marked count.
            let under : ltb most_labels (weave (arranged ms e)).label_count ≡ false = rw (needs e ms holds marked) (le-ltb most_labels labels low) in
            let place : table_length (literals e) ≡ at = ap (λ (k : ℕ). table_length k) count ∙ sym is in
            let short : ltb (length before) at ≡ true = lt-ltb (length before) at little in
            record { answer = rw (under, place, short); buffer = rw (under, place, short) };
      }

  pub finished_table : {after : List ℕ} (long : ℕ) → long ≡ table_length n → labels ≤ most_labels → long ≤ length before
      → WovenInto ks ss bs n labels before after → FinishedBy ks ss bs n before after (Ok long)
  unfolding finished
  finished_table long is low room woven =
      record {
        each = λ e ms holds marked count.
            let under : ltb most_labels (weave (arranged ms e)).label_count ≡ false = rw (needs e ms holds marked) (le-ltb most_labels labels low) in
            let place : table_length (literals e) ≡ long = ap (λ (k : ℕ). table_length k) count ∙ sym is in
            let enough : ltb (length before) long ≡ false = le-ltb (length before) long room in
            let as_long : length (table_of (weave (arranged ms e))) ≡ long = long_woven e ms n count ∙ sym is in
            record {
              answer = rw (under, place, enough, as_long);
              buffer =
                  rw (under, place, enough, as_long)
                  (woven.each e ms holds marked count (needs e ms holds marked)
                  ∙ ap (λ (k : ℕ). table_of (weave (arranged ms e)) ++ drop k before) (sym is));
            };
      }

  pub woven_long : {after : List ℕ} → Marking ks ss bs n → table_length n ≤ length before → WovenInto ks ss bs n labels before after
      → length after ≡ length before
  woven_long m room woven =
      let e = m.held.tree in
      let ms = m.row in
      ap length (woven.each e ms m.held.holds m.marked m.held.count (needs e ms m.held.holds m.marked))
      ∙ length-append (table_of (weave (arranged ms e))) (drop (table_length n) before)
      ∙ rw (long_woven e ms n m.held.count, length-drop (table_length n) before) (omega arith)
