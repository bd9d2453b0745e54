-- Every label that a table names is one that the store handed out, since a gate after the first has a label when it is
-- reached; and every label handed out is named by the gate that asked for it. Assumes nothing.
use Prim.Native.Nat.{ℕ, zero, suc, ◌+◌, ◌<◌, ◌≤◌}
use mathlib.Core.Path.{◌≡◌, refl, ap, ◌∙◌}
use mathlib.Core.Bool.{true, false, ◌||◌, true≢false, or-true}
use mathlib.Core.List.{List, [], ◌∷◌, ◌++◌, append_assoc, append-nil}
use native.Mathlib.Omega.{arith}
use native.Mathlib.Nat.{le_refl, not-le_of_lt, not-suc-le-zero, zero-add}
use lib.Dec.{ltb, eqb}
use lib.ListN.{length, take, get_or}
use borrow.Author.Tests.{ltb-true, ltb-false, ne_eqb, le-leb}
use Rattle.terms.specs.Terms.{Place, Label, first_label, in_range}
use Rattle.formula.specs.Formula.{Expr, literal, join, literals}
use Rattle.weaving.specs.Gates.{Gate, true_end, false_end, gates}
use Rattle.weaving.specs.Twins.Gates.{gates_from}
use Rattle.weaving.specs.Labels.{free, held, Store, has_label, slot_of, label_of, hand_out, labelled, entered_on, left, step, GateRecord, recorded, records, stored, last_store, weave}
use Rattle.weaving.proofs.Named.{names_label, label_named}
use Rattle.weaving.proofs.Store.{on, off, known, eqb_same, has_label_labelled, has_label_true, has_label_false, slot_of_below, slot_of_labelled, stored-append}
use Rattle.weaving.proofs.Places.{literals_some, left_true, left_false, gates_join, gates_told, length-gates, gate_placed}
use Rattle.weaving.proofs.Width.{length-left, length-step, some_gate}
use Rattle.weaving.proofs.Ends.{has_label_right, has_label_true_end, has_label_false_end, ends_differ}

-- each gate after the first has a label when it is reached
pub data Reached : List Gate → Store → Type 0 where
  done : {s : Store} → Reached [] s
  next : {g : Gate} {gs : List Gate} {s : Store} → (0 < g.number → has_label g.number s ≡ true)
      → Reached gs (step g s) → Reached (g ∷ gs) s

reached_from : (e : Expr) (b t f : Place) (s : Store) (gs : List Gate) → (0 < b → has_label b s ≡ true)
    → Reached gs (stored (gates_from e b t f) s) → Reached (gates_from e b t f ++ gs) s
unfolding literals gates_from stored
reached_from (literal x) b t f s gs h rest = next h rest
reached_from (join k l r) b t f s gs h rest =
    let m : Place = b + literals l in
    let xs : List Gate = gates_from l b (left_true k m t) (left_false k m f) in
    rw (gates_join k l r b t f, append_assoc)
    (reached_from l b (left_true k m t) (left_false k m f) s _ h
    (reached_from r m t f (stored xs s) gs (λ x. has_label_right k l b t f s)
    (rw (gates_join k l r b t f, stored-append xs (gates_from r m t f) s) at rest)))

pub all_reached : (e : Expr) → Reached (gates e) []
all_reached e =
    rw (gates_told e, ← append-nil (gates_from e 0 (true_end (literals e)) (false_end (literals e))))
    (reached_from e 0 _ _ [] [] (λ x. absurd (not-suc-le-zero x)) done)

reached_at : {gs : List Gate} {s : Store} → Reached gs s → (k : ℕ) (d : Gate) → k < length gs → 0 < (get_or gs k d).number
    → has_label (get_or gs k d).number (stored (take k gs) s) ≡ true
unfolding stored
reached_at done k d h x = absurd (not-suc-le-zero h)
reached_at (next here rest) zero d h x = here x
reached_at (next here rest) (suc k) d h x = reached_at rest k d (omega arith) x

pub reached : (e : Expr) (k : Place) → 0 < k → k < literals e → has_label k (stored (take k (gates e)) []) ≡ true
reached e k x h =
    let q = gate_placed e k some_gate h in
    rw q.number at (reached_at (all_reached e) k some_gate (rw (length-gates e) h) (omega arith))

-- every label of a record is one that the table has
pub record InTable (count : ℕ) (r : GateRecord) : Type 0 where
  pub own : r.own < first_label + count
  pub on_true : r.on_true < first_label + count
  pub on_false : r.on_false < first_label + count

pub length_stored_grows : (gs : List Gate) (s : Store) → length s ≤ length (stored gs s)
unfolding stored
length_stored_grows [] s = le_refl _
length_stored_grows (g ∷ gs) s = omega (arith, length-step g s, length_stored_grows gs (step g s))

in_table : {gs : List Gate} {s : Store} → Reached gs s → (count k : ℕ) (r : GateRecord) → 1 ≤ count
    → length (stored gs s) ≤ count → k < length gs
    → InTable count (get_or (records gs s) k r)
unfolding records stored
in_table done count k r some fits h = absurd (not-suc-le-zero h)
in_table (next {g = g} {gs = gs} {s = s} here rest) count zero r some fits h =
    let grows = length_stored_grows gs (step g s) in
    record {
      own = entered_below g.number here;
      on_true = omega (arith, slot_of_below g.true_place (step g s) (has_label_true g s));
      on_false = omega (arith, slot_of_below g.false_place (step g s) (has_label_false g s));
    }
  where
    entered_below : (n : Place) → (0 < n → has_label n s ≡ true) → entered_on n s < first_label + count
    entered_below zero here = omega arith
    entered_below (suc n) here = omega (arith, slot_of_below (suc n) s (here (omega arith)), length_stored_grows (g ∷ gs) s)
in_table (next here rest) count (suc k) r some fits h = in_table rest count k r some fits (omega arith)

pub true_in_table : (e : Expr) → (weave e).true_label < first_label + (weave e).label_count
unfolding weave
true_in_table e = omega (arith, slot_of_below (true_end (literals e)) (last_store e) (has_label_true_end e))

pub false_in_table : (e : Expr) → (weave e).false_label < first_label + (weave e).label_count
unfolding weave
false_in_table e = omega (arith, slot_of_below (false_end (literals e)) (last_store e) (has_label_false_end e))

pub two_labels : (e : Expr) → 2 ≤ (weave e).label_count
two_labels e = omega (arith, true_in_table e, false_in_table e, ends_differ e)

pub records_in_table : (e : Expr) (k : ℕ) (r : GateRecord) → k < literals e
    → InTable (weave e).label_count (get_or (weave e).gate_records k r)
unfolding weave
records_in_table e k r h =
    in_table (all_reached e) (length (last_store e)) k r (omega (arith, two_labels e)) (le_refl _) (rw (length-gates e) h)

-- the records by index
pub length-records : (gs : List Gate) (s : Store) → length (records gs s) ≡ length gs
unfolding records
length-records [] s = refl
length-records (g ∷ gs) s = ap suc (length-records gs (step g s))

pub records_at : (gs : List Gate) (k : ℕ) (d : Gate) (r : GateRecord) (s : Store) → k < length gs
    → get_or (records gs s) k r ≡ recorded (get_or gs k d) (stored (take k gs) s) (stored (take (suc k) gs) s)
unfolding records stored
records_at [] k d r s h = absurd (not-suc-le-zero h)
records_at (g ∷ gs) zero d r s h = refl
records_at (g ∷ gs) (suc k) d r s h = records_at gs k d r (step g s) (omega arith)

pub length-gate_records : (e : Expr) → length (weave e).gate_records ≡ literals e
unfolding weave
length-gate_records e = length-records (gates e) [] ∙ length-gates e

pub first_own_label : (e : Expr) (r : GateRecord) → (get_or (weave e).gate_records 0 r).own ≡ first_label
unfolding weave stored
first_own_label e r =
    rw (
      records_at (gates e) 0 some_gate r [] (rw (length-gates e) (literals_some e)),
      (gate_placed e 0 some_gate (literals_some e)).number,
    )

-- a slot that is new in the store is that of the place which asked for it
slot_of_handed_out : (p : Place) (s : Store) (l : ℕ) → has_label p s ≡ false → length s ≤ l
    → l < length (hand_out p s) → slot_of p (hand_out p s) ≡ l
unfolding has_label slot_of hand_out
slot_of_handed_out p [] l h old new = rw (eqb_same p) (omega arith)
slot_of_handed_out p (free ∷ s) l h old new = omega arith
slot_of_handed_out p (held q ∷ s) zero h old new = omega arith
slot_of_handed_out p (held q ∷ s) (suc l) h old new =
    elim (known (eqb p q)) [
      | on b ↦ absurd (true≢false (rw b at h))
      | off b ↦ rw b (ap suc (slot_of_handed_out p s l (rw b at h) (omega arith) (omega arith)))
    ]

slot_of_new : (p : Place) (s : Store) (l : ℕ) → length s ≤ l → l < length (labelled p s) → slot_of p (labelled p s) ≡ l
unfolding labelled
slot_of_new p s l old new =
    elim (known (has_label p s)) [
      | on h ↦ let x : l < length s = rw h at new in omega arith
      | off h ↦ rw h (slot_of_handed_out p s l h old (rw h at new))
    ]

names_step : (g : Gate) (s : Store) (l : ℕ) → length s ≤ l → l < length (step g s)
    → (eqb (first_label + l) (label_of g.true_place (step g s)) || eqb (first_label + l) (label_of g.false_place (step g s))) ≡ true
unfolding step
names_step g s l old new =
    let x : Store = left g.number s in
    let y : Store = labelled g.true_place x in
    elim (known (ltb l (length y))) [
      | on b ↦ rw (
        slot_of_labelled g.true_place g.false_place y (has_label_labelled g.true_place g.true_place x ∙ rw (eqb_same g.true_place)),
        slot_of_new g.true_place x l (omega (arith, length-left g.number s)) (ltb-true l (length y) b),
        eqb_same (first_label + l),
      )
      | off b ↦ rw (slot_of_new g.false_place y l (ltb-false l (length y) b) new, eqb_same (first_label + l), or-true)
    ]

names_new : (gs : List Gate) (s : Store) (l : ℕ) → length s ≤ l → l < length (stored gs s)
    → names_label (first_label + l) (records gs s) ≡ true
unfolding names_label records stored
names_new [] s l old new = absurd (not-le_of_lt new old)
names_new (g ∷ gs) s l old new =
    elim (known (ltb l (length (step g s)))) [
      | on b ↦ rw (names_step g s l old (ltb-true l (length (step g s)) b), or-true)
      | off b ↦ rw (names_new gs (step g s) l (ltb-false l (length (step g s)) b) new, or-true)
    ]

-- every label that was handed out is named by a record
pub names_all : (e : Expr) (l : ℕ) → l < (weave e).label_count → names_label (first_label + l) (weave e).gate_records ≡ true
unfolding weave
names_all e l h = names_new (gates e) [] l (omega arith) h

names_none : (rs : List GateRecord) (count : ℕ) (l : Label) → first_label + count ≤ l
    → ((k : ℕ) (r : GateRecord) → k < length rs → InTable count (get_or rs k r)) → names_label l rs ≡ false
unfolding names_label
names_none [] count l h all = refl
names_none (r ∷ rs) count l h all =
    let t = all 0 r (omega arith) in
    rw (ne_eqb l r.own (omega arith), ne_eqb l r.on_true (omega arith), ne_eqb l r.on_false (omega arith))
    (names_none rs count l h (λ k x y. all (suc k) x (omega arith)))

-- the labels that a table names are those below its label count, and all of them
pub labels_named : (e : Expr) (l : Label) → label_named l (weave e) ≡ in_range (weave e).label_count l
unfolding label_named
labels_named e l =
    let count : ℕ = (weave e).label_count in
    rw (le-leb first_label l (omega arith))
    (elim (known (ltb l (first_label + count))) [
      | on b ↦ let x = ltb-true l (first_label + count) b in rw (b, rw zero-add at (names_all e l (omega arith)), or-true)
      | off b ↦ let x = ltb-false l (first_label + count) b in
          rw (
            b,
            ne_eqb l (weave e).true_label (omega (arith, true_in_table e)),
            ne_eqb l (weave e).false_label (omega (arith, false_in_table e)),
          )
          (names_none (weave e).gate_records count l x (λ k r h. records_in_table e k r (rw (length-gate_records e) at h)))
    ])
