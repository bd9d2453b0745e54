-- What five lists of a weave's gates say is what its records say, so the table written from the lists is the table of the weave.
-- Assumes nothing.
use Prim.Native.Nat.{ℕ, zero, suc, ◌+◌, ◌≤◌, ◌<◌}
use mathlib.Core.Path.{◌≡◌, refl, ap, ap₂, ◌∙◌, subst}
use mathlib.Core.Bool.{Bool, true, false}
use mathlib.Core.List.{List, [], ◌∷◌, ◌++◌, map}
use native.Mathlib.Nat.{add-zero, not-suc-le-zero}
use native.Mathlib.Omega.{arith}
use lib.ListN.{length, get_or, length-map, get_or-append, drop}
use lib.Seq.{sets, sets-eq}
use Rattle.weaving.specs.Code.Laid.{sense_byte}
use Rattle.weaving.specs.Labels.{GateRecord, Woven}
use Rattle.table.specs.Layout.{header_bytes, end_bytes}
use Rattle.table.specs.Code.Written.{plain, record_at, gate_records, table_bytes}
use Rattle.compiler.specs.Compiled.{record_bytes, all_records, table_of}
use Rattle.compiler.proofs.Bytes.{no_record}

-- a sense's byte and what it stands for
plain_sense : (sense : Bool) → plain (sense_byte sense) ≡ sense
plain_sense true = refl
plain_sense false = refl

-- the five lists say of place k what the record says
pub record Says (ps qs os ts fs : List ℕ) (k : ℕ) (r : GateRecord) : Type 0 where
  pub primitive : get_or ps k 0 ≡ r.literal.primitive
  pub sense : get_or qs k 0 ≡ sense_byte r.literal.sense
  pub own : get_or os k 0 ≡ r.own
  pub on_true : get_or ts k 0 ≡ r.on_true
  pub on_false : get_or fs k 0 ≡ r.on_false

said_bytes : (ps qs os ts fs : List ℕ) (k : ℕ) (r : GateRecord) → Says ps qs os ts fs k r → record_at ps qs os ts fs k ≡ record_bytes r
said_bytes ps qs os ts fs k r says =
    rw (says.primitive, says.sense, says.own, says.on_true, says.on_false, plain_sense r.literal.sense)

said_records : (rs : List GateRecord) (ps qs os ts fs : List ℕ) (k : ℕ) → ((j : ℕ) → j < length rs → Says ps qs os ts fs (k + j) (get_or rs j no_record))
    → gate_records ps qs os ts fs k (length rs) ≡ all_records rs
unfolding gate_records all_records
said_records [] ps qs os ts fs k says = refl
said_records (r ∷ rs) ps qs os ts fs k says =
    ap₂ ◌++◌
    (said_bytes ps qs os ts fs k r (subst (λ (i : ℕ). Says ps qs os ts fs i r) (add-zero k) (says 0 (omega arith))))
    (said_records rs ps qs os ts fs (suc k) (λ j h. subst (λ (i : ℕ). Says ps qs os ts fs i (get_or rs j no_record)) (omega arith) (says (suc j) (omega arith))))

pub table_said : (w : Woven) (ps qs os ts fs : List ℕ) → ((j : ℕ) → j < length w.gate_records → Says ps qs os ts fs j (get_or w.gate_records j no_record))
    → table_bytes (length w.gate_records) w.label_count ps qs os ts fs w.true_label w.false_label ≡ table_of w
unfolding table_bytes table_of
table_said w ps qs os ts fs says =
    ap (λ (l : List ℕ). header_bytes (length w.gate_records) w.label_count ++ (l ++ end_bytes w.true_label w.false_label))
    (said_records w.gate_records ps qs os ts fs 0 (λ j h. subst (λ (i : ℕ). Says ps qs os ts fs i (get_or w.gate_records j no_record)) (omega arith) (says j h)))

pub mapped_below : {A : Type 0} (f : A → ℕ) (rs : List A) (d : A) (j : ℕ) → j < length rs → get_or (map f rs) j 0 ≡ f (get_or rs j d)
mapped_below f [] d j h = absurd (not-suc-le-zero h)
mapped_below f (r ∷ rs) d zero h = refl
mapped_below f (r ∷ rs) d (suc j) h = mapped_below f rs d j (omega arith)

-- what is stored at the front of a list is read there
pub front_said : {A : Type 0} (f : A → ℕ) (xs : List ℕ) (rs : List A) (d : A) (j : ℕ) → j < length rs → length rs ≤ length xs
    → get_or (sets xs 0 (map f rs)) j 0 ≡ f (get_or rs j d)
front_said f xs rs d j h room =
    let long : length (map f rs) ≡ length rs = length-map rs f in
    ap (λ (l : List ℕ). get_or l j 0) (sets-eq (map f rs) xs 0 (omega arith))
    ∙ get_or-append (map f rs) (drop (0 + length (map f rs)) xs) 0 j (omega arith)
    ∙ mapped_below f rs d j h
