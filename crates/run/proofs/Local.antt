-- A feed reads the length, the header and one record, and an answer the length, the header and the last record: two tables that
-- agree there give the same. A feed past the last gate reads length and header alone.
--   same_feed, same_past, same_answer          == the definitions give the same, where what the bytes say there is the same
--   feed_local, feed_past_local, answer_local == so do any two right answers of the code, where the bytes there are the same
-- Assumes nothing.
use Prim.Native.Nat.{ℕ, ◌+◌, ◌≤◌, ◌<◌}
use mathlib.Core.Path.{◌≡◌, refl, sym, ap, ◌∙◌}
use mathlib.Core.Bool.{Bool, not, cond, ◌&&◌}
use mathlib.Core.Option.{Option, none, some}
use mathlib.Core.List.{List}
use native.Mathlib.Omega.{arith}
use borrow.Author.Tests.{le-ltb}
use lib.Dec.{leb, ltb, eqb}
use lib.ListN.{length}
use Rattle.std.specs.Prelude.{Result}
use Rattle.terms.specs.declared.Refusal.{Refusal}
use Rattle.terms.specs.First.{where_so}
use Rattle.terms.specs.Answer.{Answer, result, refused, refuse, on_result}
use Rattle.table.specs.Layout.{header_length, gate_length, end_length, record_start, length_by, byte_at, Header, header_of, GateFields, gate_from, gate_of, EndFields, end_from, end_of}
use Rattle.table.specs.Twins.Faults.{header_fields_fit, gate_fields_fit, end_fields_fit, frame_fault, or_else}
use Rattle.run.specs.Run.{Run, stepped}
use Rattle.run.specs.Twins.Answers.{fed, answered, ended}
use Rattle.run.specs.Shown.{shown_run, FedRight, AnsweredRight}
use Rattle.run.specs.declared.Run as coded
use Rattle.run.specs.declared.FeedRefused.{FeedRefused}
use Rattle.run.proofs.Conform.{fed_alike, answered_alike}

-- what is answered, as a function of what is read: a length, a header, a record
abbrev frame_by : ℕ → Header → Option ℕ
frame_by long h =
    where_so (not ((leb (header_length h) long && header_fields_fit h) && eqb long (length_by h))) 0

abbrev fed_by : Run → Bool → ℕ → Header → GateFields → Answer Run
fed_by r truth long h g =
    on_result
    (refuse 9
    (or_else (frame_by long h)
    (cond (ltb r.gate h.gates) (where_so (not (gate_fields_fit h r.gate g)) (record_start h r.gate)) none))
    (refuse 11 (where_so (not (ltb r.gate h.gates)) r.gate) (result g)))
    (λ x. result (stepped r x truth))

abbrev answered_by : Run → ℕ → Header → EndFields → Answer Bool
answered_by r long h e =
    on_result
    (refuse 9 (or_else (frame_by long h) (where_so (not (end_fields_fit h e)) (record_start h h.gates)))
    (refuse 10 (where_so (not (eqb r.gate h.gates)) r.gate) (result e)))
    (λ x. ended x r.label)

fed_is : (r : Run) (truth : Bool) (table : List ℕ)
    → fed r table truth ≡ fed_by r truth (length table) (header_of table) (gate_of table r.gate)
unfolding fed
fed_is r truth table = refl

answered_is : (r : Run) (table : List ℕ)
    → answered r table ≡ answered_by r (length table) (header_of table) (end_of table (header_of table).gates)
unfolding answered
answered_is r table = refl

-- a feed past the last gate
past_is : (r : Run) (truth : Bool) (table : List ℕ) → (header_of table).gates ≤ r.gate
    → fed r table truth ≡ refuse 9 (frame_by (length table) (header_of table)) (refused 11 r.gate)
unfolding fed
past_is r truth table h = rw (le-ltb _ _ h) (by (frame_fault table))
  where
    by : (o : Option ℕ) → on_result (refuse 9 (or_else o none) (refused 11 r.gate)) (λ x. result (stepped r x truth)) ≡ refuse 9 o (refused 11 r.gate)
    by none = refl
    by (some p) = refl

-- two tables that agree in length and header
pub record SameFrame (t u : List ℕ) : Type 0 where
  pub long : length t ≡ length u
  pub header : header_of t ≡ header_of u

pub same_feed : (r : Run) (truth : Bool) (t u : List ℕ) → SameFrame t u → gate_of t r.gate ≡ gate_of u r.gate
    → fed r t truth ≡ fed r u truth
same_feed r truth t u f g =
    fed_is r truth t ∙ ((λ i. fed_by r truth (f.long i) (f.header i) (g i)) ∙ sym (fed_is r truth u))

pub same_past : (r : Run) (truth : Bool) (t u : List ℕ) → SameFrame t u → (header_of t).gates ≤ r.gate → fed r t truth ≡ fed r u truth
same_past r truth t u f h =
    let n : (header_of t).gates ≡ (header_of u).gates = ap (λ (x : Header). x.gates) f.header in
    past_is r truth t h
    ∙ ((λ i. refuse 9 (frame_by (f.long i) (f.header i)) (refused 11 r.gate)) ∙ sym (past_is r truth u (rw n at h)))

pub same_answer : (r : Run) (t u : List ℕ) → SameFrame t u
    → end_of t (header_of t).gates ≡ end_of u (header_of u).gates
    → answered r t ≡ answered r u
same_answer r t u f e =
    answered_is r t ∙ ((λ i. answered_by r (f.long i) (f.header i) (e i)) ∙ sym (answered_is r u))

-- two tables that agree in n bytes from a place on
pub record Agree (t u : List ℕ) (at n : ℕ) : Type 0 where
  pub same : (i : ℕ) → i < n → byte_at t (at + i) ≡ byte_at u (at + i)

-- bytes that agree say the same
module _ (t u : List ℕ) where
  header_agrees : Agree t u 0 (header_length (header_of t)) → header_of t ≡ header_of u
  header_agrees a =
      let b0 : byte_at t 0 ≡ byte_at u 0 = a.same 0 (omega arith) in
      let b1 : byte_at t 1 ≡ byte_at u 1 = a.same 1 (omega arith) in
      let b2 : byte_at t 2 ≡ byte_at u 2 = a.same 2 (omega arith) in
      let b3 : byte_at t 3 ≡ byte_at u 3 = a.same 3 (omega arith) in
      rw (b0, b1, b2, b3) refl

  module _ (at : ℕ) where
    from_start : at + 0 ≡ at
    from_start = omega arith

    third : at + 1 + 1 ≡ at + 2
    third = omega arith

    gate_agrees : Agree t u at (gate_length (header_of t)) → gate_from t at ≡ gate_from u at
    gate_agrees a =
        let b0 : byte_at t at ≡ byte_at u at = rw from_start at (a.same 0 (omega arith)) in
        rw (third, b0, a.same 1 (omega arith), a.same 2 (omega arith), a.same 3 (omega arith), a.same 4 (omega arith), a.same 5 (omega arith))
        refl

    end_agrees : Agree t u at end_length → end_from t at ≡ end_from u at
    end_agrees a =
        let b0 : byte_at t at ≡ byte_at u at = rw from_start at (a.same 0 (omega arith)) in
        rw (b0, a.same 1 (omega arith), a.same 2 (omega arith)) refl

-- two tables that agree in length and in the bytes of the header
pub record SameToPast (t u : List ℕ) : Type 0 where
  pub long : length t ≡ length u
  pub header : Agree t u 0 (header_length (header_of t))

-- two tables that agree in length, in the bytes of the header and in those of the record of gate k
pub record SameToFeed (t u : List ℕ) (k : ℕ) : Type 0 where
  pub long : length t ≡ length u
  pub header : Agree t u 0 (header_length (header_of t))
  pub gate : Agree t u (record_start (header_of t) k) (gate_length (header_of t))

-- two tables that agree in length, in the bytes of the header and in those of the last record
pub record SameToAsk (t u : List ℕ) : Type 0 where
  pub long : length t ≡ length u
  pub header : Agree t u 0 (header_length (header_of t))
  pub end : Agree t u (record_start (header_of t) (header_of t).gates) end_length

pub feed_local : (run : coded.Run) (truth : Bool) (t u : List ℕ) → SameToFeed t u run.gate
    → (a b : Result coded.Run FeedRefused) → FedRight run t truth a → FedRight run u truth b → a ≡ b
feed_local run truth t u s a b p q =
    let f : SameFrame t u = record { long = s.long; header = header_agrees t u s.header } in
    let g : gate_of t run.gate ≡ gate_of u run.gate =
    gate_agrees t u (record_start (header_of t) run.gate) s.gate
    ∙ ap (λ (h : Header). gate_from u (record_start h run.gate)) f.header in
    fed_alike run t truth a b p (record { shown = q.shown ∙ sym (same_feed (shown_run run) truth t u f g); handed_back = q.handed_back })

pub feed_past_local : (run : coded.Run) (truth : Bool) (t u : List ℕ) → SameToPast t u → (header_of t).gates ≤ run.gate
    → (a b : Result coded.Run FeedRefused) → FedRight run t truth a → FedRight run u truth b → a ≡ b
feed_past_local run truth t u s h a b p q =
    let f : SameFrame t u = record { long = s.long; header = header_agrees t u s.header } in
    fed_alike run t truth a b p (record { shown = q.shown ∙ sym (same_past (shown_run run) truth t u f h); handed_back = q.handed_back })

pub answer_local : (run : coded.Run) (t u : List ℕ) → SameToAsk t u
    → (a b : Result Bool Refusal) → AnsweredRight run t a → AnsweredRight run u b → a ≡ b
answer_local run t u s a b p q =
    let f : SameFrame t u = record { long = s.long; header = header_agrees t u s.header } in
    let g : end_of t (header_of t).gates ≡ end_of u (header_of u).gates =
    end_agrees t u (record_start (header_of t) (header_of t).gates) s.end
    ∙ ap (λ (h : Header). end_from u (record_start h h.gates)) f.header in
    answered_alike run t a b p (record { shown = q.shown ∙ sym (same_answer (shown_run run) t u f g) })
