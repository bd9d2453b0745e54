-- A contract leaves no choice: two answers that are right for the same input are equal, since a refusal is known by its number and
-- its place, and a result by what is shown of it.
-- Assumes nothing.
use Prim.Native.Nat.{ℕ}
use mathlib.Core.Path.{◌≡◌, sym, ap, ap₂, ◌∙◌}
use mathlib.Core.Bool.{Bool}
use mathlib.Core.List.{List}
use Rattle.std.specs.Prelude.{Result, Ok, Err}
use Rattle.std.specs.Result.{result_map_both}
use Rattle.terms.specs.Refusals.{number_of, shown}
use Rattle.terms.specs.declared.Refusal.{Refusal}
use Rattle.terms.proofs.Refusals.{refusal_known, shown_known}
use Rattle.table.specs.Layout as spec
use Rattle.table.specs.Shown.{shown_header, shown_gate, shown_end}
use Rattle.table.specs.Code.Checked.{coded_gate, coded_end}
use Rattle.table.specs.declared.Header.{Header}
use Rattle.table.specs.declared.Gate.{Gate}
use Rattle.table.specs.declared.End.{End}
use Rattle.table.proofs.Whole.{nought_one}
use Rattle.run.specs.Run.{Run}
use Rattle.run.specs.Shown.{shown_run, HandedBack, HeaderReadRight, GateReadRight, EndReadRight, StartedRight, FedRight, AnsweredRight}
use Rattle.run.specs.declared.Run as coded
use Rattle.run.specs.declared.FeedRefused as coded_refused

-- the struct of the code that a header and a run stand for
abbrev coded_header : spec.Header → Header
coded_header h = record { kind = h.kind; gates = h.gates; labels = h.labels }

abbrev held : Run → coded.Run
held r = record { gate = r.gate; label = record { 0 = r.label } }

fed_known : (run : coded.Run) (a b : Result coded.Run coded_refused.FeedRefused) → HandedBack run a → HandedBack run b → shown shown_run (result_map_both (λ y. y) (λ h. h.refusal) a) ≡ shown shown_run (result_map_both (λ y. y) (λ h. h.refusal) b) → a ≡ b
fed_known run (Ok x) (Ok y) j k e = let same : shown_run x ≡ shown_run y = cc in ap (λ (r : Run). Ok (held r)) same
fed_known run (Ok x) (Err h) j k e = nought_one (cc)
fed_known run (Err g) (Ok y) j k e = nought_one (cc)
fed_known run (Err g) (Err h) j k e =
    let number : number_of g.refusal.reason ≡ number_of h.refusal.reason = cc in
    let place : g.refusal.at ≡ h.refusal.at = cc in
    ap₂ (λ (f : Refusal) (r : coded.Run). Err (record { refusal = f; run = r })) (refusal_known number place) (j ∙ sym k)

pub header_read_alike : (table : List ℕ) (a b : Result Header Refusal) → HeaderReadRight table a → HeaderReadRight table b → a ≡ b
header_read_alike table a b p q = shown_known shown_header (λ x y e. ap coded_header e) a b (p.shown ∙ sym q.shown)

pub gate_read_alike : (table : List ℕ) (k : ℕ) (a b : Result Gate Refusal) → GateReadRight table k a → GateReadRight table k b → a ≡ b
gate_read_alike table k a b p q = shown_known shown_gate (λ x y e. ap coded_gate e) a b (p.shown ∙ sym q.shown)

pub end_read_alike : (table : List ℕ) (k : ℕ) (a b : Result End Refusal) → EndReadRight table k a → EndReadRight table k b → a ≡ b
end_read_alike table k a b p q = shown_known shown_end (λ x y e. ap coded_end e) a b (p.shown ∙ sym q.shown)

pub started_alike : (table : List ℕ) (a b : Result coded.Run Refusal) → StartedRight table a → StartedRight table b → a ≡ b
started_alike table a b p q = shown_known shown_run (λ x y e. ap held e) a b (p.shown ∙ sym q.shown)

pub fed_alike : (run : coded.Run) (table : List ℕ) (truth : Bool) (a b : Result coded.Run coded_refused.FeedRefused)
    → FedRight run table truth a → FedRight run table truth b → a ≡ b
fed_alike run table truth a b p q = fed_known run a b p.handed_back q.handed_back (p.shown ∙ sym q.shown)

pub answered_alike : (run : coded.Run) (table : List ℕ) (a b : Result Bool Refusal) → AnsweredRight run table a → AnsweredRight run table b → a ≡ b
answered_alike run table a b p q = shown_known (λ t. t) (λ x y e. e) a b (p.shown ∙ sym q.shown)
