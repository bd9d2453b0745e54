-- What laying the gates out leaves in four lists: for each gate its primitive, its sense, its true place and its false place.
--   Laid ps qs ts fs ps' .. gs == the gates gs were written from the first on, and nothing else was changed
--   LaidOut                    == so were the gates of whatever expression of n literals is held, as its marks arrange it
--   Layable                    == some expression of n literals is held, with a row of marks beside it
--   Laying                     == the lists on the way: the first gate that each slot was handed, and the gates' lists, where at the first
--                                 gate of a slot that waits stands where it leads as a whole; laying_of has them of slots and gates
--   SameLiterals, SamePlaces, SameLabels == what gates carry of their literals, their places, their labels are as before
--   slot_laid .. i s           == the slot i taken: a literal is a gate, and an operator hands its operands their part
--   Pending ks ss fs n m       == the m slots from the front hold expressions behind one another, each with room for its gates among n
-- Assumes nothing.
use Rattle.std.specs.Prelude.{ℕ, suc, ◌+◌, ◌-◌, ◌*◌, ◌/◌, ◌≤◌, ◌<◌, ◌≡◌, Bool, cond, List, map, eqb, length, get_or, set}
use Rattle.std.proofs.lemmas.List.Edits.{sets}
use Rattle.terms.specs.Terms.{Primitive, Place, most_literals}
use Rattle.terms.specs.Laid.{primitives_of, senses_of, true_places_of, false_places_of, owns_of, on_trues_of, on_falses_of}
use Rattle.terms.specs.declared.Place as places
use Rattle.terms.specs.declared.LaidGate.{LaidGate}
use Rattle.formula.specs.declared.Kind as coded
use Rattle.formula.specs.declared.Kind.TheVariants.{Union, Intersection, Literal}
use Rattle.formula.specs.Formula.{Expr, literals}
use Rattle.formula.specs.Marks.{arranged}
use Rattle.formula.specs.Code.Held.{nodes, node_kind, Holds}
use Rattle.formula.specs.Code.Marked.{Marked}
use Rattle.weaving.specs.declared.lay.Operands.{Operands}
use Rattle.weaving.specs.Gates.{Gate, gates}

-- a sense as a byte: one plain, nought complemented
abbrev pub sense_byte : Bool → ℕ
sense_byte sense = cond sense 1 0

abbrev pub gate_primitives : List Gate → List ℕ
gate_primitives gs = map (λ g. g.literal.primitive) gs

abbrev pub gate_senses : List Gate → List ℕ
gate_senses gs = map (λ g. sense_byte g.literal.sense) gs

abbrev pub true_places : List Gate → List ℕ
true_places gs = map (λ g. g.true_place) gs

abbrev pub false_places : List Gate → List ℕ
false_places gs = map (λ g. g.false_place) gs

-- from the place b on
pub record LaidFrom (b : Place) (ps qs ts fs ps' qs' ts' fs' : List ℕ) (gs : List Gate) : Type 0 where
  pub primitives : ps' ≡ sets ps b (gate_primitives gs)
  pub senses : qs' ≡ sets qs b (gate_senses gs)
  pub trues : ts' ≡ sets ts b (true_places gs)
  pub falses : fs' ≡ sets fs b (false_places gs)

abbrev pub Laid : (ps qs ts fs ps' qs' ts' fs' : List ℕ) (gs : List Gate) → Type 0
Laid = LaidFrom 0

pub record LaidOut (ks ss bs : List ℕ) (n : ℕ) (ps qs ts fs ps' qs' ts' fs' : List ℕ) : Type 0 where
  pub each : (e : Expr) (ms : List Bool) → Holds ks ss (2 * n - 2) e → Marked bs (2 * n - 2) e ms → literals e ≡ n
      → Laid ps qs ts fs ps' qs' ts' fs' (gates (arranged ms e))

pub record Layable (ks ss bs : List ℕ) (n : ℕ) : Type 0 where
  pub tree : Expr
  pub row : List Bool
  pub holds : Holds ks ss (2 * n - 2) tree
  pub marked : Marked bs (2 * n - 2) tree row
  pub count : literals tree ≡ n
  pub few : n ≤ most_literals

-- the slots' first gates, and the gates' lists
pub record Laying : Type 0 where
  pub firsts : List ℕ
  pub primitives : List ℕ
  pub senses : List ℕ
  pub trues : List ℕ
  pub falses : List ℕ

abbrev pub laying : (gs ps qs ts fs : List ℕ) → Laying
laying gs ps qs ts fs = record { firsts = gs; primitives = ps; senses = qs; trues = ts; falses = fs }

abbrev pub places_of : List places.Place → List ℕ
places_of ps = map (λ p. p.0) ps

abbrev pub laying_of : List places.Place → List LaidGate → Laying
laying_of firsts gates = laying (places_of firsts) (primitives_of gates) (senses_of gates) (true_places_of gates) (false_places_of gates)

-- what the literal of the gate b carries; its places stand there already
abbrev pub gate_put : Place → Primitive → Bool → Laying → Laying
gate_put b p sense s = laying s.firsts (set s.primitives b p) (set s.senses b (sense_byte sense)) s.trues s.falses

-- the slot j is handed its first gate b, and at b its places
abbrev pub slot_handed : ℕ → Place → Place → Place → Laying → Laying
slot_handed j b t f s = laying (set s.firsts j b) s.primitives s.senses (set s.trues b t) (set s.falses b f)

-- the slots of an operator's operands in the order of the gates: exchanged where its mark is one
abbrev pub in_order_of : ℕ → ℕ → ℕ → Operands
in_order_of mark left right = cond (eqb mark 1) (record { first = right; second = left }) (record { first = left; second = right })

-- where the first operand leads, if the first gate of the second is m: an intersection's if true, a union's if false
abbrev pub first_true : coded.Kind → Place → Place → Place
first_true Union m t = t
first_true Intersection m t = m
first_true (Literal p sense) m t = t

abbrev pub first_false : coded.Kind → Place → Place → Place
first_false Union m f = m
first_false Intersection m f = f
first_false (Literal p sense) m f = f

-- the place after the gates of a subtree of so many slots
abbrev pub place_after : Place → ℕ → Place
place_after b span = b + (span + 1) / 2

-- an operator whose first gate is b, and whose places stand there, hands both operands their part
abbrev pub handed_down : coded.Kind → Operands → (b next : Place) → Laying → Laying
handed_down k o b next s =
    slot_handed o.first b (first_true k next (get_or s.trues b 0)) (first_false k next (get_or s.falses b 0))
    (slot_handed o.second next (get_or s.trues b 0) (get_or s.falses b 0) s)

abbrev pub laid_as : coded.Kind → Operands → (b next : Place) → Laying → Laying
laid_as Union o b next s = handed_down Union o b next s
laid_as Intersection o b next s = handed_down Intersection o b next s
laid_as (Literal p sense) o b next s = gate_put b p.0 sense s

abbrev pub operands_at : (ss bs : List ℕ) → ℕ → Operands
operands_at ss bs i = in_order_of (get_or bs i 0) (i - 1 - get_or ss (i - 1) 0) (i - 1)

unfoldable pub slot_laid : (ks ss bs : List ℕ) → ℕ → Laying → Laying
slot_laid ks ss bs i s =
    laid_as (node_kind (get_or ks i 0)) (operands_at ss bs i) (get_or s.firsts i 0)
    (place_after (get_or s.firsts i 0) (get_or ss (operands_at ss bs i).first 0)) s

pub record SameLiterals (before after : List LaidGate) : Type 0 where
  pub primitives : primitives_of after ≡ primitives_of before
  pub senses : senses_of after ≡ senses_of before

pub record SamePlaces (before after : List LaidGate) : Type 0 where
  pub true_places : true_places_of after ≡ true_places_of before
  pub false_places : false_places_of after ≡ false_places_of before

pub record SameLabels (before after : List LaidGate) : Type 0 where
  pub owns : owns_of after ≡ owns_of before
  pub on_trues : on_trues_of after ≡ on_trues_of before
  pub on_falses : on_falses_of after ≡ on_falses_of before

pub record GateLaid (b : Place) (p : Primitive) (sense : Bool) (ps qs ps' qs' : List ℕ) : Type 0 where
  pub primitive : ps' ≡ set ps b p
  pub sense_put : qs' ≡ set qs b (sense_byte sense)

pub record HandedTo (j : ℕ) (b t f : Place) (gs ts fs gs' ts' fs' : List ℕ) : Type 0 where
  pub first : gs' ≡ set gs j b
  pub true_place : ts' ≡ set ts b t
  pub false_place : fs' ≡ set fs b f

-- both operands were handed their part
pub record HandedDown (k : coded.Kind) (o : Operands) (ss : List ℕ) (b : Place) (gs ts fs gs' ts' fs' : List ℕ) : Type 0 where
  pub each : (ps qs : List ℕ)
      → laying gs' ps qs ts' fs' ≡ handed_down k o b (place_after b (get_or ss o.first 0)) (laying gs ps qs ts fs)

-- the slots of the operands are within, and the second one's first gate is one of n
pub record Operating (o : Operands) (ss : List ℕ) (b : Place) (n : ℕ) : Type 0 where
  pub first_within : o.first < 2047
  pub second_within : o.second < 2047
  pub fits : place_after b (get_or ss o.first 0) < n

pub data Pending (ks ss gs : List ℕ) (n : ℕ) : ℕ → Type 0 where
  none : Pending ks ss gs n 0
  more : {m i rest : ℕ} {e : Expr} → m ≡ suc i → m ≡ nodes e + rest → Holds ks ss i e → i < length gs → get_or gs i 0 + literals e ≤ n
      → Pending ks ss gs n rest → Pending ks ss gs n m
