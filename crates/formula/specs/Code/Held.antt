-- How slots hold an expression, an operator behind its left and its right operand.
--   kinds_of, spans_of == the two numbers of each slot
--   nodes e          == how many slots e takes: one a literal, one an operator
--   node_kind number   == what a node's number stands for
--   node_at ks ss i  == the node in the slot i
--   Holds ks ss i e  == the nodes e slots up to i hold e, its root in the slot i
-- An occurrence is not stored: it is a literal's rank among the literals as typed.
-- Assumes nothing.
use Rattle.std.specs.Prelude.{ℕ, suc, ◌+◌, ◌-◌, ◌*◌, ◌/◌, ◌%◌, ◌≤◌, ◌<◌, ◌≡◌, Bool, true, false, cond, List, map, eqb, length, get_or}
use Rattle.formula.specs.declared.Kind as coded
use Rattle.formula.specs.declared.Kind.TheVariants.{Union, Intersection, Literal}
use Rattle.formula.specs.declared.Node.{Node}
use Rattle.formula.specs.declared.Slot.{Slot}
use Rattle.formula.specs.Formula as formula
use Rattle.formula.specs.Formula.{Kind, union, intersection, Expr, literal, join}

abbrev pub kinds_of : List Slot → List ℕ
kinds_of slots = map (λ s. s.kind) slots

abbrev pub spans_of : List Slot → List ℕ
spans_of slots = map (λ s. s.span) slots

unfoldable pub nodes : Expr → ℕ
nodes (literal x) = 1
nodes (join k l r) = suc (nodes l + nodes r)

-- 0 and 1 stand for the operators, and from 2 on each primitive has two numbers, complemented and plain
abbrev pub node_kind : ℕ → coded.Kind
node_kind number =
    cond (eqb number 0) Union
    (cond (eqb number 1) Intersection (Literal (record { 0 = (number - 2) / 2 }) (eqb (number % 2) 1)))

abbrev pub literal_number : ℕ → Bool → ℕ
literal_number p sense = cond sense (2 * p + 3) (2 * p + 2)

abbrev pub join_number : Bool → ℕ
join_number is_intersection = cond is_intersection 1 0

abbrev pub is_leaf : coded.Kind → Bool
is_leaf Union = false
is_leaf Intersection = false
is_leaf (Literal p sense) = true

-- the kind of an operator's node
abbrev pub operator_kind : Kind → coded.Kind
operator_kind union = Union
operator_kind intersection = Intersection

-- an operator's right operand stands directly before it, and its left operand before that one's subtree
abbrev pub node_at : List ℕ → List ℕ → ℕ → Node
node_at ks ss i = record { kind = node_kind (get_or ks i 0); left = i - 1 - get_or ss (i - 1) 0; right = i - 1 }

pub record Leaf (ks ss : List ℕ) (i : ℕ) (x : formula.Literal) : Type 0 where
  pub kind_within : i < length ks
  pub span_within : i < length ss
  pub kind : node_kind (get_or ks i 0) ≡ Literal (record { 0 = x.primitive }) x.sense
  pub span : get_or ss i 0 ≡ 1

-- an operator in the slot i over operands of so many slots
pub record Joint (ks ss : List ℕ) (i : ℕ) (k : Kind) (lefts rights : ℕ) : Type 0 where
  pub kind_within : i < length ks
  pub span_within : i < length ss
  pub kind : node_kind (get_or ks i 0) ≡ operator_kind k
  pub fits : lefts + rights ≤ i
  pub span : get_or ss i 0 ≡ suc (lefts + rights)

pub data Holds (ks ss : List ℕ) : ℕ → Expr → Type 0 where
  leaf : {i : ℕ} {x : formula.Literal} → Leaf ks ss i x → Holds ks ss i (literal x)
  joint : {i : ℕ} {k : Kind} {l r : Expr} → Joint ks ss i k (nodes l) (nodes r) → Holds ks ss (i - 1 - nodes r) l
      → Holds ks ss (i - 1) r → Holds ks ss i (join k l r)

-- some expression stands up to the slot i
pub record SomeHeld (ks ss : List ℕ) (i : ℕ) : Type 0 where
  pub tree : Expr
  pub holds : Holds ks ss i tree
