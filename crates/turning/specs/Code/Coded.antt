-- How a price tag stands in the code, and what settling an operator, turning and pricing by marks promise of it.
--   with_costs m cs     == the price tag of a mark and an array of three costs
--   meant t             == the price tag that the code's tag t stands for
--   joining m           == the kind of operator whose mark is m
--   intersecting kind   == whether a node in the slots is an intersection
--   Small t             == each cost of t leaves room for one more in the code's numbers
--   SettledAs k l r s   == s is the tag that an operator keeps of its two orders, and whether it is the exchanged one
--   Site ks ss i        == an expression stands up to the slot i of the tree, which is one of its slots
--   Turned .. i t       == whatever expression stands there, its marks have been put beside it and t is its tag, turned
--   MarkedSite ..       == a site where the marks are noughts and ones
--   PricedBy .. i t     == whatever expression and marks stand there, t is the tag of the one arranged by the other
-- Assumes nothing.
use Rattle.std.specs.Prelude.{ℕ, ◌+◌, ◌*◌, ◌≤◌, ◌<◌, ◌≡◌, Bool, true, false, cond, List, get_or}
use Rattle.terms.specs.Terms.{most_literals}
use Rattle.formula.specs.Formula.{Kind, union, intersection, Expr}
use Rattle.formula.specs.Marks.{arranged}
use Rattle.formula.specs.Code.Held.{nodes, node_kind, is_leaf, Holds, SomeHeld}
use Rattle.formula.specs.Code.Marked.{Marked}
use Rattle.formula.specs.declared.Kind as node
use Rattle.formula.specs.declared.Kind.TheVariants.{Union, Intersection, Literal}
use Rattle.turning.specs.declared.price.Tag as coded
use Rattle.turning.specs.declared.turn.Settled as settled
use Rattle.turning.specs.Tags.{Tag, priced, price, greatest}
use Rattle.turning.specs.Turning.{exchanges, marks, turned}

abbrev pub with_costs : Bool → List ℕ → Tag
with_costs m cs = record { mark = m; c1 = get_or cs 0 0; c2 = get_or cs 1 0; c3 = get_or cs 2 0 }

abbrev pub meant : coded.Tag → Tag
meant t = with_costs t.mark t.costs

abbrev pub joining : Bool → Kind
joining true = intersection
joining false = union

-- whether a node's kind is an intersection
abbrev pub intersecting : node.Kind → Bool
intersecting Union = false
intersecting Intersection = true
intersecting (Literal p sense) = false

-- a cost is a number of sixteen bits
abbrev pub Small : Tag → Type 0
Small t = greatest t < 65535

-- the tag kept of the two orders, and whether it is the exchanged one
pub record SettledAs (k : Kind) (l r : Tag) (s : settled.Settled) : Type 0 where
  pub exchanged : s.exchanged ≡ exchanges k l r
  pub tag : meant s.tag ≡ cond (exchanges k l r) (priced k r l) (priced k l r)

-- an expression of so many literals at most
pub record Site (ks ss : List ℕ) (i : ℕ) : Type 0 where
  pub held : SomeHeld ks ss i
  pub low : i + 1 < 2 * most_literals

-- the two lists agree but at the n slots up to i
pub record Outside (xs ys : List ℕ) (i n : ℕ) : Type 0 where
  pub before : (j : ℕ) → j + n ≤ i → get_or ys j 0 ≡ get_or xs j 0
  pub after : (j : ℕ) → i < j → get_or ys j 0 ≡ get_or xs j 0

pub record TurnedTo (bs bs' : List ℕ) (i : ℕ) (t : Tag) (e : Expr) : Type 0 where
  pub marked : Marked bs' i e (marks e)
  pub tag : t ≡ price (turned e)
  pub others : Outside bs bs' i (nodes e)

-- and the slots of literals are as they were
pub record Turned (ks ss bs bs' : List ℕ) (i : ℕ) (t : Tag) : Type 0 where
  pub each : (e : Expr) → Holds ks ss i e → TurnedTo bs bs' i t e
  pub literals : (j : ℕ) → is_leaf (node_kind (get_or ks j 0)) ≡ true → get_or bs' j 0 ≡ get_or bs j 0

-- a site whose marks are nought or one
pub record MarkedSite (ks ss bs : List ℕ) (i : ℕ) : Type 0 where
  pub site : Site ks ss i
  pub row : List Bool
  pub marked : Marked bs i site.held.tree row

pub record PricedBy (ks ss bs : List ℕ) (i : ℕ) (t : Tag) : Type 0 where
  pub each : (e : Expr) (ms : List Bool) → Holds ks ss i e → Marked bs i e ms → t ≡ price (arranged ms e)
