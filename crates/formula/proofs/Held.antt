-- An expression that slots hold fits in front of its root, tells its size there, and is still held where only other slots change.
-- Assumes nothing.
use Prim.Native.Nat.{ℕ, suc, ◌+◌, ◌-◌, ◌*◌, ◌/◌, ◌%◌, ◌≤◌, ◌<◌}
use mathlib.Core.Path.{◌≡◌, refl, ◌∙◌}
use mathlib.Core.Bool.{Bool, true, false}
use mathlib.Core.List.{List}
use native.Mathlib.Nat.{le_refl}
use native.Mathlib.Omega.{arith}
use lib.ListN.{length, get_or, set, length-set}
use lib.Seq.{get_or-set_same, get_or-set_other}
use borrow.Author.Tests.{eq-eqb, ne_eqb}
use Rattle.formula.specs.declared.Kind.TheVariants.{Literal}
use Rattle.formula.specs.Formula as formula
use Rattle.formula.specs.Formula.{Kind, union, intersection, Expr, literal, join, literals}
use Rattle.formula.specs.Code.Held.{nodes, node_kind, literal_number, join_number, operator_kind, Holds, leaf, joint}

-- each node but the first literal has an operator or a literal to its side
pub nodes_literals : (e : Expr) → nodes e + 1 ≡ 2 * literals e
unfolding nodes literals
nodes_literals (literal x) = refl
nodes_literals (join k l r) = omega (arith, nodes_literals l, nodes_literals r)

pub nodes_some : (e : Expr) → 1 ≤ nodes e
unfolding nodes
nodes_some (literal x) = le_refl 1
nodes_some (join k l r) = omega arith

pub holds_within : {ks ss : List ℕ} {i : ℕ} {e : Expr} → Holds ks ss i e → i < length ks
holds_within (leaf h) = h.kind_within
holds_within (joint h a b) = h.kind_within

pub holds_span_within : {ks ss : List ℕ} {i : ℕ} {e : Expr} → Holds ks ss i e → i < length ss
holds_span_within (leaf h) = h.span_within
holds_span_within (joint h a b) = h.span_within

-- the slots before the root have room for the rest
pub holds_fits : {ks ss : List ℕ} {i : ℕ} {e : Expr} → Holds ks ss i e → nodes e ≤ i + 1
unfolding nodes
holds_fits (leaf h) = omega arith
holds_fits (joint h a b) = let f = h.fits in omega arith

pub holds_span : {ks ss : List ℕ} {i : ℕ} {e : Expr} → Holds ks ss i e → get_or ss i 0 ≡ nodes e
unfolding nodes
holds_span (leaf h) = h.span
holds_span (joint h a b) = h.span

-- the two lists agree at the n slots up to i
pub record Agrees (xs ys : List ℕ) (i n : ℕ) : Type 0 where
  pub long : length xs ≤ length ys
  pub same : (j : ℕ) → i < j + n → j ≤ i → get_or ys j 0 ≡ get_or xs j 0

pub agrees_part : {xs ys : List ℕ} {i n : ℕ} (j m : ℕ) → Agrees xs ys i n → j ≤ i → i + m ≤ j + n → Agrees xs ys j m
agrees_part j m a below above = record { long = a.long; same = λ x p q. a.same x (omega arith) (omega arith) }

pub holds_kept : {ks ss ks' ss' : List ℕ} {i : ℕ} {e : Expr} → Holds ks ss i e
    → Agrees ks ks' i (nodes e) → Agrees ss ss' i (nodes e) → Holds ks' ss' i e
unfolding nodes
holds_kept (leaf {i = i} {x = x} h) a b =
    let p = a.same i (omega arith) (le_refl i) in
    let q = b.same i (omega arith) (le_refl i) in
    leaf {i = i} {x = x}
    (record {
      kind_within = omega (arith, a.long, h.kind_within);
      span_within = omega (arith, b.long, h.span_within);
      kind = rw p h.kind;
      span = q ∙ h.span;
    })
holds_kept (joint {i = i} {k = k} {l = l} {r = r} h x y) a b =
    let p = a.same i (omega arith) (le_refl i) in
    let q = b.same i (omega arith) (le_refl i) in
    let f = h.fits in
    let s = nodes_some r in
    joint {i = i} {k = k} {l = l} {r = r}
    (record {
      kind_within = omega (arith, a.long, h.kind_within);
      span_within = omega (arith, b.long, h.span_within);
      kind = rw p h.kind;
      fits = f;
      span = q ∙ h.span;
    })
    (holds_kept x
    (agrees_part (i - 1 - nodes r) (nodes l) a (omega arith) (omega arith))
    (agrees_part (i - 1 - nodes r) (nodes l) b (omega arith) (omega arith)))
    (holds_kept y
    (agrees_part (i - 1) (nodes r) a (omega arith) (omega arith))
    (agrees_part (i - 1) (nodes r) b (omega arith) (omega arith)))

-- a store at another slot changes none of them
pub agrees_set : (xs : List ℕ) (at v i n : ℕ) → i < at → Agrees xs (set xs at v) i n
agrees_set xs at v i n h =
    record { long = rw (length-set xs at v) (le_refl _); same = λ j p q. get_or-set_other xs at j v 0 (omega arith) }

-- what is held below a slot is held where that slot is stored to
pub holds-set : {ks ss : List ℕ} {i : ℕ} {e : Expr} (n k s : ℕ) → i < n → Holds ks ss i e → Holds (set ks n k) (set ss n s) i e
holds-set {ks} {ss} {i} {e} n k s below h = holds_kept h (agrees_set ks n k i (nodes e) below) (agrees_set ss n s i (nodes e) below)

-- a number and what it stands for
pub node_kind_literal : (p : ℕ) (sense : Bool) → node_kind (literal_number p sense) ≡ Literal (record { 0 = p }) sense
node_kind_literal p true =
    let e : (2 * p + 3 - 2) / 2 ≡ p = omega arith in
    simp (ne_eqb (2 * p + 3) 0 (λ h. omega arith), ne_eqb (2 * p + 3) 1 (λ h. omega arith), eq-eqb ((2 * p + 3) % 2) 1 (omega arith), e)
node_kind_literal p false =
    let e : (2 * p + 2 - 2) / 2 ≡ p = omega arith in
    simp (ne_eqb (2 * p + 2) 0 (λ h. omega arith), ne_eqb (2 * p + 2) 1 (λ h. omega arith), ne_eqb ((2 * p + 2) % 2) 1 (λ h. omega arith), e)

-- whether an operator is an intersection
abbrev pub intersects : Kind → Bool
intersects union = false
intersects intersection = true

pub node_kind_join : (k : Kind) → node_kind (join_number (intersects k)) ≡ operator_kind k
node_kind_join union = refl
node_kind_join intersection = refl

-- a literal stored in the slot n
pub holds_leaf : (ks ss : List ℕ) (n : ℕ) (x : formula.Literal) → n < length ks → n < length ss
    → Holds (set ks n (literal_number x.primitive x.sense)) (set ss n 1) n (literal x)
holds_leaf ks ss n x hk hs =
    leaf {i = n} {x = x}
    (record {
      kind_within = rw length-set hk;
      span_within = rw length-set hs;
      kind = rw (get_or-set_same ks n _ 0 hk) (node_kind_literal x.primitive x.sense);
      span = get_or-set_same ss n 1 0 hs;
    })

-- an operator stored in the slot n, behind its right operand, behind its left
pub holds_joint : (ks ss : List ℕ) (n : ℕ) (k : Kind) (l r : Expr) → n < length ks → n < length ss → nodes l + nodes r ≤ n
    → Holds ks ss (n - 1 - nodes r) l → Holds ks ss (n - 1) r
    → Holds (set ks n (join_number (intersects k))) (set ss n (suc (nodes l + nodes r))) n (join k l r)
holds_joint ks ss n k l r hk hs fits a b =
    let s = nodes_some l in
    joint {i = n} {k = k} {l = l} {r = r}
    (record {
      kind_within = rw length-set hk;
      span_within = rw length-set hs;
      kind = rw (get_or-set_same ks n _ 0 hk) (node_kind_join k);
      fits = fits;
      span = get_or-set_same ss n _ 0 hs;
    })
    (holds-set n _ _ (omega arith) a)
    (holds-set n _ _ (omega arith) b)
