-- A node's gaps are its children's, each of a sort and count that follow from the child's; so the most places awaited over the
-- gaps of each sort follow the rules of the price tag, one by one. Assumes nothing.
use Prim.Native.Nat.{ℕ, zero, suc, ◌+◌, ◌-◌, ◌≤◌, ◌<◌, max}
use mathlib.Core.Path.{◌≡◌, refl, ap, ap₂, ◌∙◌}
use mathlib.Core.Bool.{Bool, true, false, not, cond}
use native.Mathlib.Nat.{add-zero, add-suc, add-sub_cancel_left, max-zero}
use native.Mathlib.Omega.{arith}
use lib.Dec.{ltb}
use borrow.Author.Tests.{lt-ltb, le-ltb}
use Rattle.formula.specs.Formula.{Kind, Expr, literal, join, literals}
use Rattle.turning.specs.Tags.{Tag, alike, counted, priced, price, greatest}
use Rattle.weaving.specs.Awaited.{greatest_below}

-- A gap of an expression has named neither of its two exits, one or both. The first exit is that which is named first: False's
-- for the mark true, True's for the mark false.
pub data Sort : Type 0 where
  neither one both : Sort

abbrev pub first_named : Sort → Bool
first_named neither = false
first_named one = true
first_named both = true

abbrev pub second_named : Sort → Bool
second_named neither = false
second_named one = false
second_named both = true

-- whether the exit is named that comes first for a node: it is the child's first too, if the child is alike
abbrev pub named : Bool → Sort → Bool
named alike s = cond alike (first_named s) (second_named s)

-- the sort of a gap, and how many places are awaited there
pub record Gap : Type 0 where
  pub sort : Sort
  pub count : ℕ

-- a gap of a left child as a gap of the node: it names no exit but the node's first
abbrev pub on_left : Bool → Gap → Gap
on_left alike g = record { sort = cond (named alike g.sort) one neither; count = g.count }

-- a gap of a right child: the node's first exit is awaited all along
abbrev pub on_right : Bool → Gap → Gap
on_right alike g =
    record { sort = cond (named (not alike) g.sort) both one; count = cond (named alike g.sort) g.count (suc g.count) }

-- the gap after the k-th gate of an expression
unfoldable pub gap : Expr → ℕ → Gap
gap (literal x) k = record { sort = both; count = 2 }
gap (join o l r) k =
    cond (ltb k (literals l)) (on_left (alike o (price l)) (gap l k)) (on_right (alike o (price r)) (gap r (k - literals l)))

pub gap_left : (o : Kind) (l r : Expr) (k : ℕ) → k < literals l → gap (join o l r) k ≡ on_left (alike o (price l)) (gap l k)
unfolding gap
gap_left o l r k h = rw (lt-ltb k (literals l) h)

pub gap_right : (o : Kind) (l r : Expr) (k : ℕ) → gap (join o l r) (literals l + k) ≡ on_right (alike o (price r)) (gap r k)
unfolding gap
gap_right o l r k = rw (le-ltb (literals l + k) (literals l) (omega arith), add-sub_cancel_left (literals l) k)

-- what a gap counts among those of a sort
abbrev among : Sort → Sort → ℕ → ℕ
among neither neither c = c
among neither one c = 0
among neither both c = 0
among one neither c = 0
among one one c = c
among one both c = 0
among both neither c = 0
among both one c = 0
among both both c = c

abbrev weight : Sort → Gap → ℕ
weight s g = among s g.sort g.count

-- the most places over the first n gaps of the sort
abbrev most : Sort → (ℕ → Gap) → ℕ → ℕ
most s g = greatest_below (λ k. weight s (g k))

-- Of the gaps of a child, p, q and r are the most of each sort, and x, y and z the most of each sort where they are the node's.
record Left (alike : Bool) (p q r x y z : ℕ) : Type 0 where
  first : x ≡ cond alike p (max p q)
  second : y ≡ max r (counted alike q)
  third : z ≡ 0

record Right (alike : Bool) (p q r x y z : ℕ) : Type 0 where
  first : x ≡ 0
  second : max 1 y ≡ max (suc p) (counted alike q)
  third : max 1 z ≡ max r (suc (counted (not alike) q))

-- one gap more
module _ {p q r x y z : ℕ} (c : ℕ) where
  left_more : (a : Bool) (s : Sort) → Left a p q r x y z →
      let h : Gap = on_left a (record { sort = s; count = c }) in
      Left a (max p (among neither s c)) (max q (among one s c)) (max r (among both s c))
      (max x (weight neither h)) (max y (weight one h)) (max z (weight both h))
  left_more true neither h = omega arith
  left_more true one h = omega arith
  left_more true both h = omega arith
  left_more false neither h = omega arith
  left_more false one h = omega arith
  left_more false both h = omega arith

  right_more : (a : Bool) (s : Sort) → Right a p q r x y z →
      let h : Gap = on_right a (record { sort = s; count = c }) in
      Right a (max p (among neither s c)) (max q (among one s c)) (max r (among both s c))
      (max x (weight neither h)) (max y (weight one h)) (max z (weight both h))
  right_more true neither h = simp max-zero (omega arith)
  right_more true one h = simp max-zero (omega arith)
  right_more true both h = simp max-zero (omega arith)
  right_more false neither h = simp max-zero (omega arith)
  right_more false one h = simp max-zero (omega arith)
  right_more false both h = simp max-zero (omega arith)

-- the gaps of a child, by the most of each sort
module _ (a : Bool) (g : ℕ → Gap) where
  left_gaps : (n : ℕ) → Left a (most neither g n) (most one g n) (most both g n)
      (most neither (λ k. on_left a (g k)) n) (most one (λ k. on_left a (g k)) n) (most both (λ k. on_left a (g k)) n)
  unfolding greatest_below
  left_gaps zero = elim a as (λ (t : Bool). Left t 0 0 0 0 0 0) [ true ↦ omega arith | false ↦ omega arith ]
  left_gaps (suc n) = left_more (g n).count a (g n).sort (left_gaps n)

  right_gaps : (n : ℕ) → Right a (most neither g n) (most one g n) (most both g n)
      (most neither (λ k. on_right a (g k)) n) (most one (λ k. on_right a (g k)) n) (most both (λ k. on_right a (g k)) n)
  unfolding greatest_below
  right_gaps zero = elim a as (λ (t : Bool). Right t 0 0 0 0 0 0) [ true ↦ omega arith | false ↦ omega arith ]
  right_gaps (suc n) = right_more (g n).count a (g n).sort (right_gaps n)

-- the gaps of an expression
pub greatest_same : (f g : ℕ → ℕ) (n : ℕ) → ((k : ℕ) → k < n → f k ≡ g k) → greatest_below f n ≡ greatest_below g n
unfolding greatest_below
greatest_same f g zero h = refl
greatest_same f g (suc n) h = ap₂ max (greatest_same f g n (λ k p. h k (omega arith))) (h n (omega arith))

greatest_parts : (f g h : ℕ → ℕ) (n m : ℕ) → ((k : ℕ) → k < n → f k ≡ g k) → ((k : ℕ) → f (n + k) ≡ h k) →
    greatest_below f (n + m) ≡ max (greatest_below g n) (greatest_below h m)
unfolding greatest_below
greatest_parts f g h n zero p q = rw (add-zero n, greatest_same f g n p) (omega arith)
greatest_parts f g h n (suc m) p q = rw (add-suc n m, greatest_parts f g h n m p q, q m) (omega arith)

-- the costs of a tag, by the most of each sort; the gap before the first gate counts 1, and names neither exit
record Costs (t : Tag) (p q r : ℕ) : Type 0 where
  first : max 1 p ≡ t.c1
  second : q ≡ t.c2
  third : r ≡ t.c3
  ends : 2 ≤ t.c3

-- plain numbers; where 2 is reached, nought and 1 count alike
join_first : (a : Bool) (p q x y c1 c2 : ℕ) → max 1 p ≡ c1 → q ≡ c2 → x ≡ cond a p (max p q) → y ≡ 0 →
    max 1 (max x y) ≡ cond a c1 (max c1 c2)
join_first true p q x y c1 c2 e f g h = omega arith
join_first false p q x y c1 c2 e f g h = omega arith

join_second : (x y p c1 c3 a d : ℕ) → max 1 p ≡ c1 → x ≡ max c3 a → max 1 y ≡ max (suc p) d → 2 ≤ c3 →
    max x y ≡ max (max c3 (c1 + 1)) (max a d)
join_second x y p c1 c3 a d e f g h =
    reached x y (omega arith) ∙ ap₂ max f g ∙ crossed c3 a p d ∙ ap (λ z. max z (max a d)) (raised p c1 c3 e h)
  where
    reached : (x y : ℕ) → 1 ≤ x → max x y ≡ max x (max 1 y)
    reached x y k = omega arith

    crossed : (c a p d : ℕ) → max (max c a) (max (suc p) d) ≡ max (max c (suc p)) (max a d)
    crossed c a p d = omega arith

    raised : (p c1 c3 : ℕ) → max 1 p ≡ c1 → 2 ≤ c3 → max c3 (suc p) ≡ max c3 (c1 + 1)
    raised p c1 c3 e h = omega arith

join_third : (a : Bool) (x y c2 c3 : ℕ) → x ≡ 0 → max 1 y ≡ max c3 (suc (counted (not a) c2)) → 2 ≤ c3 →
    (max x y ≡ cond a c3 (max c3 (c2 + 1))) × (2 ≤ cond a c3 (max c3 (c2 + 1)))
join_third true x y c2 c3 e f h = omega arith
join_third false x y c2 c3 e f h = omega arith

costs_join : (o : Kind) (l r : Tag) {p q s x y z p' q' s' x' y' z' : ℕ} →
    Costs l p q s → Costs r p' q' s' → Left (alike o l) p q s x y z → Right (alike o r) p' q' s' x' y' z' →
    Costs (priced o l r) (max x x') (max y y') (max z z')
costs_join o l r {z} {z'} cl cr gl gr =
    record {
      first = join_first (alike o l) _ _ _ _ _ _ cl.first cl.second gl.first gr.first;
      second = join_second _ _ _ _ _ _ _ cr.first (rw (cl.second, cl.third) at gl.second) (rw cr.second at gr.second) cl.ends;
      third = third.0;
      ends = third.1;
    }
  where
    third : (max z z' ≡ (priced o l r).c3) × (2 ≤ (priced o l r).c3)
    third = join_third (alike o r) z z' r.c2 r.c3 gl.third (rw (cr.second, cr.third) at gr.third) cr.ends

most_join : (s : Sort) (o : Kind) (l r : Expr) →
    most s (gap (join o l r)) (literals l + literals r) ≡
    max (most s (λ k. on_left (alike o (price l)) (gap l k)) (literals l)) (most s (λ k. on_right (alike o (price r)) (gap r k)) (literals r))
most_join s o l r =
    greatest_parts _ _ _ (literals l) (literals r) (λ k h. ap (weight s) (gap_left o l r k h)) (λ k. ap (weight s) (gap_right o l r k))

costs : (e : Expr) → Costs (price e) (most neither (gap e) (literals e)) (most one (gap e) (literals e)) (most both (gap e) (literals e))
unfolding price literals gap greatest_below
costs (literal x) = omega arith
costs (join o l r) =
    rw (most_join neither o l r, most_join one o l r, most_join both o l r)
    (costs_join o (price l) (price r) (costs l) (costs r) (left_gaps (alike o (price l)) (gap l) (literals l)) (right_gaps (alike o (price r)) (gap r) (literals r)))

-- all sorts together
count_more : (s : Sort) (c x p q r : ℕ) → x ≡ max p (max q r) →
    max x c ≡ max (max p (among neither s c)) (max (max q (among one s c)) (max r (among both s c)))
count_more neither c x p q r h = simp max-zero (omega arith)
count_more one c x p q r h = simp max-zero (omega arith)
count_more both c x p q r h = simp max-zero (omega arith)

count_sorts : (g : ℕ → Gap) (n : ℕ) → greatest_below (λ k. (g k).count) n ≡ max (most neither g n) (max (most one g n) (most both g n))
unfolding greatest_below
count_sorts g zero = refl
count_sorts g (suc n) = count_more (g n).sort (g n).count _ _ _ _ (count_sorts g n)

pub greatest_gaps : (e : Expr) → greatest (price e) ≡ greatest_below (λ k. (gap e k).count) (literals e)
greatest_gaps e = rw (count_sorts (gap e) (literals e)) (omega (arith, costs e))
