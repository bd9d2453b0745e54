-- Three costs put in order by insertion are their greatest, middle and least; an array of three compares place by place; and an
-- expression of n literals has costs of at most n + 1. Assumes nothing.
use Prim.Native.Nat.{ℕ, ◌+◌, ◌≤◌, ◌<◌, max, min}
use mathlib.Core.Path.{◌≡◌, refl, ap, ◌∙◌}
use mathlib.Core.Bool.{Bool, true, false, cond, not, ◌&&◌, ◌||◌, beq}
use mathlib.Core.List.{List, [], ◌∷◌}
use native.Mathlib.Decide.{dec_lt}
use native.Mathlib.Omega.{arith}
use native.Mathlib.Nat.{max-le}
use lib.Dec.{ltb, eqb}
use lib.ListN.{length, get_or}
use borrow.Author.Tests.{lt-ltb, le-ltb}
use Rattle.std.proofs.Common.{Ordering, Option, Some, Less, Equal, Greater}
use Rattle.std.specs.Ordering.{nat_cmp, is_lt, is_some_and, partial_lt, partial_ordering_then}
use Rattle.std.specs.Cmp.Lexicographic.{slice_partial_cmp}
use Rattle.formula.specs.Formula.{Kind, union, intersection, Expr, literal, join, literals}
use Rattle.formula.proofs.Marks.{literals_some}
use Rattle.turning.specs.Tags.{Tag, mark_of, alike, priced, price, inserted, row, smaller}
use Rattle.turning.specs.Code.Coded.{joining, Small}

-- the tag of an operator, cost by cost
pub priced_joining : (m : Bool) (l r : Tag) {la ra : Bool} {f c1 own x y z c2 h c3 : ℕ}
    → la ≡ beq l.mark m → ra ≡ beq r.mark m
    → f ≡ max l.c1 l.c2 → c1 ≡ cond la l.c1 f
    → own ≡ max l.c3 (r.c1 + 1) → x ≡ cond la l.c2 0 → y ≡ cond ra r.c2 0 → z ≡ max x y → c2 ≡ max own z
    → h ≡ max r.c3 (r.c2 + 1) → c3 ≡ cond ra r.c3 h
    → record { mark = m; c1 = c1; c2 = c2; c3 = c3 } ≡ priced (joining m) l r
priced_joining true l r ela era ef e1 eown ex ey ez e2 eh e3 = rw (e1, e2, e3, ef, eown, ez, ex, ey, eh, ela, era)
priced_joining false l r ela era ef e1 eown ex ey ez e2 eh e3 = rw (e1, e2, e3, ef, eown, ez, ex, ey, eh, ela, era)

pub joining_mark : (k : Kind) → joining (mark_of k) ≡ k
joining_mark union = refl
joining_mark intersection = refl

-- a child that is marked is alike where its parent is, and the other where it is not
pub alike_marked : (m : Bool) → beq true m ≡ m
alike_marked true = refl
alike_marked false = refl

pub alike_unmarked : (m : Bool) → beq false m ≡ not m
alike_unmarked true = refl
alike_unmarked false = refl

-- an array of three is its three entries
pub three : (xs : List ℕ) → length xs ≡ 3 → xs ≡ get_or xs 0 0 ∷ get_or xs 1 0 ∷ get_or xs 2 0 ∷ []
three [] e = absurd (omega arith)
three (a ∷ []) e = absurd (omega arith)
three (a ∷ b ∷ []) e = absurd (omega arith)
three (a ∷ b ∷ c ∷ []) e = refl
three (a ∷ b ∷ c ∷ d ∷ xs) e = absurd (omega arith)

-- the first place where two rows differ decides, as the order of arrays has it
decided : (less same : Bool) (rest : Option Ordering) (later : Bool) → is_some_and is_lt rest ≡ later
    → is_some_and is_lt (partial_ordering_then (Some (cond less Less (cond same Equal Greater))) rest) ≡ (less || (same && later))
decided true same rest later h = refl
decided false true rest later h = h
decided false false rest later h = refl

pub ordered : (a b : List ℕ) → length a ≡ length b → partial_lt (slice_partial_cmp (λ x y. Some (nat_cmp x y))) a b ≡ smaller a b
unfolding smaller
ordered [] [] e = refl
ordered [] (y ∷ b) e = absurd (omega arith)
ordered (x ∷ a) [] e = absurd (omega arith)
ordered (x ∷ a) (y ∷ b) e = decided (ltb x y) (eqb x y) (slice_partial_cmp (λ x y. Some (nat_cmp x y)) a b) (smaller a b) (ordered a b (omega arith))

same_three : {a b c d e f : ℕ} → a ≡ d → b ≡ e → c ≡ f → ◌≡◌ {A = List ℕ} (a ∷ b ∷ c ∷ []) (d ∷ e ∷ f ∷ [])
same_three p q r = cc

inserted_one : (c d : ℕ) → inserted c (d ∷ []) ≡ max c d ∷ min c d ∷ []
unfolding inserted
inserted_one c d =
    elim (dec_lt c d) [
      | yes h ↦ let p : max c d ≡ d = omega arith in let q : min c d ≡ c = omega arith in rw (lt-ltb c d h, p, q)
      | no h ↦ let p : max c d ≡ c = omega arith in let q : min c d ≡ d = omega arith in rw (le-ltb c d (omega arith), p, q)
    ]

inserted_two : (c d e : ℕ) → e ≤ d → inserted c (d ∷ e ∷ []) ≡ max c d ∷ max e (min c d) ∷ min e c ∷ []
unfolding inserted
inserted_two c d e h =
    elim (dec_lt c d) [
      | yes p ↦ rw (lt-ltb c d p) (ap (λ (s : List ℕ). d ∷ s) (inserted_one c e) ∙ same_three (omega arith) (omega arith) (omega arith))
      | no p ↦ rw (le-ltb c d (omega arith)) (same_three (omega arith) (omega arith) (omega arith))
    ]

-- "The three costs are put in order, largest first"
pub row_three : (t : Tag) → row t ≡ max t.c1 (max t.c2 t.c3) ∷ max (min t.c2 t.c3) (min t.c1 (max t.c2 t.c3)) ∷ min (min t.c2 t.c3) t.c1 ∷ []
unfolding row inserted
row_three t = ap (inserted t.c1) (inserted_one t.c2 t.c3) ∙ inserted_two t.c1 (max t.c2 t.c3) (min t.c2 t.c3) (omega arith)

-- costs that n literals can make
pub record Roomy (n : ℕ) (t : Tag) : Type 0 where
  pub first : t.c1 ≤ n
  pub second : t.c2 ≤ n
  pub third : t.c3 ≤ n + 1

cond_le : (test : Bool) (a b z : ℕ) → a ≤ z → b ≤ z → cond test a b ≤ z
cond_le true a b z p q = p
cond_le false a b z p q = q

roomy_priced : (k : Kind) (l r : Tag) (m n : ℕ) → 1 ≤ m → 1 ≤ n → Roomy m l → Roomy n r → Roomy (m + n) (priced k l r)
roomy_priced k l r m n hm hn a b =
    record {
      first = cond_le (alike k l) _ _ _ (omega arith) (omega arith);
      second =
          max-le
          (omega arith)
          (max-le (cond_le (alike k l) _ _ _ (omega arith) (omega arith)) (cond_le (alike k r) _ _ _ (omega arith) (omega arith)));
      third = cond_le (alike k r) _ _ _ (omega arith) (omega arith);
    }

pub roomy_price : (e : Expr) → Roomy (literals e) (price e)
unfolding price literals
roomy_price (literal x) = record { first = omega arith; second = omega arith; third = omega arith }
roomy_price (join k l r) = roomy_priced k (price l) (price r) (literals l) (literals r) (literals_some l) (literals_some r) (roomy_price l) (roomy_price r)

pub small_roomy : {n : ℕ} (t : Tag) → n < 65534 → Roomy n t → Small t
small_roomy t h r = omega arith
