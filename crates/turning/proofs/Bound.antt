-- A cost comes from one child's, or is one more than the right child's; there the other order, whose greatest cost is not the
-- lower, has one as high, so that both children are large, and their sizes add up to twice. Assumes nothing.
use Prim.Native.Nat.{ℕ, zero, suc, ◌+◌, ◌*◌, ◌^◌, ◌≤◌, max}
use mathlib.Core.Path.{◌≡◌, refl}
use mathlib.Core.Bool.{Bool, true, false, cond}
use native.Mathlib.Nat.{add_comm, le_trans, le_refl, max-le, le-max_left, le-max_right}
use native.Mathlib.Decide.{dec_le}
use native.Mathlib.Omega.{arith}
use Rattle.formula.specs.Formula.{Kind, Expr, literal, join, literals}
use Rattle.formula.specs.Marks.{placed}
use Rattle.turning.specs.Tags.{Tag, alike, counted, priced, price, greatest}
use Rattle.turning.specs.Turning.{exchanges, turned}
use Rattle.formula.proofs.Marks.{literals_some}
use Rattle.turning.proofs.Rows.{greatest_exchanged, greatest_kept}
use Rattle.turning.proofs.Turned.{turned_literal, turned_join}

-- a cost that n literals allow: one of d + 2 or more takes 3 * 2 ^ d of them
abbrev pub Within : ℕ → ℕ → Type 0
Within n c = (d : ℕ) → d + 2 ≤ c → 3 * 2 ^ d ≤ n

-- the three inequalities, of a tag over n literals
pub record Bounded (n : ℕ) (t : Tag) : Type 0 where
  pub first : Within n t.c1
  pub second : Within (n + 1) t.c2
  pub third : Within (n + 2) t.c3

within_more : {n m c : ℕ} → n ≤ m → Within n c → Within m c
within_more p w d h = le_trans (w d h) p

within-max : {n : ℕ} (a b : ℕ) → Within n a → Within n b → Within n (max a b)
within-max a b v w d h = elim (dec_le a b) [ yes p ↦ w d (omega arith) | no p ↦ v d (omega arith) ]

-- one more than a cost that m literals allow, where a cost that n allow is as high, or a cost that both together allow is higher
within-suc : {n m : ℕ} (a b c : ℕ) → 3 ≤ n + m → Within (n + m) a → Within n b → Within m c → c + 1 ≤ max a (b + 1) → Within (n + m) (c + 1)
within-suc a b c s u v w p zero h = omega arith
within-suc a b c s u v w p (suc d) h =
    elim (dec_le (suc d + 2) a) [ yes q ↦ u (suc d) q | no q ↦ omega (arith, v d (omega arith), w d (omega arith)) ]

-- a cost that counts only by a test
within-cond : {n : ℕ} (t : Bool) (a b : ℕ) {g : ℕ} → cond t a (max a b) ≤ g → Within n a → (b ≤ g → Within n b) →
    Within n (cond t a (max a b))
within-cond true a b h v w = v
within-cond false a b h v w = within-max a b v (w (omega arith))

within_counted : {n c : ℕ} (t : Bool) → Within n c → Within n (counted t c)
within_counted true w = w
within_counted false w = λ d h. absurd (omega arith)

counted_le : (t : Bool) (c : ℕ) → counted t c ≤ c
counted_le true c = omega arith
counted_le false c = omega arith

kept_le : (t : Bool) (a b : ℕ) → cond t a (max a b) ≤ max a b
kept_le true a b = omega arith
kept_le false a b = omega arith

within_greatest : {n : ℕ} {t : Tag} → Bounded n t → Within (n + 2) (greatest t)
within_greatest b =
    within-max _ _ (within_more (omega arith) b.first) (within-max _ _ (within_more (omega arith) b.second) b.third)

-- an operator's greatest cost is a child's, or one more than the right child's first or second
greatest_priced : (k : Kind) (l r : Tag) {g : ℕ} → greatest l ≤ g → greatest r ≤ g → max r.c1 r.c2 + 1 ≤ g →
    greatest (priced k l r) ≤ g
greatest_priced k l r p q h =
    max-le (le_trans (kept_le (alike k l) l.c1 l.c2) (omega arith))
    (max-le
    (max-le (omega arith)
    (max-le (le_trans (counted_le (alike k l) l.c2) (omega arith)) (le_trans (counted_le (alike k r) r.c2) (omega arith))))
    (le_trans (kept_le (alike k r) r.c3 (r.c2 + 1)) (omega arith)))

module _ (k : Kind) (l r : Tag) (n m : ℕ) (bl : Bounded n l) (br : Bounded m r) (pl : 1 ≤ n) (pr : 1 ≤ m)
    (least : greatest (priced k l r) ≤ greatest (priced k r l)) where
  -- one more than a cost of the right child's, where the operator has a cost as high
  within_right : (s c : ℕ) → Within (m + s) c → c + 1 ≤ greatest (priced k l r) → Within (n + m + (s + 1)) (c + 1)
  within_right s c w h =
      within_more {n = n + 1 + (m + s)} (omega arith)
      (within-suc (max (greatest r) (greatest l)) (max l.c1 l.c2) c (omega arith)
      (within-max _ _ (within_more (omega arith) (within_greatest br)) (within_more (omega arith) (within_greatest bl)))
      (within-max _ _ (within_more (omega arith) bl.first) bl.second) w
      (le_trans h
      (le_trans least
      (greatest_priced k r l (le_trans (le-max_left _ _) (le-max_left _ _)) (le_trans (le-max_right _ _) (le-max_left _ _)) (le-max_right _ _)))))

  bounded_priced : Bounded (n + m) (priced k l r)
  bounded_priced =
      record {
        first =
            within-cond (alike k l) _ _ (le_refl _) (within_more (omega arith) bl.first) (λ h. within_more (omega arith) bl.second);
        second =
            within-max _ _
            (within-max _ _ (within_more (omega arith) bl.third)
            (within_right 0 r.c1 (within_more (omega arith) br.first)
            (le_trans (le_trans (le-max_right _ _) (le-max_left _ _)) (le_trans (le-max_left _ _) (le-max_right _ _)))))
            (within-max _ _ (within_counted (alike k l) (within_more (omega arith) bl.second)) (within_counted (alike k r) (within_more (omega arith) br.second)));
        third =
            within-cond (alike k r) _ _ (le_trans (le-max_right _ _) (le-max_right _ _)) (within_more (omega arith) br.third)
            (within_right 1 r.c2 br.second);
      }

bounded_placed : (k : Kind) (l r : Expr) (n m : ℕ) → Bounded n (price l) → Bounded m (price r) → 1 ≤ n → 1 ≤ m
    → Bounded (n + m) (price (placed (exchanges k (price l) (price r)) k l r))
unfolding price
bounded_placed k l r n m bl br pl pr = go (exchanges k (price l) (price r)) refl
  where
    go : (t : Bool) → exchanges k (price l) (price r) ≡ t → Bounded (n + m) (price (placed t k l r))
    go true e = rw (add_comm n m) (bounded_priced k (price r) (price l) m n br bl pr pl (greatest_exchanged k (price l) (price r) e))
    go false e = bounded_priced k (price l) (price r) n m bl br pl pr (greatest_kept k (price l) (price r) e)

within_two : Within 3 2
within_two zero h = omega arith
within_two (suc d) h = absurd (omega arith)

pub bounded_turned : (e : Expr) → Bounded (literals e) (price (turned e))
unfolding literals price
bounded_turned (literal x) = rw turned_literal record { first = λ d h. absurd (omega arith); second = λ d h. absurd (omega arith); third = within_two }
bounded_turned (join k l r) =
    rw turned_join
    (bounded_placed k (turned l) (turned r) (literals l) (literals r) (bounded_turned l) (bounded_turned r) (literals_some l) (literals_some r))

-- "2 labels suffice to 3 literals, 3 to 9, 4 to 21, ..": no cost is over j, where 2 * n + 6 is at most 3 * 2 ^ j
pub greatest_at_most : (e : Expr) (j : ℕ) → 2 * literals e + 6 ≤ 3 * 2 ^ j → greatest (price (turned e)) ≤ j
greatest_at_most e zero h = absurd (omega arith)
greatest_at_most e (suc d) h =
    elim (dec_le (d + 2) (greatest (price (turned e)))) [ yes p ↦ absurd (omega (arith, within_greatest (bounded_turned e) d p)) | no p ↦ omega arith ]
