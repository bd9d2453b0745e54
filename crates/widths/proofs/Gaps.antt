-- Past its last gate an expression names its two exits and no other place; so a left child's gap awaits what the child awaits
-- there, and a right child's the node's first exit besides, which is how the tag's costs come about. Assumes nothing.
use Prim.Native.Nat.{ℕ, zero, suc, ◌+◌, ◌-◌, ◌≤◌, ◌<◌}
use mathlib.Core.Path.{◌≡◌, refl, sym, ap, ap₂, ◌∙◌, fun_ext}
use mathlib.Core.Bool.{Bool, true, false, not, cond, ◌&&◌, ◌||◌, beq, or_assoc, or_self, or-false, or-true, or_self_left}
use mathlib.Core.List.{List, [], ◌∷◌, ◌++◌}
use native.Mathlib.Nat.{add_assoc}
use native.Mathlib.Decide.{dec_lt}
use native.Mathlib.Omega.{arith}
use lib.Dec.{ltb, eqb}
use lib.ListN.{length, length-append, take, drop, take-append-drop}
use lib.Seq.{take-append-le, take-append-add}
use borrow.Author.Tests.{lt-ltb, le-ltb, eq-eqb, ne_eqb}
use Rattle.terms.specs.Terms.{Place}
use Rattle.formula.specs.Formula.{Literal, Kind, union, intersection, Expr, literal, join, literals}
use Rattle.formula.proofs.Marks.{literals_some}
use Rattle.turning.specs.Tags.{mark_of, price, greatest}
use Rattle.weaving.specs.Gates.{Gate}
use Rattle.weaving.specs.Twins.Gates.{gates_from}
use Rattle.weaving.specs.Awaited.{names, awaited, count_below, waiting, most_awaited}
use Rattle.widths.proofs.Counts.{count-or, count_none}
use Rattle.widths.proofs.GapCosts.{Sort, neither, one, both, named, gap, gap_left, gap_right, greatest_same, greatest_gaps}

names-append : (p : Place) (gs hs : List Gate) → names p (gs ++ hs) ≡ (names p gs || names p hs)
unfolding names
names-append p [] hs = refl
names-append p (g ∷ gs) hs = rw (names-append p gs hs) (sym (or_assoc (eqb p g.true_place || eqb p g.false_place) (names p gs) (names p hs)))

-- the exits by marks: a node of the mark names that one first
abbrev exit : Place → Place → Bool → Place
exit t f true = f
exit t f false = t

-- the exits of an operator's left child: the operator's first exit, and the right child's first gate
abbrev kept : Bool → Place → (Bool → Place) → Bool → Place
kept u m x v = cond (beq u v) (x v) m

abbrev left_exits : Kind → Expr → Place → (Bool → Place) → Bool → Place
left_exits o l b = kept (mark_of o) (b + literals l)

abbrev gates_by : Expr → Place → (Bool → Place) → List Gate
gates_by e b x = gates_from e b (x false) (x true)

abbrev left_gates : Kind → Expr → Place → (Bool → Place) → List Gate
left_gates o l b x = gates_by l b (left_exits o l b x)

gates_join : (o : Kind) (l r : Expr) (b : Place) (x : Bool → Place) →
    gates_by (join o l r) b x ≡ left_gates o l b x ++ gates_by r (b + literals l) x
unfolding gates_from
gates_join union l r b x = refl
gates_join intersection l r b x = refl

length-gates : (e : Expr) (b : Place) (x : Bool → Place) → length (gates_by e b x) ≡ literals e
unfolding gates_from literals
length-gates (literal y) b x = refl
length-gates (join o l r) b x =
    ap length (gates_join o l r b x) ∙ length-append (left_gates o l b x) _ ∙
    ap₂ ◌+◌ (length-gates l b (left_exits o l b x)) (length-gates r (b + literals l) x)

kept_past : (u : Bool) (m : Place) (x : Bool → Place) (p : Place) → m < p →
    (eqb p (kept u m x false) || eqb p (kept u m x true)) ≡ eqb p (x u)
kept_past true m x p h = rw (ne_eqb p m (λ e. omega arith))
kept_past false m x p h = rw (ne_eqb p m (λ e. omega arith)) (or-false _)

or_second : (a b : Bool) → (b || (a || b)) ≡ (a || b)
or_second true b = or-true b
or_second false b = or_self b

first_too : (u : Bool) (test : Bool → Bool) → (test u || (test false || test true)) ≡ (test false || test true)
first_too true test = or_second (test false) (test true)
first_too false test = or_self_left (test false) (test true)

-- past its last gate an expression names its exits alone
names_past : (e : Expr) (b : Place) (x : Bool → Place) (p : Place) → b + literals e ≤ p →
    names p (gates_by e b x) ≡ (eqb p (x false) || eqb p (x true))
unfolding names gates_from literals
names_past (literal y) b x p h = or-false _
names_past (join o l r) b x p h =
    ap (names p) (gates_join o l r b x) ∙ names-append p (left_gates o l b x) (gates_by r (b + literals l) x) ∙
    ap₂ ◌||◌
    (names_past l b (left_exits o l b x) p (omega arith) ∙ kept_past (mark_of o) (b + literals l) x p (omega (arith, literals_some r)))
    (names_past r (b + literals l) x p (omega arith)) ∙
    first_too (mark_of o) (λ v. eqb p (x v))

or-none : (a b : Bool) → (a || b) ≡ false → a ≡ false
or-none true b h = h
or-none false b h = refl

names-take : (p : Place) (n : ℕ) (gs : List Gate) → names p gs ≡ false → names p (take n gs) ≡ false
names-take p n gs h = or-none _ _ (sym (names-append p (take n gs) (drop n gs)) ∙ ap (names p) (take-append-drop n gs) ∙ h)

-- the exits of an expression that ends before c: two places at or beyond c, and below n
record Exits (c : Place) (x : Bool → Place) (n : ℕ) : Type 0 where
  beyond : (v : Bool) → c ≤ x v
  below : (v : Bool) → x v < n
  apart : x false ≡ x true → ⊥

eqb_exits : {c n : ℕ} {x : Bool → Place} → Exits c x n → (u v : Bool) → eqb (x v) (x u) ≡ beq u v
eqb_exits {x} h true true = eq-eqb (x true) (x true) refl
eqb_exits {x} h true false = ne_eqb (x false) (x true) h.apart
eqb_exits {x} h false true = ne_eqb (x true) (x false) (λ e. h.apart (sym e))
eqb_exits {x} h false false = eq-eqb (x false) (x false) refl

exits_left : {c n : ℕ} {x : Bool → Place} (u : Bool) (m : Place) → m < c → Exits c x n → Exits m (kept u m x) n
exits_left {n} {x} u m p h =
    record {
      beyond = λ v. either (λ q. m ≤ q) v (omega (arith, h.beyond v)) (omega arith);
      below = λ v. either (λ q. q < n) v (h.below v) (omega (arith, h.beyond v, h.below v));
      apart = elim u as (λ (t : Bool). kept t m x false ≡ kept t m x true → ⊥) [ true ↦ λ e. omega (arith, h.beyond true) | false ↦ λ e. omega (arith, h.beyond false) ];
    }
  where
    either : (P : Place → Type 0) (v : Bool) → P (x v) → P m → P (kept u m x v)
    either P v h k = elim (beq u v) as (λ t. P (cond t (x v) m)) [ true ↦ h | false ↦ k ]

-- the gap after the k-th gate is as it was made out: which exits are named, and how many places below n are awaited
record Seen (e : Expr) (b : Place) (x : Bool → Place) (n k : ℕ) : Type 0 where
  exits : (v : Bool) → names (x v) (take (suc k) (gates_by e b x)) ≡ named (beq (price e).mark v) (gap e k).sort
  count : (m : ℕ) → m ≡ b + k → count_below (λ p. ltb m p && names p (take (suc k) (gates_by e b x))) n ≡ (gap e k).count

-- what the sorts of the children's gaps as the node's say: of the node's first exit if `same`, else of its second
named_left : (same t : Bool) → named same (cond t one neither) ≡ (same && t)
named_left true true = refl
named_left true false = refl
named_left false true = refl
named_left false false = refl

named_right : (same t : Bool) → named same (cond t both one) ≡ (same || t)
named_right true true = refl
named_right true false = refl
named_right false true = refl
named_right false false = refl

-- a child's exit, by the node's mark u and the child's mark c
other_mark : (u v c : Bool) (s : Sort) → (beq u v || named (not (beq c u)) s) ≡ (beq u v || named (beq c v) s)
other_mark true true c s = refl
other_mark true false true s = refl
other_mark true false false s = refl
other_mark false true true s = refl
other_mark false true false s = refl
other_mark false false c s = refl

kept_named : (u v c : Bool) (s : Sort) (x : Bool → Place) (m : Place) (hs : List Gate) →
    ((w : Bool) → names (kept u m x w) hs ≡ named (beq c w) s) → (beq u v ≡ false → names (x v) hs ≡ false) →
    names (x v) hs ≡ (beq u v && named (beq c u) s)
kept_named true true c s x m hs p q = p true
kept_named true false c s x m hs p q = q refl
kept_named false true c s x m hs p q = q refl
kept_named false false c s x m hs p q = p false

module _ (o : Kind) (l r : Expr) (b : Place) (x : Bool → Place) (n : ℕ) (h : Exits (b + (literals l + literals r)) x n) (k : ℕ) where
  -- what the left child's gates name past them
  names_lefts : (p : Place) → b + literals l < p → names p (left_gates o l b x) ≡ eqb p (x (mark_of o))
  names_lefts p q = names_past l b (left_exits o l b x) p (omega arith) ∙ kept_past (mark_of o) (b + literals l) x p q

  exit_lefts : (v : Bool) → names (x v) (left_gates o l b x) ≡ beq (mark_of o) v
  exit_lefts v = names_lefts (x v) (omega (arith, h.beyond v, literals_some r)) ∙ eqb_exits h (mark_of o) v

  seen_left : k < literals l → Seen l b (left_exits o l b x) n k → Seen (join o l r) b x n k
  unfolding price
  seen_left q i =
      record {
        exits =
            λ v.
            rw (gates_join o l r b x, gap_left o l r k q, until_left, named_left)
            (kept_named (mark_of o) v (price l).mark (gap l k).sort x (b + literals l) (take (suc k) (left_gates o l b x)) i.exits
            (λ e. names-take (x v) (suc k) (left_gates o l b x) (exit_lefts v ∙ e)));
        count = λ m e. rw (gates_join o l r b x, gap_left o l r k q, until_left) (i.count m e);
      }
    where
      until_left : take (suc k) (left_gates o l b x ++ gates_by r (b + literals l) x) ≡ take (suc k) (left_gates o l b x)
      until_left = take-append-le (suc k) (left_gates o l b x) _ (omega (arith, length-gates l b (left_exits o l b x)))

  -- past a gate of the right child the left child's gates name the node's first exit
  awaited_right : k < literals r → (hs : List Gate) (m p : Place) → m ≡ b + literals l + k →
      (ltb m p && names p (left_gates o l b x ++ hs)) ≡ (eqb p (x (mark_of o)) || (ltb m p && names p hs))
  awaited_right q hs m p e =
      elim (dec_lt m p) [
        | yes z ↦ rw (lt-ltb m p z, names-append p (left_gates o l b x) hs, names_lefts p (omega arith))
        | no z ↦ rw (le-ltb m p (omega arith), ne_eqb p (x (mark_of o)) (λ d. omega (arith, h.beyond (mark_of o))))
      ]

  seen_right : k < literals r → Seen r (b + literals l) x n k → Seen (join o l r) b x n (literals l + k)
  unfolding price
  seen_right q i =
      record {
        exits =
            λ v.
            rw (gates_join o l r b x, gap_right o l r k, until_right, names-append, exit_lefts v, i.exits v, named_right)
            (sym (other_mark (mark_of o) v (price r).mark (gap r k).sort));
        count =
            λ m e.
            rw (
              gates_join o l r b x,
              gap_right o l r k,
              until_right,
              fun_ext (λ p. awaited_right q rights m p (omega arith)),
              count-or (x (mark_of o)) (λ p. ltb m p && names p rights) n (h.below (mark_of o)),
              lt-ltb m (x (mark_of o)) (omega (arith, h.beyond (mark_of o))),
              i.exits (mark_of o),
              i.count m (omega arith),
            );
      }
    where
      rights : List Gate
      rights = take (suc k) (gates_by r (b + literals l) x)

      past : suc (literals l + k) ≡ length (left_gates o l b x) + suc k
      past = omega (arith, length-gates l b (left_exits o l b x))

      until_right : take (suc (literals l + k)) (left_gates o l b x ++ gates_by r (b + literals l) x) ≡ left_gates o l b x ++ rights
      until_right = rw past (take-append-add (left_gates o l b x) _ (suc k))

seen_literal : (y : Literal) (b : Place) (x : Bool → Place) (n : ℕ) → Exits (b + 1) x n → Seen (literal y) b x n 0
unfolding names gates_from gap price
seen_literal y b x n h =
    record {
      exits = elim [ true ↦ rw (eqb_exits h false true, eqb_exits h true true) | false ↦ rw (eqb_exits h false false) ];
      count =
          λ m e.
          rw (
            fun_ext (λ p. awaited_exits m p (omega arith)),
            count-or (x false) (λ p. eqb p (x true) || false) n (h.below false),
            count-or (x true) (λ p. false) n (h.below true),
            count_none n,
            eqb_exits h true false,
          );
    }
  where
    awaited_exits : (m p : Place) → m ≡ b →
        (ltb m p && ((eqb p (x false) || eqb p (x true)) || false)) ≡ (eqb p (x false) || (eqb p (x true) || false))
    awaited_exits m p e =
        elim (dec_lt m p) [
          | yes z ↦ rw (lt-ltb m p z) (or_assoc (eqb p (x false)) (eqb p (x true)) false)
          | no z ↦ rw (le-ltb m p (omega arith), ne_eqb p (x false) (λ d. omega (arith, h.beyond false)), ne_eqb p (x true) (λ d. omega (arith, h.beyond true)))
        ]

seen : (e : Expr) (b : Place) (x : Bool → Place) (n k : ℕ) → k < literals e → Exits (b + literals e) x n → Seen e b x n k
unfolding literals
seen (literal y) b x n zero q h = seen_literal y b x n h
seen (literal y) b x n (suc k) q h = absurd (omega arith)
seen (join o l r) b x n k q h =
    elim (dec_lt k (literals l)) [
      | yes z ↦
          seen_left o l r b x n h k z
          (seen l b (left_exits o l b x) n k z (exits_left (mark_of o) (b + literals l) (omega (arith, literals_some r)) h))
      | no z ↦
          let j : ℕ = k - literals l in
          let s : literals l + j ≡ k = omega arith in
          rw s at (seen_right o l r b x n h j (omega arith) (seen r (b + literals l) x n j (omega arith) (rw add_assoc h)))
    ]

-- the whole: its exits are True and False, the last two places of all
module _ (e : Expr) where
  abbrev ends : Bool → Place
  ends = exit (literals e) (suc (literals e))

  exits_ends : Exits (0 + literals e) ends (suc (suc (literals e)))
  exits_ends =
      record {
        beyond = elim [ true ↦ omega arith | false ↦ omega arith ];
        below = elim [ true ↦ omega arith | false ↦ omega arith ];
        apart = λ d. omega arith;
      }

  waiting_gap : (k : ℕ) → k < literals e → waiting (gates_from e 0 (literals e) (suc (literals e))) k ≡ (gap e k).count
  unfolding waiting awaited
  waiting_gap k h = rw (length-gates e 0 ends) ((seen e 0 ends (suc (suc (literals e))) k h exits_ends).count k (omega arith))

  pub greatest_awaited : greatest (price e) ≡ most_awaited (gates_from e 0 (literals e) (suc (literals e)))
  unfolding most_awaited
  greatest_awaited = rw (greatest_gaps e, length-gates e 0 ends) (sym (greatest_same _ _ (literals e) waiting_gap))
