-- The positive form of what was read, sense by sense: complements flip the sense, and operators change places with it.
-- Assumes nothing.
use Prim.Native.Nat.{ℕ, zero, suc, ◌+◌, ◌*◌, ◌≤◌, ◌<◌}
use mathlib.Core.Path.{◌≡◌, refl, sym, ap, ◌∙◌}
use mathlib.Core.Bool.{Bool, true, false, not}
use native.Mathlib.Nat.{le_refl}
use native.Mathlib.Omega.{arith}
use lib.ListN.{set, length-set}
use lib.Seq.{get_or-set_other}
use Rattle.terms.specs.Terms.{Primitive}
use Rattle.formula.specs.Formula.{Kind, union, intersection, Expr, join, literals}
use Rattle.formula.specs.Typed.{Typed, number, complement, plus, times, minus, numbers, occurs, positive, negative}
use Rattle.formula.specs.Code.Held.{nodes, Holds}
use Rattle.formula.proofs.Held.{nodes_literals, holds_kept, intersects}
use Rattle.grammar.specs.declared.Operator.{Operator}
use Rattle.grammar.specs.declared.Operator.TheVariants.{Plus, Times, Minus}
use Rattle.grammar.specs.Twins.Reader.{applied, joined, Waiting, complemented, product_with}
use Rattle.grammar.proofs.Complete.{complemented_complement}
use Rattle.text.specs.Code.Readers.{right_sense, intersecting, more, complementing, flipped, form, Slots, slots, Kept}

pub numbers_some : (e : Typed) → 1 ≤ numbers e
unfolding numbers
numbers_some (number p) = le_refl 1
numbers_some (complement a) = numbers_some a
numbers_some (plus a b) = let h = numbers_some a in omega arith
numbers_some (times a b) = let h = numbers_some a in omega arith
numbers_some (minus a b) = let h = numbers_some a in omega arith

-- a form has a literal a number
pub form_literals : (sense : Bool) (k : ℕ) (e : Typed) → literals (form sense k e) ≡ numbers e
unfolding literals numbers positive negative
form_literals true k (number p) = refl
form_literals true k (complement a) = form_literals false k a
form_literals true k (plus a b) = omega (arith, form_literals true k a, form_literals true (k + numbers a) b)
form_literals true k (times a b) = omega (arith, form_literals true k a, form_literals true (k + numbers a) b)
form_literals true k (minus a b) = omega (arith, form_literals true k a, form_literals false (k + numbers a) b)
form_literals false k (number p) = refl
form_literals false k (complement a) = form_literals true k a
form_literals false k (plus a b) = omega (arith, form_literals false k a, form_literals false (k + numbers a) b)
form_literals false k (times a b) = omega (arith, form_literals false k a, form_literals false (k + numbers a) b)
form_literals false k (minus a b) = omega (arith, form_literals false k a, form_literals true (k + numbers a) b)

pub form_nodes : (sense : Bool) (k : ℕ) (e : Typed) → nodes (form sense k e) + 1 ≡ 2 * numbers e
form_nodes sense k e = omega (arith, nodes_literals (form sense k e), form_literals sense k e)

pub form_number : (sense : Bool) (k : ℕ) (p : Primitive) → form sense k (number p) ≡ occurs p sense k
unfolding positive negative
form_number true k p = refl
form_number false k p = refl

pub form_complement : (sense : Bool) (k : ℕ) (e : Typed) → form sense k (complement e) ≡ form (not sense) k e
unfolding positive negative
form_complement true k e = refl
form_complement false k e = refl

-- an intersection in the sense true, and a union in the other; and the other way round
abbrev pub kind_in : Bool → Kind
kind_in true = intersection
kind_in false = union

pub kind_number : (sense : Bool) → intersects (kind_in sense) ≡ sense
kind_number true = refl
kind_number false = refl

pub form_applied : (o : Operator) (sense : Bool) (k : ℕ) (a b : Typed)
    → form sense k (applied o a b) ≡ join (kind_in (intersecting o sense)) (form sense k a) (form (right_sense o sense) (k + numbers a) b)
unfolding positive negative
form_applied Plus true k a b = refl
form_applied Plus false k a b = refl
form_applied Times true k a b = refl
form_applied Times false k a b = refl
form_applied Minus true k a b = refl
form_applied Minus false k a b = refl

-- so many complements
flipped_not : (c : ℕ) (sense : Bool) → flipped c (not sense) ≡ not (flipped c sense)
unfolding flipped
flipped_not zero sense = refl
flipped_not (suc c) sense = ap not (flipped_not c sense)

pub form_complemented : (c : ℕ) (sense : Bool) (k : ℕ) (e : Typed) → form sense k (complemented c e) ≡ form (flipped c sense) k e
unfolding complemented flipped
form_complemented zero sense k e = refl
form_complemented (suc c) sense k e =
    form_complement sense k (complemented c e) ∙ form_complemented c (not sense) k e ∙ ap (λ (s : Bool). form s k e) (flipped_not c sense)

complemented_more : (c n : ℕ) (e : Typed) → complemented (more c n) e ≡ complemented n (complemented c e)
unfolding complemented more
complemented_more zero n e = refl
complemented_more (suc c) n e = ap complement (complemented_more c n e) ∙ sym (complemented_complement n (complemented c e))

pub product_complemented : (c : ℕ) (w : Waiting) (e : Typed) → product_with (complementing c w) e ≡ product_with w (complemented c e)
product_complemented c w e = ap (joined w.product) (complemented_more c w.complements e)

-- what stands below a slot is kept
pub kept_refl : (n : ℕ) (a : Slots) → Kept n a a
kept_refl n a = record { kinds_long = refl; spans_long = refl; kinds_same = λ j h. refl; spans_same = λ j h. refl }

pub kept_trans : {m n : ℕ} {a b c : Slots} → m ≤ n → Kept m a b → Kept n b c → Kept m a c
kept_trans {m} {n} l f g =
    record {
      kinds_long = g.kinds_long ∙ f.kinds_long;
      spans_long = g.spans_long ∙ f.spans_long;
      kinds_same = λ j h. g.kinds_same j (omega arith) ∙ f.kinds_same j h;
      spans_same = λ j h. g.spans_same j (omega arith) ∙ f.spans_same j h;
    }

pub kept_set : (n k s : ℕ) (a : Slots) → Kept n a (slots (set a.kinds n k) (set a.spans n s))
kept_set n k s a =
    record {
      kinds_long = length-set a.kinds n k;
      spans_long = length-set a.spans n s;
      kinds_same = λ j h. get_or-set_other a.kinds n j k 0 (λ e. omega arith);
      spans_same = λ j h. get_or-set_other a.spans n j s 0 (λ e. omega arith);
    }

pub holds_below : {n i : ℕ} {a b : Slots} {e : Expr} → i < n → Kept n a b → Holds a.kinds a.spans i e → Holds b.kinds b.spans i e
holds_below {n} {i} {a} {b} {e} l f h =
    holds_kept h
    (record { long = let q = f.kinds_long in omega arith; same = λ j p q. f.kinds_same j (omega arith) })
    (record { long = let q = f.spans_long in omega arith; same = λ j p q. f.spans_same j (omega arith) })
