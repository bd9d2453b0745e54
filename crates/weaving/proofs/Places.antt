-- The gates told by the page are the gates by recursion: of the operators that hold a gate in their left child those of
-- its own child come first, so the lowest of a kind is one of these or else what the child leads to. Assumes nothing.
use Prim.Native.Nat.{ℕ, zero, suc, ◌+◌, ◌<◌, ◌≤◌}
use mathlib.Core.Path.{◌≡◌, refl, sym, ap, ap₂, ◌∙◌}
use mathlib.Core.Bool.{Bool, true, false, cond}
use mathlib.Core.List.{List, [], ◌∷◌, ◌++◌, map, append_assoc, append-nil}
use native.Mathlib.Omega.{arith}
use native.Mathlib.Nat.{le_refl, add-zero, add_assoc, add-suc, suc-add, zero-add, not-suc-le-zero}
use native.Mathlib.Numerals.{add-one}
use lib.ListN.{length, get_or, length-append, length-map, get_or-map}
use borrow.Author.Tests.{lt-ltb, le-ltb}
use Rattle.terms.specs.Terms.{Place}
use Rattle.formula.specs.Formula.{Literal, Kind, union, intersection, Expr, literal, join, literals}
use Rattle.weaving.specs.Gates.{Gate, true_end, false_end, in_order, Holder, holders, same_kind, lowest, gate_at, gates_on, gates}
use Rattle.weaving.specs.Twins.Gates.{gates_from}

pub literals_some : (e : Expr) → 1 ≤ literals e
unfolding literals
literals_some (literal x) = le_refl _
literals_some (join k l r) = omega (arith, literals_some l)

pub length-in_order : (e : Expr) → length (in_order e) ≡ literals e
unfolding in_order literals
length-in_order (literal x) = refl
length-in_order (join k l r) = length-append (in_order l) (in_order r) ∙ ap₂ (◌+◌) (length-in_order l) (length-in_order r)

gates_on-append : (e : Expr) (k : Place) (xs ys : List Literal)
    → gates_on e k (xs ++ ys) ≡ gates_on e k xs ++ gates_on e (k + length xs) ys
unfolding gates_on
gates_on-append e k [] ys = rw add-zero
gates_on-append e k (x ∷ xs) ys = rw (gates_on-append e (suc k) xs ys, suc-add, add-suc)

lowest-append : (k : Kind) (hs is : List Holder) (end : Place) → lowest k (hs ++ is) end ≡ lowest k hs (lowest k is end)
unfolding lowest
lowest-append k [] is end = refl
lowest-append k (h ∷ hs) is end = rw (lowest-append k hs is end)

-- where the left child of an operator leads, if the first gate of the right child is m
abbrev pub left_true : Kind → Place → Place → Place
left_true k m t = cond (same_kind intersection k) m t

abbrev pub left_false : Kind → Place → Place → Place
left_false k m f = cond (same_kind union k) m f

pub gates_join : (k : Kind) (l r : Expr) (b t f : Place)
    → gates_from (join k l r) b t f
    ≡ gates_from l b (left_true k (b + literals l) t) (left_false k (b + literals l) f) ++ gates_from r (b + literals l) t f
unfolding gates_from
gates_join intersection l r b t f = refl
gates_join union l r b t f = refl

pub left_from : (c : Bool) (m p : Place) → m ≤ p → m ≤ cond c m p
left_from true m p h = le_refl m
left_from false m p h = h

-- the places that the whole tells for gate k are those that its part e, which leads to t or f, tells for it
record Told (whole e : Expr) (b t f k : Place) : Type 0 where
  when_true : lowest intersection (holders whole 0 k) (true_end (literals whole)) ≡ lowest intersection (holders e b k) t
  when_false : lowest union (holders whole 0 k) (false_end (literals whole)) ≡ lowest union (holders e b k) f

gates_part : (whole e : Expr) (b t f : Place) → ((k : Place) → b ≤ k → k < b + literals e → Told whole e b t f k)
    → gates_on whole b (in_order e) ≡ gates_from e b t f
unfolding gates_on in_order gates_from gate_at holders lowest literals
gates_part whole (literal x) b t f h = let p = h b (le_refl b) (omega arith) in rw (p.when_true, p.when_false)
gates_part whole (join k l r) b t f h =
    rw (gates_on-append whole b (in_order l) (in_order r), length-in_order l, gates_join k l r b t f)
    (ap₂ (◌++◌)
    (gates_part whole l b _ _ (λ i x y. in_left i y (h i x (omega arith))))
    (gates_part whole r (b + literals l) t f (λ i x y. in_right i x (h i (omega arith) (omega arith)))))
  where
    in_left : (i : Place) → i < b + literals l → Told whole (join k l r) b t f i
        → Told whole l b (left_true k (b + literals l) t) (left_false k (b + literals l) f) i
    in_left i x p =
        record {
          when_true = p.when_true ∙ rw (lt-ltb i (b + literals l) x) (lowest-append intersection (holders l b i) _ t);
          when_false = p.when_false ∙ rw (lt-ltb i (b + literals l) x) (lowest-append union (holders l b i) _ f);
        }

    in_right : (i : Place) → b + literals l ≤ i → Told whole (join k l r) b t f i → Told whole r (b + literals l) t f i
    in_right i x p =
        record { when_true = p.when_true ∙ rw (le-ltb i (b + literals l) x); when_false = p.when_false ∙ rw (le-ltb i (b + literals l) x) }

pub gates_told : (e : Expr) → gates e ≡ gates_from e 0 (true_end (literals e)) (false_end (literals e))
unfolding gates
gates_told e = gates_part e e 0 _ _ (λ k x y. record { when_true = refl; when_false = refl })

-- the gates are the literals in order
gates_on_literals : (e : Expr) (k : Place) (xs : List Literal) → map (λ g. g.literal) (gates_on e k xs) ≡ xs
unfolding gates_on gate_at
gates_on_literals e k [] = refl
gates_on_literals e k (x ∷ xs) = rw (gates_on_literals e (suc k) xs)

pub gates_literals : (e : Expr) → map (λ g. g.literal) (gates e) ≡ in_order e
unfolding gates
gates_literals e = gates_on_literals e 0 (in_order e)

pub gate_literal : (e : Expr) (k : Place) (d : Gate) → (get_or (gates e) k d).literal ≡ get_or (in_order e) k d.literal
gate_literal e k d = rw (← gates_literals e) (sym (get_or-map (λ g. g.literal) (gates e) k d))

pub length-gates : (e : Expr) → length (gates e) ≡ literals e
length-gates e = sym (length-map (gates e) (λ g. g.literal)) ∙ ap length (gates_literals e) ∙ length-in_order e

-- a gate that has the number k, and whose places lie beyond it and below n
pub record Placed (n k : Place) (g : Gate) : Type 0 where
  pub number : g.number ≡ k
  pub true_beyond : k < g.true_place
  pub true_below : g.true_place < n
  pub false_beyond : k < g.false_place
  pub false_below : g.false_place < n

-- such gates, numbered from k on
pub data Numbered (n : Place) : Place → List Gate → Type 0 where
  none : {k : Place} → Numbered n k []
  more : {k : Place} {g : Gate} {gs : List Gate} → Placed n k g → Numbered n (suc k) gs → Numbered n k (g ∷ gs)

numbered_from : (n : Place) (e : Expr) (b t f : Place) (gs : List Gate) → b + literals e ≤ t → b + literals e ≤ f
    → t < n → f < n
    → Numbered n (b + literals e) gs → Numbered n b (gates_from e b t f ++ gs)
unfolding literals gates_from
numbered_from n (literal x) b t f gs ht hf tn fn rest =
    let p : Placed n b (record { number = b; literal = x; true_place = t; false_place = f })
    = record { number = refl; true_beyond = omega arith; true_below = tn; false_beyond = omega arith; false_below = fn }
    in more p (rw add-one at rest)
numbered_from n (join k l r) b t f gs ht hf tn fn rest =
    let m : Place = b + literals l in
    rw (gates_join k l r b t f, append_assoc)
    (numbered_from n l b (left_true k m t) (left_false k m f) _
    (left_from (same_kind intersection k) m t (omega arith))
    (left_from (same_kind union k) m f (omega arith))
    (below (same_kind intersection k) m t (omega arith) tn)
    (below (same_kind union k) m f (omega arith) fn)
    (numbered_from n r m t f gs (omega arith) (omega arith) tn fn (rw add_assoc rest)))
  where
    below : (c : Bool) (m p : Place) → m < n → p < n → cond c m p < n
    below true m p x y = x
    below false m p x y = y

pub gates_numbered : (e : Expr) → Numbered (suc (false_end (literals e))) 0 (gates e)
gates_numbered e =
    rw (gates_told e, ← append-nil (gates_from e 0 (true_end (literals e)) (false_end (literals e))))
    (numbered_from _ e 0 _ _ [] (omega arith) (omega arith) (omega arith) (omega arith) none)

numbered_at : {n k : Place} {gs : List Gate} → Numbered n k gs → (i : ℕ) (d : Gate) → i < length gs
    → Placed n (k + i) (get_or gs i d)
numbered_at none i d h = absurd (not-suc-le-zero h)
numbered_at (more p ps) zero d h = rw add-zero p
numbered_at (more {k = k} p ps) (suc i) d h = rw (add-suc k i, ← suc-add k i) (numbered_at ps i d (omega arith))

-- gate k has the number k, and its places lie beyond it
pub gate_placed : (e : Expr) (k : Place) (d : Gate) → k < literals e
    → Placed (suc (false_end (literals e))) k (get_or (gates e) k d)
gate_placed e k d h = rw zero-add at (numbered_at (gates_numbered e) k d (rw (length-gates e) h))
