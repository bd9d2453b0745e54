-- Where both children have been turned, their marks stand and their tags have room, settling the operator and putting its mark
-- into its own slot turns it; and the price by marks goes the same way. Assumes nothing.
use Prim.Native.Nat.{ℕ, ◌-◌, ◌*◌, ◌≤◌, ◌<◌}
use mathlib.Core.Path.{◌≡◌, refl, sym, ap, ap₂, ◌∙◌}
use mathlib.Core.Bool.{Bool, true, false, cond, true≢false}
use mathlib.Core.List.{List, ◌∷◌, ◌++◌}
use native.Mathlib.Omega.{arith}
use lib.Dec.{eqb}
use lib.ListN.{length, get_or, set}
use lib.Seq.{get_or-set_same, get_or-set_other}
use Rattle.terms.specs.Terms.{most_literals}
use Rattle.formula.specs.Formula.{Literal, Kind, union, intersection, Expr, literal, join}
use Rattle.formula.specs.Marks.{placed, arranged}
use Rattle.formula.specs.declared.Node.{Node}
use Rattle.formula.specs.Code.Held.{nodes, node_kind, node_at, is_leaf, operator_kind, Joint, Holds, leaf, joint}
use Rattle.formula.specs.Code.Marked as marked
use Rattle.formula.specs.Code.Marked.{mark_byte, Marked}
use Rattle.formula.proofs.Held.{nodes_literals, nodes_some, holds_within, holds_span_within, holds_fits, holds_span}
use Rattle.formula.proofs.Marked.{marked-length, arranged_join, marked_kept}
use Rattle.formula.proofs.Marks.{literals_arranged}
use Rattle.turning.specs.declared.price.Tag as coded
use Rattle.turning.specs.declared.turn.Settled.{Settled}
use Rattle.turning.specs.Tags as tags
use Rattle.turning.specs.Tags.{Tag, mark_of, priced, price, row, smaller}
use Rattle.turning.specs.Turning.{exchanges, marks, turned}
use Rattle.turning.specs.Code.Coded.{meant, joining, intersecting, Small, SettledAs, Site, TurnedTo, Turned, MarkedSite, PricedBy}
use Rattle.turning.proofs.Turned.{turned_join}
use Rattle.turning.proofs.CodedTags.{joining_mark, roomy_price, small_roomy}

-- the rows of both orders, compared, say which tag is kept
pub settles : (k : Kind) (l r : Tag) (typed exchanged : coded.Tag) (x y : List ℕ) (d : Bool)
    → meant typed ≡ priced k l r → meant exchanged ≡ priced k r l → x ≡ row (meant exchanged) → y ≡ row (meant typed) → d ≡ smaller x y
    → SettledAs k l r (record { tag = cond d exchanged typed; exchanged = d })
settles k l r typed exchanged x y d et ee ex ey ed = go d (ed ∙ ap₂ smaller (ex ∙ ap row ee) (ey ∙ ap row et))
  where
    go : (d : Bool) → d ≡ exchanges k l r → SettledAs k l r (record { tag = cond d exchanged typed; exchanged = d })
    go true e = record { exchanged = e; tag = rw (← e) ee }
    go false e = record { exchanged = e; tag = rw (← e) et }

price_placed : (m : Bool) (k : Kind) (l r : Expr) → price (placed m k l r) ≡ cond m (priced k (price r) (price l)) (priced k (price l) (price r))
unfolding price
price_placed true k l r = refl
price_placed false k l r = refl

intersecting_operator : (k : Kind) → intersecting (operator_kind k) ≡ mark_of k
intersecting_operator union = refl
intersecting_operator intersection = refl

leaf_operator : (k : Kind) → is_leaf (operator_kind k) ≡ false
leaf_operator union = refl
leaf_operator intersection = refl

-- the slot of the left operand
abbrev pub left_of : List ℕ → ℕ → ℕ
left_of ss i = i - 1 - get_or ss (i - 1) 0

-- where a slot's node tells whether a literal stands there, the slot's number tells the same
pub tested : (ks ss : List ℕ) (i : ℕ) {n : Node} {b : Bool} → b ≡ is_leaf n.kind → n ≡ node_at ks ss i → is_leaf (node_kind (get_or ks i 0)) ≡ b
tested ks ss i e en = sym (e ∙ ap (λ (n : Node). is_leaf n.kind) en)

pub site_within : (ks ss : List ℕ) (i : ℕ) → Site ks ss i → (i < length ks) × (i < length ss)
site_within ks ss i s = (holds_within s.held.holds, holds_span_within s.held.holds)

-- the operands of an operator in the slot i, the left one in the slot that its node tells
pub record Operands (ks ss : List ℕ) (i : ℕ) (k : Kind) (l r : Expr) : Type 0 where
  pub joint : Joint ks ss i k (nodes l) (nodes r)
  pub slot : left_of ss i ≡ i - 1 - nodes r
  pub left : Holds ks ss (left_of ss i) l
  pub right : Holds ks ss (i - 1) r

-- an operand in the slot x of an operator in the slot i
pub record Below (ks ss : List ℕ) (i x : ℕ) (e : Expr) : Type 0 where
  pub holds : Holds ks ss x e
  pub below : x ≤ i
  pub smaller : get_or ss x 0 < get_or ss i 0

module _ (ks ss : List ℕ) (i : ℕ) where
  -- a slot of a literal's kind holds a literal, and one of an operator's an operator
  pub at_literal : (P : Expr → Type 0) → is_leaf (node_kind (get_or ks i 0)) ≡ true → ((x : Literal) → P (literal x)) → (e : Expr)
      → Holds ks ss i e → P e
  at_literal P outer f (literal x) (leaf h) = f x
  at_literal P outer f (join k l r) (joint h a b) = absurd (true≢false (sym outer ∙ ap is_leaf h.kind ∙ leaf_operator k))

  pub at_operator : (P : Expr → Type 0) → is_leaf (node_kind (get_or ks i 0)) ≡ false
      → ((k : Kind) (l r : Expr) → Operands ks ss i k l r → P (join k l r)) → (e : Expr) → Holds ks ss i e → P e
  at_operator P inner f (literal x) (leaf h) = absurd (true≢false (sym (ap is_leaf h.kind) ∙ inner))
  at_operator P inner f (join k l r) (joint h a b) =
      let e : left_of ss i ≡ i - 1 - nodes r = ap (λ (n : ℕ). i - 1 - n) (holds_span b) in
      f k l r (record { joint = h; slot = e; left = rw e a; right = b })

  pub left_below : {k : Kind} {l r : Expr} → Operands ks ss i k l r → Below ks ss i (left_of ss i) l
  left_below o =
      let p = holds_span o.left in
      let q = o.joint.span in
      record { holds = o.left; below = omega arith; smaller = omega arith }

  pub right_below : {k : Kind} {l r : Expr} → Operands ks ss i k l r → Below ks ss i (i - 1) r
  right_below o =
      let p = holds_span o.right in
      let q = o.joint.span in
      record { holds = o.right; below = omega arith; smaller = omega arith }

  abbrev pub site_below : Site ks ss i → {x : ℕ} {e : Expr} → Below ks ss i x e → Site ks ss x
  site_below s {x} {e} b = record { held = record { tree = e; holds = b.holds }; low = omega (arith, s.low, b.below) }

  -- an arrangement of what so many slots hold has costs with room
  small_arranged : (e : Expr) (ms : List Bool) → Holds ks ss i e → i < 2 * most_literals → Small (price (arranged ms e))
  small_arranged e ms h low =
      let n = literals_arranged ms e in
      let m = nodes_literals e in
      let f = holds_fits h in
      small_roomy (price (arranged ms e)) (omega arith) (roomy_price (arranged ms e))

  pub turned_at_literal : (bs : List ℕ) (t : Tag) → is_leaf (node_kind (get_or ks i 0)) ≡ true → t ≡ tags.leaf → Turned ks ss bs bs i t
  unfolding marks turned arranged price
  turned_at_literal bs t outer et =
      record {
        each =
            at_literal (TurnedTo bs bs i t) outer
            (λ x. record { marked = marked.leaf; tag = et; others = record { before = λ j h. refl; after = λ j h. refl } });
        literals = λ j h. refl;
      }

  module _ (s : Site ks ss i) (inner : is_leaf (node_kind (get_or ks i 0)) ≡ false) where
    -- the sites of the two operands, each smaller than their operator's
    pub left_site : (x n : ℕ) → get_or ss i 0 ≡ n → x ≡ left_of ss i → (get_or ss x 0 < n) × Site ks ss x
    left_site x n en ex =
        rw (← en, ex)
        (at_operator (λ e. (get_or ss (left_of ss i) 0 < get_or ss i 0) × Site ks ss (left_of ss i)) inner
        (λ k l r o. let b = left_below o in (b.smaller, site_below s b)) s.held.tree s.held.holds)

    pub right_site : (x n : ℕ) → get_or ss i 0 ≡ n → x ≡ i - 1 → (get_or ss x 0 < n) × Site ks ss x
    right_site x n en ex =
        rw (← en, ex)
        (at_operator (λ e. (get_or ss (i - 1) 0 < get_or ss i 0) × Site ks ss (i - 1)) inner
        (λ k l r o. let b = right_below o in (b.smaller, site_below s b)) s.held.tree s.held.holds)

-- what is known where both operands have been turned
pub record Walked (ks ss bs bs₂ : List ℕ) (i : ℕ) (tl tr : Tag) : Type 0 where
  pub bs₁ : List ℕ
  pub site : Site ks ss i
  pub inner : is_leaf (node_kind (get_or ks i 0)) ≡ false
  pub first : Turned ks ss bs bs₁ (left_of ss i) tl
  pub second : Turned ks ss bs₁ bs₂ (i - 1) tr

module _ (ks ss bs bs₂ : List ℕ) (i : ℕ) (tl tr : Tag) (w : Walked ks ss bs bs₂ i tl tr) where
  -- both tags have room, and the operator has a slot for its mark
  pub before_settle : Small tl × Small tr
  unfolding turned
  before_settle =
      let low = w.site.low in
      at_operator ks ss i (λ e. Small tl × Small tr) w.inner
      (λ k l r o. (
        rw (w.first.each l o.left).tag (small_arranged ks ss (left_of ss i) l (marks l) o.left (omega arith)),
        rw (w.second.each r o.right).tag (small_arranged ks ss (i - 1) r (marks r) o.right (omega arith)),
      ))
      w.site.held.tree w.site.held.holds

  -- the marks of both operands stand behind the operator's own
  settled_marks : i < length bs₂ → (k : Kind) (l r : Expr) (m : Bool) → Operands ks ss i k l r
      → Marked (set bs₂ i (mark_byte m)) i (join k l r) (m ∷ (marks l ++ marks r))
  settled_marks within k l r m o =
      let f = w.first.each l o.left in
      let g = w.second.each r o.right in
      let fl = holds_fits o.left in
      let fr = holds_fits o.right in
      let sl = nodes_some l in
      let sr = nodes_some r in
      let fits = o.joint.fits in
      let e = o.slot in
      let same : (j : ℕ) → j < i → get_or (set bs₂ i (mark_byte m)) j 0 ≡ get_or bs₂ j 0 = λ j h. get_or-set_other bs₂ i j _ 0 (omega arith) in
      marked.joint (get_or-set_same bs₂ i (mark_byte m) 0 within)
      (rw e at (marked_kept {bs' = set bs₂ i (mark_byte m)} f.marked fl
      (λ j p q. same j (omega arith) ∙ g.others.before j (omega arith))))
      (marked_kept g.marked fr (λ j p q. same j (omega arith)))

  pub after_settle : i < length bs₂ → (bs₃ : List ℕ) (m : Bool) (s : Settled) → m ≡ intersecting (node_kind (get_or ks i 0)) → SettledAs (joining m) tl tr s
      → bs₃ ≡ set bs₂ i (mark_byte s.exchanged) → Turned ks ss bs bs₃ i (meant s.tag)
  unfolding nodes marks turned
  after_settle within bs₃ m s em d e₃ =
      record {
        each =
            at_operator ks ss i (TurnedTo bs bs₃ i (meant s.tag)) w.inner
            (λ k l r o.
            let f = w.first.each l o.left in
            let g = w.second.each r o.right in
            let ek : joining m ≡ k = ap joining (em ∙ ap intersecting o.joint.kind ∙ intersecting_operator k) ∙ joining_mark k in
            let a = rw (ek, f.tag, g.tag) at d in
            let x : Bool = exchanges k (price (turned l)) (price (turned r)) in
            let sl = nodes_some l in
            let sr = nodes_some r in
            let fits = o.joint.fits in
            let e = o.slot in
            let same : (j : ℕ) → (j ≡ i → ⊥) → get_or bs₃ j 0 ≡ get_or bs₂ j 0 = λ j h. rw e₃ (get_or-set_other bs₂ i j _ 0 h) in
            record {
              marked = rw (e₃, a.exchanged) (settled_marks within k l r x o);
              tag = a.tag ∙ sym (ap price (turned_join k l r) ∙ price_placed x k (turned l) (turned r));
              others =
                  record {
                    before = λ j h. same j (omega arith) ∙ g.others.before j (omega arith) ∙ f.others.before j (omega arith);
                    after = λ j h. same j (omega arith) ∙ g.others.after j (omega arith) ∙ f.others.after j (omega arith);
                  };
            });
        literals =
            λ j h.
            let ne : j ≡ i → ⊥ = λ e. true≢false (sym (rw e at h) ∙ w.inner) in
            rw e₃ (get_or-set_other bs₂ i j _ 0 ne) ∙ w.second.literals j h ∙ w.first.literals j h;
      }

-- the marks of an operator are its own and those of its operands
pub record Parts (bs : List ℕ) (i : ℕ) (l r : Expr) (ms : List Bool) : Type 0 where
  pub own : Bool
  pub lefts : List Bool
  pub rights : List Bool
  pub all : ms ≡ own ∷ (lefts ++ rights)
  pub here : get_or bs i 0 ≡ mark_byte own
  pub left : Marked bs (i - 1 - nodes r) l lefts
  pub right : Marked bs (i - 1) r rights

marked_parts : {bs : List ℕ} {i : ℕ} {k : Kind} {l r : Expr} {ms : List Bool} → Marked bs i (join k l r) ms → Parts bs i l r ms
marked_parts (marked.joint {m = m} {ls = ls} {rs = rs} h a b) =
    record { own = m; lefts = ls; rights = rs; all = refl; here = h; left = a; right = b }

byte_mark : (m : Bool) → eqb (mark_byte m) 1 ≡ m
byte_mark true = refl
byte_mark false = refl

pub priced_at_literal : (ks ss bs : List ℕ) (i : ℕ) (t : Tag) → is_leaf (node_kind (get_or ks i 0)) ≡ true → t ≡ tags.leaf → PricedBy ks ss bs i t
unfolding arranged price
priced_at_literal ks ss bs i t outer et = record { each = λ e ms h m. at_literal ks ss i (λ e. t ≡ price (arranged ms e)) outer (λ x. et) e h }

module _ (ks ss bs : List ℕ) (i : ℕ) (s : MarkedSite ks ss bs i) (inner : is_leaf (node_kind (get_or ks i 0)) ≡ false) where
  pub left_marked : (x n : ℕ) → get_or ss i 0 ≡ n → x ≡ left_of ss i → (get_or ss x 0 < n) × MarkedSite ks ss bs x
  left_marked x n en ex =
      rw (← en, ex)
      (at_operator ks ss i (λ e. Marked bs i e s.row → (get_or ss (left_of ss i) 0 < get_or ss i 0) × MarkedSite ks ss bs (left_of ss i)) inner
      (λ k l r o m.
      let p = marked_parts m in
      let b = left_below ks ss i o in
      (b.smaller, record { site = site_below ks ss i s.site b; row = p.lefts; marked = rw o.slot p.left }))
      s.site.held.tree s.site.held.holds s.marked)

  pub right_marked : (x n : ℕ) → get_or ss i 0 ≡ n → x ≡ i - 1 → (get_or ss x 0 < n) × MarkedSite ks ss bs x
  right_marked x n en ex =
      rw (← en, ex)
      (at_operator ks ss i (λ e. Marked bs i e s.row → (get_or ss (i - 1) 0 < get_or ss i 0) × MarkedSite ks ss bs (i - 1)) inner
      (λ k l r o m.
      let p = marked_parts m in
      let b = right_below ks ss i o in
      (b.smaller, record { site = site_below ks ss i s.site b; row = p.rights; marked = p.right }))
      s.site.held.tree s.site.held.holds s.marked)

  module _ (tl tr : Tag) (first : PricedBy ks ss bs (left_of ss i) tl) (second : PricedBy ks ss bs (i - 1) tr) where
    -- the tags of both operands, each arranged by its own marks
    operand_tags : (k : Kind) (l r : Expr) (ms : List Bool) → Operands ks ss i k l r → (p : Parts bs i l r ms)
        → (tl ≡ price (arranged p.lefts l)) × (tr ≡ price (arranged p.rights r))
    operand_tags k l r ms o p = (
      first.each l p.lefts o.left (rw o.slot p.left),
      second.each r p.rights o.right p.right,
    )

    pub before_price : Small tl × Small tr
    before_price =
        let low = s.site.low in
        at_operator ks ss i (λ e. Marked bs i e s.row → Small tl × Small tr) inner
        (λ k l r o m.
        let p = marked_parts m in
        let e = operand_tags k l r s.row o p in (
          rw e.0 (small_arranged ks ss (left_of ss i) l p.lefts o.left (omega arith)),
          rw e.1 (small_arranged ks ss (i - 1) r p.rights o.right (omega arith)),
        ))
        s.site.held.tree s.site.held.holds s.marked

    pub after_price : (m : Bool) (t : Tag) → m ≡ intersecting (node_kind (get_or ks i 0))
        → t ≡ cond (eqb (get_or bs i 0) 1) (priced (joining m) tr tl) (priced (joining m) tl tr) → PricedBy ks ss bs i t
    after_price m t em et =
        record {
          each =
              λ e ms h mk. at_operator ks ss i (λ e. Marked bs i e ms → t ≡ price (arranged ms e)) inner
              (λ k l r o mk.
              let p = marked_parts mk in
              let d = operand_tags k l r ms o p in
              let ek : joining m ≡ k = ap joining (em ∙ ap intersecting o.joint.kind ∙ intersecting_operator k) ∙ joining_mark k in
              let b : eqb (get_or bs i 0) 1 ≡ p.own = rw p.here (byte_mark p.own) in
              (rw (b, ek, d.0, d.1) at et)
              ∙ sym
              (ap (λ (n : List Bool). price (arranged n (join k l r))) p.all
              ∙ ap price (arranged_join p.own k l r p.lefts p.rights (marked-length p.left))
              ∙ price_placed p.own k (arranged p.lefts l) (arranged p.rights r)))
              e h mk;
        }
