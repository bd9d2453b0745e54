-- Laying out a held expression writes the gates of its arrangement: taken from its root down, a slot's parent has handed it its
-- first gate and its places, the first operand's span tells where the second one's gates begin, and the places stand at the first
-- gate until the slot is taken, since the slots taken before it write other gates. Assumes nothing.
use Prim.Native.Nat.{ℕ, zero, suc, ◌+◌, ◌-◌, ◌*◌, ◌≤◌, ◌<◌}
use mathlib.Core.Path.{◌≡◌, refl, sym, ap, ap₂, ◌∙◌, subst}
use mathlib.Core.Bool.{Bool, true, false, true≢false}
use mathlib.Core.List.{List, [], ◌∷◌, ◌++◌, map, map-append}
use native.Mathlib.Omega.{arith}
use lib.Dec.{eqb}
use lib.ListN.{length, get_or, set, length-set, length-append, length-map}
use lib.Seq.{sets, get_or-set_same, get_or-set_other, set-get_or, take-set-le, drop-set-lt, length-sets, sets-eq}
use Rattle.terms.specs.Terms.{most_literals}
use Rattle.terms.proofs.Stores.{sets_append, sets_behind}
use Rattle.terms.specs.declared.Primitive.{Primitive}
use Rattle.formula.specs.declared.Node.{Node}
use Rattle.formula.specs.declared.Kind as coded
use Rattle.formula.specs.declared.Kind.TheVariants.{Union, Intersection, Literal}
use Rattle.formula.specs.Formula as formula
use Rattle.formula.specs.Formula.{Kind, union, intersection, Expr, literal, join, literals, operators}
use Rattle.formula.specs.Marks.{arranged}
use Rattle.formula.specs.Code.Held as held
use Rattle.formula.specs.Code.Held.{nodes, node_kind, node_at, is_leaf, operator_kind, Holds}
use Rattle.formula.specs.Code.Marked as marked
use Rattle.formula.specs.Code.Marked.{Marked}
use Rattle.formula.proofs.Held.{nodes_literals, nodes_some, holds_within, holds_span_within, holds_span}
use Rattle.formula.proofs.Marks.{literals_some, literals_arranged}
use Rattle.formula.proofs.Marked.{marked-length, arranged_join}
use Rattle.weaving.specs.declared.lay.Operands.{Operands}
use Rattle.weaving.specs.Gates.{Gate, gates}
use Rattle.weaving.specs.Twins.Gates.{gates_from}
use Rattle.weaving.specs.Code.Laid.{sense_byte, LaidFrom, Laid, LaidOut, Layable, Laying, laying, slot_handed, handed_down, gate_put, first_true, first_false, place_after, operands_at, in_order_of, slot_laid, GateLaid, HandedTo, HandedDown, Operating, Pending, none, more}
use Rattle.weaving.proofs.Places.{gates_told}
use Rattle.weaving.proofs.Store.{on, off, known}

pub length-gates_from : (e : Expr) (b t f : ℕ) → length (gates_from e b t f) ≡ literals e
unfolding gates_from literals
length-gates_from (literal x) b t f = refl
length-gates_from (join union l r) b t f = length-append (gates_from l b _ _) _ ∙ ap₂ (◌+◌) (length-gates_from l b _ _) (length-gates_from r _ t f)
length-gates_from (join intersection l r) b t f = length-append (gates_from l b _ _) _ ∙ ap₂ (◌+◌) (length-gates_from l b _ _) (length-gates_from r _ t f)

-- after two stores, what is read where they were made
read_last : (l : List ℕ) (a v b w : ℕ) → b < length l → get_or (set (set l a v) b w) b 0 ≡ w
read_last l a v b w within = get_or-set_same (set l a v) b w 0 (rw length-set within)

read_first : (l : List ℕ) (a v b w : ℕ) → a < length l → (a ≡ b → ⊥) → get_or (set (set l a v) b w) a 0 ≡ v
read_first l a v b w within differ = get_or-set_other (set l a v) b a w 0 differ ∙ get_or-set_same l a v 0 within

-- a run leaves what stands beside it
read_beside : (l : List ℕ) (i : ℕ) (xs : List ℕ) (j : ℕ) → ((k : ℕ) → i ≤ k → k < i + length xs → j ≡ k → ⊥) → get_or (sets l i xs) j 0 ≡ get_or l j 0
read_beside l i [] j beside = refl
read_beside l i (x ∷ xs) j beside =
    read_beside (set l i x) (suc i) xs j (λ k low high. beside k (omega arith) (omega arith))
    ∙ get_or-set_other l i j x 0 (beside i (omega arith) (omega arith))

-- a run writes over a store within it
sets_over : (l : List ℕ) (j v i : ℕ) (xs : List ℕ) → i ≤ j → j < i + length xs → i + length xs ≤ length l → sets (set l j v) i xs ≡ sets l i xs
sets_over l j v i xs low high room =
    sets-eq xs (set l j v) i (rw length-set room)
    ∙ rw (take-set-le i l j v low, drop-set-lt (i + length xs) l j v high) (sym (sets-eq xs l i room))

-- the m slots from the front taken, the last first
unfoldable pub slots_laid : (ks ss bs : List ℕ) → ℕ → Laying → Laying
slots_laid ks ss bs zero s = s
slots_laid ks ss bs (suc i) s = slots_laid ks ss bs i (slot_laid ks ss bs i s)

-- one slot, by its kind
module _ (ks ss bs : List ℕ) (i : ℕ) where
  pub slot_gate : (p : ℕ) (sense : Bool) (s : Laying) → node_kind (get_or ks i 0) ≡ Literal (record { 0 = p }) sense
      → slot_laid ks ss bs i s ≡ gate_put (get_or s.firsts i 0) p sense s
  unfolding slot_laid
  slot_gate p sense s h = rw h refl

  pub slot_operator : (k : Kind) (s : Laying) → node_kind (get_or ks i 0) ≡ operator_kind k
      → slot_laid ks ss bs i s
      ≡ handed_down (operator_kind k) (operands_at ss bs i) (get_or s.firsts i 0)
      (place_after (get_or s.firsts i 0) (get_or ss (operands_at ss bs i).first 0)) s
  unfolding slot_laid
  slot_operator union s h = rw h refl
  slot_operator intersection s h = rw h refl

-- gates written from one list state to the next
abbrev Gated : ℕ → Laying → Laying → List Gate → Type 0
Gated b s s' gs = LaidFrom b s.primitives s.senses s.trues s.falses s'.primitives s'.senses s'.trues s'.falses gs

-- gates written in front of others, and behind others
gated_front : (s s₁ s₂ : Laying) (b m : ℕ) (gs hs : List Gate) → m ≡ b + length gs → Gated b s₁ s₂ gs → Gated m s s₁ hs → Gated b s s₂ (gs ++ hs)
gated_front s s₁ s₂ b m gs hs e p q =
    record {
      primitives = p.primitives ∙ before (λ g. g.literal.primitive) _ _ q.primitives;
      senses = p.senses ∙ before (λ g. sense_byte g.literal.sense) _ _ q.senses;
      trues = p.trues ∙ before (λ g. g.true_place) _ _ q.trues;
      falses = p.falses ∙ before (λ g. g.false_place) _ _ q.falses;
    }
  where
    before : (f : Gate → ℕ) (l l₁ : List ℕ) → l₁ ≡ sets l m (map f hs) → sets l₁ b (map f gs) ≡ sets l b (map f (gs ++ hs))
    before f l l₁ h = rw (map-append f gs hs, h, e, ← length-map gs f) (sets_behind l b (map f gs) (map f hs))

gated_behind : (s s₁ s₂ : Laying) (b m : ℕ) (gs hs : List Gate) → m ≡ b + length gs → Gated b s s₁ gs → Gated m s₁ s₂ hs → Gated b s s₂ (gs ++ hs)
gated_behind s s₁ s₂ b m gs hs e p q =
    record {
      primitives = q.primitives ∙ behind (λ g. g.literal.primitive) _ _ p.primitives;
      senses = q.senses ∙ behind (λ g. sense_byte g.literal.sense) _ _ p.senses;
      trues = q.trues ∙ behind (λ g. g.true_place) _ _ p.trues;
      falses = q.falses ∙ behind (λ g. g.false_place) _ _ p.falses;
    }
  where
    behind : (f : Gate → ℕ) (l l₁ : List ℕ) → l₁ ≡ sets l b (map f gs) → sets l₁ m (map f hs) ≡ sets l b (map f (gs ++ hs))
    behind f l l₁ h = rw (map-append f gs hs, h, e, ← length-map gs f) (sym (sets_append l b (map f gs) (map f hs)))

-- what was handed where gates are written makes no difference
gated_over : (s s' : Laying) (j m t f b : ℕ) (gs : List Gate) → b ≤ m → m < b + length gs → b + length gs ≤ length s.trues → b + length gs ≤ length s.falses
    → Gated b (slot_handed j m t f s) s' gs → Gated b s s' gs
gated_over s s' j m t f b gs low high room_t room_f p =
    record {
      primitives = p.primitives;
      senses = p.senses;
      trues = p.trues ∙ over (λ g. g.true_place) s.trues t room_t;
      falses = p.falses ∙ over (λ g. g.false_place) s.falses f room_f;
    }
  where
    over : (w : Gate → ℕ) (l : List ℕ) (v : ℕ) → b + length gs ≤ length l → sets (set l m v) b (map w gs) ≡ sets l b (map w gs)
    over w l v room = let long = length-map gs w in sets_over l m v b (map w gs) low (omega arith) (omega arith)

-- a literal's places stand at its gate already
stands : (l : List ℕ) (b t : ℕ) → get_or l b 0 ≡ t → l ≡ set l b t
stands l b t e = rw (← e) (sym (set-get_or l b 0))

gated_literal : (b : ℕ) (x : formula.Literal) (t f : ℕ) (ms : List Bool) (s : Laying) → get_or s.trues b 0 ≡ t → get_or s.falses b 0 ≡ f
    → Gated b s (gate_put b x.primitive x.sense s) (gates_from (arranged ms (literal x)) b t f)
unfolding arranged gates_from
gated_literal b x t f ms s et ef = record { primitives = refl; senses = refl; trues = stands _ b t et; falses = stands _ b f ef }

-- an operator's gates are those of its first operand and, behind them, those of its second
gates_joined : (k : Kind) (x y : Expr) (b m t f : ℕ) → m ≡ b + literals x
    → gates_from (join k x y) b t f
    ≡ gates_from x b (first_true (operator_kind k) m t) (first_false (operator_kind k) m f) ++ gates_from y m t f
unfolding gates_from
gates_joined union x y b m t f e = rw (← e) refl
gates_joined intersection x y b m t f e = rw (← e) refl

module _ (k : Kind) (l r : Expr) (ls rs : List Bool) (row : length ls ≡ operators l) (b m t f t₁ f₁ : ℕ) where
  gated_exchanged : m ≡ b + literals r → t₁ ≡ first_true (operator_kind k) m t → f₁ ≡ first_false (operator_kind k) m f
      → (s s₁ s₂ : Laying) → Gated b s s₁ (gates_from (arranged rs r) b t₁ f₁) → Gated m s₁ s₂ (gates_from (arranged ls l) m t f)
      → Gated b s s₂ (gates_from (arranged (true ∷ (ls ++ rs)) (join k l r)) b t f)
  gated_exchanged next et ef s s₁ s₂ p q =
      let same = literals_arranged rs r in
      rw (arranged_join true k l r ls rs row, gates_joined k (arranged rs r) (arranged ls l) b m t f (omega arith), ← et, ← ef)
      (gated_behind s s₁ s₂ b m _ _ (rw length-gates_from (omega arith)) p q)

  gated_typed : m ≡ b + literals l → t₁ ≡ first_true (operator_kind k) m t → f₁ ≡ first_false (operator_kind k) m f
      → (s s₁ s₂ : Laying) → Gated m s s₁ (gates_from (arranged rs r) m t f) → Gated b s₁ s₂ (gates_from (arranged ls l) b t₁ f₁)
      → Gated b s s₂ (gates_from (arranged (false ∷ (ls ++ rs)) (join k l r)) b t f)
  gated_typed next et ef s s₁ s₂ p q =
      let same = literals_arranged ls l in
      rw (arranged_join false k l r ls rs row, gates_joined k (arranged ls l) (arranged rs r) b m t f (omega arith), ← et, ← ef)
      (gated_front s s₁ s₂ b m _ _ (rw length-gates_from (omega arith)) q p)

-- what is handed down, in other words
handed_same : (k : coded.Kind) (o o' : Operands) (b b' m m' t f : ℕ) (s : Laying) → o ≡ o' → b ≡ b' → m ≡ m' → get_or s.trues b' 0 ≡ t → get_or s.falses b' 0 ≡ f
    → handed_down k o b m s ≡ slot_handed o'.first b' (first_true k m' t) (first_false k m' f) (slot_handed o'.second m' t f s)
handed_same k o o' b b' m m' t f s eo eb em et ef = rw (eo, eb, em, et, ef) refl

-- a list that is as before in the slots below the n up to i
record Below (xs ys : List ℕ) (i n : ℕ) : Type 0 where
  long : length ys ≡ length xs
  same : (j : ℕ) → j + n ≤ i → get_or ys j 0 ≡ get_or xs j 0

below_refl : (xs : List ℕ) (i n : ℕ) → Below xs xs i n
below_refl xs i n = record { long = refl; same = λ j h. refl }

-- two stores at slots above
below_stores : (xs : List ℕ) (a v b w i n : ℕ) → i < a + n → i < b + n → Below xs (set (set xs a v) b w) i n
below_stores xs a v b w i n p q =
    record {
      long = length-set (set xs a v) b w ∙ length-set xs a v;
      same = λ j h. get_or-set_other (set xs a v) b j w 0 (omega arith) ∙ get_or-set_other xs a j v 0 (omega arith);
    }

below_chain : {xs ys zs : List ℕ} (i n i' n' : ℕ) → Below xs ys i n → Below ys zs i' n' → i + n' ≤ i' + n → Below xs zs i n
below_chain i n i' n' p q h = record { long = q.long ∙ p.long; same = λ j x. q.same j (omega arith) ∙ p.same j x }

-- the slots of an expression taken: its gates are written, and the slots below were handed nothing
record Taken (ks ss bs : List ℕ) (i : ℕ) (e : Expr) (ms : List Bool) (b t f : ℕ) (s : Laying) : Type 0 where
  after : Laying
  same : (top m : ℕ) → top ≡ suc i → top ≡ nodes e + m → slots_laid ks ss bs top s ≡ slots_laid ks ss bs m after
  gates : Gated b s after (gates_from (arranged ms e) b t f)
  firsts : Below s.firsts after.firsts i (nodes e)

-- a slot within, what it was handed, and room for its n gates
record Handed (s : Laying) (i n b t f : ℕ) : Type 0 where
  long : i < length s.firsts
  trues_room : b + n ≤ length s.trues
  falses_room : b + n ≤ length s.falses
  first : get_or s.firsts i 0 ≡ b
  on_true : get_or s.trues b 0 ≡ t
  on_false : get_or s.falses b 0 ≡ f

-- the two slots that an operator hands down to, with x gates of the first one and y of the second
module _ (s : Laying) (o : Operands) (i n b t f : ℕ) (g : Handed s i n b t f) (m x y t' f' : ℕ) (next : m ≡ b + x) (parts : x + y ≤ n) where
  handed_first : 1 ≤ x → o.first ≤ i → Handed (slot_handed o.first b t' f' (slot_handed o.second m t f s)) o.first x b t' f'
  handed_first some low =
      record {
        long = simp length-set (omega arith);
        trues_room = simp length-set (omega arith);
        falses_room = simp length-set (omega arith);
        first = read_last s.firsts o.second m o.first b (omega arith);
        on_true = read_last s.trues m t b t' (omega arith);
        on_false = read_last s.falses m f b f' (omega arith);
      }

  handed_second : 1 ≤ x → 1 ≤ y → o.second ≤ i → (o.second ≡ o.first → ⊥)
      → Handed (slot_handed o.first b t' f' (slot_handed o.second m t f s)) o.second y m t f
  handed_second some some_y low differ =
      record {
        long = simp length-set (omega arith);
        trues_room = simp length-set (omega arith);
        falses_room = simp length-set (omega arith);
        first = read_first s.firsts o.second m o.first b (omega arith) differ;
        on_true = read_first s.trues m t b t' (omega arith) (λ z. omega arith);
        on_false = read_first s.falses m f b f' (omega arith) (λ z. omega arith);
      }

-- what a slot was handed is still there when slots above it were taken and other gates written
handed_kept : (s s' : Laying) (j n b t f i size b' : ℕ) (gs : List Gate) → Handed s j n b t f → j + size ≤ i → Below s.firsts s'.firsts i size
    → Gated b' s s' gs → ((k : ℕ) → b' ≤ k → k < b' + length gs → b ≡ k → ⊥) → Handed s' j n b t f
handed_kept s s' j n b t f i size b' gs h low p q beside =
    record {
      long = rw p.long h.long;
      trues_room = rw (q.trues, length-sets) h.trues_room;
      falses_room = rw (q.falses, length-sets) h.falses_room;
      first = p.same j low ∙ h.first;
      on_true = rw q.trues (kept (λ g. g.true_place) s.trues) ∙ h.on_true;
      on_false = rw q.falses (kept (λ g. g.false_place) s.falses) ∙ h.on_false;
    }
  where
    kept : (w : Gate → ℕ) (l : List ℕ) → get_or (sets l b' (map w gs)) b 0 ≡ get_or l b 0
    kept w l = let long = length-map gs w in read_beside l b' (map w gs) b (λ k lo hi. beside k lo (omega arith))

module _ (ks ss bs : List ℕ) where
  -- the operands of an operator in the order of its mark
  operands_exchanged : (i n : ℕ) → get_or bs i 0 ≡ 1 → get_or ss (i - 1) 0 ≡ n → operands_at ss bs i ≡ record { first = i - 1; second = i - 1 - n }
  operands_exchanged i n m e = rw (m, e) refl

  operands_typed : (i n : ℕ) → get_or bs i 0 ≡ 0 → get_or ss (i - 1) 0 ≡ n → operands_at ss bs i ≡ record { first = i - 1 - n; second = i - 1 }
  operands_typed i n m e = rw (m, e) refl

  step_exchanged : (i : ℕ) (k : Kind) (r : Expr) (n b t f m : ℕ) (s : Laying) → node_kind (get_or ks i 0) ≡ operator_kind k → get_or bs i 0 ≡ 1
      → get_or ss (i - 1) 0 ≡ nodes r → m ≡ b + literals r → Handed s i n b t f
      → slot_laid ks ss bs i s
      ≡ slot_handed (i - 1) b (first_true (operator_kind k) m t) (first_false (operator_kind k) m f) (slot_handed (i - 1 - nodes r) m t f s)
  step_exchanged i k r n b t f m s kind mk span next g =
      let size = nodes_literals r in
      let o = operands_exchanged i (nodes r) mk span in
      let e : place_after (get_or s.firsts i 0) (get_or ss (operands_at ss bs i).first 0) ≡ m =
      ap (λ (a : Operands). place_after (get_or s.firsts i 0) (get_or ss a.first 0)) o ∙ omega (arith, g.first) in
      slot_operator ks ss bs i k s kind
      ∙ handed_same (operator_kind k) (operands_at ss bs i) (record { first = i - 1; second = i - 1 - nodes r }) _ b _ m t f s o g.first e g.on_true g.on_false

  step_typed : (i : ℕ) (k : Kind) (l r : Expr) (n b t f m : ℕ) (s : Laying) → node_kind (get_or ks i 0) ≡ operator_kind k → get_or bs i 0 ≡ 0
      → get_or ss (i - 1) 0 ≡ nodes r → get_or ss (i - 1 - nodes r) 0 ≡ nodes l → m ≡ b + literals l → Handed s i n b t f
      → slot_laid ks ss bs i s
      ≡ slot_handed (i - 1 - nodes r) b (first_true (operator_kind k) m t) (first_false (operator_kind k) m f) (slot_handed (i - 1) m t f s)
  step_typed i k l r n b t f m s kind mk span span_l next g =
      let size = nodes_literals l in
      let o = operands_typed i (nodes r) mk span in
      let e : place_after (get_or s.firsts i 0) (get_or ss (operands_at ss bs i).first 0) ≡ m =
      ap (λ (a : Operands). place_after (get_or s.firsts i 0) (get_or ss a.first 0)) o ∙ omega (arith, g.first) in
      slot_operator ks ss bs i k s kind
      ∙ handed_same (operator_kind k) (operands_at ss bs i) (record { first = i - 1 - nodes r; second = i - 1 }) _ b _ m t f s o g.first e g.on_true g.on_false

  -- an operator whose operands can be taken, whatever else the lists hold
  module _ (i : ℕ) (k : Kind) (l r : Expr) (ls rs : List Bool) (b t f : ℕ) (s : Laying) (kind : node_kind (get_or ks i 0) ≡ operator_kind k)
      (fits : nodes l + nodes r ≤ i) (span_r : get_or ss (i - 1) 0 ≡ nodes r) (span_l : get_or ss (i - 1 - nodes r) 0 ≡ nodes l)
      (row : length ls ≡ operators l) (g : Handed s i (literals l + literals r) b t f)
      (take_r : (b t f : ℕ) (s : Laying) → Handed s (i - 1) (literals r) b t f → Taken ks ss bs (i - 1) r rs b t f s)
      (take_l : (b t f : ℕ) (s : Laying) → Handed s (i - 1 - nodes r) (literals l) b t f → Taken ks ss bs (i - 1 - nodes r) l ls b t f s) where
    -- both operands handed to, and both taken: the operator is
    joint_taken : (ms : List Bool) (o : Operands) (m t₁ f₁ br tr fr bl tl fl : ℕ) → b ≤ m → m < b + (literals l + literals r)
        → i ≤ nodes l + nodes r + o.first → i ≤ nodes l + nodes r + o.second
        → slot_laid ks ss bs i s ≡ slot_handed o.first b t₁ f₁ (slot_handed o.second m t f s)
        → (wr : Taken ks ss bs (i - 1) r rs br tr fr (slot_handed o.first b t₁ f₁ (slot_handed o.second m t f s)))
        → (wl : Taken ks ss bs (i - 1 - nodes r) l ls bl tl fl wr.after)
        → Gated b (slot_handed o.first b t₁ f₁ (slot_handed o.second m t f s)) wl.after (gates_from (arranged ms (join k l r)) b t f)
        → Taken ks ss bs i (join k l r) ms b t f s
    unfolding nodes literals slots_laid
    joint_taken ms o m t₁ f₁ br tr fr bl tl fl low high above_f above_s step wr wl gates =
        let some_l = nodes_some l in
        let some_r = nodes_some r in
        let gs = gates_from (arranged ms (join k l r)) b t f in
        let count : length gs ≡ literals l + literals r = length-gates_from (arranged ms (join k l r)) b t f ∙ literals_arranged ms (join k l r) in
        let s₀ = slot_handed o.second m t f s in
        record {
          after = wl.after;
          same = λ top n p q.
              ap (λ (a : ℕ). slots_laid ks ss bs a s) p
              ∙ ap (slots_laid ks ss bs i) step
              ∙ wr.same i (suc (i - 1 - nodes r)) (omega arith) (omega arith)
              ∙ wl.same (suc (i - 1 - nodes r)) n refl (omega arith);
          gates = gated_over s wl.after o.second m t f b gs low (omega arith) (omega arith) (omega arith)
              (gated_over s₀ wl.after o.first b t₁ f₁ b gs (omega arith) (omega arith) (simp length-set (omega arith)) (simp length-set (omega arith)) gates);
          firsts = below_chain i (nodes (join k l r)) _ _
              (below_chain i (nodes (join k l r)) _ _ (below_stores _ _ _ _ _ _ _ (omega arith) (omega arith)) wr.firsts (omega arith)) wl.firsts (omega arith);
        }

    exchanged_taken : (m t₁ f₁ : ℕ) → m ≡ b + literals r → t₁ ≡ first_true (operator_kind k) m t → f₁ ≡ first_false (operator_kind k) m f
        → get_or bs i 0 ≡ 1 → Taken ks ss bs i (join k l r) (true ∷ (ls ++ rs)) b t f s
    exchanged_taken m t₁ f₁ next et ef mk =
        let some_l = nodes_some l in
        let some_r = nodes_some r in
        let gates_l = literals_some l in
        let gates_r = literals_some r in
        let o : Operands = record { first = i - 1; second = i - 1 - nodes r } in
        let s₁ : Laying = slot_handed (i - 1) b t₁ f₁ (slot_handed (i - 1 - nodes r) m t f s) in
        let wr = take_r b t₁ f₁ s₁ (handed_first s o i _ b t f g m (literals r) (literals l) t₁ f₁ next (omega arith) (omega arith) (omega arith)) in
        let count = length-gates_from (arranged rs r) b t₁ f₁ ∙ literals_arranged rs r in
        let wl = take_l m t f wr.after
        (handed_kept s₁ wr.after (i - 1 - nodes r) (literals l) m t f (i - 1) (nodes r) b _
        (handed_second s o i _ b t f g m (literals r) (literals l) t₁ f₁ next (omega arith) (omega arith) (omega arith) (omega arith) (λ z. omega arith))
        (omega arith) wr.firsts wr.gates (λ j low high z. omega arith)) in
        joint_taken (true ∷ (ls ++ rs)) o m t₁ f₁ b t₁ f₁ m t f (omega arith) (omega arith) (omega arith) (omega arith)
        (rw (et, ef) (step_exchanged i k r _ b t f m s kind mk span_r next g)) wr wl
        (gated_exchanged k l r ls rs row b m t f t₁ f₁ next et ef s₁ wr.after wl.after wr.gates wl.gates)

    typed_taken : (m t₁ f₁ : ℕ) → m ≡ b + literals l → t₁ ≡ first_true (operator_kind k) m t → f₁ ≡ first_false (operator_kind k) m f
        → get_or bs i 0 ≡ 0 → Taken ks ss bs i (join k l r) (false ∷ (ls ++ rs)) b t f s
    typed_taken m t₁ f₁ next et ef mk =
        let some_l = nodes_some l in
        let some_r = nodes_some r in
        let gates_l = literals_some l in
        let gates_r = literals_some r in
        let o : Operands = record { first = i - 1 - nodes r; second = i - 1 } in
        let s₁ : Laying = slot_handed (i - 1 - nodes r) b t₁ f₁ (slot_handed (i - 1) m t f s) in
        let wr = take_r m t f s₁ (handed_second s o i _ b t f g m (literals l) (literals r) t₁ f₁ next (omega arith) (omega arith) (omega arith) (omega arith) (λ z. omega arith)) in
        let wl = take_l b t₁ f₁ wr.after
        (handed_kept s₁ wr.after (i - 1 - nodes r) (literals l) b t₁ f₁ (i - 1) (nodes r) m _
        (handed_first s o i _ b t f g m (literals l) (literals r) t₁ f₁ next (omega arith) (omega arith) (omega arith))
        (omega arith) wr.firsts wr.gates (λ j low high z. omega arith)) in
        joint_taken (false ∷ (ls ++ rs)) o m t₁ f₁ m t f b t₁ f₁ (omega arith) (omega arith) (omega arith) (omega arith)
        (rw (et, ef) (step_typed i k l r _ b t f m s kind mk span_r span_l next g)) wr wl
        (gated_typed k l r ls rs row b m t f t₁ f₁ next et ef s₁ wr.after wl.after wr.gates wl.gates)

  taken : (i : ℕ) (e : Expr) (ms : List Bool) (b t f : ℕ) (s : Laying) → Holds ks ss i e → Marked bs i e ms → Handed s i (literals e) b t f
      → Taken ks ss bs i e ms b t f s
  unfolding nodes literals slots_laid
  taken i (literal x) ms b t f s (held.leaf h) m g =
      record {
        after = gate_put b x.primitive x.sense s;
        same = λ top n p q.
            ap (λ (a : ℕ). slots_laid ks ss bs a s) p
            ∙ ap (slots_laid ks ss bs i) (slot_gate ks ss bs i x.primitive x.sense s h.kind ∙ ap (λ (a : ℕ). gate_put a x.primitive x.sense s) g.first)
            ∙ (let z : i ≡ n = omega arith in ap (λ (a : ℕ). slots_laid ks ss bs a (gate_put b x.primitive x.sense s)) z);
        gates = gated_literal b x t f ms s g.on_true g.on_false;
        firsts = below_refl _ _ _;
      }
  taken i (join k l r) ms b t f s (held.joint h p q) (marked.joint {m = true} {ls = ls} {rs = rs} mk a c) g =
      exchanged_taken i k l r ls rs b t f s h.kind h.fits (holds_span q) (holds_span p) (marked-length a) g
      (λ b t f s w. taken (i - 1) r rs b t f s q c w) (λ b t f s w. taken (i - 1 - nodes r) l ls b t f s p a w) _ _ _ refl refl refl mk
  taken i (join k l r) ms b t f s (held.joint h p q) (marked.joint {m = false} {ls = ls} {rs = rs} mk a c) g =
      typed_taken i k l r ls rs b t f s h.kind h.fits (holds_span q) (holds_span p) (marked-length a) g
      (λ b t f s w. taken (i - 1) r rs b t f s q c w) (λ b t f s w. taken (i - 1 - nodes r) l ls b t f s p a w) _ _ _ refl refl refl mk

-- the slots that are left hold expressions with room for their gates
pending_kept : {ks ss gs gs' : List ℕ} {g m : ℕ} → length gs' ≡ length gs → Pending ks ss gs g m → ((j : ℕ) → j < m → get_or gs' j 0 ≡ get_or gs j 0)
    → Pending ks ss gs' g m
pending_kept long none same = none
pending_kept long (more {m = m} {i = i} {rest = rest} {e = e} p q h within room w) same =
    more p q h (omega arith) (omega (arith, same i (omega arith))) (pending_kept long w (λ j x. same j (let s = nodes_some e in omega arith)))

module _ {ks ss gs : List ℕ} {g : ℕ} where
  pub pending_slot : {i : ℕ} → Pending ks ss gs g (suc i) → (i < length ks) × (i < length ss)
  pending_slot (more {i = j} p q h within room w) = let a = holds_within h in let b = holds_span_within h in (omega arith, omega arith)

  pub pending_gate : {i : ℕ} → Pending ks ss gs g (suc i) → get_or gs i 0 < g
  pending_gate {i} (more {i = j} {e = e} p q h within room w) =
      let z : i ≡ j = omega arith in
      rw z (let s = literals_some e in omega arith)

-- the two operands of an operator in the slot i, in the order of its mark
record Split (ks ss : List ℕ) (i n first second : ℕ) : Type 0 where
  x : Expr
  y : Expr
  holds_first : Holds ks ss first x
  holds_second : Holds ks ss second y
  first_below : first < i
  second_below : second < i
  differ : second ≡ first → ⊥
  count : literals x + literals y ≡ n

split : (ks ss bs : List ℕ) (i : ℕ) (k : Kind) (l r : Expr) → nodes l + nodes r ≤ i → Holds ks ss (i - 1 - nodes r) l → Holds ks ss (i - 1) r
    → Split ks ss i (literals l + literals r) (operands_at ss bs i).first (operands_at ss bs i).second
split ks ss bs i k l r fits p q =
    let some_l = nodes_some l in
    let some_r = nodes_some r in
    elim (known (eqb (get_or bs i 0) 1)) [
      | on c ↦ rw (c, holds_span q)
          (record {
            x = r;
            y = l;
            holds_first = q;
            holds_second = p;
            first_below = omega arith;
            second_below = omega arith;
            differ = λ z. omega arith;
            count = omega arith;
          })
      | off c ↦ rw (c, holds_span q)
          (record {
            x = l;
            y = r;
            holds_first = p;
            holds_second = q;
            first_below = omega arith;
            second_below = omega arith;
            differ = λ z. omega arith;
            count = refl;
          })
    ]

not_operator : (k : Kind) (p : ℕ) (sense : Bool) → operator_kind k ≡ Literal (record { 0 = p }) sense → ⊥
not_operator union p sense e = true≢false (sym (ap is_leaf e))
not_operator intersection p sense e = true≢false (sym (ap is_leaf e))

-- an operator in the last slot that is left has room for both operands
pub pending_operating : {ks ss gs : List ℕ} {g : ℕ} (bs : List ℕ) {i : ℕ} (k : Kind) → length ss ≡ 2047 → node_kind (get_or ks i 0) ≡ operator_kind k
    → Pending ks ss gs g (suc i) → Operating (operands_at ss bs i) ss (get_or gs i 0) g
unfolding literals
pending_operating {ks} {ss} {gs} bs {i} k long is (more {i = j} {e = literal x} p q (held.leaf h) within room w) =
    let z : j ≡ i = omega arith in
    absurd (not_operator k x.primitive x.sense (sym is ∙ ap (λ (a : ℕ). node_kind (get_or ks a 0)) (sym z) ∙ h.kind))
pending_operating {ks} {ss} {gs} {g} bs {i} k long is (more {i = j} {e = join o l r} p q (held.joint h a c) within room w) =
    let z : j ≡ i = omega arith in
    let v = split ks ss bs j o l r h.fits a c in
    let first_in = holds_span_within v.holds_first in
    let second_in = holds_span_within v.holds_second in
    let span = holds_span v.holds_first in
    let size = nodes_literals v.x in
    let count = v.count in
    let some = literals_some v.y in
    subst (λ (a : ℕ). Operating (operands_at ss bs a) ss (get_or gs a 0) g) z
    (record { first_within = omega arith; second_within = omega arith; fits = omega arith })

pending_joint : (ks ss gs gs' : List ℕ) (g i rest : ℕ) (l r : Expr) → length gs' ≡ length gs → i < length gs → i ≡ nodes l + nodes r + rest → Holds ks ss (i - 1 - nodes r) l → Holds ks ss (i - 1) r
    → get_or gs' (i - 1) 0 + literals r ≤ g → get_or gs' (i - 1 - nodes r) 0 + literals l ≤ g
    → ((j : ℕ) → j < rest → get_or gs' j 0 ≡ get_or gs j 0) → Pending ks ss gs g rest → Pending ks ss gs' g i
pending_joint ks ss gs gs' g i rest l r long within e p q room_r room_l same w =
    let some_l = nodes_some l in
    let some_r = nodes_some r in
    more {m = i} {i = i - 1} {rest = nodes l + rest} {e = r} (omega arith) (omega arith) q (omega arith) room_r
    (more {m = nodes l + rest} {i = i - 1 - nodes r} {rest = rest} {e = l} (omega arith) refl p (omega arith) room_l (pending_kept long w same))

-- taking a slot leaves expressions with room
pub pending_step : (ks ss bs : List ℕ) (g i : ℕ) (s : Laying) → Pending ks ss s.firsts g (suc i)
    → Pending ks ss (slot_laid ks ss bs i s).firsts g i
unfolding nodes literals
pending_step ks ss bs g i s (more {i = j} {rest = rest} {e = literal x} p q (held.leaf h) within room w) =
    let z : j ≡ i = omega arith in
    let here : rest ≡ i = omega arith in
    rw (slot_gate ks ss bs i x.primitive x.sense s (ap (λ (a : ℕ). node_kind (get_or ks a 0)) (sym z) ∙ h.kind))
    (subst (λ (a : ℕ). Pending ks ss s.firsts g a) here w)
pending_step ks ss bs g i s (more {i = j} {rest = rest} {e = join k l r} p q (held.joint h a c) within room w) =
    let z : j ≡ i = omega arith in
    let long : i < length s.firsts = omega arith in
    let some_l = nodes_some l in
    let some_r = nodes_some r in
    let count_l = nodes_literals l in
    let count_r = nodes_literals r in
    let left : Holds ks ss (i - 1 - nodes r) l = rw z at a in
    let right : Holds ks ss (i - 1) r = rw z at c in
    let span_l = holds_span left in
    let span_r = holds_span right in
    let b = get_or s.firsts i 0 in
    let fits : b + (literals l + literals r) ≤ g = rw z at room in
    rw (slot_operator ks ss bs i k s (ap (λ (a : ℕ). node_kind (get_or ks a 0)) (sym z) ∙ h.kind))
    (elim (known (eqb (get_or bs i 0) 1)) [
      | on x ↦ rw (x, span_r)
          (let gs = set s.firsts (i - 1 - nodes r) (place_after b (nodes r)) in
          let here : get_or (set gs (i - 1) b) (i - 1) 0 ≡ b = read_last s.firsts _ _ (i - 1) b (omega arith) in
          let there : get_or (set gs (i - 1) b) (i - 1 - nodes r) 0 ≡ place_after b (nodes r) =
          read_first s.firsts _ _ (i - 1) b (omega arith) (λ e. omega arith) in
          pending_joint ks ss s.firsts (set gs (i - 1) b) g i rest l r (length-set gs _ b ∙ length-set s.firsts _ _) (omega arith) (omega arith) left right (omega arith) (omega arith)
          (λ u v. get_or-set_other gs (i - 1) u b 0 (λ e. omega arith) ∙ get_or-set_other s.firsts (i - 1 - nodes r) u (place_after b (nodes r)) 0 (λ e. omega arith)) w)
      | off x ↦ rw (x, span_r, span_l)
          (let gs = set s.firsts (i - 1) (place_after b (nodes l)) in
          let here : get_or (set gs (i - 1 - nodes r) b) (i - 1 - nodes r) 0 ≡ b = read_last s.firsts _ _ (i - 1 - nodes r) b (omega arith) in
          let there : get_or (set gs (i - 1 - nodes r) b) (i - 1) 0 ≡ place_after b (nodes l) =
          read_first s.firsts _ _ (i - 1 - nodes r) b (omega arith) (λ e. omega arith) in
          pending_joint ks ss s.firsts (set gs (i - 1 - nodes r) b) g i rest l r (length-set gs _ b ∙ length-set s.firsts _ _) (omega arith) (omega arith) left right (omega arith) (omega arith)
          (λ u v. get_or-set_other gs (i - 1 - nodes r) u b 0 (λ e. omega arith) ∙ get_or-set_other s.firsts (i - 1) u (place_after b (nodes l)) 0 (λ e. omega arith)) w)
    ])

-- what is left to take, and that it leads to the same end
pub record Onward (ks ss bs : List ℕ) (g count : ℕ) (before : Laying) (left : ℕ) (now : Laying) : Type 0 where
  pub pending : Pending ks ss now.firsts g left
  pub same : slots_laid ks ss bs left now ≡ slots_laid ks ss bs count before

pub onward_step : {ks ss bs : List ℕ} {g n : ℕ} {before : Laying} {i j : ℕ} {s s' : Laying} → s' ≡ slot_laid ks ss bs i s
    → Onward ks ss bs g n before (suc i) s → i ≡ j → Onward ks ss bs g n before j s'
unfolding slots_laid
onward_step {ks} {ss} {bs} {g} {i = i} {s = s} is w same = rw (is, ← same) (record { pending = pending_step ks ss bs g i s w.pending; same = w.same })

pub onward_end : {ks ss bs : List ℕ} {g n : ℕ} {before s : Laying} → Onward ks ss bs g n before 0 s → s ≡ slots_laid ks ss bs n before
unfolding slots_laid
onward_end w = w.same

pub layable_some : {ks ss bs : List ℕ} {n : ℕ} → Layable ks ss bs n → 1 ≤ n
layable_some y = omega (arith, literals_some y.tree, y.count)

-- a slot handed to
handed_to : {j b t f : ℕ} {gs ts fs gs' ts' fs' : List ℕ} (ps qs : List ℕ) → HandedTo j b t f gs ts fs gs' ts' fs'
    → laying gs' ps qs ts' fs' ≡ slot_handed j b t f (laying gs ps qs ts fs)
handed_to ps qs h = rw (h.first, h.true_place, h.false_place) refl

-- the root handed its part
pub pending_start : {ks ss bs gs ts fs gs' ts' fs' : List ℕ} {n count t f : ℕ} → Layable ks ss bs n → length gs ≡ 2047 → count ≡ 2 * n - 1
    → HandedTo (2 * n - 2) 0 t f gs ts fs gs' ts' fs' → Pending ks ss gs' n count
pending_start {gs = gs} {gs' = gs'} {n = n} {count = count} y long is h =
    let literal_count = y.count in
    let size = nodes_literals y.tree in
    let some = literals_some y.tree in
    let few = y.few in
    let here : get_or gs' (2 * n - 2) 0 ≡ 0 = ap (λ (l : List ℕ). get_or l (2 * n - 2) 0) h.first ∙ get_or-set_same gs (2 * n - 2) 0 0 (omega arith) in
    let kept : length gs' ≡ length gs = ap length h.first ∙ length-set gs (2 * n - 2) 0 in
    more {m = count} {i = 2 * n - 2} {rest = 0} {e = y.tree} (omega arith) (omega arith) y.holds (omega arith) (omega arith) none

-- all slots taken, the gates of the arrangement are written
pub all_laid : {ks ss bs gs gs₁ gs₂ ps qs ts fs ps₁ qs₁ ts₁ fs₁ ps₂ qs₂ ts₂ fs₂ : List ℕ} {n count f : ℕ} → n ≤ most_literals
    → length gs ≡ 2047 → length ts ≡ n → length fs ≡ n → f ≡ suc n
    → HandedTo (2 * n - 2) 0 n f gs ts fs gs₁ ts₁ fs₁
    → ps₁ ≡ ps → qs₁ ≡ qs → laying gs₂ ps₂ qs₂ ts₂ fs₂ ≡ slots_laid ks ss bs count (laying gs₁ ps₁ qs₁ ts₁ fs₁)
    → count ≡ 2 * n - 1
    → LaidOut ks ss bs n ps qs ts fs ps₂ qs₂ ts₂ fs₂
unfolding slots_laid
all_laid {ks} {ss} {bs} {gs} {gs₁} {gs₂} {ps} {qs} {ts} {fs} {ps₁} {qs₁} {ts₁} {fs₁} {ps₂} {qs₂} {ts₂} {fs₂} {n} {count} {f} few lg lt lf last h same_p same_q is c =
    record { each = go }
  where
    s : Laying
    s = laying gs ps qs ts fs

    s₁ : Laying
    s₁ = slot_handed (2 * n - 2) 0 n (suc n) s

    s₂ : Laying
    s₂ = laying gs₂ ps₂ qs₂ ts₂ fs₂

    root : (e : Expr) → literals e ≡ n → Handed s₁ (2 * n - 2) (literals e) 0 n (suc n)
    root e total =
        let some = literals_some e in
        record {
          long = simp length-set (omega arith);
          trues_room = simp length-set (omega arith);
          falses_room = simp length-set (omega arith);
          first = get_or-set_same gs (2 * n - 2) 0 0 (omega arith);
          on_true = get_or-set_same ts 0 n 0 (omega arith);
          on_false = get_or-set_same fs 0 (suc n) 0 (omega arith);
        }

    go : (e : Expr) (ms : List Bool) → Holds ks ss (2 * n - 2) e → Marked bs (2 * n - 2) e ms → literals e ≡ n
        → Laid ps qs ts fs ps₂ qs₂ ts₂ fs₂ (gates (arranged ms e))
    go e ms holds marked total =
        let size = nodes_literals e in
        let some = literals_some e in
        let w = taken ks ss bs (2 * n - 2) e ms 0 n (suc n) s₁ holds marked (root e total) in
        let from : s₂ ≡ slots_laid ks ss bs count s₁ = rw (same_p, same_q) at is ∙ ap (slots_laid ks ss bs count) (handed_to ps qs (rw last at h)) in
        let all : w.after ≡ s₂ = sym (from ∙ w.same count 0 (omega arith) (omega arith)) in
        let same = literals_arranged ms e in
        let told : gates (arranged ms e) ≡ gates_from (arranged ms e) 0 n (suc n) =
        gates_told (arranged ms e) ∙ ap (λ (a : ℕ). gates_from (arranged ms e) 0 a (suc a)) (same ∙ total) in
        let long = length-gates_from (arranged ms e) 0 n (suc n) in
        rw told
        (gated_over s s₂ (2 * n - 2) 0 n (suc n) 0 _ (omega arith) (omega arith) (omega arith) (omega arith)
        (subst (λ (a : Laying). Gated 0 s₁ a (gates_from (arranged ms e) 0 n (suc n))) all w.gates))

-- both operands handed to in turn, by what stands at the first gate
pub handed_both : {k : coded.Kind} {o : Operands} {ss : List ℕ} {b g m t₁ f₁ : ℕ} {gs ts fs gs₁ ts₁ fs₁ gs₂ ts₂ fs₂ : List ℕ}
    → g ≡ b → m ≡ place_after b (get_or ss o.first 0) → t₁ ≡ first_true k m (get_or ts g 0) → f₁ ≡ first_false k m (get_or fs g 0)
    → HandedTo o.second m (get_or ts g 0) (get_or fs g 0) gs ts fs gs₁ ts₁ fs₁ → HandedTo o.first b t₁ f₁ gs₁ ts₁ fs₁ gs₂ ts₂ fs₂
    → HandedDown k o ss b gs ts fs gs₂ ts₂ fs₂
handed_both eg em et ef p q =
    record { each = λ ps qs. handed_to ps qs q ∙ ap (slot_handed _ _ _ _) (handed_to ps qs p) ∙ rw (et, ef, eg, em) refl }

-- a kind that is no literal's is an operator's
record Operator (kind : coded.Kind) : Type 0 where
  operator : Kind
  is : kind ≡ operator_kind operator

operator_of : (kind : coded.Kind) → ((p : Primitive) (sense : Bool) → kind ≡ Literal p sense → ⊥) → Operator kind
operator_of Union no_literal = record { operator = union; is = refl }
operator_of Intersection no_literal = record { operator = intersection; is = refl }
operator_of (Literal p sense) no_literal = absurd (no_literal p sense refl)

-- the arms of one slot, of which b is the first gate
module _ (ks ss bs : List ℕ) (i : ℕ) {node : Node} (is : node ≡ node_at ks ss i) where
  kind_at : node_kind (get_or ks i 0) ≡ node.kind
  kind_at = sym (ap (λ (n : Node). n.kind) is)

  pub literal_laid : {gs ps qs ts fs : List ℕ} {b : ℕ} {p : Primitive} {sense : Bool} {ps' qs' ts' fs' : List ℕ} → get_or gs i 0 ≡ b → node.kind ≡ Literal p sense
      → GateLaid b p.0 sense ps qs ps' qs' → ts' ≡ ts → fs' ≡ fs → laying gs ps' qs' ts' fs' ≡ slot_laid ks ss bs i (laying gs ps qs ts fs)
  literal_laid {gs} {ps} {qs} {ts} {fs} {p = p} {sense = sense} first node_is h same_t same_f =
      rw (h.primitive, h.sense_put, same_t, same_f, ← first) (sym (slot_gate ks ss bs i p.0 sense (laying gs ps qs ts fs) (kind_at ∙ node_is)))

  module _ {o : Operands} (ordered : o ≡ in_order_of (get_or bs i 0) node.left node.right)
      (no_literal : (p : Primitive) (sense : Bool) → node.kind ≡ Literal p sense → ⊥) where
    ordered_at : o ≡ operands_at ss bs i
    ordered_at = ordered ∙ ap (λ (n : Node). in_order_of (get_or bs i 0) n.left n.right) is

    pub operating : {gs : List ℕ} {b g : ℕ} → get_or gs i 0 ≡ b → length ss ≡ 2047 → Pending ks ss gs g (suc i) → Operating o ss b g
    operating first long w =
        let k = operator_of node.kind no_literal in
        rw (ordered_at, ← first) (pending_operating bs k.operator long (kind_at ∙ k.is) w)

    pub operator_laid : {gs ps qs ts fs gs' ps' qs' ts' fs' : List ℕ} {b : ℕ} → get_or gs i 0 ≡ b → HandedDown node.kind o ss b gs ts fs gs' ts' fs' → ps' ≡ ps
        → qs' ≡ qs → laying gs' ps' qs' ts' fs' ≡ slot_laid ks ss bs i (laying gs ps qs ts fs)
    operator_laid {gs} {ps} {qs} {ts} {fs} first h same_p same_q =
        let k = operator_of node.kind no_literal in
        rw (same_p, same_q)
        (h.each ps qs
        ∙ rw (k.is, ordered_at, ← first) (sym (slot_operator ks ss bs i k.operator (laying gs ps qs ts fs) (kind_at ∙ k.is))))
