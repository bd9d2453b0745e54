-- Each gate asks for the number that was typed, in its sense: every literal of the positive form stands for the number at its own
-- occurrence, arranging keeps literals, and the table's bytes give them back. Assumes nothing.
use Prim.Native.Nat.{ℕ, ◌+◌, ◌-◌, ◌≤◌, ◌<◌}
use mathlib.Core.Path.{◌≡◌, refl, sym, ap, ap₂, ◌∙◌}
use mathlib.Core.Bool.{Bool, true, false, not, cond}
use mathlib.Core.List.{List, [], ◌∷◌, ◌++◌, map, map-append}
use native.Mathlib.Nat.{sub_self}
use native.Mathlib.Decide.{dec_lt}
use native.Mathlib.Omega.{arith}
use lib.ListN.{length, get_or, take, drop, length-append, get_or-append, get_or-map}
use lib.Seq.{get_or-append-add}
use Rattle.terms.specs.Terms.{Primitive, most_literals}
use Rattle.formula.specs.Formula.{Literal, Kind, Expr, literal, join, literals, operators}
use Rattle.formula.specs.Typed.{Typed, number, complement, plus, times, minus, numbers, occurs, positive, negative}
use Rattle.formula.specs.Marks.{placed, arranged}
use Rattle.formula.specs.Occurrences.{occurrences, times_of}
use Rattle.formula.proofs.Occurrences.{times_positive}
use Rattle.formula.proofs.Small.{SmallPrimitives}
use Rattle.turning.specs.Turning.{marks, turned}
use Rattle.weaving.specs.Gates.{in_order}
use Rattle.weaving.specs.Labels.{weave}
use Rattle.weaving.proofs.Places.{length-in_order}
use Rattle.weaving.proofs.Following.{weave_literals}
use Rattle.table.specs.Layout.{P, N, GateFields, gate_of, kind_by_sense}
use Rattle.compiler.specs.Compiled.{table_of}
use Rattle.compiler.proofs.Bytes.{no_record, record_of, fields_of}
use Rattle.compiler.proofs.Tables.{gate_written}
use Rattle.promises.specs.Words.{typed_numbers, typed_senses}

-- something that holds of each literal of an expression
data Each (Q : Literal → Type 0) : Expr → Type 0 where
  one : {x : Literal} → Q x → Each Q (literal x)
  both : {k : Kind} {l r : Expr} → Each Q l → Each Q r → Each Q (join k l r)

each_map : {Q R : Literal → Type 0} {e : Expr} → ((x : Literal) → Q x → R x) → Each Q e → Each R e
each_map f (one h) = one (f _ h)
each_map f (both a b) = both (each_map f a) (each_map f b)

each_placed : {Q : Literal → Type 0} (m : Bool) (k : Kind) {l r : Expr} → Each Q l → Each Q r → Each Q (placed m k l r)
each_placed true k a b = both b a
each_placed false k a b = both a b

each_arranged : {Q : Literal → Type 0} {e : Expr} → Each Q e → (ms : List Bool) → Each Q (arranged ms e)
unfolding arranged
each_arranged (one h) ms = one h
each_arranged (both a b) [] = both a b
each_arranged (both {k = k} {l = l} a b) (m ∷ ms) = each_placed m k (each_arranged a (take (operators l) ms)) (each_arranged b (drop (operators l) ms))

each_at : {Q : Literal → Type 0} {e : Expr} → Each Q e → (k : ℕ) (d : Literal) → k < literals e → Q (get_or (in_order e) k d)
unfolding in_order literals
each_at {Q} (one {x = x} q) k d h = let z : k ≡ 0 = omega arith in rw z q
each_at {Q} (both {l = l} {r = r} a b) k d h =
    elim (dec_lt k (literals l)) [
      | yes in_left ↦ rw (get_or-append (in_order l) (in_order r) d k (rw (length-in_order l) in_left)) (each_at a k d in_left)
      | no not_left ↦
          let j = k - literals l in
          let is : k ≡ length (in_order l) + j = omega (arith, length-in_order l) in
          rw (is, get_or-append-add (in_order l) (in_order r) j d) (each_at b j d (omega arith))
    ]

-- the literal is that of its occurrence among n numbers and senses, the first of which is occurrence k
record Stands (k n : ℕ) (ps : List Primitive) (ss : List Bool) (x : Literal) : Type 0 where
  from : k ≤ x.occurrence
  below : x.occurrence < k + n
  primitive : x.primitive ≡ get_or ps (x.occurrence - k) 0
  sense : x.sense ≡ get_or ss (x.occurrence - k) true

-- it still is where more numbers come behind, or before
module _ (k n m : ℕ) (ps qs : List Primitive) (ss ts : List Bool) (long : length ps ≡ n) (as_long : length ss ≡ n) (x : Literal) where
  stands_left : Stands k n ps ss x → Stands k (n + m) (ps ++ qs) (ss ++ ts) x
  stands_left s =
      record {
        from = s.from;
        below = omega (arith, s.below);
        primitive = s.primitive ∙ sym (get_or-append ps qs 0 (x.occurrence - k) (omega (arith, s.below, s.from)));
        sense = s.sense ∙ sym (get_or-append ss ts true (x.occurrence - k) (omega (arith, s.below, s.from)));
      }

  stands_right : Stands (k + n) m qs ts x → Stands k (n + m) (ps ++ qs) (ss ++ ts) x
  stands_right s =
      let j = x.occurrence - (k + n) in
      let p : x.occurrence - k ≡ length ps + j = omega (arith, s.from) in
      let q : x.occurrence - k ≡ length ss + j = omega (arith, s.from) in
      record {
        from = omega (arith, s.from);
        below = omega (arith, s.below);
        primitive = s.primitive ∙ rw p (sym (get_or-append-add ps qs j 0));
        sense = s.sense ∙ rw q (sym (get_or-append-add ss ts j true));
      }

pub length_typed_numbers : (e : Typed) → length (typed_numbers e) ≡ numbers e
unfolding typed_numbers numbers
length_typed_numbers (number p) = refl
length_typed_numbers (complement a) = length_typed_numbers a
length_typed_numbers (plus a b) = length-append (typed_numbers a) (typed_numbers b) ∙ ap₂ ◌+◌ (length_typed_numbers a) (length_typed_numbers b)
length_typed_numbers (times a b) = length-append (typed_numbers a) (typed_numbers b) ∙ ap₂ ◌+◌ (length_typed_numbers a) (length_typed_numbers b)
length_typed_numbers (minus a b) = length-append (typed_numbers a) (typed_numbers b) ∙ ap₂ ◌+◌ (length_typed_numbers a) (length_typed_numbers b)

pub length_typed_senses : (s : Bool) (e : Typed) → length (typed_senses s e) ≡ numbers e
unfolding typed_senses numbers
length_typed_senses s (number p) = refl
length_typed_senses s (complement a) = length_typed_senses (not s) a
length_typed_senses s (plus a b) = length-append (typed_senses s a) (typed_senses s b) ∙ ap₂ ◌+◌ (length_typed_senses s a) (length_typed_senses s b)
length_typed_senses s (times a b) = length-append (typed_senses s a) (typed_senses s b) ∙ ap₂ ◌+◌ (length_typed_senses s a) (length_typed_senses s b)
length_typed_senses s (minus a b) =
    length-append (typed_senses s a) (typed_senses (not s) b) ∙ ap₂ ◌+◌ (length_typed_senses s a) (length_typed_senses (not s) b)

-- a literal of an expression that has the sense s, counted from occurrence k on
abbrev Typing : Bool → ℕ → Typed → Literal → Type 0
Typing s k e = Stands k (numbers e) (typed_numbers e) (typed_senses s e)

two : (o : Kind) (s t : Bool) (k : ℕ) (a b : Typed) {l r : Expr} → Each (Typing s k a) l → Each (Typing t (k + numbers a) b) r
    → Each (Stands k (numbers a + numbers b) (typed_numbers a ++ typed_numbers b) (typed_senses s a ++ typed_senses t b)) (join o l r)
two o s t k a b x y =
    let left = stands_left k (numbers a) (numbers b) (typed_numbers a) (typed_numbers b) (typed_senses s a) (typed_senses t b) in
    let right = stands_right k (numbers a) (numbers b) (typed_numbers a) (typed_numbers b) (typed_senses s a) (typed_senses t b) in
    both (each_map (left (length_typed_numbers a) (length_typed_senses s a)) x) (each_map (right (length_typed_numbers a) (length_typed_senses s a)) y)

alone : (p : Primitive) (s : Bool) (k : ℕ) → Each (Stands k 1 (p ∷ []) (s ∷ [])) (occurs p s k)
alone p s k =
    one {x = record { primitive = p; sense = s; occurrence = k }}
    (record { from = omega arith; below = omega arith; primitive = rw (sub_self k); sense = rw (sub_self k) })

mutual
  unfolding numbers typed_numbers typed_senses positive negative

  each_positive : (k : ℕ) (e : Typed) → Each (Typing true k e) (positive k e)
  each_positive k (number p) = alone p true k
  each_positive k (complement a) = each_negative k a
  each_positive k (plus a b) = two _ true true k a b (each_positive k a) (each_positive (k + numbers a) b)
  each_positive k (times a b) = two _ true true k a b (each_positive k a) (each_positive (k + numbers a) b)
  each_positive k (minus a b) = two _ true false k a b (each_positive k a) (each_negative (k + numbers a) b)

  each_negative : (k : ℕ) (e : Typed) → Each (Typing false k e) (negative k e)
  each_negative k (number p) = alone p false k
  each_negative k (complement a) = each_positive k a
  each_negative k (plus a b) = two _ false false k a b (each_negative k a) (each_negative (k + numbers a) b)
  each_negative k (times a b) = two _ false false k a b (each_negative k a) (each_negative (k + numbers a) b)
  each_negative k (minus a b) = two _ false true k a b (each_negative k a) (each_positive (k + numbers a) b)

-- the literals are the occurrences
occurrences_in_order : (e : Expr) → occurrences e ≡ map (λ x. x.occurrence) (in_order e)
unfolding occurrences in_order
occurrences_in_order (literal x) = refl
occurrences_in_order (join k l r) =
    ap₂ ◌++◌ (occurrences_in_order l) (occurrences_in_order r) ∙ sym (map-append (λ x. x.occurrence) (in_order l) (in_order r))

-- "Left and right keep their sides."
abbrev primitives : Expr → List Primitive
primitives e = map (λ x. x.primitive) (in_order e)

side_by_side : (l r : Expr) {ps qs : List Primitive} → primitives l ≡ ps → primitives r ≡ qs
    → map (λ x. x.primitive) (in_order l ++ in_order r) ≡ ps ++ qs
side_by_side l r p q = map-append (λ x. x.primitive) (in_order l) (in_order r) ∙ ap₂ ◌++◌ p q

mutual
  unfolding in_order typed_numbers positive negative

  pub numbers_in_order : (k : ℕ) (e : Typed) → primitives (positive k e) ≡ typed_numbers e
  numbers_in_order k (number p) = refl
  numbers_in_order k (complement a) = numbers_in_negative k a
  numbers_in_order k (plus a b) = side_by_side (positive k a) (positive (k + numbers a) b) (numbers_in_order k a) (numbers_in_order (k + numbers a) b)
  numbers_in_order k (times a b) = side_by_side (positive k a) (positive (k + numbers a) b) (numbers_in_order k a) (numbers_in_order (k + numbers a) b)
  numbers_in_order k (minus a b) = side_by_side (positive k a) (negative (k + numbers a) b) (numbers_in_order k a) (numbers_in_negative (k + numbers a) b)

  numbers_in_negative : (k : ℕ) (e : Typed) → primitives (negative k e) ≡ typed_numbers e
  numbers_in_negative k (number p) = refl
  numbers_in_negative k (complement a) = numbers_in_order k a
  numbers_in_negative k (plus a b) = side_by_side (negative k a) (negative (k + numbers a) b) (numbers_in_negative k a) (numbers_in_negative (k + numbers a) b)
  numbers_in_negative k (times a b) = side_by_side (negative k a) (negative (k + numbers a) b) (numbers_in_negative k a) (numbers_in_negative (k + numbers a) b)
  numbers_in_negative k (minus a b) = side_by_side (negative k a) (positive (k + numbers a) b) (numbers_in_negative k a) (numbers_in_order (k + numbers a) b)

-- each occurrence is one gate
pub occurrence_once : (e : Typed) (i : ℕ) → i < numbers e → times_of i (occurrences (turned (positive 0 e))) ≡ 1
unfolding turned
occurrence_once e i h = times_positive i (marks (positive 0 e)) e h

-- gate k's literal
abbrev pub literal_at : Expr → ℕ → Literal
literal_at e k = get_or (in_order e) k no_record.literal

occurrence_of : (e : Expr) (k : ℕ) → get_or (occurrences e) k 0 ≡ (literal_at e k).occurrence
occurrence_of e k =
    ap (λ (is : List ℕ). get_or is k 0) (occurrences_in_order e) ∙ get_or-map (λ x. x.occurrence) (in_order e) k no_record.literal

pub record_literal : (e : Expr) (k : ℕ) → (record_of (weave e) k).literal ≡ literal_at e k
record_literal e k =
    sym (get_or-map (λ r. r.literal) (weave e).gate_records k no_record)
    ∙ ap (λ (xs : List Literal). get_or xs k no_record.literal) (weave_literals e)

kind_sensed : (s : Bool) → kind_by_sense s ≡ cond s P N
kind_sensed true = refl
kind_sensed false = refl

-- gate k's literal, in an arrangement of the positive form
module _ (e : Typed) (ms : List Bool) (k : ℕ) (h : k < literals (arranged ms (positive 0 e))) where
  abbrev occurrence : ℕ
  occurrence = get_or (occurrences (arranged ms (positive 0 e))) k 0

  abbrev of_gate : Literal
  of_gate = literal_at (arranged ms (positive 0 e)) k

  stands : Stands 0 (numbers e) (typed_numbers e) (typed_senses true e) of_gate
  stands = each_at (each_arranged (each_positive 0 e) ms) k no_record.literal h

  place_of : of_gate.occurrence - 0 ≡ occurrence
  place_of = omega (arith, occurrence_of (arranged ms (positive 0 e)) k)

  pub occurrence_within : occurrence < numbers e
  occurrence_within = omega (arith, stands.below, occurrence_of (arranged ms (positive 0 e)) k)

  pub literal_primitive : of_gate.primitive ≡ get_or (typed_numbers e) occurrence 0
  literal_primitive = stands.primitive ∙ ap (λ (i : ℕ). get_or (typed_numbers e) i 0) place_of

  pub literal_sense : of_gate.sense ≡ get_or (typed_senses true e) occurrence true
  literal_sense = stands.sense ∙ ap (λ (i : ℕ). get_or (typed_senses true e) i true) place_of

-- what the bytes of gate k say, in the table of an expression
module _ (e : Expr) (small : SmallPrimitives e) (few : literals e ≤ most_literals) (k : ℕ) (h : k < literals e) where
  field_of : {A : Type 0} (of : GateFields → A) → of (gate_of (table_of (weave e)) k) ≡ of (fields_of (record_of (weave e) k))
  field_of of = ap of (gate_written e small few k h)

  pub gate_primitive : (gate_of (table_of (weave e)) k).primitive ≡ (literal_at e k).primitive
  gate_primitive = field_of (λ g. g.primitive) ∙ ap (λ (x : Literal). x.primitive) (record_literal e k)

  pub gate_kind : (gate_of (table_of (weave e)) k).kind ≡ cond (literal_at e k).sense P N
  gate_kind = field_of (λ g. g.kind) ∙ ap (λ (x : Literal). kind_by_sense x.sense) (record_literal e k) ∙ kind_sensed (literal_at e k).sense
