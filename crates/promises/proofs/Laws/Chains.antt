-- A text whose chains do not tell the two bindings of `-` apart is read alike by both: what waits is the same, but that a `-` waits in the
-- sum here and in its product there, until a `+` or the chain's end takes both in. Assumes nothing.
use Prim.Native.Nat.{ℕ, suc}
use mathlib.Core.Path.{◌≡◌, refl, sym, ◌∙◌}
use mathlib.Core.Bool.{Bool, true, false, ◌||◌, true≢false}
use mathlib.Core.Option.{Option, none, some}
use mathlib.Core.List.{List, [], ◌∷◌}
use Rattle.formula.specs.Typed.{Typed, number, minus}
use Rattle.grammar.specs.declared.Operator.{Operator}
use Rattle.grammar.specs.declared.Operator.TheVariants.{Plus, Times, Minus}
use Rattle.grammar.specs.declared.Sign.{Sign}
use Rattle.grammar.specs.declared.Sign.TheVariants.{Digit, Joins, Bang, Open, Close, Blank, Other}
use Rattle.grammar.specs.Bytes.{sign_of}
use Rattle.grammar.specs.Twins.Reader.{level, Pending, alone, half, joined, Waiting, nothing, State, wanted, inside, complete, product_with, Next, stuck, go, closing, closed, at_end, onward, read}
use Rattle.promises.specs.Examples.Binding.{minus_in_products, next_by, read_from_by, read_by, Chain, parts, parts_at, chain_behind, told_apart_from, told_apart}
use Rattle.promises.proofs.Laws.Levels.{read_by_level}

-- what waits in a chain with such a last operator, read by `level` and by `minus_in_products`
data Matched : Option Operator → Waiting → Waiting → Type 0 where
  first : {j : Pending} {n : ℕ} → Matched none (record { sum = alone; product = j; complements = n }) (record { sum = alone; product = j; complements = n })
  by_plus : {a : Typed} {j : Pending} {n : ℕ}
      → Matched (some Plus) (record { sum = half a Plus; product = j; complements = n }) (record { sum = half a Plus; product = j; complements = n })
  by_minus : {a : Typed} {n : ℕ}
      → Matched (some Minus) (record { sum = half a Minus; product = alone; complements = n }) (record { sum = alone; product = half a Minus; complements = n })

data MatchedOuter : List (Option Operator) → List Waiting → List Waiting → Type 0 where
  top : MatchedOuter [] [] []
  under : {l : Option Operator} {ls : List (Option Operator)} {v w : Waiting} {vs ws : List Waiting} → Matched l v w → MatchedOuter ls vs ws → MatchedOuter (l ∷ ls) (v ∷ vs) (w ∷ ws)

data MatchedState : Option Operator → State → State → Type 0 where
  both_wanted : {l : Option Operator} {v w : Waiting} → Matched l v w → MatchedState l (wanted v) (wanted w)
  both_inside : {l : Option Operator} {v w : Waiting} {d : ℕ} → Matched l v w → MatchedState l (inside v d) (inside w d)
  first_complete : {p : Typed} → MatchedState none (complete alone p) (complete alone p)
  plus_complete : {a p : Typed} → MatchedState (some Plus) (complete (half a Plus) p) (complete (half a Plus) p)
  minus_complete : {a p : Typed} → MatchedState (some Minus) (complete (half a Minus) p) (complete alone (minus a p))

operand_matched : {l : Option Operator} {v w : Waiting} → Matched l v w → (e : Typed) → MatchedState l (complete v.sum (product_with v e)) (complete w.sum (product_with w e))
operand_matched first e = first_complete
operand_matched by_plus e = plus_complete
operand_matched by_minus e = minus_complete

joined_matched : {l : Option Operator} {i j : Pending} {p q : Typed} → MatchedState l (complete i p) (complete j q) → joined i p ≡ joined j q
joined_matched first_complete = refl
joined_matched plus_complete = refl
joined_matched minus_complete = refl

-- two next states that match, or none
data MatchedNext : Chain → Next → Next → Type 0 where
  both_stuck : {c : Chain} → MatchedNext c stuck stuck
  both_go : {l : Option Operator} {ls : List (Option Operator)} {st st' : State} {vs ws : List Waiting} → MatchedState l st st' → MatchedOuter ls vs ws
      → MatchedNext (record { last = l; outside = ls }) (go st vs) (go st' ws)

abbrev chain : Option Operator → List (Option Operator) → Chain
chain l ls = record { last = l; outside = ls }

closing_matched : (l : Option Operator) (ls : List (Option Operator)) {vs ws : List Waiting} (e : Typed) → MatchedOuter ls vs ws
    → MatchedNext (chain_behind (chain l ls) Close) (closing e vs) (closing e ws)
closing_matched l [] e top = both_stuck
closing_matched l (m ∷ ls) e (under matched outer) = both_go (operand_matched matched e) outer

joins_matched : (l : Option Operator) (ls : List (Option Operator)) (o : Operator) {i j : Pending} {p q : Typed} {vs ws : List Waiting}
    → MatchedState l (complete i p) (complete j q) → MatchedOuter ls vs ws → parts l o ≡ false
    → MatchedNext (chain_behind (chain l ls) (Joins o)) (next_by level (complete i p) (Joins o) vs) (next_by minus_in_products (complete j q) (Joins o) ws)
joins_matched none ls Plus first_complete outer alike = both_go (both_wanted by_plus) outer
joins_matched none ls Times first_complete outer alike = both_go (both_wanted first) outer
joins_matched none ls Minus first_complete outer alike = both_go (both_wanted by_minus) outer
joins_matched (some Plus) ls Plus plus_complete outer alike = both_go (both_wanted by_plus) outer
joins_matched (some Plus) ls Times plus_complete outer alike = both_go (both_wanted by_plus) outer
joins_matched (some Plus) ls Minus plus_complete outer alike = absurd (true≢false alike)
joins_matched (some Times) ls o matched outer alike = elim matched [ ]
joins_matched (some Minus) ls Plus minus_complete outer alike = both_go (both_wanted by_plus) outer
joins_matched (some Minus) ls Times minus_complete outer alike = absurd (true≢false alike)
joins_matched (some Minus) ls Minus minus_complete outer alike = both_go (both_wanted by_minus) outer

complete_matched : (l : Option Operator) (ls : List (Option Operator)) (k : Sign) {i j : Pending} {p q : Typed} {vs ws : List Waiting}
    → MatchedState l (complete i p) (complete j q) → MatchedOuter ls vs ws → parts_at (chain l ls) k ≡ false
    → MatchedNext (chain_behind (chain l ls) k) (next_by level (complete i p) k vs) (next_by minus_in_products (complete j q) k ws)
complete_matched l ls (Digit d) matched outer alike = both_stuck
complete_matched l ls (Joins o) matched outer alike = joins_matched l ls o matched outer alike
complete_matched l ls Bang matched outer alike = both_stuck
complete_matched l ls Open matched outer alike = both_stuck
complete_matched l ls Close {j = j} {q = q} matched outer alike = rw (joined_matched matched) (closing_matched l ls (joined j q) outer)
complete_matched l ls Blank matched outer alike = both_go matched outer
complete_matched l ls Other matched outer alike = both_stuck

inside_matched : (l : Option Operator) (ls : List (Option Operator)) (k : Sign) {v w : Waiting} (d : ℕ) {vs ws : List Waiting}
    → Matched l v w → MatchedOuter ls vs ws → parts_at (chain l ls) k ≡ false
    → MatchedNext (chain_behind (chain l ls) k) (next_by level (inside v d) k vs) (next_by minus_in_products (inside w d) k ws)
inside_matched l ls (Digit x) d matched outer alike = both_go (both_inside matched) outer
inside_matched l ls (Joins o) d matched outer alike = complete_matched l ls (Joins o) (operand_matched matched (number d)) outer alike
inside_matched l ls Bang d matched outer alike = both_stuck
inside_matched l ls Open d matched outer alike = both_stuck
inside_matched l ls Close d matched outer alike = complete_matched l ls Close (operand_matched matched (number d)) outer alike
inside_matched l ls Blank d matched outer alike = complete_matched l ls Blank (operand_matched matched (number d)) outer alike
inside_matched l ls Other d matched outer alike = both_stuck

banged : {l : Option Operator} {v w : Waiting} → Matched l v w
    → Matched l (record { sum = v.sum; product = v.product; complements = suc v.complements }) (record { sum = w.sum; product = w.product; complements = suc w.complements })
banged first = first
banged by_plus = by_plus
banged by_minus = by_minus

wanted_matched : (l : Option Operator) (ls : List (Option Operator)) (k : Sign) {v w : Waiting} {vs ws : List Waiting}
    → Matched l v w → MatchedOuter ls vs ws
    → MatchedNext (chain_behind (chain l ls) k) (next_by level (wanted v) k vs) (next_by minus_in_products (wanted w) k ws)
wanted_matched l ls (Digit x) matched outer = both_go (both_inside matched) outer
wanted_matched l ls (Joins o) matched outer = both_stuck
wanted_matched l ls Bang matched outer = both_go (both_wanted (banged matched)) outer
wanted_matched l ls Open matched outer = both_go (both_wanted first) (under matched outer)
wanted_matched l ls Close matched outer = both_stuck
wanted_matched l ls Blank matched outer = both_go (both_wanted matched) outer
wanted_matched l ls Other matched outer = both_stuck

next_matched : (l : Option Operator) (ls : List (Option Operator)) (k : Sign) {st st' : State} {vs ws : List Waiting} → MatchedState l st st' → MatchedOuter ls vs ws
    → parts_at (chain l ls) k ≡ false → MatchedNext (chain_behind (chain l ls) k) (next_by level st k vs) (next_by minus_in_products st' k ws)
next_matched l ls k (both_wanted matched) outer alike = wanted_matched l ls k matched outer
next_matched l ls k (both_inside {d} matched) outer alike = inside_matched l ls k d matched outer alike
next_matched none ls k first_complete outer alike = complete_matched none ls k first_complete outer alike
next_matched (some Plus) ls k plus_complete outer alike = complete_matched (some Plus) ls k plus_complete outer alike
next_matched (some Minus) ls k minus_complete outer alike = complete_matched (some Minus) ls k minus_complete outer alike

closed_matched : {ls : List (Option Operator)} {vs ws : List Waiting} (e : Typed) (at : ℕ) → MatchedOuter ls vs ws → closed e vs at ≡ closed e ws at
closed_matched e at top = refl
closed_matched e at (under matched outer) = refl

end_matched : {l : Option Operator} {ls : List (Option Operator)} {st st' : State} {vs ws : List Waiting} (at : ℕ) → MatchedState l st st' → MatchedOuter ls vs ws
    → at_end st vs at ≡ at_end st' ws at
end_matched at (both_wanted matched) outer = refl
end_matched at (both_inside {d} matched) outer = rw (joined_matched (operand_matched matched (number d))) (closed_matched _ at outer)
end_matched at first_complete outer = closed_matched _ at outer
end_matched at plus_complete outer = closed_matched _ at outer
end_matched at minus_complete outer = closed_matched _ at outer

neither : (a b : Bool) → (a || b) ≡ false → (a ≡ false) × (b ≡ false)
neither true b is = absurd (true≢false is)
neither false b is = (refl, is)

-- both readers go on alike, if they do from every pair of next states that match
onward_matched : {c : Chain} {n m : Next} (s : List ℕ) (at : ℕ) → MatchedNext c n m → told_apart_from c s ≡ false
    → ((l : Option Operator) (ls : List (Option Operator)) (st st' : State) (vs ws : List Waiting) → MatchedState l st st' → MatchedOuter ls vs ws → told_apart_from (chain l ls) s ≡ false
    → read_from_by level st vs (suc at) s ≡ read_from_by minus_in_products st' ws (suc at) s)
    → onward n at (λ st vs. read_from_by level st vs (suc at) s) ≡ onward m at (λ st vs. read_from_by minus_in_products st vs (suc at) s)
onward_matched s at both_stuck alike later = refl
onward_matched s at (both_go {l} {ls} {st} {st'} {vs} {ws} matched outer) alike later = later l ls st st' vs ws matched outer alike

read_from_matched : (s : List ℕ) (l : Option Operator) (ls : List (Option Operator)) (st st' : State) (vs ws : List Waiting) (at : ℕ) → MatchedState l st st' → MatchedOuter ls vs ws
    → told_apart_from (chain l ls) s ≡ false → read_from_by level st vs at s ≡ read_from_by minus_in_products st' ws at s
unfolding read_from_by told_apart_from
read_from_matched [] l ls st st' vs ws at matched outer alike = end_matched at matched outer
read_from_matched (b ∷ s) l ls st st' vs ws at matched outer alike =
    let both = neither (parts_at (chain l ls) (sign_of b)) (told_apart_from (chain_behind (chain l ls) (sign_of b)) s) alike in
    onward_matched s at (next_matched l ls (sign_of b) matched outer both.0) both.1
    (λ l' ls' q q' vs' ws'. read_from_matched s l' ls' q q' vs' ws' (suc at))

pub read_matched : (text : List ℕ) → told_apart text ≡ false → read_by minus_in_products text ≡ read text
unfolding read_by
read_matched text alike = sym (read_from_matched text none [] (wanted nothing) (wanted nothing) [] [] 0 (both_wanted first) top alike) ∙ read_by_level text
