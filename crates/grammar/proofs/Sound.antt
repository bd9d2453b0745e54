-- What the reader says that a text means, the text derives: after every byte, its state and stack say what has been derived so far.
-- Assumes nothing.
use Prim.Native.Nat.{ℕ, suc, ◌-◌}
use mathlib.Core.Path.{◌≡◌, refl, sym, ◌∙◌, subst}
use mathlib.Core.List.{List, [], ◌∷◌, ◌++◌}
use Rattle.formula.specs.Typed.{Typed, number}
use Rattle.grammar.specs.declared.Operator.TheVariants.{Plus, Times, Minus}
use Rattle.grammar.specs.declared.Sign.{Sign}
use Rattle.grammar.specs.declared.Sign.TheVariants.{Digit, Joins, Bang, Open, Close, Blank, Other}
use Rattle.grammar.specs.Bytes.{sign_of, shifted, numeral_from, numeral, zero_digit}
use Rattle.grammar.specs.Grammar.{Blanks, Token, token, IsDigit, Digits, NoDigit, run, Factor, numbered, parenthesised, Product, a_factor, Sum, a_product, Expression, Derives, whole}
use Rattle.grammar.specs.Twins.Reader.{Pending, alone, half, joined, Waiting, nothing, State, wanted, inside, complete, complemented, product_with, Next, stuck, go, next_state, Outcome, means, stops, at_end, read_from, read, onward}
use Rattle.grammar.proofs.Signs.{digit_value, shifted-zero, DigitOrNot, a_digit, no_digit, digit-or-not, not_digit}
use Rattle.grammar.proofs.Complete.{complemented_complement, inside_another}

-- what waits, as what has been derived of the text: a sum and its `+` or `-`, a product and its `*`, and so many `!`
pub data SumBefore : Pending → List ℕ → List ℕ → Type 0 where
  no_sum : {s : List ℕ} → SumBefore alone s s
  by_plus : {s r q : List ℕ} {a : Typed} → Sum s a r → Token (Joins Plus) r q → SumBefore (half a Plus) s q
  by_minus : {s r q : List ℕ} {a : Typed} → Sum s a r → Token (Joins Minus) r q → SumBefore (half a Minus) s q

pub data ProductBefore : Pending → List ℕ → List ℕ → Type 0 where
  no_product : {s : List ℕ} → ProductBefore alone s s
  by_times : {s r q : List ℕ} {a : Typed} → Product s a r → Token (Joins Times) r q → ProductBefore (half a Times) s q

pub data BangsBefore : ℕ → List ℕ → List ℕ → Type 0 where
  no_bang : {s : List ℕ} → BangsBefore 0 s s
  one_more : {n : ℕ} {s r q : List ℕ} → BangsBefore n s r → Token Bang r q → BangsBefore (suc n) s q

pub data Before (w : Waiting) : List ℕ → List ℕ → Type 0 where
  waits : {s m r q : List ℕ} → SumBefore w.sum s m → ProductBefore w.product m r → BangsBefore w.complements r q → Before w s q

-- the parentheses that are open, each with what waits before it; the innermost begins at the second text
pub data Outside (text : List ℕ) : List Waiting → List ℕ → Type 0 where
  top : Outside text [] text
  under : {w : Waiting} {outer : List Waiting} {s q r : List ℕ} → Outside text outer s → Before w s q → Token Open q r → Outside text (w ∷ outer) r

-- what has been read of the text, up to its rest r
pub data Read (text : List ℕ) : State → List Waiting → List ℕ → Type 0 where
  at_wanted : {w : Waiting} {outer : List Waiting} {s q r : List ℕ} → Outside text outer s → Before w s q → Blanks q r → Read text (wanted w) outer r
  at_inside : {w : Waiting} {v b : ℕ} {outer : List Waiting} {s q m digits r : List ℕ} → Outside text outer s → Before w s q → Blanks q (b ∷ m) → IsDigit b → Digits m digits r → v ≡ numeral (b ∷ digits) → Read text (inside w v) outer r
  at_complete : {sum : Pending} {p : Typed} {outer : List Waiting} {s m q r : List ℕ} → Outside text outer s → SumBefore sum s m → Product m p q → Blanks q r → Read text (complete sum p) outer r

pub blanks_more : {s q : List ℕ} {b : ℕ} → Blanks s (b ∷ q) → sign_of b ≡ Blank → Blanks s q
blanks_more Blanks.none is = Blanks.blank is Blanks.none
blanks_more (Blanks.blank first more) is = Blanks.blank first (blanks_more more is)

pub digits_more : {s w q : List ℕ} {b : ℕ} → Digits s w (b ∷ q) → IsDigit b → Digits s (w ++ b ∷ []) q
digits_more Digits.none is = Digits.digit is Digits.none
digits_more (Digits.digit first more) is = Digits.digit first (digits_more more is)

pub numeral_more : (v : ℕ) (w : List ℕ) (b : ℕ) → numeral_from v (w ++ b ∷ []) ≡ shifted (numeral_from v w) (b - zero_digit)
unfolding numeral_from
numeral_more v [] b = refl
numeral_more v (a ∷ w) b = numeral_more (shifted v (a - zero_digit)) w b

-- a factor, behind the `!` before it; a product and a sum, behind what waits for them
bangs_factor : {n : ℕ} {s m q : List ℕ} {e : Typed} → BangsBefore n s m → Factor m e q → Factor s (complemented n e) q
unfolding complemented
bangs_factor no_bang f = f
bangs_factor {e} (one_more {n} before bang) f = rw (← complemented_complement n e) (bangs_factor before (Factor.complemented bang f))

products_factor : {j : Pending} {s m q : List ℕ} {e : Typed} → ProductBefore j s m → Factor m e q → Product s (joined j e) q
products_factor no_product f = a_factor f
products_factor (by_times before mark) f = Product.by_times before mark f

sums_product : {j : Pending} {s m q : List ℕ} {e : Typed} → SumBefore j s m → Product m e q → Sum s (joined j e) q
sums_product no_sum p = a_product p
sums_product (by_plus before mark) p = Sum.by_plus before mark p
sums_product (by_minus before mark) p = Sum.by_minus before mark p

-- an operand has been read: a product is complete
operand_read : {text s m q r : List ℕ} {w : Waiting} {outer : List Waiting} {e : Typed} → Outside text outer s → Before w s m → Factor m e q → Blanks q r → Read text (complete w.sum (product_with w e)) outer r
operand_read out (waits sums products bangs) f blanks = at_complete out sums (products_factor products (bangs_factor bangs f)) blanks

-- where no digit follows, a number has been read
inside_read : {text r : List ℕ} {w : Waiting} {v : ℕ} {outer : List Waiting} → NoDigit r → Read text (inside w v) outer r → Read text (complete w.sum (product_with w (number v))) outer r
inside_read ends (at_inside out before blanks is more value) = rw value (operand_read out before (numbered (run blanks is more ends)) Blanks.none)

-- what has been read after one byte more, if there is a next state
abbrev ReadOn : List ℕ → Next → List ℕ → Type 0
ReadOn text stuck s = Unit {0}
ReadOn text (go st outer) s = Read text st outer s

wanted_read : {text s : List ℕ} {w : Waiting} {b : ℕ} {outer : List Waiting} (k : Sign) → sign_of b ≡ k → Read text (wanted w) outer (b ∷ s) → ReadOn text (next_state (wanted w) k outer) s
unfolding numeral_from
wanted_read {b} (Digit d) is (at_wanted out before blanks) = at_inside out before blanks (record { digit = d; stands = is }) Digits.none (digit_value b is ∙ sym (shifted-zero (b - zero_digit)))
wanted_read (Joins o) is before = tt
wanted_read Bang is (at_wanted out (waits sums products bangs) blanks) = at_wanted out (waits sums products (one_more bangs (token blanks is))) Blanks.none
wanted_read Open is (at_wanted out before blanks) = at_wanted (under out before (token blanks is)) (waits no_sum no_product no_bang) Blanks.none
wanted_read Close is before = tt
wanted_read Blank is (at_wanted out before blanks) = at_wanted out before (blanks_more blanks is)
wanted_read Other is before = tt

complete_read : {text s : List ℕ} {sum : Pending} {p : Typed} {b : ℕ} {outer : List Waiting} (k : Sign) → sign_of b ≡ k → Read text (complete sum p) outer (b ∷ s) → ReadOn text (next_state (complete sum p) k outer) s
complete_read (Digit d) is before = tt
complete_read (Joins Plus) is (at_complete out before product blanks) = at_wanted out (waits (by_plus (sums_product before product) (token blanks is)) no_product no_bang) Blanks.none
complete_read (Joins Times) is (at_complete out before product blanks) = at_wanted out (waits before (by_times product (token blanks is)) no_bang) Blanks.none
complete_read (Joins Minus) is (at_complete out before product blanks) = at_wanted out (waits (by_minus (sums_product before product) (token blanks is)) no_product no_bang) Blanks.none
complete_read Bang is before = tt
complete_read Open is before = tt
complete_read {outer = []} Close is before = tt
complete_read {outer = w ∷ outer} Close is (at_complete (under out waiting opens) before product blanks) =
    operand_read out waiting (parenthesised opens (Expression.a_sum (sums_product before product)) (token blanks is)) Blanks.none
complete_read Blank is (at_complete out before product blanks) = at_complete out before product (blanks_more blanks is)
complete_read Other is before = tt

inside_step : {text s : List ℕ} {w : Waiting} {v b : ℕ} {outer : List Waiting} {k : Sign} → DigitOrNot k → sign_of b ≡ k → Read text (inside w v) outer (b ∷ s) → ReadOn text (next_state (inside w v) k outer) s
unfolding numeral_from
inside_step {v} {b} (a_digit d) is (at_inside {b = first} {digits} out before blanks begins more value) =
    at_inside {v = shifted v d} out before blanks begins (digits_more more (record { digit = d; stands = is })) (rw (value, digit_value b is, numeral_more (shifted 0 (first - zero_digit)) digits b))
inside_step {w} {v} {outer} (no_digit {k} other) is sofar = rw (inside_another w v k outer other) (complete_read k is (inside_read (NoDigit.another (not_digit is other)) sofar))

step_read : {text s : List ℕ} {b : ℕ} {outer : List Waiting} (st : State) (k : Sign) → sign_of b ≡ k → Read text st outer (b ∷ s) → ReadOn text (next_state st k outer) s
step_read (wanted w) k is sofar = wanted_read k is sofar
step_read (inside w v) k is sofar = inside_step (digit-or-not k) is sofar
step_read (complete sum p) k is sofar = complete_read k is sofar

-- a text derives what it means
abbrev pub Meant : List ℕ → Outcome → Type 0
Meant text (means e) = Derives text e
Meant text (stops at) = Unit {0}

complete_meant : {text : List ℕ} {sum : Pending} {p : Typed} (outer : List Waiting) (at : ℕ) → Read text (complete sum p) outer [] → Meant text (at_end (complete sum p) outer at)
complete_meant [] at (at_complete top before product blanks) = whole (Expression.a_sum (sums_product before product)) blanks
complete_meant (w ∷ outer) at before = tt

end_meant : {text : List ℕ} (st : State) (outer : List Waiting) (at : ℕ) → Read text st outer [] → Meant text (at_end st outer at)
end_meant (wanted w) outer at sofar = tt
end_meant (inside w v) outer at sofar = complete_meant outer at (inside_read NoDigit.at_end sofar)
end_meant (complete sum p) outer at sofar = complete_meant outer at sofar

onward_meant : {text s : List ℕ} (n : Next) (at : ℕ) (go_on : State → List Waiting → Outcome) → ReadOn text n s → ((st : State) (outer : List Waiting) → Read text st outer s → Meant text (go_on st outer)) → Meant text (onward n at go_on)
onward_meant stuck at go_on sofar later = tt
onward_meant (go st outer) at go_on sofar later = later st outer sofar

pub read_from_meant : {text : List ℕ} (s : List ℕ) (st : State) (outer : List Waiting) (at : ℕ) → Read text st outer s → Meant text (read_from st outer at s)
unfolding read_from
read_from_meant [] st outer at sofar = end_meant st outer at sofar
read_from_meant (b ∷ s) st outer at sofar =
    onward_meant (next_state st (sign_of b) outer) at (λ st' outer'. read_from st' outer' (suc at) s) (step_read st (sign_of b) refl sofar) (λ st' outer'. read_from_meant s st' outer' (suc at))

pub read_sound : {text : List ℕ} {e : Typed} → read text ≡ means e → Derives text e
unfolding read
read_sound {text} is = subst (Meant text) is (read_from_meant text (wanted nothing) [] 0 (at_wanted top (waits no_sum no_product no_bang) Blanks.none))
