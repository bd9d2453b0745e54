-- Every derived text is read as what it derives: by induction on the derivation, since each byte of it takes the reader one step on.
-- Assumes nothing.
use Prim.Native.Nat.{ℕ, zero, suc, ◌-◌}
use mathlib.Core.Path.{◌≡◌, refl, ◌∙◌, ap}
use mathlib.Core.Bool.{false, true≢false}
use mathlib.Core.List.{List, [], ◌∷◌}
use Rattle.formula.specs.Typed.{Typed, number, complement}
use Rattle.grammar.specs.declared.Operator.{Operator}
use Rattle.grammar.specs.declared.Operator.TheVariants.{Plus, Times, Minus}
use Rattle.grammar.specs.declared.Sign.{Sign}
use Rattle.grammar.specs.declared.Sign.TheVariants.{Digit, Joins, Bang, Open, Close, Blank, Other}
use Rattle.grammar.specs.Bytes.{sign_of, shifted, numeral_from, zero_digit, is_digit}
use Rattle.grammar.specs.Grammar.{Blanks, Token, token, Digits, NoDigit, Number, run, Factor, numbered, parenthesised, Product, a_factor, by_times, Sum, a_product, by_plus, by_minus, Expression, a_sum, Derives, whole}
use Rattle.grammar.specs.Twins.Reader.{of_sums, of_products, level, applied, Pending, alone, half, joined, Waiting, nothing, State, wanted, inside, complete, complemented, product_with, awaiting, Next, go, next_state, on_inside, on_complete, means, read_from, read, onward}
use Rattle.grammar.proofs.Signs.{digit_value, shifted-zero, is_no_digit}

-- whatever the place, the reader goes from one state before s to another before q
pub record Goes (st : State) (outer : List Waiting) (s : List ℕ) (st' : State) (outer' : List Waiting) (q : List ℕ) : Type 0 where
  pub place : ℕ → ℕ
  pub same : (at : ℕ) → read_from st outer at s ≡ read_from st' outer' (place at) q

pub goes_refl : {st : State} {outer : List Waiting} {s : List ℕ} → Goes st outer s st outer s
goes_refl = record { place = λ at. at; same = λ at. refl }

pub goes_trans : {st st' st'' : State} {outer outer' outer'' : List Waiting} {s r q : List ℕ} → Goes st outer s st' outer' r → Goes st' outer' r st'' outer'' q → Goes st outer s st'' outer'' q
goes_trans f g = record { place = λ at. g.place (f.place at); same = λ at. f.same at ∙ g.same (f.place at) }

pub read_step : (st : State) (outer : List Waiting) (b : ℕ) {n : Next} → next_state st (sign_of b) outer ≡ n → (at : ℕ) (s : List ℕ) → read_from st outer at (b ∷ s) ≡ onward n at (λ st' outer'. read_from st' outer' (suc at) s)
unfolding read_from
read_step st outer b moves at s = ap (λ (n : Next). onward n at (λ st' outer'. read_from st' outer' (suc at) s)) moves

pub goes_step : {st st' : State} {outer outer' : List Waiting} {b : ℕ} {k : Sign} (s : List ℕ) → sign_of b ≡ k → next_state st k outer ≡ go st' outer' → Goes st outer (b ∷ s) st' outer' s
goes_step {st} {outer} {b} s is moves = record { place = suc; same = λ at. read_step st outer b (ap (λ (k : Sign). next_state st k outer) is ∙ moves) at s }

-- a blank changes nothing where an operand is wanted, nor where a product is complete
pub wanted_blanks : {s q : List ℕ} → Blanks s q → (w : Waiting) (outer : List Waiting) → Goes (wanted w) outer s (wanted w) outer q
wanted_blanks Blanks.none w outer = goes_refl
wanted_blanks (Blanks.blank {s} is more) w outer = goes_trans (goes_step s is refl) (wanted_blanks more w outer)

pub complete_blanks : {s q : List ℕ} → Blanks s q → (sum : Pending) (p : Typed) (outer : List Waiting) → Goes (complete sum p) outer s (complete sum p) outer q
complete_blanks Blanks.none sum p outer = goes_refl
complete_blanks (Blanks.blank {s} is more) sum p outer = goes_trans (goes_step s is refl) (complete_blanks more sum p outer)

pub wanted_token : {k : Sign} {s q : List ℕ} {st : State} {outer outer' : List Waiting} (w : Waiting) → Token k s q → next_state (wanted w) k outer ≡ go st outer' → Goes (wanted w) outer s st outer' q
wanted_token {outer} w (token {q} blanks is) moves = goes_trans (wanted_blanks blanks w outer) (goes_step q is moves)

pub complete_token : {k : Sign} {s q : List ℕ} {st : State} {outer outer' : List Waiting} (sum : Pending) (p : Typed) → Token k s q → next_state (complete sum p) k outer ≡ go st outer' → Goes (complete sum p) outer s st outer' q
complete_token {outer} sum p (token {q} blanks is) moves = goes_trans (complete_blanks blanks sum p outer) (goes_step q is moves)

pub inside_digits : {s w q : List ℕ} → Digits s w q → (wait : Waiting) (v : ℕ) (outer : List Waiting) → Goes (inside wait v) outer s (inside wait (numeral_from v w)) outer q
unfolding numeral_from
inside_digits Digits.none wait v outer = goes_refl
inside_digits (Digits.digit {b} {s} {q} is more) wait v outer =
    goes_trans (goes_step s is.stands refl) (rw (digit_value b is.stands) (inside_digits more wait (shifted v (b - zero_digit)) outer))

-- where no digit follows, a number is read as a product that it completes
pub inside_another : (w : Waiting) (v : ℕ) (k : Sign) (outer : List Waiting) → is_digit k ≡ false → on_inside w v k outer ≡ on_complete w.sum (product_with w (number v)) k outer
inside_another w v (Digit d) outer other = absurd (true≢false other)
inside_another w v (Joins o) outer other = refl
inside_another w v Bang outer other = refl
inside_another w v Open outer other = refl
inside_another w v Close outer other = refl
inside_another w v Blank outer other = refl
inside_another w v Other outer other = refl

pub inside_ends : {q : List ℕ} → NoDigit q → (w : Waiting) (v : ℕ) (outer : List Waiting) → Goes (inside w v) outer q (complete w.sum (product_with w (number v))) outer q
unfolding read_from
inside_ends NoDigit.at_end w v outer = record { place = λ at. at; same = λ at. refl }
inside_ends (NoDigit.another {b} {q} other) w v outer =
    record { place = λ at. at; same = λ at. ap (λ (n : Next). onward n at (λ st outer. read_from st outer (suc at) q)) (inside_another w v (sign_of b) outer (is_no_digit other)) }

pub number_read : {s q : List ℕ} {p : ℕ} → Number s p q → (w : Waiting) (outer : List Waiting) → Goes (wanted w) outer s (complete w.sum (product_with w (number p))) outer q
unfolding numeral_from
number_read (run {b} {m} {w = digits} blanks is more ends) w outer =
    goes_trans (wanted_blanks blanks w outer)
    (goes_trans (goes_step m is.stands refl)
    (goes_trans (inside_digits more w is.digit outer)
    (rw (shifted-zero (b - zero_digit), digit_value b is.stands) (inside_ends ends w (numeral_from (b - zero_digit) digits) outer))))

pub complemented_complement : (n : ℕ) (e : Typed) → complemented n (complement e) ≡ complement (complemented n e)
unfolding complemented
complemented_complement zero e = refl
complemented_complement (suc n) e = ap complement (complemented_complement n e)

-- a sum has been read, up to its last product
pub record Summed (e : Typed) (outer : List Waiting) (s q : List ℕ) : Type 0 where
  pub sum : Pending
  pub product : Typed
  pub meaning : joined sum product ≡ e
  pub goes : Goes (wanted nothing) outer s (complete sum product) outer q

-- a product more behind an operator of sums
summed_on : {a b : Typed} {outer : List Waiting} {s r m q : List ℕ} (o : Operator) → level o ≡ of_sums → Summed a outer s r → Token (Joins o) r m
    → Goes (wanted (record { sum = half a o; product = alone; complements = 0 })) outer m (complete (half a o) b) outer q
    → Summed (applied o a b) outer s q
summed_on {a} {b} o binds before mark product =
    record {
      sum = half a o;
      product = b;
      meaning = refl;
      goes = goes_trans before.goes (goes_trans (complete_token before.sum before.product mark (rw (binds, before.meaning))) product);
    }

mutual
  unfolding complemented

  pub factor_read : {s q : List ℕ} {e : Typed} → Factor s e q → (w : Waiting) (outer : List Waiting) → Goes (wanted w) outer s (complete w.sum (product_with w e)) outer q
  factor_read (Factor.complemented bang more) w outer =
      goes_trans (wanted_token w bang refl)
      (rw complemented_complement (factor_read more (record { sum = w.sum; product = w.product; complements = suc w.complements }) outer))
  factor_read (numbered n) w outer = number_read n w outer
  factor_read (parenthesised opens inner closes) w outer =
      let read : Summed _ _ _ _ = expression_read inner (w ∷ outer) in
      goes_trans (wanted_token w opens refl) (goes_trans read.goes (complete_token read.sum read.product closes (rw read.meaning)))

  pub product_read : {s q : List ℕ} {e : Typed} → Product s e q → (sum : Pending) (outer : List Waiting) → Goes (wanted (record { sum = sum; product = alone; complements = 0 })) outer s (complete sum e) outer q
  product_read (a_factor f) sum outer = factor_read f (record { sum = sum; product = alone; complements = 0 }) outer
  product_read (by_times {a} before mark f) sum outer =
      goes_trans (product_read before sum outer)
      (goes_trans (complete_token sum a mark refl) (factor_read f (awaiting of_products sum a Times) outer))

  pub sum_read : {s q : List ℕ} {e : Typed} → Sum s e q → (outer : List Waiting) → Summed e outer s q
  sum_read (a_product {e} p) outer = record { sum = alone; product = e; meaning = refl; goes = product_read p alone outer }
  sum_read (by_plus before mark p) outer = summed_on Plus refl (sum_read before outer) mark (product_read p _ outer)
  sum_read (by_minus before mark p) outer = summed_on Minus refl (sum_read before outer) mark (product_read p _ outer)

  pub expression_read : {s q : List ℕ} {e : Typed} → Expression s e q → (outer : List Waiting) → Summed e outer s q
  expression_read (a_sum s) outer = sum_read s outer

pub read_complete : {text : List ℕ} {e : Typed} → Derives text e → read text ≡ means e
unfolding read read_from
read_complete (whole expression blanks) =
    let r : Summed _ _ _ _ = expression_read expression [] in
    let after : Goes _ _ _ _ _ _ = goes_trans r.goes (complete_blanks blanks r.sum r.product []) in
    after.same 0 ∙ ap means r.meaning

pub derives_unique : {text : List ℕ} {a b : Typed} → Derives text a → Derives text b → a ≡ b
derives_unique da db =
    let ea : read _ ≡ means _ = read_complete da in
    let eb : read _ ≡ means _ = read_complete db in
    cc
