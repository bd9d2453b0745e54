-- What a test of a sign tells: which sign it is, and what the machine does there.
-- Assumes nothing.
use Prim.Native.Nat.{ℕ, ◌≤◌, ◌<◌}
use mathlib.Core.Path.{◌≡◌, refl, sym, ap, ◌∙◌}
use mathlib.Core.Bool.{Bool, true, false}
use mathlib.Core.Logic.{◌⊎◌, inl, inr}
use mathlib.Core.List.{List}
use native.Mathlib.Omega.{arith}
use Rattle.formula.specs.Typed.{Typed}
use Rattle.grammar.specs.declared.Operator.{Operator}
use Rattle.grammar.specs.declared.Operator.TheVariants.{Plus, Times, Minus}
use Rattle.grammar.specs.declared.Sign.{Sign}
use Rattle.grammar.specs.declared.Sign.TheVariants.{Digit, Joins, Bang, Open, Close, Blank, Other}
use Rattle.grammar.specs.Bytes.{is_digit}
use Rattle.grammar.specs.Twins.Places.{is_open, is_close}
use Rattle.grammar.specs.Twins.Reader.{of_sums, of_products, level, Pending, joined, Waiting, stuck, closing, on_wanted, on_complete}
use Rattle.grammar.proofs.Signs.{is_open_true}
use Rattle.text.proofs.ScanTests.{not_both, by_test}
use Rattle.text.specs.Code.Readers.{of_factors, is_blank, leads, binding}

pub clash : false ≡ true → ⊥
clash e = not_both false e refl

pub pass_is : (k : Sign) → leads k ≡ true → (k ≡ Bang) ⊎ (k ≡ Blank)
pass_is (Digit d) e = absurd (clash e)
pass_is (Joins o) e = absurd (clash e)
pass_is Bang e = inl refl
pass_is Open e = absurd (clash e)
pass_is Close e = absurd (clash e)
pass_is Blank e = inr refl
pass_is Other e = absurd (clash e)

pub blank_is : (k : Sign) → is_blank k ≡ true → k ≡ Blank
blank_is (Digit d) e = absurd (clash e)
blank_is (Joins o) e = absurd (clash e)
blank_is Bang e = absurd (clash e)
blank_is Open e = absurd (clash e)
blank_is Close e = absurd (clash e)
blank_is Blank e = refl
blank_is Other e = absurd (clash e)

-- what a match on the sign that a call gave told of it
pub no_digit : {k k' : Sign} → k ≡ k' → ((d : ℕ) → k ≡ Digit d → ⊥) → is_digit k' ≡ false
no_digit {k' = Digit d} e f = absurd (f d e)
no_digit {k' = Joins o} e f = refl
no_digit {k' = Bang} e f = refl
no_digit {k' = Open} e f = refl
no_digit {k' = Close} e f = refl
no_digit {k' = Blank} e f = refl
no_digit {k' = Other} e f = refl

pub no_open : {k k' : Sign} → k ≡ k' → (k ≡ Open → ⊥) → is_open k' ≡ false
no_open {k' = k'} e f = by_test (is_open k') (λ t. absurd (f (e ∙ is_open_true k' t))) (λ t. t)

level_low : (o : Operator) → level o < of_factors
level_low Plus = omega arith
level_low Times = omega arith
level_low Minus = omega arith

pub binding_low : (k : Sign) → binding k < of_factors
binding_low (Digit d) = omega arith
binding_low (Joins o) = level_low o
binding_low Bang = omega arith
binding_low Open = omega arith
binding_low Close = omega arith
binding_low Blank = omega arith
binding_low Other = omega arith

-- an operator is no digit, and has some level
pub binds_no_digit : (k : Sign) → of_sums ≤ binding k → is_digit k ≡ false
binds_no_digit (Digit d) h = absurd (omega arith)
binds_no_digit (Joins o) h = refl
binds_no_digit Bang h = refl
binds_no_digit Open h = refl
binds_no_digit Close h = refl
binds_no_digit Blank h = refl
binds_no_digit Other h = refl

level_some : (o : Operator) → of_sums ≤ level o
level_some Plus = omega arith
level_some Times = omega arith
level_some Minus = omega arith

-- an operator of products is `*`
pub times_is : (k : Sign) → of_products ≤ binding k → k ≡ Joins Times
times_is (Digit d) h = absurd (omega arith)
times_is (Joins Plus) h = absurd (omega arith)
times_is (Joins Times) h = refl
times_is (Joins Minus) h = absurd (omega arith)
times_is Bang h = absurd (omega arith)
times_is Open h = absurd (omega arith)
times_is Close h = absurd (omega arith)
times_is Blank h = absurd (omega arith)
times_is Other h = absurd (omega arith)

-- an operator of sums
pub record OfSums (k : Sign) : Type 0 where
  pub operator : Operator
  pub is : k ≡ Joins operator
  pub binds : level operator ≡ of_sums

pub sum_is : (k : Sign) → of_sums ≤ binding k → binding k < of_products → OfSums k
sum_is (Digit d) h l = absurd (omega arith)
sum_is (Joins o) h l = record { operator = o; is = refl; binds = omega (arith, level_some o) }
sum_is Bang h l = absurd (omega arith)
sum_is Open h l = absurd (omega arith)
sum_is Close h l = absurd (omega arith)
sum_is Blank h l = absurd (omega arith)
sum_is Other h l = absurd (omega arith)

-- where an operand is wanted and none starts, the machine is stuck
pub wanted_stuck : (w : Waiting) (outer : List Waiting) (k : Sign) → leads k ≡ false → is_digit k ≡ false → is_open k ≡ false
    → on_wanted w k outer ≡ stuck
wanted_stuck w outer (Digit x) p d o = cc
wanted_stuck w outer (Joins x) p d o = refl
wanted_stuck w outer Bang p d o = cc
wanted_stuck w outer Open p d o = cc
wanted_stuck w outer Close p d o = refl
wanted_stuck w outer Blank p d o = cc
wanted_stuck w outer Other p d o = refl

-- where an operand is complete and neither an operator nor a `)` with something outside follows, too
pub complete_stuck : (sum : Pending) (p : Typed) (outer : List Waiting) (k : Sign) → is_blank k ≡ false → binding k < of_sums
    → (is_close k ≡ true → closing (joined sum p) outer ≡ stuck) → on_complete sum p k outer ≡ stuck
complete_stuck sum p outer (Digit d) b l c = refl
complete_stuck sum p outer (Joins o) b l c = absurd (omega (arith, level_some o))
complete_stuck sum p outer Bang b l c = refl
complete_stuck sum p outer Open b l c = refl
complete_stuck sum p outer Close b l c = c refl
complete_stuck sum p outer Blank b l c = cc
complete_stuck sum p outer Other b l c = refl

-- what a call of a test told of the sign that a call of `look` gave
pub tested : (test : Sign → Bool) {k k' : Sign} {t v : Bool} → k ≡ k' → t ≡ test k → t ≡ v → test k' ≡ v
tested test e f g = sym (f ∙ ap test e) ∙ g

-- and what a call of `binding` told
pub binds_from : {k k' : Sign} {t l : ℕ} → k ≡ k' → t ≡ binding k → l ≤ t → l ≤ binding k'
binds_from e f h = rw (f ∙ ap binding e) at h
