-- Where no run of digits is too large, every number that a text derives is a primitive's: a number is a whole run, since what
-- stands before it is no digit. Assumes nothing.
use Prim.Native.Nat.{ℕ, zero, suc, ◌≤◌}
use mathlib.Core.Path.{◌≡◌, refl}
use mathlib.Core.Bool.{false}
use mathlib.Core.Logic.{inr}
use mathlib.Core.List.{List, [], ◌∷◌}
use native.Mathlib.Decide.{dec_le}
use native.Mathlib.Omega.{arith}
use lib.ListN.{get_or, drop}
use Rattle.terms.specs.Terms.{greatest_primitive}
use Rattle.terms.proofs.First.{first_below_nowhere, nowhere_first_below}
use Rattle.formula.specs.Typed.{Typed}
use Rattle.formula.proofs.Small.{SmallNumbers, one, not_of, plus_of, times_of, minus_of}
use Rattle.grammar.specs.declared.Sign.{Sign}
use Rattle.grammar.specs.Bytes.{sign_of, is_digit, numeral}
use Rattle.grammar.specs.Grammar.{Blanks, none, blank, Token, token, IsDigit, Digits, digit, Number, run, Factor, complemented, numbered, parenthesised, Product, a_factor, by_times, Sum, a_product, by_plus, by_minus, Expression, a_sum, Derives, whole}
use Rattle.grammar.specs.Rows.{BadRun, BadNumber}
use Rattle.grammar.proofs.Signs.{not_digit}
use Rattle.grammar.proofs.Passes.{bad_run_tests}

-- a part of the text, and one that begins behind no digit
record Part (text s : List ℕ) : Type 0 where
  pub at : ℕ
  pub is : drop at text ≡ s

record Fresh (text s : List ℕ) : Type 0 where
  pub at : ℕ
  pub is : drop at text ≡ s
  pub behind : (j : ℕ) → suc j ≡ at → ¬ IsDigit (get_or text j 0)

a_part : {text s : List ℕ} → Fresh text s → Part text s
a_part f = record { at = f.at; is = f.is }

-- the first byte of a part, and the part behind it
drop-first : (text : List ℕ) (i b : ℕ) (q : List ℕ) → drop i text ≡ b ∷ q → (drop (suc i) text ≡ q) × (get_or text i 0 ≡ b)
drop-first [] zero b q e = let z : ◌≡◌ {A = ℕ} 0 1 = cc in absurd (omega arith)
drop-first [] (suc i) b q e = let z : ◌≡◌ {A = ℕ} 0 1 = cc in absurd (omega arith)
drop-first (x ∷ text) zero b q e = (cc, cc)
drop-first (x ∷ text) (suc i) b q e = drop-first text i b q e

part_behind : {text : List ℕ} {b : ℕ} {q : List ℕ} → Part text (b ∷ q) → Part text q
part_behind {text} {b} {q} p = record { at = suc p.at; is = (drop-first text p.at b q p.is).0 }

fresh_behind : {text : List ℕ} {b : ℕ} {q : List ℕ} {k : Sign} → Part text (b ∷ q) → sign_of b ≡ k → is_digit k ≡ false → Fresh text q
fresh_behind {text} {b} {q} p stands plain =
    let first = drop-first text p.at b q p.is in
    record {
      at = suc p.at;
      is = first.0;
      behind = λ j e. let same : j ≡ p.at = omega arith in rw (same, first.1) (not_digit stands plain);
    }

part_blanks : {text s q : List ℕ} → Blanks s q → Part text s → Part text q
part_blanks none p = p
part_blanks (blank h b) p = part_blanks b (part_behind p)

fresh_blanks : {text s q : List ℕ} → Blanks s q → Fresh text s → Fresh text q
fresh_blanks none f = f
fresh_blanks (blank h b) f = fresh_blanks b (fresh_behind (a_part f) h refl)

part_digits : {text s w q : List ℕ} → Digits s w q → Part text s → Part text q
part_digits none p = p
part_digits (digit h d) p = part_digits d (part_behind p)

fresh_token : {text s q : List ℕ} {k : Sign} → Token k s q → is_digit k ≡ false → Part text s → Fresh text q
fresh_token (token b h) plain p = fresh_behind (part_blanks b p) h plain

part_token : {text s q : List ℕ} {k : Sign} → Token k s q → Part text s → Part text q
part_token (token b h) p = part_behind (part_blanks b p)

part_number : {text s q : List ℕ} {n : ℕ} → Number s n q → Part text s → Part text q
part_number (run b h d e) p = part_digits d (part_behind (part_blanks b p))

-- what follows a derivation is a part of the text
mutual
  part_factor : {text s q : List ℕ} {e : Typed} → Factor s e q → Part text s → Part text q
  part_factor (complemented t f) p = part_factor f (part_token t p)
  part_factor (numbered n) p = part_number n p
  part_factor (parenthesised o e c) p = part_token c (part_expression e (part_token o p))

  part_product : {text s q : List ℕ} {e : Typed} → Product s e q → Part text s → Part text q
  part_product (a_factor f) p = part_factor f p
  part_product (by_times a t f) p = part_factor f (part_token t (part_product a p))

  part_sum : {text s q : List ℕ} {e : Typed} → Sum s e q → Part text s → Part text q
  part_sum (a_product f) p = part_product f p
  part_sum (by_plus a t f) p = part_product f (part_token t (part_sum a p))
  part_sum (by_minus a t f) p = part_product f (part_token t (part_sum a p))

  part_expression : {text s q : List ℕ} {e : Typed} → Expression s e q → Part text s → Part text q
  part_expression (a_sum s) p = part_sum s p

-- no run of digits of the text is too large
abbrev NoBadRun : List ℕ → Type 0
NoBadRun text = (i : ℕ) → ¬ BadRun text i

small_number : {text s q : List ℕ} {n : ℕ} → NoBadRun text → Number s n q → Fresh text s → n ≤ greatest_primitive
small_number {text} fine (run {b = b} {m = m} {w = w} {q = q} bs h d e) fresh =
    let f = fresh_blanks bs fresh in
    elim (dec_le (numeral (b ∷ w)) greatest_primitive) [
      | yes k ↦ k
      | no k ↦ absurd (fine f.at (record {
        digits = b ∷ w;
        run = record { rest = q; some = omega arith; digits = rw f.is (digit h d); ends = e; starts = f.behind };
        bad = inr (omega arith);
      }))
    ]

mutual
  small_factor : {text s q : List ℕ} {e : Typed} → NoBadRun text → Factor s e q → Fresh text s → SmallNumbers e
  small_factor fine (complemented t f) p = not_of (small_factor fine f (fresh_token t refl (a_part p)))
  small_factor fine (numbered n) p = one (small_number fine n p)
  small_factor fine (parenthesised o e c) p = small_expression fine e (fresh_token o refl (a_part p))

  small_product : {text s q : List ℕ} {e : Typed} → NoBadRun text → Product s e q → Fresh text s → SmallNumbers e
  small_product fine (a_factor f) p = small_factor fine f p
  small_product fine (by_times a t f) p = times_of (small_product fine a p) (small_factor fine f (fresh_token t refl (part_product a (a_part p))))

  small_sum : {text s q : List ℕ} {e : Typed} → NoBadRun text → Sum s e q → Fresh text s → SmallNumbers e
  small_sum fine (a_product f) p = small_product fine f p
  small_sum fine (by_plus a t f) p = plus_of (small_sum fine a p) (small_product fine f (fresh_token t refl (part_sum a (a_part p))))
  small_sum fine (by_minus a t f) p = minus_of (small_sum fine a p) (small_product fine f (fresh_token t refl (part_sum a (a_part p))))

  small_expression : {text s q : List ℕ} {e : Typed} → NoBadRun text → Expression s e q → Fresh text s → SmallNumbers e
  small_expression fine (a_sum s) p = small_sum fine s p

no_bad_run : {text : List ℕ} → ((p : ℕ) → ¬ BadNumber text p) → NoBadRun text
no_bad_run {text} nowhere = first_below_nowhere (bad_run_tests text) (nowhere_first_below (bad_run_tests text) nowhere)

pub derives_small : {text : List ℕ} {e : Typed} → Derives text e → ((p : ℕ) → ¬ BadNumber text p) → SmallNumbers e
derives_small {text} (whole e b) nowhere = small_expression (no_bad_run nowhere) e (record { at = 0; is = refl; behind = λ j q. absurd (omega arith) })
