-- The running count of `(` less `)` as a text is walked: how one byte more changes it, that it fits, and when it passes the deepest.
-- Assumes nothing.
use Prim.Native.Nat.{ℕ, zero, suc, ◌+◌, ◌-◌, ◌≤◌, ◌<◌, ◌^◌}
use mathlib.Core.Path.{◌≡◌, refl, sym, ap, ◌∙◌}
use mathlib.Core.Bool.{false, cond, ◌&&◌}
use mathlib.Core.List.{List, [], ◌∷◌, ◌++◌}
use native.Mathlib.Numerals.{add-one}
use native.Mathlib.Omega.{arith}
use lib.Dec.{ltb}
use lib.IntN.{ℤ, pos, neg_ℤ, ◌+ℤ◌, ◌-ℤ◌, +ℤ_assoc, +ℤ_comm, neg_ℤ-+ℤ}
use lib.Signed.{mag, lt_z}
use lib.ListN.{length, get_or, take, length-take}
use lib.Seq.{take-suc}
use mir.Syntax.{w64}
use mir.Val.{SFits, to_z, of_z}
use mir.Facts.{to_z-of_z}
use borrow.Author.Tests.{ltb-true, ltb-false, lt-ltb, le-ltb}
use Rattle.terms.specs.Terms.{deepest}
use Rattle.grammar.specs.declared.Sign.{Sign}
use Rattle.grammar.specs.declared.Sign.TheVariants.{Digit, Joins, Bang, Open, Close, Blank, Other}
use Rattle.grammar.specs.Bytes.{sign_of}
use Rattle.grammar.specs.Twins.Places.{sign_at, one_if, is_open, is_close, opened, shut, too_deep_at}
use Rattle.text.proofs.ScanTests.{by_test}

-- the running count of `(` less `)` over the bytes s
abbrev pub level : List ℕ → ℤ
level s = pos (opened s) -ℤ pos (shut s)

-- the count behind one sign more
abbrev pub level_with : ℤ → Sign → ℤ
level_with z k = cond (is_open k) (z +ℤ pos 1) (cond (is_close k) (z -ℤ pos 1) z)

-- one byte more, at the end
opened_more : (s : List ℕ) (b : ℕ) → opened (s ++ (b ∷ [])) ≡ opened s + one_if (is_open (sign_of b))
unfolding opened
opened_more [] b = omega arith
opened_more (x ∷ s) b = rw (opened_more s b) (omega arith)

shut_more : (s : List ℕ) (b : ℕ) → shut (s ++ (b ∷ [])) ≡ shut s + one_if (is_close (sign_of b))
unfolding shut
shut_more [] b = omega arith
shut_more (x ∷ s) b = rw (shut_more s b) (omega arith)

one_at_most : (k : Sign) → one_if (is_open k) + one_if (is_close k) ≤ 1
one_at_most (Digit d) = omega arith
one_at_most (Joins o) = omega arith
one_at_most Bang = omega arith
one_at_most Open = omega arith
one_at_most Close = omega arith
one_at_most Blank = omega arith
one_at_most Other = omega arith

parentheses_few : (s : List ℕ) → opened s + shut s ≤ length s
unfolding opened shut
parentheses_few [] = omega arith
parentheses_few (b ∷ s) = omega (arith, one_at_most (sign_of b), parentheses_few s)

-- the difference of two numbers, one up on either side
more : (a b : ℕ) → pos (a + 1) -ℤ pos b ≡ (pos a -ℤ pos b) +ℤ pos 1
more a b = sym (+ℤ_assoc (pos a) (neg_ℤ (pos b)) (pos 1) ∙ ap (λ (z : ℤ). pos a +ℤ z) (+ℤ_comm (neg_ℤ (pos b)) (pos 1)) ∙ sym (+ℤ_assoc (pos a) (pos 1) (neg_ℤ (pos b))))

less : (a b : ℕ) → pos a -ℤ pos (b + 1) ≡ (pos a -ℤ pos b) -ℤ pos 1
less a b = ap (λ (z : ℤ). pos a +ℤ z) (neg_ℤ-+ℤ (pos b) (pos 1)) ∙ sym (+ℤ_assoc (pos a) (neg_ℤ (pos b)) (neg_ℤ (pos 1)))

kept : (a b : ℕ) → pos (a + 0) -ℤ pos (b + 0) ≡ pos a -ℤ pos b
kept a b =
    let p : a + 0 ≡ a = omega arith in
    let q : b + 0 ≡ b = omega arith in
    ap (λ (x : ℕ). pos x -ℤ pos (b + 0)) p ∙ ap (λ (x : ℕ). pos a -ℤ pos x) q

counts_with : (a b : ℕ) (k : Sign) → pos (a + one_if (is_open k)) -ℤ pos (b + one_if (is_close k)) ≡ level_with (pos a -ℤ pos b) k
counts_with a b (Digit d) = kept a b
counts_with a b (Joins o) = kept a b
counts_with a b Bang = kept a b
counts_with a b Open =
    let q : b + 0 ≡ b = omega arith in
    ap (λ (x : ℕ). pos (a + 1) -ℤ pos x) q ∙ more a b
counts_with a b Close =
    let p : a + 0 ≡ a = omega arith in
    ap (λ (x : ℕ). pos x -ℤ pos (b + 1)) p ∙ less a b
counts_with a b Blank = kept a b
counts_with a b Other = kept a b

pub level_next : (text : List ℕ) (i : ℕ) → i < length text → level (take (i + 1) text) ≡ level_with (level (take i text)) (sign_at text i)
level_next text i h =
    let s = take i text in
    let e : take (i + 1) text ≡ s ++ (get_or text i 0 ∷ []) = rw add-one (take-suc text i 0 h) in
    ap level e ∙ ap (λ (x : ℕ). pos x -ℤ pos (shut (s ++ (get_or text i 0 ∷ [])))) (opened_more s (get_or text i 0))
    ∙ ap (λ (x : ℕ). pos (opened s + one_if (is_open (sign_at text i))) -ℤ pos x) (shut_more s (get_or text i 0))
    ∙ counts_with (opened s) (shut s) (sign_at text i)

pub not_close : (k : Sign) → (k ≡ Close → ⊥) → is_close k ≡ false
not_close (Digit d) f = refl
not_close (Joins o) f = refl
not_close Bang f = refl
not_close Open f = refl
not_close Close f = absurd (f refl)
not_close Blank f = refl
not_close Other f = refl

mag_difference : (a b : ℕ) → mag (pos a -ℤ pos b) ≤ a + b
mag_difference a zero = omega arith
mag_difference a (suc b) =
    by_test (ltb a (suc b)) (λ e. rw e (omega (arith, ltb-true a (suc b) e))) (λ e. rw e (omega (arith, ltb-false a (suc b) e)))

difference_fits : (a b : ℕ) → a + b < 2 ^ 63 → SFits w64 (pos a -ℤ pos b)
difference_fits a b h = record { sfits = omega (arith, mag_difference a b) }

passes_difference : (n a b : ℕ) → lt_z (pos n) (pos a -ℤ pos b) ≡ ltb (b + n) a
passes_difference n a zero =
    let p : a + 0 ≡ a = omega arith in
    let q : 0 + n ≡ n = omega arith in
    rw (p, q)
passes_difference n a (suc b) =
    by_test (ltb a (suc b))
    (λ e. rw e (sym (le-ltb (suc b + n) a (omega (arith, ltb-true a (suc b) e)))))
    (λ e. rw e (by_test (ltb n (a - suc b))
    (λ f. rw f (sym (lt-ltb (suc b + n) a (omega (arith, ltb-true n (a - suc b) f)))))
    (λ f. rw f (sym (le-ltb (suc b + n) a (omega (arith, ltb-false a (suc b) e, ltb-false n (a - suc b) f)))))))

-- the count passes at i as the row says
pub passes_at : (text : List ℕ) (i : ℕ) → too_deep_at text i ≡ (is_open (sign_at text i) && lt_z (pos deepest) (level (take (i + 1) text)))
passes_at text i = rw (passes_difference deepest (opened (take (i + 1) text)) (shut (take (i + 1) text)), add-one)

-- the walk: before the first byte, and behind a byte
pub level_none : (text : List ℕ) → pos 0 ≡ level (take 0 text)
unfolding opened shut
level_none text = refl

module _ (text : List ℕ) (i : ℕ) (h : i < length text) where
  pub passes_told : sign_at text i ≡ Open → too_deep_at text i ≡ lt_z (pos deepest) (level (take (i + 1) text))
  passes_told e = passes_at text i ∙ rw e

  pub no_pass : is_open (sign_at text i) ≡ false → too_deep_at text i ≡ false
  no_pass e = rw e

  module _ {z : ℤ} (same : z ≡ level (take i text)) where
    module _ (long : length text < 2 ^ 63) where
      pub raised_fits : SFits w64 (z +ℤ pos 1)
      raised_fits =
          let f = parentheses_few (take i text) in
          let l = length-take i text in
          rw (same, ← more (opened (take i text)) (shut (take i text))) (difference_fits (opened (take i text) + 1) (shut (take i text)) (omega arith))

      pub lowered_fits : SFits w64 (z -ℤ pos 1)
      lowered_fits =
          let f = parentheses_few (take i text) in
          let l = length-take i text in
          rw (same, ← less (opened (take i text)) (shut (take i text))) (difference_fits (opened (take i text)) (shut (take i text) + 1) (omega arith))

      pub level_raised : sign_at text i ≡ Open → to_z w64 (of_z w64 (z +ℤ pos 1)) ≡ level (take (i + 1) text)
      level_raised e = to_z-of_z {w = w64} {z = z +ℤ pos 1} raised_fits ∙ sym (level_next text i h ∙ rw (e, same))

      pub level_lowered : sign_at text i ≡ Close → to_z w64 (of_z w64 (z -ℤ pos 1)) ≡ level (take (i + 1) text)
      level_lowered e = to_z-of_z {w = w64} {z = z -ℤ pos 1} lowered_fits ∙ sym (level_next text i h ∙ rw (e, same))

    pub level_kept : is_open (sign_at text i) ≡ false → is_close (sign_at text i) ≡ false → z ≡ level (take (i + 1) text)
    level_kept e f = sym (level_next text i h ∙ rw (e, f, same))
