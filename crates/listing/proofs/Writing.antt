-- Texts written one behind the other are one text written; what is written at the start of a buffer leaves the rest. Assumes nothing.
use Prim.Native.Nat.{ℕ, ◌+◌, ◌≤◌}
use mathlib.Core.Path.{◌≡◌, refl, sym, ap, ◌∙◌}
use mathlib.Core.List.{List, [], ◌++◌}
use native.Mathlib.Nat.{zero-add}
use native.Mathlib.Omega.{arith}
use lib.ListN.{length, drop, length-append, length-take}
use lib.Seq.{sets-eq, length-sets}
use Rattle.terms.proofs.Stores.{sets_append}
use Rattle.listing.specs.declared.Page.{Page}
use Rattle.listing.specs.Code.Written.{Written, WrittenWithin, Printed}

-- nothing
pub nothing : (p : Page) → Written p p []
nothing p = record { same_buffer = refl; stored = refl; place = omega arith }

-- one text, and then another behind it
pub then : {p q s : Page} {xs ys : List ℕ} → Written p q xs → Written q s ys → Written p s (xs ++ ys)
then {p} {q} {s} {xs} {ys} v w =
    record {
      same_buffer = w.same_buffer ∙ v.same_buffer;
      stored = w.stored ∙ rw (v.stored, v.place) (sym (sets_append p.out.now p.at xs ys));
      place = omega (arith, v.place, w.place, length-append xs ys);
    }

-- the same, where each has no more than so many bytes
pub then_within : {m n : ℕ} {p q s : Page} {xs ys : List ℕ} → WrittenWithin m p q xs → WrittenWithin n q s ys → WrittenWithin (m + n) p s (xs ++ ys)
then_within v w = record { written = then v.written w.written; near = omega arith }

pub tight : {m : ℕ} {p q : Page} {xs : List ℕ} → Written p q xs → length xs ≤ m → WrittenWithin m p q xs
tight w h = record { written = w; near = omega arith }

pub whole : {p q : Page} {xs : List ℕ} → Written p q xs → WrittenWithin (length xs) p q xs
whole w = tight w (omega arith)

-- a page on which nothing was written before
pub printed : {p q : Page} {old new text : List ℕ} → Written p q text → p.at ≡ 0 → p.out.now ≡ old → new ≡ q.out.now → length text ≤ length old → Printed old new text q.at
printed {p} {q} {old} {new} {text} w start before after h =
    let e : new ≡ text ++ drop (length text) old = after ∙ rw (before, start, zero-add) at (w.stored ∙ sets-eq text p.out.now p.at (omega (arith, ap length before))) in
    let n : length new ≡ length old = ap length (after ∙ w.stored) ∙ length-sets p.out.now p.at text ∙ ap length before in
    let c : q.at ≡ length text = omega arith in
    record { stored = e; count = c; within = omega arith; counted = rw length-take (omega arith) }
