-- A right answer of compile is listed as the definition says: a table stands at the front of the buffer and is well formed.
-- Assumes nothing.
use Prim.Native.Nat.{ℕ, ◌≤◌}
use mathlib.Core.Path.{◌≡◌, refl, sym, ap, ◌∙◌, subst}
use mathlib.Core.List.{List}
use native.Mathlib.Omega.{arith}
use lib.ListN.{length, take, drop, length-append}
use lib.Seq.{take-append_seam}
use Rattle.std.specs.Prelude.{Ok, Err}
use Rattle.terms.specs.declared.Refusal.{Refusal}
use Rattle.terms.specs.Answer.{Answer, result, refused}
use Rattle.terms.specs.Refusals.{number_of}
use Rattle.compiler.specs.Compiled.{written}
use Rattle.compiler.specs.Twins.Compiling.{compiled}
use Rattle.compiler.specs.Shown.{length_of, CompiledRight}
use Rattle.compiler.proofs.Formed.{compiled_formed}
use Rattle.listing.specs.Lines.{lines, refusal_line}
use Rattle.listing.specs.Code.Written.{Printed, Listable}
use Rattle.listing.proofs.Tables.{well_formed_listable}
use Rattle.list.specs.Listed.{roomy, shown, listed}

-- the table that stands at the front of the buffer
record Front (text after : List ℕ) (n : ℕ) : Type 0 where
  pub table : List ℕ
  pub answer : compiled text roomy ≡ result table
  pub count : n ≡ length table
  pub front : take n after ≡ table
  pub within : n ≤ length after

front_of : (text before after : List ℕ) (n : ℕ) (a : Answer (List ℕ)) → compiled text roomy ≡ a → result n ≡ length_of a
    → after ≡ written a before → Front text after n
front_of text before after n (result table) is answer buffer =
    let count : n ≡ length table = cc in
    record {
      table = table;
      answer = is;
      count = count;
      front = rw (buffer, count) (take-append_seam table (drop (length table) before));
      within = omega (arith, ap length buffer ∙ length-append table (drop (length table) before));
    }
front_of text before after n (refused r p) is answer buffer = let z : ◌≡◌ {A = ℕ} 0 1 = cc in absurd (omega arith)

module _ {text before after : List ℕ} (room : length before ≡ roomy) where
  at_front : {n : ℕ} → CompiledRight text before after (Ok n) → Front text after n
  at_front {n} right =
      front_of text before after n (compiled text roomy) refl (right.answer ∙ ap (λ (k : ℕ). length_of (compiled text k)) room)
      (right.buffer ∙ ap (λ (k : ℕ). written (compiled text k) before) room)

  pub front_listable : {n : ℕ} → CompiledRight text before after (Ok n) → Listable (take n after)
  front_listable right =
      let f = at_front right in
      rw f.front (well_formed_listable f.table (compiled_formed text roomy f.table f.answer))

  pub table_listed : {n r : ℕ} {out out' : List ℕ} → CompiledRight text before after (Ok n) → Printed out out' (lines (take n after)) r → Printed out out' (listed text) r
  unfolding listed
  table_listed {n} {r} {out} {out'} right printed =
      let f = at_front right in
      let same : lines (take n after) ≡ shown (compiled text roomy) = ap lines f.front ∙ sym (ap shown f.answer) in
      subst (λ (l : List ℕ). Printed out out' l r) same printed

  pub refusal_listed : {f : Refusal} {r : ℕ} {out out' : List ℕ} → CompiledRight text before after (Err f)
      → Printed out out' (refusal_line (number_of f.reason) f.at) r → Printed out out' (listed text) r
  unfolding listed
  refusal_listed {f} {r} {out} {out'} right printed = go (compiled text roomy) refl
    where
      is_compiled : ◌≡◌ {A = Answer ℕ} (refused (number_of f.reason) f.at) (length_of (compiled text roomy))
      is_compiled = right.answer ∙ ap (λ (k : ℕ). length_of (compiled text k)) room

      go : (b : Answer (List ℕ)) → compiled text roomy ≡ b → Printed out out' (shown (compiled text roomy)) r
      go (result table) e =
          let no : ◌≡◌ {A = Answer ℕ} (refused (number_of f.reason) f.at) (result (length table)) = is_compiled ∙ ap length_of e in
          let z : ◌≡◌ {A = ℕ} 0 1 = cc in
          absurd (omega arith)
      go (refused q p) e =
          let same : ◌≡◌ {A = Answer ℕ} (refused (number_of f.reason) f.at) (refused q p) = is_compiled ∙ ap length_of e in
          let number : number_of f.reason ≡ q = cc in
          let place : f.at ≡ p = cc in
          rw e (rw (number, place) at printed)
