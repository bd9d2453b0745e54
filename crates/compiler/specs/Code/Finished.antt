-- What the three parts of compile promise of an expression held in slots with a row of marks beside it.
--   root_of n   == the slot of the root of n literals
--   HeldTree    == the slots hold an expression of n literals
--   Marking     == and marks stand beside it
--   Planned     == the marks are those that turning gives
--   Weavable    == its arrangement needs so many labels, and the buffer has room
--   WovenInto   == the buffer begins with its table, and is behind it as before
--   FinishedBy  == the answer and the buffer are those of `finished`
-- Assumes nothing.
use Rattle.std.specs.Prelude.{ℕ, ◌-◌, ◌*◌, ◌≤◌, ◌≡◌, Bool, List, ◌++◌, length, drop, Result}
use Rattle.terms.specs.Terms.{most_literals, most_labels}
use Rattle.formula.specs.Formula.{Expr, literals}
use Rattle.formula.specs.Marks.{arranged}
use Rattle.formula.specs.Code.Held.{Holds}
use Rattle.formula.specs.Code.Marked.{Marked}
use Rattle.turning.specs.Turning.{marks}
use Rattle.weaving.specs.Labels.{weave}
use Rattle.table.specs.Layout.{table_length}
use Rattle.terms.specs.declared.Refusal.{Refusal}
use Rattle.compiler.specs.Compiled.{table_of, written}
use Rattle.compiler.specs.Twins.Compiling.{finished}
use Rattle.terms.specs.Refusals.{shown}
use Rattle.compiler.specs.Shown.{length_of}

abbrev pub root_of : ℕ → ℕ
root_of n = 2 * n - 2

pub record HeldTree (ks ss : List ℕ) (n : ℕ) : Type 0 where
  pub tree : Expr
  pub holds : Holds ks ss (root_of n) tree
  pub count : literals tree ≡ n
  pub few : n ≤ most_literals

pub record Marking (ks ss bs : List ℕ) (n : ℕ) : Type 0 where
  pub held : HeldTree ks ss n
  pub row : List Bool
  pub marked : Marked bs (root_of n) held.tree row

pub record Planned (ks ss bs : List ℕ) (n : ℕ) : Type 0 where
  pub each : (e : Expr) → Holds ks ss (root_of n) e → Marked bs (root_of n) e (marks e)

pub record Weavable (ks ss bs : List ℕ) (n labels : ℕ) (out : List ℕ) : Type 0 where
  pub marking : Marking ks ss bs n
  pub needs : (weave (arranged marking.row marking.held.tree)).label_count ≡ labels
  pub few_labels : labels ≤ most_labels
  pub room : table_length n ≤ length out

pub record WovenInto (ks ss bs : List ℕ) (n labels : ℕ) (before after : List ℕ) : Type 0 where
  pub each : (e : Expr) (ms : List Bool) → Holds ks ss (root_of n) e → Marked bs (root_of n) e ms → literals e ≡ n
      → (weave (arranged ms e)).label_count ≡ labels → after ≡ table_of (weave (arranged ms e)) ++ drop (table_length n) before

pub record FinishedAs (e : Expr) (ms : List Bool) (before after : List ℕ) (r : Result ℕ Refusal) : Type 0 where
  pub answer : shown (λ n. n) r ≡ length_of (finished e ms (length before))
  pub buffer : after ≡ written (finished e ms (length before)) before

pub record FinishedBy (ks ss bs : List ℕ) (n : ℕ) (before after : List ℕ) (r : Result ℕ Refusal) : Type 0 where
  pub each : (e : Expr) (ms : List Bool) → Holds ks ss (root_of n) e → Marked bs (root_of n) e ms → literals e ≡ n → FinishedAs e ms before after r
