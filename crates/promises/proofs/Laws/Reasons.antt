-- Each number that the rows may give is a reason's, so what is said of every refusal of the code is said of every number.
--   Reasoned q    == the number q is a reason's
--   by_number     == a refusal that is given exactly when its row says, asked for by its number and its place
-- Assumes nothing.
use Prim.Native.Nat.{ℕ}
use mathlib.Core.Path.{◌≡◌, refl, sym, subst}
use mathlib.Core.Logic.{◌↔◌}
use mathlib.Core.List.{List}
use Rattle.terms.specs.declared.Reason.{Reason}
use Rattle.terms.specs.declared.Reason.TheVariants.{TooLong, NotAllowed, BadNumber, TooDeep, NotASum, TooMany, TooManyLabels, TooLittleRoom, NotWellFormed, NotAtEnd, PastGates, NeitherEnd}
use Rattle.terms.specs.declared.Refusal.{Refusal}
use Rattle.terms.specs.Refusals.{number_of}
use Rattle.terms.specs.Rows.{Row, FirstOf}
use Rattle.terms.proofs.Rows.{EachNumber, first_number}
use Rattle.compiler.specs.Rows.{compile_rows}
use Rattle.run.specs.Run.{Run}
use Rattle.run.specs.Rows.{start_rows, feed_rows, answer_rows}

abbrev pub Reasoned : ℕ → Type 0
Reasoned q = (x : Reason) × (number_of x ≡ q)

pub compile_reasoned : (text : List ℕ) (room : ℕ) → EachNumber Reasoned (compile_rows text room)
unfolding EachNumber
compile_reasoned text room = (
  (TooLong, refl),
  ((NotAllowed, refl), ((BadNumber, refl), ((TooDeep, refl), ((NotASum, refl), ((TooMany, refl), ((TooManyLabels, refl), ((TooLittleRoom, refl), tt))))))),
)

pub start_reasoned : (table : List ℕ) → EachNumber Reasoned (start_rows table)
unfolding EachNumber
start_reasoned table = ((NotWellFormed, refl), tt)

pub feed_reasoned : (run : Run) (table : List ℕ) → EachNumber Reasoned (feed_rows run table)
unfolding EachNumber
feed_reasoned run table = ((NotWellFormed, refl), ((PastGates, refl), tt))

pub answer_reasoned : (run : Run) (table : List ℕ) → EachNumber Reasoned (answer_rows run table)
unfolding EachNumber
answer_reasoned run table = ((NotWellFormed, refl), ((NotAtEnd, refl), ((NeitherEnd, refl), tt)))

pub by_number : {Given : Refusal → Type 0} (rows : List Row) → EachNumber Reasoned rows → ((f : Refusal) → Given f ↔ FirstOf rows (number_of f.reason) f.at)
    → (q p : ℕ) → ((x : Reason) × (number_of x ≡ q) × Given (record { reason = x; at = p })) ↔ FirstOf rows q p
by_number rows each exactly q p = (
  λ some. subst (λ n. FirstOf rows n p) some.1 ((exactly (record { reason = some.0; at = p })).0 some.2),
  λ first.
      let known = first_number Reasoned rows each q p first in
      (known.0, known.1, (exactly (record { reason = known.0; at = p })).1 (subst (λ n. FirstOf rows n p) (sym known.1) first)),
)
