-- Reading where operators bind otherwise: the reader and compiling with the levels as a choice. With the right choice, `level`, they
-- are the right ones: proofs/Controls.antt.
--   minus_in_products            == the levels before request 1, when `-` bound as `*` does
--   read_by levels text          == the reader with these levels
--   compiled_by levels text room == compiling with that reader
--   told_apart text              == in one chain of the text a `-` follows a `+`, or a `*` follows a `-` with no `+` between
--   OthersKeepTheirTables        == that no marked example but `1+2-3` had another table then
-- Assumes nothing.
use Rattle.std.specs.Prelude.{ℕ, suc, ◌≡◌, Bool, true, false, ◌||◌, List, [], ◌∷◌, ◌++◌, map, replicate, take, drop}
use Rattle.std.proofs.Math.Option.{Option, none, some}
use Rattle.terms.specs.Answer.{Answer, result, on_result}
use Rattle.terms.specs.Texts.{bytes}
use Rattle.formula.specs.Typed.{number, positive}
use Rattle.grammar.specs.declared.Operator.{Operator}
use Rattle.grammar.specs.declared.Operator.TheVariants.{Plus, Times, Minus}
use Rattle.grammar.specs.declared.Sign.{Sign}
use Rattle.grammar.specs.declared.Sign.TheVariants.{Digit, Joins, Bang, Open, Close, Blank, Other}
use Rattle.grammar.specs.Bytes.{sign_of}
use Rattle.grammar.specs.Twins.Reader.{of_sums, of_products, Waiting, nothing, State, wanted, inside, complete, product_with, awaiting, Next, stuck, go, next_state, Outcome, at_end, onward}
use Rattle.grammar.specs.Twins.Reading.{tested}
use Rattle.turning.specs.Turning.{marks}
use Rattle.compiler.specs.Twins.Compiling.{finished}
use Rattle.promises.specs.Examples.Marked.{Example, compiled_to, roomy}

abbrev pub Levels : Type 0
Levels = Operator → ℕ

-- "Document 01 took the paper's rewriting for a rule of binding, and that was wrong.": `-` in the product (scope 2.2)
abbrev pub minus_in_products : Levels
minus_in_products Plus = of_sums
minus_in_products Times = of_products
minus_in_products Minus = of_products

-- the reader's step at an operator of that level
abbrev pub on_operator : ℕ → State → Operator → List Waiting → Next
on_operator l (wanted w) o outer = stuck
on_operator l (inside w v) o outer = go (wanted (awaiting l w.sum (product_with w (number v)) o)) outer
on_operator l (complete sum p) o outer = go (wanted (awaiting l sum p o)) outer

abbrev pub next_by : Levels → State → Sign → List Waiting → Next
next_by levels st (Digit d) outer = next_state st (Digit d) outer
next_by levels st (Joins o) outer = on_operator (levels o) st o outer
next_by levels st Bang outer = next_state st Bang outer
next_by levels st Open outer = next_state st Open outer
next_by levels st Close outer = next_state st Close outer
next_by levels st Blank outer = next_state st Blank outer
next_by levels st Other outer = next_state st Other outer

unfoldable pub read_from_by : Levels → State → List Waiting → ℕ → List ℕ → Outcome
read_from_by levels st outer at [] = at_end st outer at
read_from_by levels st outer at (b ∷ s) = onward (next_by levels st (sign_of b) outer) at (λ st' outer'. read_from_by levels st' outer' (suc at) s)

unfoldable pub read_by : Levels → List ℕ → Outcome
read_by levels text = read_from_by levels (wanted nothing) [] 0 text

unfoldable pub compiled_by : Levels → List ℕ → ℕ → Answer (List ℕ)
compiled_by levels text room = on_result (tested text (read_by levels text)) (λ e. finished (positive 0 e) (marks (positive 0 e)) room)

-- where a chain stands: its last `+` or `-`, if it has one, and those of the chains outside its parentheses
pub record Chain : Type 0 where
  pub last : Option Operator
  pub outside : List (Option Operator)

-- a `-` behind a `+`, or a `*` behind a `-`
abbrev pub parts : Option Operator → Operator → Bool
parts none o = false
parts (some Plus) Plus = false
parts (some Plus) Times = false
parts (some Plus) Minus = true
parts (some Times) o = false
parts (some Minus) Plus = false
parts (some Minus) Times = true
parts (some Minus) Minus = false

abbrev pub parts_at : Chain → Sign → Bool
parts_at c (Digit d) = false
parts_at c (Joins o) = parts c.last o
parts_at c Bang = false
parts_at c Open = false
parts_at c Close = false
parts_at c Blank = false
parts_at c Other = false

abbrev pub behind_operator : Chain → Operator → Chain
behind_operator c Plus = record { last = some Plus; outside = c.outside }
behind_operator c Times = c
behind_operator c Minus = record { last = some Minus; outside = c.outside }

abbrev pub behind_closing : Chain → List (Option Operator) → Chain
behind_closing c [] = c
behind_closing c (l ∷ outside) = record { last = l; outside = outside }

abbrev pub chain_behind : Chain → Sign → Chain
chain_behind c (Digit d) = c
chain_behind c (Joins o) = behind_operator c o
chain_behind c Bang = c
chain_behind c Open = record { last = none; outside = c.last ∷ c.outside }
chain_behind c Close = behind_closing c c.outside
chain_behind c Blank = c
chain_behind c Other = c

unfoldable pub told_apart_from : Chain → List ℕ → Bool
told_apart_from c [] = false
told_apart_from c (b ∷ s) = parts_at c (sign_of b) || told_apart_from (chain_behind c (sign_of b)) s

abbrev pub told_apart : List ℕ → Bool
told_apart text = told_apart_from (record { last = none; outside = [] }) text

-- the marked examples but `1+2-3`, which is the seventh
abbrev pub others : List Example
others = take 6 compiled_to ++ drop 7 compiled_to

-- "the other examples of 01 keep their tables" (scope 2.2)
pub record OthersKeepTheirTables : Type 0 where
  pub tables : map (λ x. compiled_by minus_in_products (bytes x.text) roomy) others ≡ map (λ x. x.told) others
  -- the seventh had the table that document 01 gave it, in the order 2, 3, 1
  pub before : compiled_by minus_in_products (bytes "1+2-3") roomy
      ≡ result (72 ∷ 3 ∷ 0 ∷ 2 ∷ 80 ∷ 2 ∷ 0 ∷ 0 ∷ 0 ∷ 1 ∷ 78 ∷ 3 ∷ 0 ∷ 0 ∷ 0 ∷ 1 ∷ 80 ∷ 1 ∷ 0 ∷ 1 ∷ 0 ∷ 1 ∷ 69 ∷ 0 ∷ 1 ∷ [])
  -- and which of them all the two readings tell apart
  pub seen : map (λ x. told_apart (bytes x.text)) compiled_to ≡ replicate 6 false ++ true ∷ replicate 8 false
