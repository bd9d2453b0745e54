-- The examples that document 01 marks, each as it stands there, with `1+2-3` as request 1 has it.
--   compiled_to  == a text, and what compiling it answers in a buffer with room enough
--   expr text    == the positive form of what the text means
--   order e      == the primitives of the gates of e, in order
--   AllAsTold    == that every marked example comes out as document 01 says
--   MinusAsTold  == that texts with `-` are grouped as request 1 says
--   AlsoAsTold   == some neighbours of them: blanks, a closing too many, openings after early closings
-- Assumes nothing.
use Rattle.std.specs.Prelude.{ℕ, ◌≡◌, Bool, true, false, List, [], ◌∷◌, ◌++◌, map, replicate}
use Prim.Native.String.{String}
use Rattle.terms.specs.Answer.{Answer, result, refused}
use Rattle.formula.specs.Formula.{union, intersection, Expr, literal, join}
use Rattle.formula.specs.Typed.{occurs}
use Rattle.grammar.specs.Twins.Reading.{reading}
use Rattle.turning.specs.Tags.{price}
use Rattle.turning.specs.Turning.{turned}
use Rattle.weaving.specs.Gates.{in_order}
use Rattle.weaving.specs.Labels.{weave}
use Rattle.compiler.specs.Twins.Compiling.{compiled}
use Rattle.run.specs.Whole.{whole_run}
use Rattle.listing.specs.Lines.{lines, refusal_line}
use Rattle.terms.specs.Texts.{bytes}

pub record Example : Type 0 where
  pub text : String
  pub told : Answer (List ℕ)

abbrev pub answers : String → Answer (List ℕ) → Example
answers text told = record { text = text; told = told }

-- room for every accepted text
abbrev pub roomy : ℕ
roomy = 6151

-- the tables and the refusals, in the order of document 01
abbrev pub compiled_to : List Example
compiled_to =
    answers "5" (result (72 ∷ 1 ∷ 0 ∷ 2 ∷ 80 ∷ 5 ∷ 0 ∷ 0 ∷ 0 ∷ 1 ∷ 69 ∷ 0 ∷ 1 ∷ []))
    ∷ answers "1-2" (result (72 ∷ 2 ∷ 0 ∷ 2 ∷ 80 ∷ 1 ∷ 0 ∷ 0 ∷ 0 ∷ 1 ∷ 78 ∷ 2 ∷ 0 ∷ 0 ∷ 0 ∷ 1 ∷ 69 ∷ 0 ∷ 1 ∷ []))
    ∷ answers "!(1+2)" (result (72 ∷ 2 ∷ 0 ∷ 2 ∷ 78 ∷ 1 ∷ 0 ∷ 0 ∷ 0 ∷ 1 ∷ 78 ∷ 2 ∷ 0 ∷ 0 ∷ 0 ∷ 1 ∷ 69 ∷ 0 ∷ 1 ∷ []))
    ∷ answers "!!5" (result (72 ∷ 1 ∷ 0 ∷ 2 ∷ 80 ∷ 5 ∷ 0 ∷ 0 ∷ 0 ∷ 1 ∷ 69 ∷ 0 ∷ 1 ∷ []))
    ∷ answers "1*2+3*4"
    (result
    (72 ∷ 4 ∷ 0 ∷ 3
    ∷ 80 ∷ 1 ∷ 0 ∷ 0 ∷ 0 ∷ 1
    ∷ 80 ∷ 2 ∷ 0 ∷ 0 ∷ 0 ∷ 1
    ∷ 80 ∷ 3 ∷ 0 ∷ 1 ∷ 1 ∷ 2
    ∷ 80 ∷ 4 ∷ 0 ∷ 1 ∷ 0 ∷ 2
    ∷ 69 ∷ 0 ∷ 2 ∷ []))
    ∷ answers "1+2*3"
    (result (72 ∷ 3 ∷ 0 ∷ 2 ∷ 80 ∷ 2 ∷ 0 ∷ 0 ∷ 0 ∷ 1 ∷ 80 ∷ 3 ∷ 0 ∷ 0 ∷ 0 ∷ 1 ∷ 80 ∷ 1 ∷ 0 ∷ 1 ∷ 0 ∷ 1 ∷ 69 ∷ 0 ∷ 1 ∷ []))
    ∷ answers "1+2-3"
    (result (72 ∷ 3 ∷ 0 ∷ 2 ∷ 80 ∷ 1 ∷ 0 ∷ 0 ∷ 0 ∷ 1 ∷ 80 ∷ 2 ∷ 0 ∷ 1 ∷ 0 ∷ 1 ∷ 78 ∷ 3 ∷ 0 ∷ 0 ∷ 0 ∷ 1 ∷ 69 ∷ 0 ∷ 1 ∷ []))
    ∷ answers "" (refused 5 0)
    ∷ answers "1+" (refused 5 2)
    ∷ answers "1 2" (refused 5 2)
    ∷ answers "()" (refused 5 1)
    ∷ answers "1024 &" (refused 2 5)
    ∷ answers "1024" (refused 3 0)
    ∷ answers "1023" (result (72 ∷ 1 ∷ 0 ∷ 2 ∷ 80 ∷ 255 ∷ 3 ∷ 0 ∷ 0 ∷ 1 ∷ 69 ∷ 0 ∷ 1 ∷ []))
    ∷ answers "00001" (refused 3 0)
    ∷ []

-- the expression that a text means, in positive form
abbrev pub read_off : Answer Expr → Expr
read_off (result e) = e
read_off (refused r p) = occurs 0 true 0

abbrev pub expr : String → Expr
expr text = read_off (reading (bytes text))

-- the primitives of its gates, in order
abbrev pub order : Expr → List ℕ
order e = map (λ x. x.primitive) (in_order e)

-- an operator with its children exchanged
abbrev pub exchanged : Expr → Expr
exchanged (literal x) = literal x
exchanged (join k l r) = join k r l

-- the run over the table of a text
abbrev pub run_of : Answer (List ℕ) → List Bool → Answer Bool
run_of (result table) truths = whole_run table truths
run_of (refused r p) truths = refused r p

-- what the listing program writes of an answer
abbrev pub listing_of : Answer (List ℕ) → List ℕ
listing_of (result table) = lines table
listing_of (refused r p) = refusal_line r p

pub record AllAsTold : Type 0 where
  pub answered : map (λ x. compiled (bytes x.text) roomy) compiled_to ≡ map (λ x. x.told) compiled_to
  -- "`1+2*3`: typed tag false 1 2 3, exchanged false 2 2 2" (scope 8.1)
  pub typed_tag : price (expr "1+2*3") ≡ record { mark = false; c1 = 1; c2 = 2; c3 = 3 }
  pub exchanged_tag : price (exchanged (expr "1+2*3")) ≡ record { mark = false; c1 = 2; c2 = 2; c3 = 2 }
  -- "Truths 0, 1, 1, 1 end true." (scope 8.1)
  pub ends_true : run_of (compiled (bytes "1*2+3*4") roomy) (false ∷ true ∷ true ∷ true ∷ []) ≡ result true
  -- "For input `1+2*3` and a newline it writes exactly:" (scope 9)
  pub listed : listing_of (compiled (bytes "1+2*3\n") roomy)
      ≡ bytes "gates 3 labels 2\n0 2 + 0 0 1\n1 3 + 0 0 1\n2 1 + 1 0 1\ntrue 0 false 1\n"

-- the literal p, plain and complemented, as occurrence k
abbrev pub plain : ℕ → ℕ → Expr
plain p k = occurs p true k

abbrev pub bar : ℕ → ℕ → Expr
bar p k = occurs p false k

-- the tables of texts with `-`
abbrev pub minus_to : List Example
minus_to =
    answers "1-2*3"
    (result (72 ∷ 3 ∷ 0 ∷ 2 ∷ 78 ∷ 2 ∷ 0 ∷ 0 ∷ 0 ∷ 1 ∷ 78 ∷ 3 ∷ 0 ∷ 1 ∷ 0 ∷ 1 ∷ 80 ∷ 1 ∷ 0 ∷ 0 ∷ 0 ∷ 1 ∷ 69 ∷ 0 ∷ 1 ∷ []))
    ∷ answers "1*2-3"
    (result (72 ∷ 3 ∷ 0 ∷ 2 ∷ 80 ∷ 1 ∷ 0 ∷ 0 ∷ 0 ∷ 1 ∷ 80 ∷ 2 ∷ 0 ∷ 0 ∷ 0 ∷ 1 ∷ 78 ∷ 3 ∷ 0 ∷ 0 ∷ 0 ∷ 1 ∷ 69 ∷ 0 ∷ 1 ∷ []))
    ∷ answers "1-2-3"
    (result (72 ∷ 3 ∷ 0 ∷ 2 ∷ 80 ∷ 1 ∷ 0 ∷ 0 ∷ 0 ∷ 1 ∷ 78 ∷ 2 ∷ 0 ∷ 0 ∷ 0 ∷ 1 ∷ 78 ∷ 3 ∷ 0 ∷ 0 ∷ 0 ∷ 1 ∷ 69 ∷ 0 ∷ 1 ∷ []))
    ∷ answers "1-2+3"
    (result (72 ∷ 3 ∷ 0 ∷ 2 ∷ 80 ∷ 1 ∷ 0 ∷ 0 ∷ 0 ∷ 1 ∷ 78 ∷ 2 ∷ 0 ∷ 0 ∷ 0 ∷ 1 ∷ 80 ∷ 3 ∷ 0 ∷ 1 ∷ 0 ∷ 1 ∷ 69 ∷ 0 ∷ 1 ∷ []))
    ∷ answers "1-(2-3)"
    (result (72 ∷ 3 ∷ 0 ∷ 2 ∷ 78 ∷ 2 ∷ 0 ∷ 0 ∷ 0 ∷ 1 ∷ 80 ∷ 3 ∷ 0 ∷ 1 ∷ 0 ∷ 1 ∷ 80 ∷ 1 ∷ 0 ∷ 0 ∷ 0 ∷ 1 ∷ 69 ∷ 0 ∷ 1 ∷ []))
    ∷ answers "1-" (refused 5 2)
    ∷ []

-- what they are in positive form, and the order of their gates
pub record MinusAsTold : Type 0 where
  pub answered : map (λ x. compiled (bytes x.text) roomy) minus_to ≡ map (λ x. x.told) minus_to
  -- "`1+2-3` becomes (1+2)·!3 with gates in the order 1, 2, 3 and two labels." (scope 2.2)
  pub less_a_sum : expr "1+2-3" ≡ join intersection (join union (plain 1 0) (plain 2 1)) (bar 3 2)
  pub less_a_sum_order : order (turned (expr "1+2-3")) ≡ 1 ∷ 2 ∷ 3 ∷ []
  pub less_a_sum_labels : (weave (turned (expr "1+2-3"))).label_count ≡ 2
  -- `1-2*3` is 1·(!2+!3)
  pub less_a_product : expr "1-2*3" ≡ join intersection (plain 1 0) (join union (bar 2 1) (bar 3 2))
  pub less_a_product_order : order (turned (expr "1-2*3")) ≡ 2 ∷ 3 ∷ 1 ∷ []
  -- `1*2-3` is (1·2)·!3
  pub product_less : expr "1*2-3" ≡ join intersection (join intersection (plain 1 0) (plain 2 1)) (bar 3 2)
  pub product_less_order : order (turned (expr "1*2-3")) ≡ 1 ∷ 2 ∷ 3 ∷ []
  -- `1-2-3` is (1·!2)·!3, `1-2+3` is (1·!2)+3, and `1-(2-3)` is 1·(!2+3)
  pub less_and_less : expr "1-2-3" ≡ join intersection (join intersection (plain 1 0) (bar 2 1)) (bar 3 2)
  pub less_and_more : expr "1-2+3" ≡ join union (join intersection (plain 1 0) (bar 2 1)) (plain 3 2)
  pub less_in_parentheses : expr "1-(2-3)" ≡ join intersection (plain 1 0) (join union (bar 2 1) (plain 3 2))

-- what the rows say of texts next to the marked ones
pub record AlsoAsTold : Type 0 where
  -- all blanks: 5 at the length
  pub blanks : compiled (bytes "   ") roomy ≡ refused 5 3
  -- the operand is wanted behind the blank
  pub closing_too_many : compiled (bytes "1+ )") roomy ≡ refused 5 3
  -- ten `)` and then seventy `(`: the count stays below 64, so no 4
  pub openings_behind_closings : compiled (replicate 10 41 ++ replicate 70 40) roomy ≡ refused 5 0
  -- and one parenthesis more than may be nested
  pub too_deep : compiled (replicate 65 40) roomy ≡ refused 4 64
