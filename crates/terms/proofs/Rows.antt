-- A chain of `refuse` renders its rows: it refuses by the first row that holds, at its place, and gives a result where none holds,
-- since each row's test decides it and the tests are made in the order of the list.
--   Decides Holds o      == the test o gives the place at which a row holds, if there is one
--   Says rows Right a    == the answer a refuses by the first of the rows, or gives a right result where none holds
--   OnePlace rows        == each row holds at one place at most
--   EachNumber P rows    == every row's number has P
-- Assumes nothing.
use Prim.Native.Nat.{ℕ}
use mathlib.Core.Path.{◌≡◌, refl, sym, ap, ◌∙◌, subst}
use mathlib.Core.Logic.{◌⊎◌, inl, inr, ⊎_elim, ◌↔◌}
use mathlib.Core.Bool.{Bool, true, false}
use mathlib.Core.Option.{Option, none, some}
use mathlib.Core.List.{List, [], ◌∷◌, ◌++◌}
use native.Mathlib.Omega.{arith}
use Rattle.terms.specs.Answer.{Answer, result, refused, refuse, on_result}
use Rattle.terms.specs.First.{where_so}
use Rattle.terms.specs.Rows.{Row, row, Nowhere, FirstOf, NoneOf}

-- a row holds at the place that its test gives, and nowhere else
abbrev pub Decides : (ℕ → Type 0) → Option ℕ → Type 0
Decides Holds o = (p : ℕ) → (o ≡ some p) ↔ Holds p

pub decides_none : {Holds : ℕ → Type 0} {o : Option ℕ} → Decides Holds o → o ≡ none → (p : ℕ) → ¬ Holds p
decides_none decides is p holds = let there = (decides p).1 holds in let z : ◌≡◌ {A = ℕ} 0 1 = cc in omega arith

pub decides_unique : {Holds : ℕ → Type 0} {o : Option ℕ} → Decides Holds o → (p q : ℕ) → Holds p → Holds q → p ≡ q
decides_unique decides p q a b = let here = (decides p).1 a in let there = (decides q).1 b in cc

-- a place given by a test decides a row that holds there exactly when the test passes
where_so_some : (t : Bool) (p : ℕ) {q : ℕ} → where_so t p ≡ some q → (t ≡ true) × (q ≡ p)
where_so_some true p is = (refl, cc)
where_so_some false p is = let z : ◌≡◌ {A = ℕ} 0 1 = cc in absurd (omega arith)

pub where_so_decides : {Holds : ℕ → Type 0} (t : Bool) (p : ℕ) → (t ≡ true → Holds p) → ((q : ℕ) → Holds q → (t ≡ true) × (q ≡ p))
    → Decides Holds (where_so t p)
where_so_decides {Holds} t p shows finds q = (
  λ is. let both = where_so_some t p is in subst Holds (sym both.1) (shows both.0),
  λ holds. let both = finds q holds in rw (both.0, both.1),
)

pub data Says {A : Type 0} (rows : List Row) (Right : A → Type 0) : Answer A → Type 0 where
  gives : {x : A} → NoneOf rows → Right x → Says rows Right (result x)
  refuses : {r at : ℕ} → FirstOf rows r at → Says rows Right (refused r at)

module _ {A : Type 0} {Right : A → Type 0} where
  -- a row that holds nowhere, before the others
  pub passed : (x : Row) {rows : List Row} {a : Answer A} → Nowhere x → Says rows Right a → Says (x ∷ rows) Right a
  unfolding FirstOf NoneOf
  passed x nowhere (gives clear right) = gives (nowhere, clear) right
  passed x nowhere (refuses first) = refuses (inr (nowhere, first))

  pub refuse_says : (r : ℕ) (Holds : ℕ → Type 0) (rows : List Row) (o : Option ℕ) (a : Answer A) → Decides Holds o
      → (((p : ℕ) → ¬ Holds p) → Says rows Right a) → Says (row r Holds ∷ rows) Right (refuse r o a)
  unfolding FirstOf
  refuse_says r Holds rows none a decides later =
      let nowhere = decides_none decides refl in passed (row r Holds) nowhere (later nowhere)
  refuse_says r Holds rows (some p) a decides later = refuses (inl (refl, (decides p).0 refl))

  -- the end of a chain
  pub result_says : {x : A} → Right x → Says [] Right (result x)
  unfolding NoneOf
  result_says right = gives tt right

-- rows behind rows
none_behind : (rows more : List Row) → NoneOf rows → NoneOf more → NoneOf (rows ++ more)
unfolding NoneOf
none_behind [] more before after = after
none_behind (x ∷ rows) more before after = (before.0, none_behind rows more before.1 after)

first_before : (rows more : List Row) (r at : ℕ) → FirstOf rows r at → FirstOf (rows ++ more) r at
unfolding FirstOf
first_before [] more r at first = absurd first
first_before (x ∷ rows) more r at first = ⊎_elim (λ here. inl here) (λ later. inr (later.0, first_before rows more r at later.1)) first

first_behind : (rows more : List Row) (r at : ℕ) → NoneOf rows → FirstOf more r at → FirstOf (rows ++ more) r at
unfolding FirstOf NoneOf
first_behind [] more r at before first = first
first_behind (x ∷ rows) more r at before first = inr (before.0, first_behind rows more r at before.1 first)

says_behind : {B : Type 0} {Then : B → Type 0} (rows more : List Row) {b : Answer B} → NoneOf rows → Says more Then b → Says (rows ++ more) Then b
says_behind rows more before (gives after right) = gives (none_behind rows more before after) right
says_behind rows more before (refuses first) = refuses (first_behind rows more _ _ before first)

pub on_result_says : {A B : Type 0} {Right : A → Type 0} {Then : B → Type 0} (rows more : List Row) {a : Answer A} (f : A → Answer B)
    → Says rows Right a → ((x : A) → Right x → Says more Then (f x)) → Says (rows ++ more) Then (on_result a f)
on_result_says rows more f (gives clear right) then = says_behind rows more clear (then _ right)
on_result_says rows more f (refuses first) then = refuses (first_before rows more _ _ first)

-- each row holds at one place at most
unfoldable pub OnePlace : List Row → Type 0
OnePlace [] = Unit {0}
OnePlace (x ∷ xs) = ((p q : ℕ) → x.Holds p → x.Holds q → p ≡ q) × OnePlace xs

pub one_place_behind : (rows more : List Row) → OnePlace rows → OnePlace more → OnePlace (rows ++ more)
unfolding OnePlace
one_place_behind [] more before after = after
one_place_behind (x ∷ rows) more before after = (before.0, one_place_behind rows more before.1 after)

pub none_first : (rows : List Row) (r at : ℕ) → NoneOf rows → ¬ FirstOf rows r at
unfolding FirstOf NoneOf
none_first [] r at clear first = first
none_first (x ∷ rows) r at clear first = ⊎_elim (λ here. clear.0 at here.1) (λ later. none_first rows r at clear.1 later.1) first

pub first_of_unique : (rows : List Row) → OnePlace rows → (r s p q : ℕ) → FirstOf rows r p → FirstOf rows s q → (r ≡ s) × (p ≡ q)
unfolding FirstOf OnePlace
first_of_unique [] one r s p q a b = absurd a
first_of_unique (x ∷ rows) one r s p q a b =
    ⊎_elim
    (λ here. ⊎_elim (λ there. (here.0 ∙ sym there.0, one.0 p q here.1 there.1)) (λ later. absurd (later.0 p here.1)) b)
    (λ later. ⊎_elim (λ there. absurd (later.0 q there.1)) (λ behind. first_of_unique rows one.1 r s p q later.1 behind.1) b)
    a

-- what rows behind rows say of each part
pub none_parts : (rows more : List Row) → NoneOf (rows ++ more) → NoneOf rows × NoneOf more
unfolding NoneOf
none_parts [] more clear = (tt, clear)
none_parts (x ∷ rows) more clear = let later = none_parts rows more clear.1 in ((clear.0, later.0), later.1)

pub first_parts : (rows more : List Row) (r at : ℕ) → FirstOf (rows ++ more) r at → FirstOf rows r at ⊎ (NoneOf rows × FirstOf more r at)
unfolding FirstOf NoneOf
first_parts [] more r at first = inr (tt, first)
first_parts (x ∷ rows) more r at first =
    ⊎_elim (λ here. inl (inl here))
    (λ later.
    ⊎_elim (λ early. inl (inr (later.0, early))) (λ behind. inr ((later.0, behind.0), behind.1)) (first_parts rows more r at later.1))
    first

-- what every row's number has, that of the first one has
unfoldable pub EachNumber : (ℕ → Type 0) → List Row → Type 0
EachNumber P [] = Unit {0}
EachNumber P (x ∷ xs) = P x.number × EachNumber P xs

pub first_number : (P : ℕ → Type 0) (rows : List Row) → EachNumber P rows → (r at : ℕ) → FirstOf rows r at → P r
unfolding FirstOf EachNumber
first_number P [] each r at first = absurd first
first_number P (x ∷ rows) each r at first =
    ⊎_elim (λ here. subst P (sym here.0) each.0) (λ later. first_number P rows each.1 r at later.1) first

-- "Every refusal is given exactly when its row says": by the first row that holds, and a result exactly where none does
module _ {A : Type 0} {Right : A → Type 0} {rows : List Row} where
  pub refused_by_first : OnePlace rows → {a : Answer A} → Says rows Right a → (r at : ℕ) → (a ≡ refused r at) ↔ FirstOf rows r at
  refused_by_first one (gives clear right) r at =
      (λ is. let z : ◌≡◌ {A = ℕ} 0 1 = cc in absurd (omega arith), λ first. absurd (none_first rows r at clear first))
  refused_by_first one (refuses {r = s} {at = p} says) r at = (
    λ is. let number : s ≡ r = cc in let place : p ≡ at = cc in subst (λ (q : ℕ). FirstOf rows r q) place (subst (λ (q : ℕ). FirstOf rows q p) number says),
    λ first. let same = first_of_unique rows one s r p at says first in rw (same.0, same.1),
  )

  pub result_by_none : ((x y : A) → Right x → Right y → x ≡ y) → {a : Answer A} → Says rows Right a → (x : A) → (a ≡ result x) ↔ (NoneOf rows × Right x)
  result_by_none same (gives {x = y} clear right) x = (
    λ is. let e : y ≡ x = cc in (clear, subst Right e right),
    λ both. ap result (same y x right both.1),
  )
  result_by_none same (refuses first) x =
      (λ is. let z : ◌≡◌ {A = ℕ} 0 1 = cc in absurd (omega arith), λ both. absurd (none_first rows _ _ both.0 first))
