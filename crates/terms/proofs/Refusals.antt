-- A refusal is known by its number and its place, since no two reasons have one number; and so a result by the answer that it
-- stands for.
use Rattle.std.specs.Prelude.{ℕ, [], ◌∷◌, get_or, Result, Ok, Err}
use mathlib.Core.Path.{◌≡◌, refl, sym, ◌∙◌, ap, ap₂}
use native.Mathlib.Omega.{arith}
use Rattle.terms.specs.declared.Reason.{Reason}
use Rattle.terms.specs.declared.Reason.TheVariants.{TooLong, NotAllowed, BadNumber, TooDeep, NotASum, TooMany, TooManyLabels, TooLittleRoom, NotWellFormed, NotAtEnd, PastGates, NeitherEnd}
use Rattle.terms.specs.declared.Refusal.{Refusal}
use Rattle.terms.specs.Refusals.{number_of, shown}

-- the reasons by their numbers
reason_at : ℕ → Reason
reason_at n =
    get_or
    (TooLong ∷ TooLong ∷ NotAllowed ∷ BadNumber ∷ TooDeep ∷ NotASum ∷ TooMany ∷ TooManyLabels ∷ TooLittleRoom ∷ NotWellFormed ∷ NotAtEnd ∷ PastGates
    ∷ NeitherEnd ∷ [])
    n NeitherEnd

read_back : (x : Reason) → reason_at (number_of x) ≡ x
unfolding reason_at
read_back TooLong = refl
read_back NotAllowed = refl
read_back BadNumber = refl
read_back TooDeep = refl
read_back NotASum = refl
read_back TooMany = refl
read_back TooManyLabels = refl
read_back TooLittleRoom = refl
read_back NotWellFormed = refl
read_back NotAtEnd = refl
read_back PastGates = refl
read_back NeitherEnd = refl

pub reason_known : {x y : Reason} → number_of x ≡ number_of y → x ≡ y
reason_known {x} {y} e = sym (read_back x) ∙ ap reason_at e ∙ read_back y

pub refusal_known : {f g : Refusal} → number_of f.reason ≡ number_of g.reason → f.at ≡ g.at → f ≡ g
refusal_known e at = ap₂ {C = Refusal} (λ r a. record { reason = r; at = a }) (reason_known e) at

-- two results that stand for one answer are one, where the values that stand for one value are
pub shown_known : {A B : Type 0} (f : A → B) → ((x y : A) → f x ≡ f y → x ≡ y) → (a b : Result A Refusal) → shown f a ≡ shown f b → a ≡ b
shown_known f known (Ok x) (Ok y) e = let same : f x ≡ f y = cc in ap Ok (known x y same)
shown_known f known (Ok x) (Err g) e = let never : ◌≡◌ {A = ℕ} 0 1 = cc in absurd (omega arith)
shown_known f known (Err g) (Ok x) e = let never : ◌≡◌ {A = ℕ} 0 1 = cc in absurd (omega arith)
shown_known f known (Err g) (Err h) e =
    let number : number_of g.reason ≡ number_of h.reason = cc in
    let place : g.at ≡ h.at = cc in
    ap Err (refusal_known number place)
