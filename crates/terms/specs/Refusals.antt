-- What a refusal of the code stands for.
--   number_of reason == the number that the page gives it (scope 7.1)
--   shown f r        == the answer that a result of the code stands for, by what its value stands for
-- Assumes nothing.
use Rattle.std.specs.Prelude.{ℕ, Result, Ok, Err}
use Rattle.terms.specs.Answer.{Answer, result, refused}
use Rattle.terms.specs.declared.Reason.{Reason}
use Rattle.terms.specs.declared.Reason.TheVariants.{TooLong, NotAllowed, BadNumber, TooDeep, NotASum, TooMany, TooManyLabels, TooLittleRoom, NotWellFormed, NotAtEnd, PastGates, NeitherEnd}
use Rattle.terms.specs.declared.Refusal.{Refusal}

abbrev pub number_of : Reason → ℕ
number_of TooLong = 1
number_of NotAllowed = 2
number_of BadNumber = 3
number_of TooDeep = 4
number_of NotASum = 5
number_of TooMany = 6
number_of TooManyLabels = 7
number_of TooLittleRoom = 8
number_of NotWellFormed = 9
number_of NotAtEnd = 10
number_of PastGates = 11
number_of NeitherEnd = 12

abbrev pub shown : {A B : Type 0} → (A → B) → Result A Refusal → Answer B
shown f (Ok x) = result (f x)
shown f (Err r) = refused (number_of r.reason) r.at
