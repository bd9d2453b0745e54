-- The fields of gates on their way into a table, each as a row over the gates (scope 4, 5.1).
-- Assumes nothing.
use Rattle.std.specs.Prelude.{ℕ, List, map}
use Rattle.terms.specs.declared.LaidGate.{LaidGate}

abbrev pub primitives_of : List LaidGate → List ℕ
primitives_of gates = map (λ g. g.primitive.0) gates

abbrev pub true_places_of : List LaidGate → List ℕ
true_places_of gates = map (λ g. g.true_place.0) gates

abbrev pub false_places_of : List LaidGate → List ℕ
false_places_of gates = map (λ g. g.false_place.0) gates

abbrev pub senses_of : List LaidGate → List ℕ
senses_of gates = map (λ g. g.sense) gates

abbrev pub owns_of : List LaidGate → List ℕ
owns_of gates = map (λ g. g.own.0) gates

abbrev pub on_trues_of : List LaidGate → List ℕ
on_trues_of gates = map (λ g. g.on_true.0) gates

abbrev pub on_falses_of : List LaidGate → List ℕ
on_falses_of gates = map (λ g. g.on_false.0) gates
