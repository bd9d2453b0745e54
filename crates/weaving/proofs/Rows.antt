-- Rows of places and of gates: what is read in one, and that a gate that is written anew leaves each row as it was whose field it has
-- as before. Assumes nothing.
use Prim.Native.Nat.{ℕ}
use mathlib.Core.Path.{◌≡◌, ◌∙◌}
use mathlib.Core.List.{List}
use lib.ListN.{length, get_or, set, replicate, get_or-map, length-map, length-replicate}
use Rattle.std.proofs.Math.Seq.{map-set_same}
use Rattle.terms.specs.Laid.{true_places_of, false_places_of}
use Rattle.terms.specs.declared.Place.{Place}
use Rattle.terms.specs.declared.LaidGate.{LaidGate}
use Rattle.weaving.specs.Code.Laid.{places_of, SameLiterals, SamePlaces, SameLabels}

pub place_at : (places : List Place) (i : ℕ) → get_or (places_of places) i 0 ≡ (get_or places i (record { 0 = 0 })).0
place_at places i = get_or-map (λ (p : Place). p.0) places i (record { 0 = 0 })

pub long_places : (n : ℕ) → length (places_of (replicate n (record { 0 = 0 }))) ≡ n
long_places n = length-map (replicate {A = Place} n (record { 0 = 0 })) (λ (p : Place). p.0) ∙ length-replicate n _

-- past the last gate a read gives noughts
abbrev pub no_gate : LaidGate
no_gate =
    record {
      primitive = record { 0 = 0 };
      true_place = record { 0 = 0 };
      false_place = record { 0 = 0 };
      sense = 0;
      own = record { 0 = 0 };
      on_true = record { 0 = 0 };
      on_false = record { 0 = 0 };
    }

pub true_place_at : (gates : List LaidGate) {i k : ℕ} → i ≡ k → get_or (true_places_of gates) k 0 ≡ (get_or gates i no_gate).true_place.0
true_place_at gates {i} {k} same = rw same (get_or-map (λ (g : LaidGate). g.true_place.0) gates k no_gate)

pub false_place_at : (gates : List LaidGate) {i k : ℕ} → i ≡ k → get_or (false_places_of gates) k 0 ≡ (get_or gates i no_gate).false_place.0
false_place_at gates {i} {k} same = rw same (get_or-map (λ (g : LaidGate). g.false_place.0) gates k no_gate)

module _ (gates : List LaidGate) (i : ℕ) (gate d : LaidGate) where
  pub literals_kept : gate.primitive.0 ≡ (get_or gates i d).primitive.0 → gate.sense ≡ (get_or gates i d).sense
      → SameLiterals gates (set gates i gate)
  literals_kept p s =
      record {
        primitives = map-set_same (λ (g : LaidGate). g.primitive.0) gates i gate d p;
        senses = map-set_same (λ (g : LaidGate). g.sense) gates i gate d s;
      }

  pub places_kept : gate.true_place.0 ≡ (get_or gates i d).true_place.0 → gate.false_place.0 ≡ (get_or gates i d).false_place.0
      → SamePlaces gates (set gates i gate)
  places_kept t f =
      record {
        true_places = map-set_same (λ (g : LaidGate). g.true_place.0) gates i gate d t;
        false_places = map-set_same (λ (g : LaidGate). g.false_place.0) gates i gate d f;
      }

  pub labels_kept : gate.own.0 ≡ (get_or gates i d).own.0 → gate.on_true.0 ≡ (get_or gates i d).on_true.0
      → gate.on_false.0 ≡ (get_or gates i d).on_false.0 → SameLabels gates (set gates i gate)
  labels_kept o t f =
      record {
        owns = map-set_same (λ (g : LaidGate). g.own.0) gates i gate d o;
        on_trues = map-set_same (λ (g : LaidGate). g.on_true.0) gates i gate d t;
        on_falses = map-set_same (λ (g : LaidGate). g.on_false.0) gates i gate d f;
      }
