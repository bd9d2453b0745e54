-- The counters and the limits that every room shares.
--   Primitive, Place, Label == three counters that run side by side and are kept apart
--   first_label             == the label that gate 0 is entered on, and that True carries
--   in_range                == the labels that a label count allows
-- Assumes nothing.
use Rattle.std.specs.Prelude.{ℕ, ◌+◌, Bool, ◌&&◌, leb, ltb}

-- "Three counters run side by side here and are kept apart throughout: a gate's place, a label, and a primitive's number."
-- A place is a gate's number or one of the two ends, which lie beyond the last gate. (scope 4.1)
abbrev pub Primitive : Type 0
Primitive = ℕ

abbrev pub Place : Type 0
Place = ℕ

abbrev pub Label : Type 0
Label = ℕ

-- "numbered from 0": the store hands out no lower label, gate 0 is entered on it, a run starts on it, and True carries it
-- (scope 4.2)
abbrev pub first_label : Label
first_label = 0

-- "labels below the label count": so many labels from the first one on (scope 5.3)
abbrev pub in_range : ℕ → Label → Bool
in_range count l = leb first_label l && ltb l (first_label + count)

-- "text longer than 16,384 bytes" (scope 7.1)
abbrev pub longest_text : ℕ
longest_text = 16384

-- "a run of digits longer than 4, or a value over 1,023" (scope 7.1)
abbrev pub most_digits : ℕ
most_digits = 4

abbrev pub greatest_primitive : Primitive
greatest_primitive = 1023

-- "the running count of `(` less `)` .. passes 64" (scope 7.1)
abbrev pub deepest : ℕ
deepest = 64

-- "over 1,024 literals" (scope 7.1)
abbrev pub most_literals : ℕ
most_literals = 1024

-- "the table would need over 15 labels", and "the label count 2 to 15" (scope 5.3, 7.1)
abbrev pub most_labels : ℕ
most_labels = 15

abbrev pub least_labels : ℕ
least_labels = 2
