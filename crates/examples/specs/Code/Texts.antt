-- The long texts that the program compiles, byte by byte, and what putting bytes into a buffer leaves in it.
--   room                     == the bytes that the buffer holds
--   fitting at xs            == as many of the bytes xs as find room from `at` on
--   Put before after at xs r == these stand in the buffer from `at` on, all else is as it was, and r is where they end
--   repeated n w             == the bytes w, n times
--   NAME-text                == what the builder of that name puts
-- Assumes nothing.
use Rattle.std.specs.Prelude.{ℕ, zero, suc, ◌+◌, ◌-◌, ◌%◌, ◌≡◌, cond, List, [], ◌++◌, eqb, length, take}
use Rattle.std.proofs.lemmas.List.Edits.{sets}
use Rattle.terms.specs.Texts.{bytes}

abbrev pub room : ℕ
room = 16385

abbrev pub fitting : ℕ → List ℕ → List ℕ
fitting at xs = take (room - at) xs

pub record Put (before after : List ℕ) (at : ℕ) (xs : List ℕ) (r : ℕ) : Type 0 where
  pub stored : after ≡ sets before at (fitting at xs)
  pub ends : r ≡ at + length (fitting at xs)

unfoldable pub repeated : ℕ → List ℕ → List ℕ
repeated zero w = []
repeated (suc n) w = repeated n w ++ w

abbrev pub row_text : List ℕ → ℕ → List ℕ → List ℕ
row_text word times last = repeated times word ++ last

abbrev pub nested_text : ℕ → List ℕ
nested_text depth = repeated depth (bytes "(") ++ bytes "1" ++ repeated depth (bytes ")")

abbrev pub left_deep_text : List ℕ
left_deep_text =
    repeated 63 (bytes "(") ++ bytes "1" ++ repeated 63 (bytes "*1*1*1*1*1*1*1*1+1+1+1+1+1+1+1+1)") ++ repeated 15 (bytes "*1")

abbrev pub right_deep_text : List ℕ
right_deep_text = repeated 64 (bytes "1+1*(") ++ bytes "1+1*1" ++ repeated 64 (bytes ")")

abbrev pub exchanged_text : ℕ → ℕ → List ℕ
exchanged_text depth pairs =
    repeated depth (bytes "1*(") ++ bytes "(1+2)" ++ repeated pairs (bytes "*(3+4)*5") ++ bytes "*(3+4)" ++ repeated depth (bytes ")")

abbrev pub deep_chain_text : List ℕ
deep_chain_text = repeated 64 (bytes "1+1*(") ++ repeated 895 (bytes "1+") ++ bytes "1" ++ repeated 64 (bytes ")")

abbrev pub crossed_text : List ℕ
crossed_text = repeated 10 (bytes ")") ++ repeated 70 (bytes "(")

-- between two halves, each halved so many times
abbrev pub sign : ℕ → List ℕ
sign level = cond (eqb (level % 2) 0) (bytes "+") (bytes "*")

-- a number, halved so many times
unfoldable pub halved : ℕ → List ℕ
halved zero = bytes "1"
halved (suc level) = bytes "(" ++ halved level ++ sign level ++ halved level ++ bytes ")"

abbrev pub balanced_text : List ℕ
balanced_text = halved 10
