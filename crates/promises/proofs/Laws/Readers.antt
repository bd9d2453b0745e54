-- The readers of header, gate and ends refuse by the first of their rows, and else give what the table says there: each is a chain of
-- tests that decide their rows. Assumes nothing.
use Prim.Native.Nat.{ℕ}
use mathlib.Core.Path.{◌≡◌, sym, ap, ◌∙◌, subst}
use mathlib.Core.Logic.{◌↔◌}
use mathlib.Core.List.{List}
use Rattle.terms.specs.Answer.{result, refused}
use Rattle.terms.specs.Rows.{FirstOf, NoneOf}
use Rattle.terms.proofs.Rows.{decides_unique, Says, on_result_says, OnePlace, one_place_behind, refused_by_first, result_by_none}
use Rattle.table.specs.Layout.{Header, header_of, EndFields, end_of}
use Rattle.table.proofs.Tested.{frame_told}
use Rattle.run.specs.Twins.Answers.{header_read, end_read}
use Rattle.run.specs.Rows.{end_rows}
use Rattle.run.proofs.Rows.{header_read_says, end_read_says, end_rows_one}
use Rattle.blist.specs.Plain.{ends_read}
use Rattle.promises.specs.Words.{header_rows, ends_rows}

module _ (table : List ℕ) where
  header_rows_one : OnePlace (header_rows table)
  unfolding OnePlace
  header_rows_one = (decides_unique (frame_told table), tt)

  pub header_refused : (r at : ℕ) → (header_read table ≡ refused r at) ↔ FirstOf (header_rows table) r at
  header_refused = refused_by_first header_rows_one (header_read_says table)

  pub header_given : (h : Header) → (header_read table ≡ result h) ↔ (NoneOf (header_rows table) × (h ≡ header_of table))
  header_given = result_by_none (λ x y a b. a ∙ sym b) (header_read_says table)

  abbrev last : EndFields
  last = end_of table (header_of table).gates

  ends_says : Says (ends_rows table) (λ x. x ≡ last) (ends_read table)
  ends_says =
      on_result_says (header_rows table) (end_rows table (header_of table).gates) (λ h. end_read table h.gates) (header_read_says table)
      (λ h is.
      subst (λ (n : ℕ). Says (end_rows table (header_of table).gates) (λ x. x ≡ last) (end_read table n)) (sym (ap (λ (x : Header). x.gates) is))
      (end_read_says table (header_of table).gates))

  ends_rows_one : OnePlace (ends_rows table)
  ends_rows_one = one_place_behind (header_rows table) (end_rows table (header_of table).gates) header_rows_one (end_rows_one table (header_of table).gates)

  pub ends_refused : (r at : ℕ) → (ends_read table ≡ refused r at) ↔ FirstOf (ends_rows table) r at
  ends_refused = refused_by_first ends_rows_one ends_says

  pub ends_given : (x : EndFields) → (ends_read table ≡ result x) ↔ (NoneOf (ends_rows table) × (x ≡ last))
  ends_given = result_by_none (λ x y a b. a ∙ sym b) ends_says
