-- Writing a table piece by piece stores its bytes in one run from the front: each piece starts where the one before it ends, and
-- what is left to write is at every gate the records of the gates that are left. Assumes nothing.
use Prim.Native.Nat.{ℕ, zero, suc, ◌+◌, ◌-◌, ◌*◌, ◌≤◌, ◌<◌}
use mathlib.Core.Path.{◌≡◌, refl, sym, ap, ◌∙◌}
use mathlib.Core.List.{List, ◌++◌}
use native.Mathlib.Omega.{arith}
use native.Mathlib.Numerals.{add-one}
use lib.ListN.{length, get_or, drop, length-append}
use lib.Seq.{sets}
use Rattle.std.proofs.lemmas.List.{get_or-map}
use Rattle.terms.specs.Laid.{primitives_of, senses_of, owns_of, on_trues_of, on_falses_of}
use Rattle.terms.specs.declared.LaidGate.{LaidGate}
use Rattle.terms.proofs.Stores.{sets_append, sets_front}
use Rattle.table.specs.Layout.{header_length, gate_length, end_length, record_start, table_length, header_for, header_bytes, gate_bytes, end_bytes}
use Rattle.table.specs.Code.Written.{plain, record_at, gate_records, table_bytes}

-- the record of gate k, taken from the gate itself
gate_said : (gates : List LaidGate) (k : ℕ) (d : LaidGate) → k < length gates
    → record_at (primitives_of gates) (senses_of gates) (owns_of gates) (on_trues_of gates) (on_falses_of gates) k
    ≡ gate_bytes (plain (get_or gates k d).sense) (get_or gates k d).primitive.0 (get_or gates k d).own.0 (get_or gates k d).on_true.0
    (get_or gates k d).on_false.0
gate_said gates k d h =
    rw (
      get_or-map (λ (g : LaidGate). g.primitive.0) gates k d 0 h,
      get_or-map (λ (g : LaidGate). g.sense) gates k d 0 h,
      get_or-map (λ (g : LaidGate). g.own.0) gates k d 0 h,
      get_or-map (λ (g : LaidGate). g.on_true.0) gates k d 0 h,
      get_or-map (λ (g : LaidGate). g.on_false.0) gates k d 0 h,
    )
    refl

pub gate_stored : (gates : List LaidGate) (k : ℕ) (d : LaidGate) → k < length gates → (out out₁ : List ℕ) (at : ℕ)
    → out₁
    ≡ sets out at
    (gate_bytes (plain (get_or gates k d).sense) (get_or gates k d).primitive.0 (get_or gates k d).own.0 (get_or gates k d).on_true.0
    (get_or gates k d).on_false.0)
    → out₁ ≡ sets out at (record_at (primitives_of gates) (senses_of gates) (owns_of gates) (on_trues_of gates) (on_falses_of gates) k)
gate_stored gates k d h out out₁ at e = e ∙ ap (λ (bytes : List ℕ). sets out at bytes) (sym (gate_said gates k d h))

module _ (out₀ : List ℕ) (n count : ℕ) (ps ss os ts fs : List ℕ) (t f : ℕ) where
  -- where the record of gate k starts
  abbrev start : ℕ → ℕ
  start k = record_start (header_for n count) k

  -- the records from gate k on, and the end
  abbrev pub left_to_write : ℕ → List ℕ
  left_to_write k = gate_records ps ss os ts fs k (n - k) ++ end_bytes t f

  -- so far k records are written; out₀ is what the buffer was behind its header
  pub record Writing (k : ℕ) (out : List ℕ) : Type 0 where
    pub within : k ≤ n
    pub long : length out ≡ length out₀
    pub rest : sets out (start k) (left_to_write k) ≡ sets out₀ (header_length (header_for n count)) (left_to_write 0)

  left_split : (k : ℕ) → k < n
      → left_to_write k ≡ record_at ps ss os ts fs k ++ left_to_write (k + 1)
  unfolding gate_records
  left_split k h =
      let e : n - k ≡ suc (n - (k + 1)) = omega arith in
      rw (e, add-one k)

  module _ (k : ℕ) (out : List ℕ) (w : Writing k out) where
    pub gate_fits : (at : ℕ) → at ≡ start k → table_length n ≤ length out₀ → k < n → at + gate_length (header_for n count) ≤ length out
    gate_fits at e r h = omega (arith, w.long)

    pub writing_more : (out₁ : List ℕ) (at : ℕ) → at ≡ start k → k < n → length out₁ ≡ length out
        → out₁ ≡ sets out at (record_at ps ss os ts fs k) → Writing (k + 1) out₁
    writing_more out₁ at ea h long e =
        let next : start (k + 1) ≡ start k + gate_length (header_for n count) = omega arith in
        record {
          within = omega arith;
          long = long ∙ w.long;
          rest = rw (next, e, ea)
              (sym (sets_append out (start k) (record_at ps ss os ts fs k) (left_to_write (k + 1)))
              ∙ rw (← left_split k h) w.rest);
        }

    pub end_fits : (at : ℕ) → at ≡ start n → table_length n ≤ length out₀ → at + end_length ≤ length out
    end_fits at e r = omega (arith, w.long)

    records-length : (j m : ℕ) → length (gate_records ps ss os ts fs j m) ≡ gate_length (header_for n count) * m
    unfolding gate_records
    records-length j zero = refl
    records-length j (suc m) = omega (arith, records-length (suc j) m)

    at_end : k ≡ n → sets out (start k) (left_to_write k) ≡ sets out₀ (header_length (header_for n count)) (left_to_write 0)
        → sets out (start n) (end_bytes t f) ≡ sets out₀ (header_length (header_for n count)) (left_to_write 0)
    unfolding gate_records
    at_end same h =
        let none : n - n ≡ 0 = omega arith in
        let a : sets out (start n) (left_to_write n) ≡ sets out₀ (header_length (header_for n count)) (left_to_write 0) = rw same at h in
        rw none at a

    -- behind a header and all records, the end
    pub written : (first out₁ : List ℕ) (at : ℕ) → at ≡ start n → n ≤ k → table_length n ≤ length first → out₀ ≡ sets first 0 (header_bytes n count)
        → out₁ ≡ sets out at (end_bytes t f)
        → out₁ ≡ table_bytes n count ps ss os ts fs t f ++ drop (table_length n) first
    unfolding gate_records table_bytes
    written first out₁ at ea h r e e₁ =
        let same : k ≡ n = omega (arith, w.within) in
        let all : n - 0 ≡ n = omega arith in
        let from_first : sets out₀ (header_length (header_for n count)) (left_to_write 0)
        ≡ sets (sets first 0 (header_bytes n count)) (header_length (header_for n count)) (gate_records ps ss os ts fs 0 n ++ end_bytes t f)
        = rw (e, all) in
        let bytes : List ℕ = header_bytes n count ++ (gate_records ps ss os ts fs 0 n ++ end_bytes t f) in
        let long : length bytes ≡ table_length n
        = omega (arith, records-length 0 n, length-append (gate_records ps ss os ts fs 0 n) (end_bytes t f)) in
        e₁
        ∙ ap (λ (i : ℕ). sets out i (end_bytes t f)) ea
        ∙ at_end same w.rest
        ∙ from_first
        ∙ sym (sets_append first 0 (header_bytes n count) (gate_records ps ss os ts fs 0 n ++ end_bytes t f))
        ∙ sets_front first bytes (omega arith)
        ∙ ap (λ (m : ℕ). bytes ++ drop m first) long
