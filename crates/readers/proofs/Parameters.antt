-- How a parameter is read part by part: by its first bytes, and by what its numbers say.
use mathlib.Core.Path.{◌≡◌, refl, ap, sym, ◌∙◌}
use mathlib.Core.Logic.{◌⊎◌, inl, inr}
use mathlib.Core.Bool.{Bool, true, false}
use mathlib.Core.List.{List, [], ◌∷◌}
use Prim.Native.Nat.{ℕ, ◌+◌, ◌≤◌, ◌<◌}
use native.Mathlib.Omega.{arith}
use lib.Dec.{eqb}
use lib.ListN.{length, get_or, take}
use borrow.Author.Tests.{eqb-true, eqb-false}
use Rattle.rules.specs.Reader.{is_digit, number}
use Rattle.rules.specs.Grammar.{Size, two, one, Input, input_is, output_is, first_is, size_reader, input_reader, parameter}
use Rattle.rules.specs.Words.{number_columns}
use Rattle.rules.specs.TextParts.{number_then, size_behind, data_behind, keyed_behind}
use Rattle.rules.proofs.Grammar.ChoiceLaws.{Ending, byte_inside, mark_there, mark_not, parameter_a=, parameter_b=, parameter_first, size_open, size_comma, size_close, input_keyed, input_plain}
use Rattle.std.specs.Prelude.{Result, Ok, Err}
use Rattle.terms.specs.declared.Size.{Size as GivenSize}
use Rattle.terms.specs.declared.Input.{Input as GivenInput}
use Rattle.terms.specs.declared.Input.TheVariants.{Plain, Keyed}
use Rattle.readers.specs.Meaning.{Reads, Stops, ReadsFrom, StopsFrom, numbers_in, first_in, second_in, SizeFrom, InputFrom}
use Rattle.readers.specs.declared.Stop.{Stop}
use Rattle.readers.specs.declared.Placed.{Placed}
use Rattle.readers.proofs.Parts.{marks_not, both_there, second_not}
use Rattle.readers.proofs.NumberPlaces.{none_between, mark_passed, marks_passed, number_ahead, number_passed, then_ahead, then_passed}
use Rattle.readers.proofs.TextPlaces.{alone}

-- ---- a size

-- behind the first number
pub only_read : (s : List ℕ) (from n : ℕ) → get_or s from 256 ≡ 41
    → ReadsFrom (size_behind n) from s (one n) (from + 1) × (from ≤ from + 1) × (0 ≡ first_in (numbers_in true s from (from + 1)))
only_read s from n e =
    let l : from + 1 ≤ length s = omega (arith, byte_inside s from 41 e (omega arith)) in
    ((l, size_close s from n e), omega arith, sym (ap first_in (mark_passed s from true 41 (from + 1) e refl (omega arith) l ∙ none_between s (from + 1) false)))

module _ (s : List ℕ) (from n : ℕ) (comma : get_or s from 256 ≡ 44) where
  pub second_read : (v to : ℕ) → ReadsFrom (number_then 41) (from + 1) s v to
      → ReadsFrom (size_behind n) from s (two n v) to × (from ≤ to) × (from + 1 ≡ first_in (numbers_in true s from to))
  second_read v to r =
      let l : from + 1 ≤ length s = omega (arith, byte_inside s from 44 comma (omega arith)) in
      let h = then_ahead s (from + 1) 41 v to l r in (
        (r.0, size_comma s from n comma ∙ rw r.1 refl),
        omega arith,
        sym (ap first_in (mark_passed s from true 44 to comma refl (omega arith) r.0 ∙ then_passed s (from + 1) 41 v to l r to refl (omega arith) r.0)),
      )

  pub second_stop : (a : ℕ) → StopsFrom (number_then 41) (from + 1) s a → StopsFrom (size_behind n) from s a
  second_stop a r = (r.0, size_comma s from n comma ∙ rw r.1 refl)

-- behind the bracket
module _ (s : List ℕ) (from : ℕ) (bracket : get_or s from 256 ≡ 40) where
  pub size_goes : (v to : ℕ) → ReadsFrom number (from + 1) s v to → (z : Result (Placed GivenSize) Stop) → SizeFrom true first_in (size_behind v) to s z
      → SizeFrom false second_in size_reader from s z
  size_goes v to r (Ok z) h =
      let l : from + 1 ≤ length s = omega (arith, byte_inside s from 40 bracket (omega arith)) in
      let a = number_ahead s (from + 1) v to l r in
      let b = h.1 in (
        (h.0.0, size_open s from bracket ∙ rw r.1 h.0.1),
        omega arith,
        h.2 ∙ sym (ap second_in (mark_passed s from false 40 z.used bracket refl (omega arith) h.0.0 ∙ number_passed s (from + 1) v to l r z.used b h.0.0)),
      )
  size_goes v to r (Err stop) h = (h.0, size_open s from bracket ∙ rw r.1 h.1)

  pub size_stops : (a : ℕ) → StopsFrom number (from + 1) s a → StopsFrom size_reader from s a
  size_stops a r = (r.0, size_open s from bracket ∙ rw r.1 refl)

-- ---- a size, or `(K=l,D=l)`

-- `D=l)`
module _ (key : ℕ) (s : List ℕ) (from : ℕ) where
  pub no_data : from ≤ length s → (get_or s from 256 ≡ 68 → ⊥) → StopsFrom (data_behind key) from s from
  unfolding data_behind
  no_data l h = (l, rw (marks_not 68 (61 ∷ []) s from h))

  module _ (letter : get_or s from 256 ≡ 68) where
    pub data_unsigned : (get_or s (from + 1) 256 ≡ 61 → ⊥) → StopsFrom (data_behind key) from s (from + 1)
    unfolding data_behind
    data_unsigned h = (omega (arith, byte_inside s from 68 letter (omega arith)), rw (second_not 68 61 s from letter (omega arith) h))

    module _ (sign : get_or s (from + 1) 256 ≡ 61) where
      pub data_read : (d to : ℕ) → ReadsFrom (number_then 41) (from + 2) s d to → InputFrom first_in (data_behind key) from s (Ok (record { value = Keyed key d; second = from + 2; used = to }))
      unfolding data_behind
      data_read d to r =
          let l : from + 2 ≤ length s = omega (arith, byte_inside s (from + 1) 61 sign (omega arith)) in
          let h = then_ahead s (from + 2) 41 d to l r in (
            (r.0, rw (both_there 68 61 s from letter (omega arith) (omega arith) sign, r.1)),
            omega arith,
            sym (ap first_in (marks_passed s from 68 61 to letter sign refl refl (omega arith) r.0 ∙ then_passed s (from + 2) 41 d to l r to refl (omega arith) r.0)),
          )

      pub data_stops : (a : ℕ) → StopsFrom (number_then 41) (from + 2) s a → StopsFrom (data_behind key) from s a
      unfolding data_behind
      data_stops a r = (r.0, rw (both_there 68 61 s from letter (omega arith) (omega arith) sign, r.1))

module _ (s : List ℕ) (from : ℕ) where
  -- `=l,D=l)`
  pub keyed_unsigned : from ≤ length s → (get_or s from 256 ≡ 61 → ⊥) → StopsFrom keyed_behind from s from
  unfolding keyed_behind
  keyed_unsigned l h = (l, rw (mark_not 61 s from h))

  module _ (sign : get_or s from 256 ≡ 61) where
    pub keyed_goes : (k to : ℕ) → ReadsFrom (number_then 44) (from + 1) s k to → (i : Result (Placed GivenInput) Stop) → InputFrom first_in (data_behind k) to s i → InputFrom second_in keyed_behind from s i
    unfolding keyed_behind
    keyed_goes k to r (Ok i) h =
        let l : from + 1 ≤ length s = omega (arith, byte_inside s from 61 sign (omega arith)) in
        let a = then_ahead s (from + 1) 44 k to l r in
        let b = h.1 in (
          (h.0.0, rw (mark_there 61 s from (omega arith) sign, r.1) h.0.1),
          omega arith,
          h.2 ∙ sym (ap second_in (mark_passed s from false 61 i.used sign refl (omega arith) h.0.0 ∙ then_passed s (from + 1) 44 k to l r i.used refl b h.0.0)),
        )
    keyed_goes k to r (Err stop) h = (h.0, rw (mark_there 61 s from (omega arith) sign, r.1) h.1)

    pub keyed_stops : (a : ℕ) → StopsFrom (number_then 44) (from + 1) s a → StopsFrom keyed_behind from s a
    unfolding keyed_behind
    keyed_stops a r = (r.0, rw (mark_there 61 s from (omega arith) sign, r.1))

  -- `(K`
  pub input_goes : get_or s from 256 ≡ 40 → get_or s (from + 1) 256 ≡ 75 → (i : Result (Placed GivenInput) Stop) → InputFrom second_in keyed_behind (from + 2) s i → InputFrom second_in input_reader from s i
  input_goes o k (Ok i) h =
      let l = h.1 in
      ((h.0.0, input_keyed s from o k ∙ h.0.1), omega arith, h.2 ∙ sym (ap second_in (marks_passed s from 40 75 i.used o k refl refl l h.0.0)))
  input_goes o k (Err stop) h = (h.0, input_keyed s from o k ∙ h.1)

  -- no `(K`
  module _ (other : get_or s from 256 ≡ 40 → get_or s (from + 1) 256 ≡ 75 → ⊥) where
    pub plain_read : (z : Placed GivenSize) → SizeFrom false second_in size_reader from s (Ok z) → InputFrom second_in input_reader from s (Ok (record { value = Plain z.value; second = z.second; used = z.used }))
    plain_read z r = ((r.0.0, input_plain s from other ∙ rw r.0.1 refl), r.1, r.2)

    pub plain_stops : (a : ℕ) → StopsFrom size_reader from s a → StopsFrom input_reader from s a
    plain_stops a r = (r.0, input_plain s from other ∙ rw r.1 refl)

-- ---- A, B

-- A or B, from a test of both at once
pub a_or_b : (b : ℕ) → 65 ≤ b → b < 67 → (b ≡ 65) ⊎ (b ≡ 66)
a_or_b b l h = go (eqb b 65) refl
  where
    go : (t : Bool) → eqb b 65 ≡ t → (b ≡ 65) ⊎ (b ≡ 66)
    go true e = inl (eqb-true b 65 e)
    go false e = let n = eqb-false b 65 e in inr (omega arith)

module _ (s : List ℕ) where
  pub letter_inside : (get_or s 0 256 ≡ 65) ⊎ (get_or s 0 256 ≡ 66) → 1 ≤ length s
  letter_inside (inl e) = omega (arith, byte_inside s 0 65 e (omega arith))
  letter_inside (inr e) = omega (arith, byte_inside s 0 66 e (omega arith))

  -- the two bytes before the size are no digits
  behind_sign : (m : ℕ) → get_or s 0 256 ≡ m → is_digit m ≡ false → get_or s 1 256 ≡ 61 → (n : ℕ) → n ≤ length s → 2 ≤ n
      → number_columns false 0 (take n s) ≡ numbers_in false s 2 n
  behind_sign m a d e n l h = marks_passed s 0 m 61 n a e d refl h l

  pub input_read : get_or s 0 256 ≡ 65 → get_or s 1 256 ≡ 61 → (i : Input) (second n : ℕ)
      → ReadsFrom input_reader 2 s i n × (2 ≤ n) × (second ≡ second_in (numbers_in false s 2 n))
      → Reads parameter s (input_is i) n × (second ≡ second_in (number_columns false 0 (take n s)))
  input_read a e i second n r =
      ((r.0.0, parameter_a= s a e ∙ rw r.0.1 refl), r.2 ∙ sym (ap second_in (behind_sign 65 a refl e n r.0.0 r.1)))

  pub input_stop : get_or s 0 256 ≡ 65 → get_or s 1 256 ≡ 61 → (a : ℕ) → StopsFrom input_reader 2 s a → Stops parameter s a
  input_stop t e a r = (r.0, parameter_a= s t e ∙ rw r.1 refl)

  pub output_read : get_or s 0 256 ≡ 66 → get_or s 1 256 ≡ 61 → (z : Size) (second n : ℕ)
      → ReadsFrom size_reader 2 s z n × (2 ≤ n) × (second ≡ second_in (numbers_in false s 2 n))
      → Reads parameter s (output_is z) n × (second ≡ second_in (number_columns false 0 (take n s)))
  output_read b e z second n r =
      ((r.0.0, parameter_b= s b e ∙ rw r.0.1 refl), r.2 ∙ sym (ap second_in (behind_sign 66 b refl e n r.0.0 r.1)))

  pub output_stop : get_or s 0 256 ≡ 66 → get_or s 1 256 ≡ 61 → (a : ℕ) → StopsFrom size_reader 2 s a → Stops parameter s a
  output_stop t e a r = (r.0, parameter_b= s t e ∙ rw r.1 refl)

-- ---- I, O, R

-- a byte behind I or O is there
pub ending_inside : (s : List ℕ) → Ending (get_or s 1 256) → 2 ≤ length s
ending_inside s (inl e) = omega (arith, byte_inside s 1 78 e (omega arith))
ending_inside s (inr (inl e)) = omega (arith, byte_inside s 1 82 e (omega arith))
ending_inside s (inr (inr e)) = omega (arith, byte_inside s 1 85 e (omega arith))

module _ (s : List ℕ) (r : get_or s 0 256 ≡ 82) where
  pub first_read : (v n : ℕ) → ReadsFrom number 1 s v n → Reads parameter s (first_is v) n × (0 ≡ second_in (number_columns false 0 (take n s)))
  first_read v n h = alone s n (first_is v) (λ k. refl) (h.0, parameter_first s r ∙ rw h.1 refl)

  pub first_stop : (a : ℕ) → StopsFrom number 1 s a → Stops parameter s a
  first_stop a h = (h.0, parameter_first s r ∙ rw h.1 refl)
