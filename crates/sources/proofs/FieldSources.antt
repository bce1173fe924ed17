-- The number of the source of each half that a field writes, by how far the half stands from the field's end, and that a field leaves all others as
-- they are. By the places of the halves of packed and unpacked fields.
use mathlib.Core.Path.{◌≡◌, refl, ap, sym, subst, ◌∙◌}
use Prim.Native.Nat.{ℕ, suc, ◌+◌, ◌-◌, ◌*◌, ◌/◌, ◌%◌, ◌≤◌, ◌<◌}
use native.Mathlib.Omega.{arith}
use Rattle.rules.specs.Halves.{Source, from}
use Rattle.rules.specs.Lent.{zone_f}
use Rattle.rules.proofs.Halves.SourceSteps.{copy_source, pack_last_high_source, pack_last_low_source, pack_digit_source, pack_fill_source, unpack_last_high_source, unpack_last_low_source, unpack_zone_source, unpack_digit_source, unpack_fill_source}
use Rattle.terms.specs.Meaning.{field_of}
use Rattle.terms.specs.declared.Field.{Field}
use Rattle.terms.proofs.FieldLaws.{copy_size}
use Rattle.terms.specs.declared.Kind.TheVariants.{Copy, Pack, Unpack}
use Rattle.sources.specs.Promise.{FieldInside, numbered, nowhere, SourceIs, Put}
use Rattle.sources.proofs.Fields.{kind_of_lem}

-- the number of an input half, counted from 1
numbers : (i : ℕ) {x : Source} → 1 ≤ i → x ≡ from (i - 1) → i ≡ numbered x
numbers i l e = let z : i ≡ suc (i - 1) = omega arith in z ∙ sym (ap numbered e)

-- of an unpacked digit's half, and where the half stands
digit_number : (r input half i : ℕ) → 1 ≤ r → half + 1 < 2 * input → i ≡ 2 * (r + input) - 1 - 2 - half → 1 ≤ i
digit_number r input half i low l e = omega arith

digit_place : (r input half i : ℕ) → 1 ≤ r → 1 ≤ half → half + 1 < 2 * input → i ≡ 2 * (r + input) - 1 - 2 - half → i - 1 + (half - 1) + 3 ≡ 2 * (r - 1) + 2 * input
digit_place r input half i low some l e = omega arith

-- half j of what a field writes, with so many halves to its right; i is the number of a half of the input
module _ (n m : ℕ) (f : Field) (ok : FieldInside n m f) (j right i : ℕ) (p : j + right + 1 ≡ 2 * f.output) where
  pub copy_gives : f.kind ≡ Copy → i ≡ 2 * f.r - 1 + j → SourceIs f j i
  unfolding SourceIs field_of
  copy_gives q e many room =
      numbers i (omega (arith, ok.r_low, ok.input_low)) (copy_source zone_f (field_of f) many room nowhere f.input (kind_of_lem f Copy q) j (i - 1) (omega (arith, ok.r_low)) (omega (arith, copy_size f.kind f.input f.output q ok.one_size)))

  module _ (q : f.kind ≡ Pack) where
    pub pack_low_gives : right ≡ 0 → i ≡ 2 * (f.r + f.input) - 1 - 2 → SourceIs f j i
    unfolding SourceIs field_of
    pack_low_gives a e many room =
        numbers i (omega (arith, ok.r_low, ok.input_low)) (pack_last_low_source zone_f (field_of f) many room nowhere f.input f.output ok.input_low ok.output_low (kind_of_lem f Pack q) j (i - 1) (omega arith)
        (omega (arith, ok.r_low, ok.input_low)))

    pub pack_high_gives : right ≡ 1 → i ≡ 2 * (f.r + f.input) - 1 - 1 → SourceIs f j i
    unfolding SourceIs field_of
    pack_high_gives a e many room =
        numbers i (omega (arith, ok.r_low, ok.input_low)) (pack_last_high_source zone_f (field_of f) many room nowhere f.input f.output ok.input_low ok.output_low (kind_of_lem f Pack q) j (i - 1) (omega arith)
        (omega (arith, ok.r_low, ok.input_low)))

    pub pack_digit_gives : 2 ≤ right → right ≤ f.input → i ≡ 2 * (f.r + f.input) - 1 + 1 - 2 * right → SourceIs f j i
    unfolding SourceIs field_of
    pack_digit_gives a b e many room =
        numbers i (omega (arith, ok.r_low, ok.input_low)) (pack_digit_source zone_f (field_of f) many room nowhere f.input f.output ok.input_low ok.output_low (kind_of_lem f Pack q) j (i - 1) (right - 2) (omega arith)
        (omega (arith, ok.r_low)) (omega arith))

    pub pack_fill_gives : 2 ≤ right → f.input < right → SourceIs f j 0
    unfolding SourceIs field_of
    pack_fill_gives a b many room =
        sym (ap numbered (pack_fill_source zone_f (field_of f) many room nowhere f.input f.output ok.input_low ok.output_low (kind_of_lem f Pack q) j (right - 2) (omega arith)
        (omega arith)))

  module _ (q : f.kind ≡ Unpack) where
    pub unpack_low_gives : right ≡ 0 → i ≡ 2 * (f.r + f.input) - 1 - 2 → SourceIs f j i
    unfolding SourceIs field_of
    unpack_low_gives a e many room =
        numbers i (omega (arith, ok.r_low, ok.input_low)) (unpack_last_low_source zone_f (field_of f) many room nowhere f.input f.output ok.input_low ok.output_low (kind_of_lem f Unpack q) j (i - 1) (omega arith)
        (omega (arith, ok.r_low, ok.input_low)))

    pub unpack_high_gives : right ≡ 1 → i ≡ 2 * (f.r + f.input) - 1 - 1 → SourceIs f j i
    unfolding SourceIs field_of
    unpack_high_gives a e many room =
        numbers i (omega (arith, ok.r_low, ok.input_low)) (unpack_last_high_source zone_f (field_of f) many room nowhere f.input f.output ok.input_low ok.output_low (kind_of_lem f Unpack q) j (i - 1) (omega arith)
        (omega (arith, ok.r_low, ok.input_low)))

    pub unpack_zone_gives : 2 ≤ right → right % 2 ≡ 1 → SourceIs f j 0
    unfolding SourceIs field_of
    unpack_zone_gives a b many room =
        sym (ap numbered (unpack_zone_source zone_f (field_of f) many room nowhere f.input f.output ok.input_low ok.output_low (kind_of_lem f Unpack q) j (j / 2) (omega arith)
        (omega arith)))

    pub unpack_digit_gives : 2 ≤ right → (right % 2 ≡ 1 → ⊥) → right / 2 + 1 < 2 * f.input → i ≡ 2 * (f.r + f.input) - 1 - 2 - right / 2 → SourceIs f j i
    unfolding SourceIs field_of
    unpack_digit_gives a b c e many room =
        numbers i (digit_number f.r f.input (right / 2) i ok.r_low c e) (unpack_digit_source zone_f (field_of f) many room nowhere f.input f.output ok.input_low ok.output_low (kind_of_lem f Unpack q) j (i - 1) (right / 2 - 1)
        (omega arith) (digit_place f.r f.input (right / 2) i ok.r_low (omega arith) c e) (omega arith))

    pub unpack_fill_gives : 2 ≤ right → (right % 2 ≡ 1 → ⊥) → 2 * f.input ≤ right / 2 + 1 → SourceIs f j 0
    unfolding SourceIs field_of
    unpack_fill_gives a b c many room =
        sym (ap numbered (unpack_fill_source zone_f (field_of f) many room nowhere f.input f.output ok.input_low ok.output_low (kind_of_lem f Unpack q) j (right / 2 - 1)
        (omega arith) (omega arith)))

-- half h of the output, where a field does not write it, and where it does
module _ (n m : ℕ) (f : Field) (ok : FieldInside n m f) (h : ℕ) where
  pub put_below : (a : ℕ) → h < 2 * f.t - 2 → Put f h a a
  unfolding field_of
  put_below a b = record { before = λ l. refl; inside = λ j e l. absurd (omega (arith, ok.t_low)); after = λ l. refl }

  pub put_above : (a : ℕ) → 2 * f.t - 2 + 2 * f.output ≤ h → Put f h a a
  unfolding field_of
  put_above a b = record { before = λ l. refl; inside = λ j e l. absurd (omega (arith, ok.t_low)); after = λ l. refl }

  pub put_inside : (j a b : ℕ) → h ≡ 2 * f.t - 2 + j → j < 2 * f.output → SourceIs f j b → Put f h a b
  unfolding field_of
  put_inside j a b e l gives = record {
    before = λ p. absurd (omega (arith, ok.t_low));
    inside = λ i p q. subst (λ (x : ℕ). SourceIs f x b) (let z : j ≡ i = omega (arith, ok.t_low) in z) gives;
    after = λ p. absurd (omega (arith, ok.t_low));
  }
