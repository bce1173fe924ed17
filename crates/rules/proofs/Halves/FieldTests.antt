-- Whether a record's halves are permitted, as a test of field after field, and of each field byte after byte: each test is one of document 01's
-- words. It holds since a half that no field reads may be any, and since each byte's two halves are asked for by place.
use mathlib.Core.Path.{◌≡◌, refl, ap, ap₂, ◌∙◌, sym}
use mathlib.Core.Bool.{Bool, true, false, cond, ◌&&◌, and_assoc}
use mathlib.Core.List.{List}
use Prim.Native.Nat.{ℕ, suc, ◌+◌, ◌*◌, ◌/◌, ◌%◌, ◌≤◌, ◌<◌}
use native.Mathlib.Omega.{arith}
use lib.Dec.{eqb}
use lib.ListN.{length, take, drop, get_or, drop_of_length-le}
use lib.Seq.{drop-cons}
use borrow.Author.Tests.{eqb-true, eqb-false}
use Rattle.rules.specs.Base.{every}
use Rattle.rules.specs.Places.{All, Byte}
use Rattle.rules.specs.Halves.{halves, Kind, copy, pack, unpack, input_size, Field}
use Rattle.rules.specs.Permitted.{digit, sign, kind_allows, permitted}
use Rattle.rules.specs.Output.{may_be}
use Rattle.rules.specs.RecordParts.{Fits, field_input}
use Rattle.rules.proofs.Base.Tests.{every_all, all_every}
use Rattle.rules.proofs.Base.AllLaws.{all_at, all_both}
use Rattle.rules.proofs.Halves.SizeLaws.{length_halves, halves_small}
use Rattle.rules.proofs.Halves.FieldSteps.{length_field_input}
use Rattle.rules.proofs.Halves.PermittedLaws.{same_test, PermittedInput, any_of, pack_low_allows, pack_last_allows, pack_high_allows, unpack_last_allows, unpack_digit_allows, may_be_at, at_may_be}
use Rattle.rules.proofs.Halves.FieldChecks.{inputs_permitted}

-- ---- one byte of a field's input

module _ (zone n m i b : ℕ) (l : i < n) where
  pack_high : kind_allows zone (pack n m) (2 * i) (b / 16) ≡ cond (eqb (i + 1) n) (sign (b / 16)) (eqb (b / 16) zone)
  pack_high = go (eqb (i + 1) n) refl
    where
      go : (t : Bool) → eqb (i + 1) n ≡ t → kind_allows zone (pack n m) (2 * i) (b / 16) ≡ cond t (sign (b / 16)) (eqb (b / 16) zone)
      go true t = pack_last_allows zone n m (b / 16) (2 * i) (omega (arith, eqb-true (i + 1) n t))
      go false t = pack_high_allows zone n m (b / 16) (2 * i) i refl (omega (arith, eqb-false (i + 1) n t))

  unpack_low : kind_allows zone (unpack n m) (2 * i + 1) (b % 16) ≡ cond (eqb (i + 1) n) (sign (b % 16)) (digit (b % 16))
  unpack_low = go (eqb (i + 1) n) refl
    where
      go : (t : Bool) → eqb (i + 1) n ≡ t → kind_allows zone (unpack n m) (2 * i + 1) (b % 16) ≡ cond t (sign (b % 16)) (digit (b % 16))
      go true t = unpack_last_allows zone n m (b % 16) (2 * i + 1) (omega (arith, eqb-true (i + 1) n t))
      go false t = unpack_digit_allows zone n m (b % 16) (2 * i + 1) (omega (arith, eqb-false (i + 1) n t))

  -- F before a digit, in the last byte a sign before it
  pub pack_byte_test : (kind_allows zone (pack n m) (2 * i) (b / 16) && kind_allows zone (pack n m) (2 * i + 1) (b % 16))
      ≡ (cond (eqb (i + 1) n) (sign (b / 16)) (eqb (b / 16) zone) && digit (b % 16))
  pack_byte_test = ap₂ (λ (x y : Bool). x && y) pack_high (pack_low_allows zone n m (b % 16) (2 * i + 1) i refl)

  -- two digits, in the last byte a digit before a sign
  pub unpack_byte_test : (kind_allows zone (unpack n m) (2 * i) (b / 16) && kind_allows zone (unpack n m) (2 * i + 1) (b % 16))
      ≡ (digit (b / 16) && cond (eqb (i + 1) n) (sign (b % 16)) (digit (b % 16)))
  unpack_byte_test = ap₂ (λ (x y : Bool). x && y) (unpack_digit_allows zone n m (b / 16) (2 * i) (omega arith)) unpack_low

-- ---- byte after byte

module _ (q : ℕ → ℕ → Bool) (s : List ℕ) (i : ℕ) where
  pub bytes_step : i < length s
      → may_be q (2 * i) (halves (drop i s)) ≡ ((q (2 * i) (get_or s i 0 / 16) && q (2 * i + 1) (get_or s i 0 % 16)) && may_be q (2 * (i + 1)) (halves (drop (i + 1) s)))
  bytes_step l =
      ap (λ (r : List ℕ). may_be q (2 * i) (halves r)) (drop-cons s i 0 l)
      ∙ sym (and_assoc (q (2 * i) (get_or s i 0 / 16)) (q (suc (2 * i)) (get_or s i 0 % 16)) (may_be q (suc (suc (2 * i))) (halves (drop (suc i) s))))
      ∙ (let one : suc (2 * i) ≡ 2 * i + 1 = omega arith in
      let two : suc (suc (2 * i)) ≡ 2 * (i + 1) = omega arith in
      let next : suc i ≡ i + 1 = omega arith in
      rw (two, one, next) refl)

  pub bytes_end : length s ≤ i → may_be q (2 * i) (halves (drop i s)) ≡ true
  bytes_end l = ap (λ (r : List ℕ). may_be q (2 * i) (halves r)) (drop_of_length-le s l)

-- a copy may have any input
pub copy_permitted : (zone n : ℕ) (x : List ℕ) → All Byte x → may_be (kind_allows zone (copy n)) 0 (halves x) ≡ true
copy_permitted zone n x small =
    at_may_be (kind_allows zone (copy n)) 0 (halves x) (λ j h p l. any_of (get_or (halves x) j 0) (all_at 0 (halves x) (halves_small small) j l))

-- ---- field after field

module _ (zone : ℕ) (c : Kind) (x : List ℕ) (many : length x ≡ input_size c) where
  input_tested : PermittedInput zone c x → may_be (kind_allows zone c) 0 (halves x) ≡ true
  input_tested p =
      at_may_be (kind_allows zone c) 0 (halves x) (λ j h e l.
      let z : h ≡ j = omega arith in
      rw z (p.each j (omega (arith, length_halves x))))

  tested_input : may_be (kind_allows zone c) 0 (halves x) ≡ true → PermittedInput zone c x
  tested_input t = record { size = many; each = λ j l. may_be_at (kind_allows zone c) 0 (halves x) t j j (omega arith) (omega (arith, length_halves x)) }

-- a record's halves are permitted exactly if each field may have its input
pub fields_tested : (zone a b : ℕ) (r : List ℕ) → a ≤ length r → All Byte r → (fs : List Field) → All (Fits a b) fs
    → may_be (permitted zone fs) 0 (halves (take a r)) ≡ every (λ f. may_be (kind_allows zone f.kind) 0 (halves (field_input f r))) fs
fields_tested zone a b r long small fs fits =
    let both = inputs_permitted zone a b r long small fits in
    same_test _ _
    (λ t. all_every _ (all_both (λ f h p. input_tested zone f.kind (field_input f r) (length_field_input zone a b r long f h) p) fits (both.0 t)))
    (λ t. both.1 (all_both (λ f h q. tested_input zone f.kind (field_input f r) (length_field_input zone a b r long f h) q) fits (every_all _ fs t)))
