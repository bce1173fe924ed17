-- The sources of the output halves field by field: where a field writes, each half has the source that the field gives it; elsewhere it keeps
-- the source that it had. By the places of the halves, since the sources of the input are its places.
use mathlib.Core.Path.{◌≡◌, refl, ap, ◌∙◌}
use mathlib.Core.List.{List}
use Prim.Native.Nat.{ℕ, zero, suc, ◌+◌, ◌-◌, ◌*◌, ◌≤◌, ◌<◌}
use native.Mathlib.Nat.{not-suc-le-zero}
use native.Mathlib.Omega.{arith}
use lib.ListN.{length, take, drop, get_or, length-take, length-drop}
use lib.Seq.{get_or-take, get_or-drop}
use Rattle.rules.specs.Places.{All}
use Rattle.rules.specs.Halves.{Kind, copy, pack, unpack, input_size, output_size, Field, reads_from, reads_many, writes_from, made, blanks, converted, field_halves, out_halves, Source, from, constant, froms, sources}
use Rattle.rules.specs.RecordParts.{Fits}
use Rattle.rules.proofs.Base.AllLaws.{all_at}
use Rattle.rules.proofs.Halves.SizeLaws.{length_out_halves}
use Rattle.rules.proofs.Halves.PlaceLaws.{packed_last_high, packed_last_low, packed_digit, packed_fill, unpacked_last_high, unpacked_last_low, unpacked_zone, unpacked_digit, unpacked_fill}
use Rattle.rules.proofs.Halves.FieldSteps.{out_inside, out_before, out_after}

-- ---- the input

pub length_froms : (i n : ℕ) → length (froms i n) ≡ n
length_froms i zero = refl
length_froms i (suc n) = omega (arith, length_froms (suc i) n)

pub froms_at : (i n j : ℕ) (e : Source) → j < n → get_or (froms i n) j e ≡ from (i + j)
froms_at i zero j e h = absurd (not-suc-le-zero h)
froms_at i (suc n) zero e h = ap from (let z : i ≡ i + 0 = omega arith in z)
froms_at i (suc n) (suc j) e h = froms_at (suc i) n j e (omega arith) ∙ ap from (let z : suc i + j ≡ i + suc j = omega arith in z)

-- ---- the source of half g of what a field writes, for an input of so many halves

module _ (zone : ℕ) (f : Field) (many : ℕ) (room : reads_from f + reads_many f ≤ many) (e : Source) where
  taken : List Source
  taken = take (reads_many f) (drop (reads_from f) (froms 0 many))

  length_taken : length taken ≡ reads_many f
  unfolding taken
  length_taken = length-take (reads_many f) (drop (reads_from f) (froms 0 many)) ∙ omega (arith, length-drop (reads_from f) (froms 0 many), length_froms 0 many)

  taken_at : (i j : ℕ) → i ≡ reads_from f + j → j < reads_many f → get_or taken j e ≡ from i
  unfolding taken
  taken_at i j p h =
      get_or-take (reads_many f) (drop (reads_from f) (froms 0 many)) j e h
      ∙ get_or-drop (reads_from f) (froms 0 many) j e
      ∙ froms_at 0 many (reads_from f + j) e (omega arith)
      ∙ ap from (let z : 0 + (reads_from f + j) ≡ i = omega arith in z)

  by_kind : (c : Kind) → f.kind ≡ c → (g : ℕ) → get_or (field_halves zone constant f (froms 0 many)) g e ≡ get_or (converted zone constant c taken) g e
  unfolding field_halves taken
  by_kind c q g = ap (λ (c' : Kind). get_or (converted zone constant c' taken) g e) q

  size_of : (c : Kind) → f.kind ≡ c → reads_many f ≡ 2 * input_size c
  size_of c q = ap (λ (c' : Kind). 2 * input_size c') q

  -- a copy takes the halves as they come
  pub copy_source : (s : ℕ) → f.kind ≡ copy s → (g i : ℕ) → i ≡ reads_from f + g → g < 2 * s → get_or (field_halves zone constant f (froms 0 many)) g e ≡ from i
  copy_source s q g i p h = by_kind (copy s) q g ∙ taken_at i g p (omega (arith, size_of (copy s) q))

  module _ (n m : ℕ) (hn : 1 ≤ n) (hm : 1 ≤ m) where
    module _ (q : f.kind ≡ pack n m) where
      packs : length taken ≡ 2 * n
      packs = length_taken ∙ size_of (pack n m) q

      pub pack_last_high_source : (g i : ℕ) → g + 2 ≡ 2 * m → i + 1 ≡ reads_from f + 2 * n → get_or (field_halves zone constant f (froms 0 many)) g e ≡ from i
      pack_last_high_source g i p r =
          by_kind (pack n m) q g
          ∙ packed_last_high constant taken e n m packs hn hm g (2 * n - 1) p (omega arith)
          ∙ taken_at i (2 * n - 1) (omega arith) (omega (arith, size_of (pack n m) q))

      pub pack_last_low_source : (g i : ℕ) → g + 1 ≡ 2 * m → i + 2 ≡ reads_from f + 2 * n → get_or (field_halves zone constant f (froms 0 many)) g e ≡ from i
      pack_last_low_source g i p r =
          by_kind (pack n m) q g
          ∙ packed_last_low constant taken e n m packs hn hm g (2 * n - 2) p (omega arith)
          ∙ taken_at i (2 * n - 2) (omega arith) (omega (arith, size_of (pack n m) q))

      pub pack_digit_source : (g i d : ℕ) → g + d + 3 ≡ 2 * m → i + 2 * d + 3 ≡ reads_from f + 2 * n → d + 1 < n
          → get_or (field_halves zone constant f (froms 0 many)) g e ≡ from i
      pack_digit_source g i d p r h =
          by_kind (pack n m) q g
          ∙ packed_digit constant taken e n m packs hn hm g (2 * n - 3 - 2 * d) d p (omega arith)
          ∙ taken_at i (2 * n - 3 - 2 * d) (omega arith) (omega (arith, size_of (pack n m) q))

      pub pack_fill_source : (g d : ℕ) → g + d + 3 ≡ 2 * m → n ≤ d + 1 → get_or (field_halves zone constant f (froms 0 many)) g e ≡ constant (made 0)
      pack_fill_source g d p h = by_kind (pack n m) q g ∙ packed_fill constant taken e n m packs hn hm g d p h

    module _ (q : f.kind ≡ unpack n m) where
      unpacks : length taken ≡ 2 * n
      unpacks = length_taken ∙ size_of (unpack n m) q

      two : 2 ≤ 2 * n
      two = omega arith

      pub unpack_last_high_source : (g i : ℕ) → g + 2 ≡ 2 * m → i + 1 ≡ reads_from f + 2 * n → get_or (field_halves zone constant f (froms 0 many)) g e ≡ from i
      unpack_last_high_source g i p r =
          by_kind (unpack n m) q g
          ∙ unpacked_last_high zone constant taken e (2 * n) m unpacks two hm g (2 * n - 1) p (omega arith)
          ∙ taken_at i (2 * n - 1) (omega arith) (omega (arith, size_of (unpack n m) q))

      pub unpack_last_low_source : (g i : ℕ) → g + 1 ≡ 2 * m → i + 2 ≡ reads_from f + 2 * n → get_or (field_halves zone constant f (froms 0 many)) g e ≡ from i
      unpack_last_low_source g i p r =
          by_kind (unpack n m) q g
          ∙ unpacked_last_low zone constant taken e (2 * n) m unpacks two hm g (2 * n - 2) p (omega arith)
          ∙ taken_at i (2 * n - 2) (omega arith) (omega (arith, size_of (unpack n m) q))

      pub unpack_zone_source : (g i : ℕ) → g ≡ 2 * i → i + 1 < m → get_or (field_halves zone constant f (froms 0 many)) g e ≡ constant (made zone)
      unpack_zone_source g i p h = by_kind (unpack n m) q g ∙ unpacked_zone zone constant taken e (2 * n) m unpacks two hm g i p h

      pub unpack_digit_source : (g i d : ℕ) → g + 2 * d + 3 ≡ 2 * m → i + d + 3 ≡ reads_from f + 2 * n → d + 2 < 2 * n
          → get_or (field_halves zone constant f (froms 0 many)) g e ≡ from i
      unpack_digit_source g i d p r h =
          by_kind (unpack n m) q g
          ∙ unpacked_digit zone constant taken e (2 * n) m unpacks two hm g (2 * n - 3 - d) d p (omega arith)
          ∙ taken_at i (2 * n - 3 - d) (omega arith) (omega (arith, size_of (unpack n m) q))

      pub unpack_fill_source : (g d : ℕ) → g + 2 * d + 3 ≡ 2 * m → 2 * n ≤ d + 2 → get_or (field_halves zone constant f (froms 0 many)) g e ≡ constant (made 0)
      unpack_fill_source g d p h = by_kind (unpack n m) q g ∙ unpacked_fill zone constant taken e (2 * n) m unpacks two hm g d p h

-- ---- the sources of the output record

-- before the first field all is blank
pub no_sources : (zone n many : ℕ) (fs : List Field) → sources zone n (take 0 fs) many ≡ blanks constant n
unfolding sources out_halves
no_sources zone n many fs = refl

pub length_sources : (zone a b : ℕ) (fs : List Field) → All (Fits a b) fs → length (sources zone b fs (2 * a)) ≡ 2 * b
unfolding sources
length_sources zone a b fs h = length_out_halves zone constant a b fs (froms 0 (2 * a)) h (length_froms 0 (2 * a))

-- after one more field: inside the field as the field has it, outside as before
module _ (zone a b : ℕ) (d : Field) (fs : List Field) (h : All (Fits a b) fs) (i : ℕ) (l : i < length fs) (e : Source) where
  pub source_inside : (g j : ℕ) → g ≡ writes_from (get_or fs i d) + j → j < 2 * output_size (get_or fs i d).kind
      → get_or (sources zone b (take (suc i) fs) (2 * a)) g e ≡ get_or (field_halves zone constant (get_or fs i d) (froms 0 (2 * a))) j e
  unfolding sources
  source_inside = out_inside zone constant a b (froms 0 (2 * a)) (length_froms 0 (2 * a)) d fs h i l e

  pub source_before : (g : ℕ) → g < writes_from (get_or fs i d) → get_or (sources zone b (take (suc i) fs) (2 * a)) g e ≡ get_or (sources zone b (take i fs) (2 * a)) g e
  unfolding sources
  source_before = out_before zone constant a b (froms 0 (2 * a)) (length_froms 0 (2 * a)) d fs h i l e

  pub source_after : (g : ℕ) → writes_from (get_or fs i d) + 2 * output_size (get_or fs i d).kind ≤ g
      → get_or (sources zone b (take (suc i) fs) (2 * a)) g e ≡ get_or (sources zone b (take i fs) (2 * a)) g e
  unfolding sources
  source_after = out_after zone constant a b (froms 0 (2 * a)) (length_froms 0 (2 * a)) d fs h i l e

  -- the field reads inside the input
  pub reads_room : reads_from (get_or fs i d) + reads_many (get_or fs i d) ≤ 2 * a
  reads_room = let here : Fits a b (get_or fs i d) = all_at d fs h i l in omega (arith, here.input_high, here.r_low, here.input_low)
