-- The sources after all fields, field by field: one more field covers them as the rules say. And the promise allows one answer alone.
use mathlib.Core.Path.{◌≡◌, refl, ap, sym, subst, ◌∙◌}
use mathlib.Core.List.{List}
use Prim.Native.Nat.{ℕ, zero, suc, ◌+◌, ◌-◌, ◌*◌, ◌/◌, ◌≤◌, ◌<◌}
use native.Mathlib.Decide.{dec_lt}
use native.Mathlib.Numerals.{add-one}
use native.Mathlib.Omega.{arith}
use lib.ListN.{length, take, get_or}
use lib.Seq.{take_all, ext_get_or}
use Rattle.rules.specs.Places.{All, no_more, also}
use Rattle.rules.specs.Halves.{Field as RuleField, output_size, reads_from, reads_many, writes_from, field_halves, blanks, Source, from, constant, froms, sources}
use Rattle.rules.specs.Lent.{zone_f}
use Rattle.rules.specs.RecordParts.{Fits}
use Rattle.rules.proofs.Base.AllLaws.{all_take, all_at, at_all}
use Rattle.rules.proofs.Halves.SizeLaws.{all_out_halves}
use Rattle.rules.proofs.Halves.SourceSteps.{no_sources, length_sources, source_inside, source_before, source_after, reads_room}
use Rattle.terms.specs.Meaning.{field_of, no_field}
use Rattle.terms.specs.declared.Field.{Field}
use Rattle.rows.specs.Flat.{field_at}
use Rattle.rows.specs.Kept.{fields_in}
use Rattle.rows.proofs.RowLaws.{many_in, field_in}
use Rattle.terms.proofs.FieldLaws.{output_of}
use Rattle.sources.specs.Promise.{FieldInside, RowInside, numbered, nowhere, SourceIs, Put, Stand}
use Rattle.sources.proofs.Fields.{fair_fits}

module _ (row : List ℕ) where
  -- after so many fields all are done
  pub fields_all : (k : ℕ) → length row / 5 ≤ k → take k (fields_in row) ≡ fields_in row
  fields_all k h = take_all k (fields_in row) (omega (arith, many_in row))

  pub fits_all : (n m : ℕ) → RowInside row n m → All (Fits n m) (fields_in row)
  fits_all n m fair =
      at_all (field_of no_field) (fields_in row) (λ i h.
      let k : 5 * i + 5 ≤ length row = omega (arith, many_in row) in
      subst (Fits n m) (sym (field_in row (field_of no_field) i k)) (fair_fits n m (field_at row i) (fair.each i k)))

  -- field k, which is f
  module _ (k : ℕ) (l : 5 * k + 5 ≤ length row) (f : Field) (read : f ≡ field_at row k) where
    pub field_here : k < length (fields_in row)
    field_here = omega (arith, many_in row)

    pub field_same : get_or (fields_in row) k (field_of no_field) ≡ field_of f
    field_same = field_in row (field_of no_field) k l ∙ ap field_of (sym read)

    module _ (n m : ℕ) (fair : RowInside row n m) (s r : List ℕ) (put : (g : ℕ) → g < 8192 → Put f g (get_or s g 0) (get_or r g 0))
        (stand : Stand s (sources zone_f m (take k (fields_in row)) (2 * n))) where
      all : All (Fits n m) (fields_in row)
      all = fits_all n m fair

      writes : writes_from (get_or (fields_in row) k (field_of no_field)) ≡ writes_from (field_of f)
      writes = ap writes_from field_same

      wide : output_size (get_or (fields_in row) k (field_of no_field)).kind ≡ f.output
      wide = ap (λ (x : RuleField). output_size x.kind) field_same ∙ output_of f (subst (FieldInside n m) (sym read) (fair.each k l)).one_size

      room : reads_from (field_of f) + reads_many (field_of f) ≤ 2 * n
      room =
          subst (λ (x : RuleField). reads_from x + reads_many x ≤ 2 * n) field_same (reads_room zone_f n m (field_of no_field) (fields_in row) all k field_here nowhere)

      stood : (g : ℕ) → g < 2 * m → get_or s g 0 ≡ numbered (get_or (sources zone_f m (take k (fields_in row)) (2 * n)) g nowhere)
      unfolding Stand
      stood g h = stand g (omega (arith, length_sources zone_f n m (take k (fields_in row)) (all_take k all)))

      -- half g, wherever it is
      next : (g : ℕ) → g < 2 * m → get_or r g 0 ≡ numbered (get_or (sources zone_f m (take (suc k) (fields_in row)) (2 * n)) g nowhere)
      unfolding SourceIs
      next g h =
          let p : Put f g (get_or s g 0) (get_or r g 0) = put g (omega (arith, fair.m_high)) in
          elim (dec_lt g (writes_from (field_of f))) [
            | yes b ↦
                p.before b ∙ stood g h ∙ sym (ap numbered (source_before zone_f n m (field_of no_field) (fields_in row) all k field_here nowhere g (omega (arith, writes))))
            | no a ↦ elim (dec_lt g (writes_from (field_of f) + 2 * f.output)) [
              | yes b ↦
                  p.inside (g - writes_from (field_of f)) (omega arith) (omega arith) (2 * n) room
                  ∙ ap (λ (x : RuleField). numbered (get_or (field_halves zone_f constant x (froms 0 (2 * n))) (g - writes_from (field_of f)) nowhere)) (sym field_same)
                  ∙ sym (ap numbered (source_inside zone_f n m (field_of no_field) (fields_in row) all k field_here nowhere g (g - writes_from (field_of f)) (omega (arith, writes)) (omega (arith, wide))))
              | no c ↦
                  p.after (omega arith) ∙ stood g h
                  ∙ sym (ap numbered (source_after zone_f n m (field_of no_field) (fields_in row) all k field_here nowhere g (omega (arith, writes, wide))))
            ]
          ]

      pub stand_more : Stand r (sources zone_f m (take (k + 1) (fields_in row)) (2 * n))
      unfolding Stand
      stand_more g h =
          let e : sources zone_f m (take (k + 1) (fields_in row)) (2 * n) ≡ sources zone_f m (take (suc k) (fields_in row)) (2 * n)
          = ap (λ (i : ℕ). sources zone_f m (take i (fields_in row)) (2 * n)) (add-one k) in
          next g (omega (arith, ap length e, length_sources zone_f n m (take (suc k) (fields_in row)) (all_take (suc k) all)))
          ∙ ap (λ (ss : List Source). numbered (get_or ss g nowhere)) (sym e)

blank_numbered : (m g : ℕ) → numbered (get_or (blanks constant m) g nowhere) ≡ 0
blank_numbered zero g = refl
blank_numbered (suc m) zero = refl
blank_numbered (suc m) (suc zero) = refl
blank_numbered (suc m) (suc (suc g)) = blank_numbered m g

pub stand_none : (n m : ℕ) (fs : List RuleField) (xs : List ℕ) → ((i : ℕ) → get_or xs i 0 ≡ 0) → Stand xs (sources zone_f m (take 0 fs) (2 * n))
unfolding Stand
stand_none n m fs xs zeros g h =
    zeros g ∙ sym (ap (λ (ss : List Source). numbered (get_or ss g nowhere)) (no_sources zone_f m (2 * n) fs) ∙ blank_numbered m g)

-- ---- how many there are, and how high

-- no number is past the input's
all_froms : (most i many : ℕ) → i + many ≤ most → All (λ x. numbered x ≤ most) (froms i many)
all_froms most i zero l = no_more
all_froms most i (suc many) l = also {x = from i} (omega arith) (all_froms most (suc i) many (omega arith))

numbers_low : (xs : List ℕ) (fs : List RuleField) (n m : ℕ) → Stand xs (sources zone_f m fs (2 * n)) → (g : ℕ) → g < length (sources zone_f m fs (2 * n)) → get_or xs g 0 ≤ 2 * n
unfolding Stand sources
numbers_low xs fs n m stand g l =
    let low : All (λ x. numbered x ≤ 2 * n) (sources zone_f m fs (2 * n))
    = all_out_halves constant (λ c half. omega arith) zone_f (omega arith) m fs (all_froms (2 * n) 0 (2 * n) (omega arith)) in
    omega (arith, stand g l, all_at nowhere (sources zone_f m fs (2 * n)) low g l)

module _ (row : List ℕ) (n m : ℕ) (fair : RowInside row n m) where
  -- the fields of a row leave 2m output halves
  pub sources_many : length (sources zone_f m (fields_in row) (2 * n)) ≡ 2 * m
  sources_many = length_sources zone_f n m (fields_in row) (fits_all row n m fair)

  -- and none of their numbers is past the longest input's
  pub numbers_few : (xs : List ℕ) → Stand xs (sources zone_f m (fields_in row) (2 * n)) → (g : ℕ) → g < 2 * m → get_or xs g 0 ≤ 8192
  numbers_few xs stand g l = omega (arith, fair.n_high, numbers_low xs (fields_in row) n m stand g (omega (arith, sources_many)))

-- ---- one answer

-- of the longest records each of the 8,192 numbers is that of a half of the output, so the promise settles them all
pub only_one : (row : List ℕ) → RowInside row 4096 4096 → (xs ys : List ℕ)
    → (length xs ≡ 8192) × ((n m : ℕ) → RowInside row n m → Stand xs (sources zone_f m (fields_in row) (2 * n)))
    → (length ys ≡ 8192) × ((n m : ℕ) → RowInside row n m → Stand ys (sources zone_f m (fields_in row) (2 * n))) → xs ≡ ys
unfolding Stand
only_one row fair xs ys p q =
    let many = sources_many row 4096 4096 fair in
    ext_get_or 0 xs ys (p.0 ∙ sym q.0)
    (λ g l. p.1 4096 4096 fair g (omega (arith, many, p.0)) ∙ sym (q.1 4096 4096 fair g (omega (arith, many, p.0))))
