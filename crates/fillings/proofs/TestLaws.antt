-- The measure and refusal 14's tests by one step for each record, in every mode but TC: the size of the block that a record goes into is tested. It holds since a
-- record that fits behind others fits by itself, and one that does not opens a block of its own.
use mathlib.Core.Path.{◌≡◌, refl, ap, ap₂, sym, ◌∙◌}
use mathlib.Core.Bool.{Bool, true, false, true≢false}
use mathlib.Core.List.{List, [], ◌∷◌, map}
use Prim.Native.Nat.{ℕ, ◌+◌, ◌≤◌}
use native.Mathlib.Omega.{arith}
use lib.Dec.{leb}
use lib.ListN.{length, length-map}
use Rattle.rules.specs.Base.{joined}
use Rattle.rules.specs.Grammar.{Mode, tc, tf, tr, trf}
use Rattle.rules.specs.Plan.{Plan, is_tc, block_length}
use Rattle.rules.specs.Blocks.{taken_from}
use Rattle.rules.specs.Output.{out_record, cost}
use Rattle.rules.specs.Run.{fitting, outputs, output_blocks}
use Rattle.rules.proofs.Base.Lists.{map_joined}
use Rattle.rules.proofs.Output.FillSteps.{Measure, unmeasured, opening, behind, measure}
use Rattle.rules.proofs.Output.FitSteps.{fits_alone, together_fits, alone_fits}
use Rattle.rules.proofs.Output.MeasureLaws.{alone_step}
use Rattle.rules.proofs.Runs.RunParts.{blocked_records}
use Rattle.walks.specs.Marks.{marked_all, bytes_of, on_marked}
use Rattle.walks.proofs.MarksLaws.{all_records, all_length, all_map}
use Rattle.walks.proofs.SizesLaws.{measure_marked, fits_marked, fits_marked_lem}

-- one record more, whose output has so many bytes: in TF a mark opens a block
abbrev pub step_of : Mode → ℕ → ℕ → Measure → Bool × ℕ → Measure
step_of tc limit c m x = measure limit c c m x.1
step_of tf limit c m x = measure_marked c c m x
step_of tr limit c m x = measure limit c c m x.1
step_of trf limit c m x = measure limit c c m x.1

-- does each fit
module _ (step : Measure → Bool × ℕ → Measure) (limit : ℕ) where
  abbrev pub tests_from : Measure → List (Bool × ℕ) → List Bool
  tests_from m [] = []
  tests_from m (x ∷ xs) = leb (step m x).size limit ∷ tests_from (step m x) xs

-- the lengths of the outputs of marked records
abbrev pub lengths : Plan → List (Bool × List ℕ) → List (Bool × ℕ)
lengths p marks = map (on_marked length) (map (on_marked (out_record p)) marks)

-- ---- the steps of TF

tests_marked : (limit c : ℕ) (m : Measure) (xs : List (Bool × ℕ)) → tests_from (λ k x. measure_marked c c k x) limit m xs ≡ fits_marked limit c c m.size xs
tests_marked limit c m [] = refl
tests_marked limit c m ((true, n) ∷ xs) = ap (leb (c + (c + n)) limit ∷◌) (tests_marked limit c (opening c c m n) xs)
tests_marked limit c m ((false, n) ∷ xs) = ap (leb (m.size + (c + n)) limit ∷◌) (tests_marked limit c (behind c c m n) xs)

-- ---- the steps of TR and TRF

module _ (limit c : ℕ) where
  tests_alone : (m : Measure) (xs : List (Bool × ℕ)) → (1 ≤ m.blocks → c ≤ m.size)
      → tests_from (λ k x. measure limit c c k x.1) limit m xs ≡ map (fits_alone limit c c) (map bytes_of xs)
  tests_alone m [] o = refl
  tests_alone m (x ∷ xs) o =
      let a = alone_step limit c m x.1 o in
      ap₂ ◌∷◌ a.test (tests_alone (measure limit c c m x.1) xs a.least)

-- ---- all records

module _ (p : Plan) (recs : List (List (List ℕ))) where
  abbrev limit : ℕ
  limit = block_length p.output

  abbrev c : ℕ
  c = cost p.format

  abbrev outs : List (List (List ℕ))
  outs = outputs p recs

  -- all that are taken
  abbrev pub taken_marked : List (Bool × List ℕ)
  taken_marked = marked_all (taken_from p.first recs)

  all_lengths : marked_all (map (map length) outs) ≡ lengths p taken_marked
  all_lengths = all_map length outs ∙ ap (map (on_marked length)) (all_map (out_record p) (taken_from p.first recs))

  alone_lengths : map length (joined outs) ≡ map bytes_of (lengths p taken_marked)
  alone_lengths = map_joined length outs ∙ sym (all_records (map (map length) outs)) ∙ ap (map bytes_of) all_lengths

  -- so many records are written as are taken
  pub all_count : length (joined (output_blocks p recs)) ≡ length taken_marked
  all_count =
      ap length (blocked_records p.mode p outs)
      ∙ sym (all_length outs)
      ∙ ap length (all_map (out_record p) (taken_from p.first recs))
      ∙ length-map taken_marked (on_marked (out_record p))

  tests_other : fitting tr p outs ≡ tests_from (λ k x. measure limit c c k x.1) limit unmeasured (lengths p taken_marked)
  tests_other =
      alone_fits p outs
      ∙ ap (map (fits_alone limit c c)) alone_lengths
      ∙ sym (tests_alone limit c unmeasured (lengths p taken_marked) (λ l. absurd (omega arith)))

  tests_in : (m : Mode) → is_tc m ≡ false → fitting m p outs ≡ tests_from (step_of m limit c) limit unmeasured (lengths p taken_marked)
  tests_in tc e = absurd (true≢false e)
  tests_in tf e =
      together_fits p outs
      ∙ fits_marked_lem limit c c (map (map length) outs) 0
      ∙ ap (fits_marked limit c c 0) all_lengths
      ∙ sym (tests_marked limit c unmeasured (lengths p taken_marked))
  tests_in tr e = tests_other
  tests_in trf e = tests_other

  -- refusal 14's tests, step by step
  pub all_tests : is_tc p.mode ≡ false → fitting p.mode p outs ≡ tests_from (step_of p.mode limit c) limit unmeasured (lengths p taken_marked)
  all_tests e = tests_in p.mode e
