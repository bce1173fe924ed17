-- In FF the blocks that TR and TRF write are full but the last. It holds because m is a multiple of n, and because the next record would not have fitted.
use mathlib.Core.Path.{◌≡◌, ap, sym, ◌∙◌, subst}
use mathlib.Core.Logic.{◌⊎◌}
use mathlib.Core.List.{List, map}
use Prim.Native.Nat.{ℕ, suc, ◌-◌, ◌*◌, ◌/◌, ◌≤◌, ◌<◌}
use native.Mathlib.Nat.{le_of_mul-le-mul_right, lt_of_mul-lt-mul_right, suc-mul, div-add-mod'}
use native.Mathlib.Omega.{arith}
use lib.ListN.{length}
use Rattle.rules.specs.Places.{All, no_more, also}
use Rattle.rules.specs.Grammar.{tr, trf, ff}
use Rattle.rules.specs.Plan.{Plan, record_length, block_length}
use Rattle.rules.specs.Blocks.{taken_from}
use Rattle.rules.specs.Output.{out_record, block_of, cost, total}
use Rattle.rules.specs.Run.{outputs, output_blocks}
use Rattle.rules.specs.RunRows.{Holds}
use Rattle.rules.specs.Accepted.{Accepted}
use Rattle.rules.specs.InWords.{BlocksOut, Packed, no_block, last_block, full_block}
use Rattle.rules.specs.ShortBlocks.{Full, no_more_lem, last, more}
use Rattle.rules.proofs.Base.AllLaws.{all_imply, all_map}
use Rattle.rules.proofs.Blocks.BlockSizes.{size_least}
use Rattle.rules.proofs.Blocks.BlockLaws.{length_joined, length_block}
use Rattle.rules.proofs.Output.FillLaws.{total_snoc}
use Rattle.rules.proofs.Runs.RunParts.{blocked_all}
use Rattle.rules.proofs.Runs.Never.{holds_taken, fixed_outputs, fixed_block}

-- blocks of as many n-byte records as fit are full
count_full : (n k : ℕ) (size : List (List ℕ) → List ℕ) {bs : List (List (List ℕ))} → All (λ b. length (size b) ≡ length b * n) bs → Full k bs → Full (k * n) (map size bs)
count_full n k size no_more h = no_more_lem
count_full n k size (also e no_more) h = last
count_full n k size (also {x = b} e (also f a)) (more g h) = more (e ∙ ap (λ (j : ℕ). j * n) g) (count_full n k size (also f a) h)

-- the next record of n bytes would not have fitted
module _ (n k m : ℕ) (low : 1 ≤ n) (whole : k * n ≡ m) where
  packed_full : {bs : List (List (List ℕ))} → Packed m 0 0 bs → All (All (λ r. length r ≡ n)) bs → Full k bs
  packed_full no_block a = no_more_lem
  packed_full (last_block l f) a = last
  packed_full (full_block {b = b} {r = r} l f o h) (also e (also (also g c) a)) = more count (packed_full h (also (also g c) a))
    where
      size : total 0 0 b ≡ length b * n
      size = sym (length_block ff b) ∙ length_joined n e

      count : length b ≡ k
      count =
          let most : length b ≤ k = le_of_mul-le-mul_right (omega (arith, size)) low in
          let least : k < suc (length b) = lt_of_mul-lt-mul_right n (omega (arith, size, total_snoc m 0 0 b r, suc-mul (length b) n)) in
          omega arith

module _ (p : Plan) (ok : Accepted p) (t : p.format ≡ ff) {bs : List (List ℕ)} {recs : List (List (List ℕ))} (h : Holds p bs recs) where
  -- B holds so many records
  many : ℕ
  many = block_length p.output / record_length p.output

  whole_out : many * record_length p.output ≡ block_length p.output
  unfolding many
  whole_out = omega (arith, div-add-mod' (block_length p.output) (record_length p.output), (ok.required.ff_multiple t).1)

  -- every output record has B's n bytes
  fixed_all : All (All (λ r. length r ≡ record_length p.output)) (outputs p recs)
  unfolding taken_from
  fixed_all = all_map (map (out_record p)) (all_imply (λ rs w. fixed_outputs p ok t w.records) (holds_taken p (p.first - 1) h))

  pub full_blocks : (p.mode ≡ tr) ⊎ (p.mode ≡ trf) → BlocksOut p recs (output_blocks p recs) → Full (block_length p.output) (map (block_of p.format) (output_blocks p recs))
  full_blocks o w =
      let n = record_length p.output in
      let each : All (All (λ r. length r ≡ record_length p.output)) (output_blocks p recs) = blocked_all p.mode p fixed_all in
      let packed : Packed (block_length p.output) 0 0 (output_blocks p recs) = subst (λ (z : ℕ). Packed (block_length p.output) z z (output_blocks p recs)) (ap cost t) (w.tr_blocks o) in
      subst (λ (m : ℕ). Full m (map (block_of p.format) (output_blocks p recs))) whole_out
      (count_full n many (block_of p.format) (all_imply (λ rs k. fixed_block p ok t n k) each)
      (packed_full n many (block_length p.output) (size_least p.format p.output ok.output (ok.required.ff_two t).1) whole_out packed each))
