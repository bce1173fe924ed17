-- The output of FF, as code finds it: its bytes are the outputs joined, in TF a block offsetWords where its input block does, and in TR and TRF every block but the last holds as many
-- records as fit. By the laws of records of equal length.
use mathlib.Core.Path.{◌≡◌, refl, ap, ap₂, sym, ◌∙◌}
use mathlib.Core.Bool.{true, false, true≢false}
use mathlib.Core.List.{List, [], ◌∷◌, ◌++◌, map}
use Prim.Native.Nat.{ℕ, ◌+◌, ◌-◌, ◌*◌, ◌/◌, ◌≤◌}
use native.Mathlib.Nat.{zero-mul}
use native.Mathlib.Omega.{arith}
use lib.ListN.{length, length-map}
use Rattle.rules.specs.Base.{joined}
use Rattle.rules.specs.Answer.{fine}
use Rattle.rules.specs.Places.{All, Both}
use Rattle.rules.specs.Grammar.{Mode, tc, tf, tr, trf, Format, ff}
use Rattle.rules.specs.Reel.{word, block_count, first_offset, offsets, is_reel, blocks_of, offset_words}
use Rattle.rules.specs.Plan.{Plan, is_tc, is_tf, record_length, block_length}
use Rattle.rules.specs.Blocks.{records_from, taken_after, taken_from}
use Rattle.rules.specs.Output.{out_record, block_of, cost, filled, non_empty, filled_b, blocked}
use Rattle.rules.specs.Run.{outputs, output_blocks}
use Rattle.rules.specs.Accepted.{Accepted}
use Rattle.rules.specs.EvenRecords.{stepped, ends_behind, count_behind}
use Rattle.rules.proofs.Base.Lists.{joined_append, map_joined}
use Rattle.rules.proofs.Base.AllLaws.{all_imply, both_second, all_map}
use Rattle.rules.proofs.Blocks.BlockSizes.{size_least}
use Rattle.rules.proofs.Blocks.BlockLaws.{length_joined}
use Rattle.rules.proofs.Reel.WordLaws.{unwords}
use Rattle.rules.proofs.Reel.ReelLaws.{header_is, nexts, ends_words}
use Rattle.rules.proofs.Runs.RunParts.{blocked_records}
use Rattle.rules.proofs.Runs.Never.{fixed_output, output_fits}
use Rattle.rules.proofs.Blocks.EvenLaws.{EvenBlock, blocks_even, taken_even}
use Rattle.rules.proofs.Output.EvenFilling.{even_count, even_ends}
use Rattle.rules.proofs.Output.EvenBlocks.{offsets_after, taken_count, taken_ends}

joined_twice : (bs : List (List (List ℕ))) → joined (map (block_of ff) bs) ≡ joined (joined bs)
joined_twice [] = refl
joined_twice (b ∷ bs) = ap (joined b ++◌) (joined_twice bs) ∙ sym (joined_append b (joined bs))

module _ (p : Plan) (ok : Accepted p) (t : p.format ≡ ff) (s : List ℕ) (r : is_reel s ≡ true) (recs : List (List (List ℕ))) (e : records_from p 1 (blocks_of s) ≡ fine recs) where
  abbrev n : ℕ
  n = record_length p.input

  abbrev w : ℕ
  w = record_length p.output

  abbrev limit : ℕ
  limit = block_length p.output

  -- where the first record that is taken starts
  abbrev from : ℕ
  from = 4 * block_count s + 8 + (p.first - 1) * n

  abbrev taken : List (List ℕ)
  taken = joined (taken_from p.first recs)

  least : 1 ≤ n
  least = size_least p.format p.input ok.input (ok.required.ff_two t).0

  pub output_least : 1 ≤ w
  output_least = size_least p.format p.output ok.output (ok.required.ff_two t).1

  outs_are : joined (outputs p recs) ≡ map (out_record p) taken
  outs_are = sym (map_joined (out_record p) (taken_from p.first recs))

  outs_even : All (λ x. length x ≡ w) (map (out_record p) taken)
  outs_even = all_map (out_record p) (all_imply (fixed_output p ok t) (taken_even p t s recs r e p.first).each)

  -- the bytes of the blocks are the outputs joined
  pub output_bytes : joined (map (block_of p.format) (output_blocks p recs)) ≡ joined (map (out_record p) taken)
  output_bytes =
      ap (λ (f : Format). joined (map (block_of f) (output_blocks p recs))) t
      ∙ joined_twice (output_blocks p recs)
      ∙ ap joined (blocked_records p.mode p (outputs p recs) ∙ outs_are)

  -- and as many records as are taken
  pub output_count : length (joined (output_blocks p recs)) ≡ length taken
  output_count = ap length (blocked_records p.mode p (outputs p recs) ∙ outs_are) ∙ length-map taken (out_record p)

  pub output_length : length (joined (map (out_record p) taken)) ≡ length taken * w
  output_length = length_joined w outs_even ∙ ap (λ (k : ℕ). k * w) (length-map taken (out_record p))

  -- ---- TF

  module _ (m : p.mode ≡ tf) where
    blocks_are : output_blocks p recs ≡ non_empty (map (map (out_record p)) (taken_after (p.first - 1) recs))
    unfolding taken_from
    blocks_are = ap (λ (k : Mode). blocked k p (outputs p recs)) m

    first_is_lem : first_offset s ≡ 4 * block_count s + 8
    first_is_lem = (header_is s r).first

    skipped : (p.first - 1) * n ≡ from - first_offset s
    skipped = omega (arith, first_is_lem)

    none_since : 0 * n ≡ first_offset s - from
    none_since = omega (arith, first_is_lem, zero-mul n)

    outs_all : {bs : List (List ℕ)} {rs : List (List (List ℕ))} → Both (EvenBlock n) bs rs → All (All (λ x. length (out_record p x) ≡ w)) rs
    outs_all h = both_second (λ b rs v. all_imply (fixed_output p ok t) v.even.each) h

    -- a block for each input block that offsetWords behind that place
    pub each_count : length (output_blocks p recs) ≡ count_behind from (offsets s)
    each_count =
        ap length blocks_are
        ∙ taken_count n least (out_record p) from (first_offset s) (p.first - 1) (blocks_even p t 1 (blocks_of s) recs e) skipped
        ∙ ap (count_behind from) (sym (offsets_after s r))

    pub each_ends : (a : ℕ) → offset_words a (map (block_of p.format) (output_blocks p recs)) ≡ word a ++ ends_behind n w from a (offsets s)
    each_ends a =
        let h = blocks_even p t 1 (blocks_of s) recs e in
        let z : a ≡ a + 0 * w = omega (arith, zero-mul w) in
        ap₂ (λ (f : Format) (bs : List (List (List ℕ))). offset_words a (map (block_of f) bs)) t blocks_are
        ∙ ends_words a (map joined (non_empty (map (map (out_record p)) (taken_after (p.first - 1) recs))))
        ∙ ap (word a ++◌)
        (ap (λ (k : ℕ). unwords (nexts k (map joined (non_empty (map (map (out_record p)) (taken_after (p.first - 1) recs)))))) z
        ∙ taken_ends n least (out_record p) w from a (first_offset s) (p.first - 1) 0 h (outs_all h) skipped none_since
        ∙ ap (ends_behind n w from a) (sym (offsets_after s r)))

  -- ---- TR and TRF

  module _ (c : is_tc p.mode ≡ false) (m : is_tf p.mode ≡ false) where
    filled_in : (k : Mode) → is_tc k ≡ false → is_tf k ≡ false → (bs : List (List (List ℕ))) → blocked k p bs ≡ filled limit (cost p.format) (cost p.format) (joined bs)
    unfolding filled_b
    filled_in tc a b bs = absurd (true≢false a)
    filled_in tf a b bs = absurd (true≢false b)
    filled_in tr a b bs = refl
    filled_in trf a b bs = refl

    filled_are : output_blocks p recs ≡ filled limit 0 0 (map (out_record p) taken)
    filled_are =
        filled_in p.mode c m (outputs p recs)
        ∙ ap₂ (λ (f : Format) (rs : List (List ℕ)). filled limit (cost f) (cost f) rs) t outs_are

    -- as many blocks as the records that fit one make
    pub filled_count : length (output_blocks p recs) ≡ (length taken + limit / w - 1) / (limit / w)
    filled_count =
        ap length filled_are
        ∙ even_count limit w output_least (output_fits p ok t) (map (out_record p) taken) outs_even
        ∙ ap (λ (k : ℕ). (k + limit / w - 1) / (limit / w)) (length-map taken (out_record p))

    pub filled_ends : (f a : ℕ) → length taken ≤ f → offset_words a (map (block_of p.format) (output_blocks p recs)) ≡ stepped f (limit / w * w) a (a + length taken * w)
    filled_ends f a l =
        ap₂ (λ (g : Format) (bs : List (List (List ℕ))). offset_words a (map (block_of g) bs)) t filled_are
        ∙ even_ends limit w output_least (output_fits p ok t) f a (map (out_record p) taken) (omega (arith, length-map taken (out_record p))) outs_even
        ∙ ap (λ (k : ℕ). stepped f (limit / w * w) a (a + k * w)) (length-map taken (out_record p))
