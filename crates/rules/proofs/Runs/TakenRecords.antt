-- Of a run that finished: its reel gives one list of records taken, the plan converts each of them, and the blocks written are those of their
-- output records. It holds because none of the refusals 11 to 14 applied, and because blocking changes no record and no order.
use mathlib.Core.Path.{◌≡◌, refl, ap, sym, ◌∙◌, subst}
use mathlib.Core.Bool.{true, false, true≢false}
use mathlib.Core.List.{List, [], ◌∷◌, map}
use Prim.Native.Nat.{ℕ, ◌-◌, ◌≤◌}
use native.Mathlib.Omega.{arith}
use lib.ListN.{length, drop}
use Rattle.rules.specs.Base.{joined}
use Rattle.rules.specs.Places.{All, no_more, also, Byte}
use Rattle.rules.specs.Plan.{Plan, is_fs, block_length}
use Rattle.rules.specs.Blocks.{taken_from}
use Rattle.rules.specs.Output.{out_record, cost, total, fits_b, may_hold, converts}
use Rattle.rules.specs.Run.{RunOutput, outputs, output_blocks}
use Rattle.rules.specs.RunRows.{RecordIs, Gives}
use Rattle.rules.specs.Judge.{under_b}
use Rattle.rules.specs.Accepted.{Accepted}
use Rattle.rules.specs.Taken.{Records, of_blocks, of_spans, Takes}
use Rattle.rules.proofs.Base.Lists.{map_joined}
use Rattle.rules.proofs.Base.AllLaws.{all_imply, all_with, all_unmap, all_joined}
use Rattle.rules.proofs.Reel.ReelLaws.{all_blocks}
use Rattle.rules.proofs.Blocks.BlockSizes.{size_most}
use Rattle.rules.proofs.Spanned.SpannedRuns.{gives_once}
use Rattle.rules.proofs.Blocks.BlockLaws.{length_block}
use Rattle.rules.proofs.Output.FillLaws.{alone}
use Rattle.rules.proofs.Blocks.HeldLaws.{held_exactly}
use Rattle.rules.proofs.Keeping.ConvertsLaws.{of_converted}
use Rattle.rules.proofs.Refusals.BlocksOutcome.{reads_give, gives_same}
use Rattle.rules.proofs.Blocks.TakenLaws.{taken_joined}
use Rattle.rules.proofs.Runs.RunParts.{blocked_records, Finished, taken_all_of, holds_bytes}
use Rattle.rules.proofs.Runs.Never.{Taken, holds_taken, fits_alone}
use Rattle.rules.proofs.Runs.ReadBack.{OutBlock, blocks_allowed, under_b_lem, under_b_accepted}

-- a reel gives at most one list of records taken
pub takes_once : (p : Plan) → Accepted p → (s : List ℕ) (rs rs' : List (List ℕ)) → Takes p s rs → Takes p s rs' → rs ≡ rs'
takes_once p ok s rs rs' t t' = t.from_r ∙ ap (drop (p.first - 1)) (once t.gives t'.gives) ∙ sym t'.from_r
  where
    once : {xs ys : List (List ℕ)} → Records p s xs → Records p s ys → xs ≡ ys
    once (of_blocks {blocks = bs} o g) (of_blocks {blocks = bs'} o' g') = ap joined (gives_same p ok s bs bs' g g')
    once (of_blocks o g) (of_spans t g') = absurd (true≢false (sym t ∙ o))
    once (of_spans t g) (of_blocks o g') = absurd (true≢false (sym t ∙ o))
    once (of_spans {rs = xs} t g) (of_spans {rs = ys} t' g') = let m = size_most p.format p.input ok.input in gives_once (block_length p.input) (omega (arith, m.1)) s xs ys g g'

module _ (p : Plan) (ok : Accepted p) where
  -- a record that stands in a block of A may stand there alone
  taken_held : (rs : List (List ℕ)) → Taken p rs → All (λ r. may_hold p.format p.input (length r) ≡ true) rs
  taken_held rs w = all_imply held (all_with w.records (alone (block_length p.input) (cost p.format) (cost p.format) rs (omega (arith, length_block p.format rs, w.most))))
    where
      held : (r : List ℕ) → RecordIs p.format p r × (total (cost p.format) (cost p.format) (r ∷ []) ≤ block_length p.input) → may_hold p.format p.input (length r) ≡ true
      held r v =
          (held_exactly p ok r).1
          (record {
            is = refl;
            some = λ e. let z : ◌≡◌ {A = ℕ} 1 0 = ap length e in omega arith;
            records = also v.0 no_more;
            most = omega (arith, length_block p.format (r ∷ []), v.1);
            one = λ e. refl;
          })

  module _ (room : ℕ) (s : List ℕ) (x : RunOutput) (a : All Byte s) (w : Finished p room s x) where
    -- the records taken
    abbrev pub taken_of : List (List ℕ)
    taken_of = joined (taken_from p.first w.recs)

    abbrev reads : Gives p s w.recs
    reads = reads_give p ok s a w.reel w.recs w.reads

    pub run_takes : is_fs p.format ≡ false → Takes p s taken_of
    run_takes o = record { records = joined w.recs; gives = of_blocks o reads; from_r = taken_joined p.first w.recs }

    -- the blocks written are blocks under B
    pub blocks_written : All (OutBlock (under_b p)) (output_blocks p w.recs)
    blocks_written = blocks_allowed p (under_b p) ok (under_b_accepted p ok) (under_b_lem p) reads.2 w.fit

    -- and hold the output records of the records taken, in order
    pub records_out : joined (output_blocks p w.recs) ≡ map (out_record p) taken_of
    records_out = blocked_records p.mode p (outputs p w.recs) ∙ sym (map_joined (out_record p) (taken_from p.first w.recs))

    taken_bytes : All (All Byte) taken_of
    unfolding taken_from
    taken_bytes = all_joined (taken_all_of (p.first - 1) (holds_bytes p ok (all_blocks s a) reads.2))

    taken_hold : All (λ r. may_hold p.format p.input (length r) ≡ true) taken_of
    unfolding taken_from
    taken_hold = all_joined (all_imply taken_held (holds_taken p (p.first - 1) reads.2))

    taken_fit : All (λ r. fits_b p (out_record p r ∷ []) ≡ true) taken_of
    taken_fit =
        all_unmap (out_record p) taken_of
        (subst (All (λ r. fits_b p (r ∷ []) ≡ true)) records_out (all_joined (all_imply (λ rs k. fits_alone p rs k.most) blocks_written)))

    -- the plan converts each record taken
    pub taken_convert : All (λ r. converts p r ≡ true) taken_of
    taken_convert =
        all_imply (λ r v. of_converted p r (record { bytes = v.0.0; permitted = v.0.1; held = v.1.0; fitting = v.1.1 }))
        (all_with (all_with taken_bytes w.permitted) (all_with taken_hold taken_fit))
