-- TC's output is its input: a finished run in TC writes the reel that it read, and it finishes wherever 11, 12 and 15 do not apply. It holds
-- because TC takes every record and leaves it as it is, because the records of a block make the block again, and the blocks the reel.
use mathlib.Core.Path.{◌≡◌, ap, sym, ◌∙◌}
use mathlib.Core.List.{List, map, map-id}
use mathlib.Core.Logic.{inl}
use mathlib.Core.Bool.{false}
use Prim.Native.Nat.{ℕ, ◌-◌, ◌≤◌}
use lib.ListN.{length}
use Rattle.rules.specs.Base.{joined}
use Rattle.rules.specs.Answer.{fine}
use Rattle.rules.specs.Places.{All, Byte}
use Rattle.rules.specs.Grammar.{Mode, tc}
use Rattle.rules.specs.Reel.{blocks_of, reel_of}
use Rattle.rules.specs.Plan.{Plan, is_fs, plan_of, selects}
use Rattle.rules.specs.Blocks.{taken_from}
use Rattle.rules.specs.Output.{block_of, blocked}
use Rattle.rules.specs.Run.{RunOutput, ran_of, run_of, outputs, output_blocks}
use Rattle.rules.specs.RunRows.{Holds, Gives}
use Rattle.rules.specs.Accepted.{Accepted}
use Rattle.rules.proofs.Base.AllLaws.{both_length, both_maps, all_of}
use Rattle.rules.proofs.Base.Lists.{map_own}
use Rattle.rules.proofs.Deck.AcceptedLaws.{accepted}
use Rattle.rules.proofs.Blocks.TakenLaws.{taken_first}
use Rattle.rules.proofs.Refusals.BlocksOutcome.{reads_give}
use Rattle.rules.proofs.Runs.RunParts.{gives_read, finished, finishes, the_run}
use Rattle.rules.proofs.Runs.Never.{permits_other, output_other, holds_taken, all_fit}

-- ---- the blocks of a reel again

pub blocks_back : (p : Plan) {bs : List (List ℕ)} {recs : List (List (List ℕ))} → Holds p bs recs → map (block_of p.format) recs ≡ bs
blocks_back p {bs} h = sym (both_maps (λ b. b) (block_of p.format) (λ b rs v. v.is) h) ∙ map-id bs

-- ---- TC

module _ (p : Plan) (ok : Accepted p) (q : p.mode ≡ tc) where
  -- the output blocks have the records of the input blocks
  pub copy_blocks : (recs : List (List (List ℕ))) → output_blocks p recs ≡ recs
  copy_blocks recs =
      ap (λ (m : Mode). blocked m p (outputs p recs)) q ∙ map_own (map_own (output_other p (ap selects q))) (taken_from p.first recs)
      ∙ ap (λ (n : ℕ). taken_from n recs) (ok.required.tc_with_r1 q) ∙ taken_first recs

  -- and so the reel is written again
  pub copy_reel : (s : List ℕ) (recs : List (List (List ℕ))) → Gives p s recs → reel_of (map (block_of p.format) (output_blocks p recs)) ≡ s
  copy_reel s recs g =
      ap (λ (bs : List (List (List ℕ))). reel_of (map (block_of p.format) bs)) (copy_blocks recs) ∙ ap reel_of (blocks_back p g.2) ∙ sym g.1.is

  copy_ran : (s : List ℕ) (recs : List (List (List ℕ))) → Gives p s recs → ran_of p (output_blocks p recs) ≡ record { reel = s; records = length (joined recs); blocks = length recs }
  unfolding ran_of
  copy_ran s recs g =
      λ k. record { reel = copy_reel s recs g k; records = length (joined (copy_blocks recs k)); blocks = length (copy_blocks recs k) }

-- what a finished run of TC has written
pub copied : (zone room : ℕ) (deck s : List ℕ) (p : Plan) (x : RunOutput) → plan_of zone deck ≡ fine p → is_fs p.format ≡ false → p.mode ≡ tc → All Byte s
    → run_of zone room deck s ≡ fine x → (x.reel ≡ s) × (x.blocks ≡ length (blocks_of s))
copied zone room deck s p x e o q a d =
    let ok = accepted zone deck p e in
    let w = finished p room s x (sym (the_run zone room deck s p e o) ∙ d) in
    let g = reads_give p ok s a w.reel w.recs w.reads in
    let c = w.writes ∙ copy_ran p ok q s w.recs g in
    (ap (λ (z : RunOutput). z.reel) c, ap (λ (z : RunOutput). z.blocks) c ∙ sym (both_length g.2))

-- it finishes on every reel whose blocks keep their rule, where there is room for it
pub copies : (zone room : ℕ) (deck s : List ℕ) (p : Plan) → plan_of zone deck ≡ fine p → is_fs p.format ≡ false → p.mode ≡ tc → (recs : List (List (List ℕ))) → Gives p s recs → length s ≤ room
    → run_of zone room deck s ≡ fine (record { reel = s; records = length (joined recs); blocks = length recs })
unfolding taken_from
copies zone room deck s p e o q recs g l =
    let ok = accepted zone deck p e in
    let r = gives_read p ok s recs g in
    the_run zone room deck s p e o
    ∙ finishes p room s _
    (record {
      reel = r.0;
      recs = recs;
      reads = r.1;
      permitted = all_of (permits_other p (ap selects q)) _;
      fit = all_fit p ok (inl q) (holds_taken p (p.first - 1) g.2);
      writes = sym (copy_ran p ok q s recs g);
      roomy = l;
      most = g.1.most;
    })
