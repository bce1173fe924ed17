-- The parts of a run over a plan: what a finished run has read, tested and written, and that nothing else finishes. Each step of the answer
-- was fine, so its test held; and where all tests hold, each step is fine.
use mathlib.Core.Path.{◌≡◌, refl, ap, sym, ◌∙◌, subst}
use mathlib.Core.Bool.{true, false, ◌&&◌}
use mathlib.Core.List.{List}
use Prim.Native.Nat.{ℕ, ◌≤◌, ◌<◌}
use native.Mathlib.Omega.{arith}
use lib.Dec.{leb}
use lib.ListN.{length, length-map}
use borrow.Author.Tests.{leb-true, le-leb}
use Rattle.rules.specs.Base.{joined}
use Rattle.rules.specs.Answer.{fine, refused, ◌>>=◌, ◌>>◌, unless, each}
use Rattle.rules.specs.Places.{All, Byte}
use Rattle.rules.specs.Grammar.{Mode, tc, tf, tr, trf}
use Rattle.rules.specs.Reel.{is_reel, blocks_of}
use Rattle.rules.specs.Plan.{Plan, is_tc, is_fs, block_length, plan_of}
use Rattle.rules.specs.Blocks.{records_in, records_from, taken_after, taken_from}
use Rattle.rules.specs.Output.{permits, out_record, filled_b, blocked}
use Rattle.rules.specs.Run.{fitting, RunOutput, out_blocks, ran_of, housed, convert, spanned_run, conversion, run_of, outputs, output_blocks}
use Rattle.rules.specs.RunRows.{Holds, Gives}
use Rattle.rules.specs.Accepted.{Accepted}
use Rattle.rules.proofs.Base.Lists.{map_joined}
use Rattle.rules.proofs.Blocks.TakenLaws.{after_each}
use Rattle.rules.proofs.Base.Tests.{and_left, and_right, and_both}
use Rattle.rules.proofs.Base.AllLaws.{all_drop, both_map, both_second, both_with, all_joined, all_parts}
use Rattle.rules.proofs.Refusals.AnswerLaws.{fine_same, bind_fine, fine_bind, then_fine, fine_then, unless_fine, fine_unless, each_fine, fine_each, fine_reads}
use Rattle.rules.proofs.Reel.ReelLaws.{reel_blocks, reel_is}
use Rattle.rules.proofs.Blocks.BlockLaws.{block_read, bytes_records}
use Rattle.rules.proofs.Output.FillLaws.{filled_all}
use Rattle.rules.proofs.Output.FitSteps.{non_empty_records}

-- ---- the records of each block

module _ (p : Plan) (ok : Accepted p) where
  -- the records of each block are what is read
  pub of_holds : (i : ℕ) {bs : List (List ℕ)} {recs : List (List (List ℕ))} → Holds p bs recs → records_from p i bs ≡ fine recs
  of_holds i h = fine_reads 12 (records_in p) i (both_map (block_read p ok) h)

  -- what a reel gives is read
  pub gives_read : (s : List ℕ) (recs : List (List (List ℕ))) → Gives p s recs → (is_reel s ≡ true) × (records_from p 1 (blocks_of s) ≡ fine recs)
  gives_read s recs g =
      (reel_is s g.0 g.1, subst (λ (bs : List (List ℕ)). records_from p 1 bs ≡ fine recs) (sym (reel_blocks s g.0 g.1)) (of_holds 1 g.2))

-- where a block is not read, the run is refused
pub bad_block : (room : ℕ) (p : Plan) (s : List ℕ) (i : ℕ) → is_reel s ≡ true → records_from p 1 (blocks_of s) ≡ refused 12 i → convert room p s ≡ refused 12 i
unfolding convert out_blocks unless ◌>>◌ ◌>>=◌
bad_block room p s i e b = rw (e, b) refl

-- ---- a finished run

-- in every mode they hold the output records in order
pub blocked_records : (m : Mode) (p : Plan) (bs : List (List (List ℕ))) → joined (blocked m p bs) ≡ joined bs
unfolding filled_b
blocked_records tc p bs = refl
blocked_records tf p bs = non_empty_records bs
blocked_records tr p bs = filled_all _ _ _ (joined bs)
blocked_records trf p bs = filled_all _ _ _ (joined bs)

pub blocked_all : {P : List ℕ → Type 0} (m : Mode) (p : Plan) {bs : List (List (List ℕ))} → All (All P) bs → All (All P) (blocked m p bs)
blocked_all {P} m p {bs} a = all_parts (blocked m p bs) (subst (All P) (sym (blocked_records m p bs)) (all_joined a))

-- what has been read and tested where there are output blocks
pub record Gathered (p : Plan) (s : List ℕ) (blocks : List (List (List ℕ))) : Type 0 where
  pub reel : is_reel s ≡ true
  pub recs : List (List (List ℕ))
  pub reads : records_from p 1 (blocks_of s) ≡ fine recs
  pub permitted : All (λ r. permits p r ≡ true) (joined (taken_from p.first recs))
  pub fit : All (λ holds. holds ≡ true) (fitting p.mode p (outputs p recs))
  pub is : output_blocks p recs ≡ blocks

pub gathered : (p : Plan) (s : List ℕ) (blocks : List (List (List ℕ))) → out_blocks p s ≡ fine blocks → Gathered p s blocks
unfolding out_blocks
gathered p s blocks d =
    let s1 = then_fine (unless (is_reel s) 11 0) _ blocks d in
    let s2 = bind_fine (records_from p 1 (blocks_of s)) _ blocks s1.1 in
    let recs = s2.0 in
    let s3 = then_fine (each 13 (permits p) p.first (joined (taken_from p.first recs))) _ blocks s2.2 in
    let s4 = then_fine (each 14 (λ holds. holds) p.first (fitting p.mode p (outputs p recs))) _ blocks s3.1 in
    record {
      reel = unless_fine (is_reel s) 11 0 s1.0;
      recs = recs;
      reads = s2.1;
      permitted = each_fine 13 (permits p) p.first (joined (taken_from p.first recs)) s3.0;
      fit = each_fine 14 (λ holds. holds) p.first (fitting p.mode p (outputs p recs)) s4.0;
      is = fine_same _ blocks s4.1;
    }

pub record Finished (p : Plan) (room : ℕ) (s : List ℕ) (x : RunOutput) : Type 0 where
  pub reel : is_reel s ≡ true
  pub recs : List (List (List ℕ))
  pub reads : records_from p 1 (blocks_of s) ≡ fine recs
  pub permitted : All (λ r. permits p r ≡ true) (joined (taken_from p.first recs))
  pub fit : All (λ holds. holds ≡ true) (fitting p.mode p (outputs p recs))
  pub writes : x ≡ ran_of p (output_blocks p recs)
  pub roomy : length x.reel ≤ room
  pub most : length x.reel ≤ 65536

pub finished : (p : Plan) (room : ℕ) (s : List ℕ) (x : RunOutput) → convert room p s ≡ fine x → Finished p room s x
unfolding convert housed
finished p room s x e =
    let w = bind_fine (out_blocks p s) _ x e in
    let g = gathered p s w.0 w.1 in
    let y = ran_of p w.0 in
    let h = then_fine (unless (leb (length y.reel) room && leb (length y.reel) 65536) 15 (length y.reel)) _ x w.2 in
    let t = unless_fine (leb (length y.reel) room && leb (length y.reel) 65536) 15 (length y.reel) h.0 in
    let q : y ≡ x = fine_same y x h.1 in
    record {
      reel = g.reel;
      recs = g.recs;
      reads = g.reads;
      permitted = g.permitted;
      fit = g.fit;
      writes = sym q ∙ ap (ran_of p) (sym g.is);
      roomy = subst (λ (z : RunOutput). length z.reel ≤ room) q (leb-true (length y.reel) room (and_left (leb (length y.reel) room) _ t));
      most = subst (λ (z : RunOutput). length z.reel ≤ 65536) q (leb-true (length y.reel) 65536 (and_right (leb (length y.reel) room) _ t));
    }

-- as many records are written as are taken
pub records_written : (p : Plan) (room : ℕ) (s : List ℕ) (x : RunOutput) (w : Finished p room s x) → x.records ≡ length (joined (taken_from p.first w.recs))
unfolding ran_of
records_written p room s x w =
    ap (λ (z : RunOutput). z.records) w.writes ∙ ap length (blocked_records p.mode p (outputs p w.recs))
    ∙ ap length (sym (map_joined (out_record p) (taken_from p.first w.recs))) ∙ length-map (joined (taken_from p.first w.recs)) (out_record p)

pub finishes : (p : Plan) (room : ℕ) (s : List ℕ) (x : RunOutput) → Finished p room s x → convert room p s ≡ fine x
unfolding convert out_blocks housed
finishes p room s x w =
    fine_bind (out_blocks p s) _ (blocked p.mode p (outputs p w.recs))
    (fine_then (unless (is_reel s) 11 0) _ (fine_unless (is_reel s) 11 0 w.reel)
    ∙ fine_bind (records_from p 1 (blocks_of s)) _ w.recs w.reads
    ∙ fine_then _ _ (fine_each 13 (permits p) p.first w.permitted)
    ∙ fine_then _ _ (fine_each 14 (λ holds. holds) p.first w.fit))
    ∙ ap (housed room) (sym w.writes)
    ∙ fine_then _ _ (fine_unless (leb (length x.reel) room && leb (length x.reel) 65536) 15 (length x.reel) (and_both (le-leb (length x.reel) room w.roomy) (le-leb (length x.reel) 65536 w.most)))

-- ---- the bytes of a finished run

pub taken_all_of : {P : List ℕ → Type 0} (k : ℕ) {recs : List (List (List ℕ))} → All (All P) recs → All (All P) (taken_after k recs)
taken_all_of k a = after_each (λ j rs h. all_drop j h) k a

pub holds_bytes : (p : Plan) → Accepted p → {bs : List (List ℕ)} {recs : List (List (List ℕ))} → All (All Byte) bs → Holds p bs recs → All (All (All Byte)) recs
holds_bytes p ok a h = both_second (λ b rs w. w) (both_with (bytes_records p ok) a h)

short_of : (b : List ℕ) (bs : List (List ℕ)) → length b ≤ length (joined bs) → length (joined bs) < 65536 → length b < 65536
short_of b bs l m = omega arith

-- ---- the run of a deck

-- the run of a deck that is accepted is the run of its plan
pub the_run : (zone room : ℕ) (deck s : List ℕ) (p : Plan) → plan_of zone deck ≡ fine p → is_fs p.format ≡ false → run_of zone room deck s ≡ convert room p s
unfolding run_of conversion
the_run zone room deck s p e o = fine_bind (plan_of zone deck) (λ p. conversion room p s) p e ∙ rw o

-- in FS
pub the_span : (zone room : ℕ) (deck s : List ℕ) (p : Plan) → plan_of zone deck ≡ fine p → is_fs p.format ≡ true
    → run_of zone room deck s ≡ spanned_run (is_tc p.mode) (block_length p.input) (block_length p.output) p.first room s
unfolding run_of conversion
the_span zone room deck s p e o = fine_bind (plan_of zone deck) (λ p. conversion room p s) p e ∙ rw o
