-- A plan with R1 that loses: the reels of two records that the plan confuses, each alone, give one reel. So from R1 a plan is marked as keeping
-- exactly if its runs tell the records that they took. It holds because a run over a record alone writes its output record alone.
use mathlib.Core.Path.{◌≡◌, refl, ap, sym, ◌∙◌}
use mathlib.Core.Logic.{◌↔◌, ◌⊎◌, inl, inr}
use mathlib.Core.Bool.{Bool, true, false}
use mathlib.Core.List.{List, [], ◌∷◌}
use Prim.Native.Nat.{ℕ, ◌-◌, ◌<◌}
use native.Mathlib.Omega.{arith}
use lib.ListN.{drop, get_or}
use Rattle.rules.specs.Answer.{fine}
use Rattle.rules.specs.Places.{All, no_more, also, none_left, both, Byte}
use Rattle.rules.specs.Halves.{halves}
use Rattle.rules.specs.Plan.{Plan, is_fs, plan_of, plan_answer}
use Rattle.rules.specs.Output.{out_record, converts}
use Rattle.rules.specs.Run.{RunOutput, run_of}
use Rattle.rules.specs.Demand.{LostPlace}
use Rattle.rules.specs.Accepted.{Accepted}
use Rattle.rules.specs.Taken.{of_blocks, Takes, Tells}
use Rattle.rules.proofs.Base.Lists.{length_full}
use Rattle.rules.proofs.Deck.AcceptedLaws.{accepted}
use Rattle.rules.proofs.Reel.ReelLaws.{all_reel, header_is}
use Rattle.rules.proofs.Blocks.BlockSizes.{size_most}
use Rattle.rules.proofs.Blocks.BlockLaws.{block_some, bytes_block}
use Rattle.rules.proofs.Blocks.HeldLaws.{held_exactly}
use Rattle.rules.proofs.Keeping.ConvertsLaws.{converted_of}
use Rattle.rules.proofs.Keeping.Demand3.{demand3}
use Rattle.rules.proofs.Runs.OneRecord.{own_block, own_reel, own_ran, one_record}
use Rattle.rules.proofs.Deck.LimitLaws.{is_fs_lem}
use Rattle.rules.proofs.Runs.Never.{output_other}
use Rattle.rules.proofs.Runs.RunParts.{finished, the_run}
use Rattle.rules.proofs.Keeping.Apart.{same_taken}

-- two different records that the plan converts, with one output record
record Pair (p : Plan) : Type 0 where
  r : List ℕ
  r' : List ℕ
  differ : r ≡ r' → ⊥
  converted : converts p r ≡ true
  converted' : converts p r' ≡ true
  output : out_record p r ≡ out_record p r'

lost_pair : (p : Plan) (h : ℕ) → LostPlace p h → Pair p
lost_pair p h (inl w) =
    record {
      r = w.1.r;
      r' = w.1.s;
      differ = λ e. w.1.differ (ap (λ (r : List ℕ). get_or (halves r) h 0) e);
      converted = w.1.r_converts;
      converted' = w.1.s_converts;
      output = w.1.outputs;
    }
lost_pair p h (inr w) = record { r = w.2.r; r' = w.2.s; differ = w.2.differ; converted = w.2.r_converts; converted' = w.2.s_converts; output = w.2.outputs }

-- two reels of bytes, of which different records are taken, and from which one reel is written
pub record Confused (zone : ℕ) (deck : List ℕ) (p : Plan) : Type 0 where
  pub s : List ℕ
  pub s' : List ℕ
  pub bytes : All Byte s
  pub bytes' : All Byte s'
  pub rs : List (List ℕ)
  pub rs' : List (List ℕ)
  pub takes : Takes p s rs
  pub takes' : Takes p s' rs'
  pub differ : rs ≡ rs' → ⊥
  pub x : RunOutput
  pub run : run_of zone 65536 deck s ≡ fine x
  pub run' : run_of zone 65536 deck s' ≡ fine x

module _ (zone : ℕ) (deck : List ℕ) (p : Plan) (e : plan_of zone deck ≡ fine p) (first : p.first ≡ 1) where
  ok : Accepted p
  ok = accepted zone deck p e

  -- the reel of one block, of a record alone that the plan converts
  module _ (other : is_fs p.format ≡ false) (r : List ℕ) (c : converts p r ≡ true) where
    alone_bytes : All Byte r
    alone_bytes = (converted_of p r other c).bytes

    pub alone_runs : run_of zone 65536 deck (own_reel p r) ≡ fine (own_ran p (out_record p r))
    alone_runs = (one_record zone deck p e first other r alone_bytes).0 c

    reel_bytes : All Byte (own_reel p r)
    reel_bytes =
        let v = (held_exactly p ok r).0 (converted_of p r other c).held in
        all_reel (also (bytes_block p.format (also alone_bytes no_more) (omega (arith, v.most, size_most p.format p.input ok.input))) no_more)

    alone_takes : Takes p (own_reel p r) (r ∷ [])
    alone_takes =
        let v = (held_exactly p ok r).0 (converted_of p r other c).held in
        let w = finished p 65536 (own_reel p r) _ (sym (the_run zone 65536 deck (own_reel p r) p e other) ∙ alone_runs) in
        record {
          records = r ∷ [];
          gives = of_blocks {blocks = (r ∷ []) ∷ []} other (
            own_block p r ∷ [],
            record { is = refl; blocks = also (length_full (own_block p r) (block_some p ok (own_block p r) (r ∷ []) v)) no_more; most = (header_is (own_reel p r) w.reel).most },
            both v none_left,
          );
          from_r = ap (λ (n : ℕ). drop (n - 1) (r ∷ [])) (sym first);
        }

  module _ (z : zone < 16) where
    pub confused : (plan_answer (plan_of zone deck)).keeping ≡ 0 → Confused zone deck p
    confused k = go (is_fs p.format) refl (lost_pair p _ ((demand3 zone z deck p e).loses k))
      where
        go : (t : Bool) → is_fs p.format ≡ t → Pair p → Confused zone deck p
        go true t w =
            let q = ok.required.fs_with (is_fs_lem p.format t) in
            absurd (w.differ (sym (output_other p q w.r) ∙ w.output ∙ output_other p q w.r'))
        go false t w =
            record {
              s = own_reel p w.r;
              s' = own_reel p w.r';
              bytes = reel_bytes t w.r w.converted;
              bytes' = reel_bytes t w.r' w.converted';
              rs = w.r ∷ [];
              rs' = w.r' ∷ [];
              takes = alone_takes t w.r w.converted;
              takes' = alone_takes t w.r' w.converted';
              differ = λ q. w.differ cc;
              x = own_ran p (out_record p w.r);
              run = alone_runs t w.r w.converted;
              run' = alone_runs t w.r' w.converted' ∙ ap (λ (o : List ℕ). fine (own_ran p o)) (sym w.output);
            }

    -- from R1 on a plan is marked as keeping exactly if its runs tell the records taken
    pub told_exactly : ((plan_answer (plan_of zone deck)).keeping ≡ 1) ↔ Tells zone deck p
    told_exactly = (same_taken zone deck p e z, back)
      where
        back : Tells zone deck p → (plan_answer (plan_of zone deck)).keeping ≡ 1
        back told = go (demand3 zone z deck p e).mark
          where
            go : ((plan_answer (plan_of zone deck)).keeping ≡ 1) ⊎ ((plan_answer (plan_of zone deck)).keeping ≡ 0) → (plan_answer (plan_of zone deck)).keeping ≡ 1
            go (inl k) = k
            go (inr k) = let c = confused k in absurd (c.differ (told 65536 65536 c.s c.s' c.bytes c.bytes' c.x c.x c.run c.run' refl c.rs c.rs' c.takes c.takes'))
