-- Demand 3 and the run together, once over the zone. Where a plan is marked as keeping, two finished runs that wrote the same reel took the same
-- records: a reel tells its blocks, a block its records, and an output record the one record that the plan converts to it. So two reels that
-- differ in a record taken give different reels, or a run is refused.
use mathlib.Core.Path.{◌≡◌, refl, ap, ap₂, sym, ◌∙◌, subst}
use mathlib.Core.Logic.{◌⊎◌, inl, inr}
use mathlib.Core.Bool.{Bool, true, false}
use mathlib.Core.List.{List, ◌∷◌, map}
use Prim.Native.Nat.{ℕ, suc, ◌<◌}
use native.Mathlib.Omega.{arith}
use lib.ListN.{length, drop}
use Prim.Native.Nat.{◌-◌}
use Rattle.rules.specs.Base.{joined}
use Rattle.rules.specs.Answer.{Refusal, Answer, fine, refuse}
use Rattle.rules.specs.Places.{All, no_more, also, Byte}
use Rattle.rules.specs.Grammar.{Mode, tr, trf}
use Rattle.rules.specs.Reel.{blocks_of}
use Rattle.rules.specs.Plan.{Plan, is_fs, plan_of, plan_answer}
use Rattle.rules.specs.Blocks.{taken_from}
use Rattle.rules.specs.Output.{out_record, block_of, filled_b, blocked, converts}
use Rattle.rules.specs.Run.{RunOutput, ran_of, run_of, outputs, output_blocks}
use Rattle.rules.specs.RunRows.{BlockIs, RowRun}
use Rattle.rules.specs.Demand.{Keeping}
use Rattle.rules.specs.Judge.{under_b}
use Rattle.rules.specs.Accepted.{Accepted}
use Rattle.rules.specs.Taken.{Takes, Tells}
use Rattle.rules.proofs.Base.Lists.{map_joined}
use Rattle.rules.proofs.Deck.AcceptedLaws.{accepted}
use Rattle.rules.proofs.Reel.ReelLaws.{reel_blocks}
use Rattle.rules.proofs.Blocks.BlockLaws.{block_once}
use Rattle.rules.proofs.Keeping.Demand3.{demand3}
use Rattle.rules.proofs.Runs.RunParts.{Finished, finished, records_written, the_run}
use Rattle.rules.proofs.Refusals.RunTable.{run_table}
use Rattle.rules.proofs.Runs.ReadBack.{OutBlock, reel_written, under_b_lem, under_b_accepted}
use Rattle.rules.proofs.Spanned.SpannedDeck.{done, taken_span, told_span, convert_span}
use Rattle.rules.proofs.Runs.TakenRecords.{takes_once, taken_of, run_takes, blocks_written, records_out, taken_convert}

-- ---- what is told

-- a block tells its records, wherever it stands
block_tells : (q : Plan) → Accepted q → (rs rs' : List (List ℕ)) → OutBlock q rs → OutBlock q rs' → block_of q.format rs ≡ block_of q.format rs' → rs ≡ rs'
block_tells q ok rs rs' w w' e = block_once q ok (block_of q.format rs) rs rs' w (subst (λ (b : List ℕ). BlockIs q b rs') (sym e) w')

blocks_tell : (q : Plan) → Accepted q → {outs outs' : List (List (List ℕ))} → All (OutBlock q) outs → All (OutBlock q) outs'
    → map (block_of q.format) outs ≡ map (block_of q.format) outs' → outs ≡ outs'
blocks_tell q ok no_more no_more e = refl
blocks_tell q ok no_more (also {xs = outs'} w' a') e = let z : 0 ≡ suc (length (map (block_of q.format) outs')) = ap length e in absurd (omega arith)
blocks_tell q ok (also {xs = outs} w a) no_more e = let z : suc (length (map (block_of q.format) outs)) ≡ 0 = ap length e in absurd (omega arith)
blocks_tell q ok (also {x = rs} {xs = outs} w a) (also {x = rs'} {xs = outs'} w' a') e =
    let h : block_of q.format rs ≡ block_of q.format rs' = cc in
    let t : map (block_of q.format) outs ≡ map (block_of q.format) outs' = cc in
    ap₂ ◌∷◌ (block_tells q ok rs rs' w w' h) (blocks_tell q ok a a' t)

-- under a plan that keeps, the output records tell the records
records_tell : (p : Plan) → Keeping p → {rs rs' : List (List ℕ)} → All (λ r. converts p r ≡ true) rs → All (λ r. converts p r ≡ true) rs'
    → map (out_record p) rs ≡ map (out_record p) rs' → rs ≡ rs'
records_tell p told no_more no_more e = refl
records_tell p told no_more (also {xs = rs'} c' a') e = let z : 0 ≡ suc (length (map (out_record p) rs')) = ap length e in absurd (omega arith)
records_tell p told (also {xs = rs} c a) no_more e = let z : suc (length (map (out_record p) rs)) ≡ 0 = ap length e in absurd (omega arith)
records_tell p told (also {x = r} {xs = rs} c a) (also {x = r'} {xs = rs'} c' a') e =
    let h : out_record p r ≡ out_record p r' = cc in
    let t : map (out_record p) rs ≡ map (out_record p) rs' = cc in
    ap₂ ◌∷◌ (told r r' c c' h) (records_tell p told a a' t)

-- ---- two finished runs

module _ (p : Plan) (ok : Accepted p) (room room' : ℕ) (s s' : List ℕ) (x x' : RunOutput) (a : All Byte s) (a' : All Byte s') (w : Finished p room s x) (w' : Finished p room' s' x') where
  -- the reel that was written tells its blocks of output records
  same_blocks : x.reel ≡ x'.reel → output_blocks p w.recs ≡ output_blocks p w'.recs
  same_blocks e =
      let q = under_b p in
      let ok' = under_b_accepted p ok in
      let r = reel_written p q ok ok' (under_b_lem p) room s x a w in
      let r' = reel_written p q ok ok' (under_b_lem p) room' s' x' a' w' in
      blocks_tell q ok' (blocks_written p ok room s x a w) (blocks_written p ok room' s' x' a' w')
      (sym (reel_blocks x.reel _ r) ∙ ap blocks_of e ∙ reel_blocks x'.reel _ r')

  same_records : Keeping p → x.reel ≡ x'.reel → taken_of p ok room s x a w ≡ taken_of p ok room' s' x' a' w'
  same_records told e =
      records_tell p told (taken_convert p ok room s x a w) (taken_convert p ok room' s' x' a' w')
      (sym (records_out p ok room s x a w) ∙ ap joined (same_blocks e) ∙ records_out p ok room' s' x' a' w')

-- ---- the runs of a deck

-- refused, with some number at some place
abbrev pub IsRefused : {A : Type 0} → Answer A → Type 0
IsRefused {A} x = (r : Refusal) × (x ≡ refuse r)

-- no run is refused with number 0
pub run_never_0 : (zone room : ℕ) → zone < 16 → (deck s : List ℕ) → All Byte s → (r : Refusal) → run_of zone room deck s ≡ refuse r → r.number ≡ 0 → ⊥
run_never_0 zone room h deck s a r d z = subst (λ (n : ℕ). RowRun zone deck s room n r.place) z ((run_table zone h deck s a room r.number r.place).0 (r.column, d)).0

-- what a finished run took: one list of records, as many as it wrote, each of which the plan converts
pub record Took (p : Plan) (s : List ℕ) (x : RunOutput) : Type 0 where
  pub records : List (List ℕ)
  pub takes : Takes p s records
  pub only : (rs : List (List ℕ)) → Takes p s rs → rs ≡ records
  pub many : x.records ≡ length records
  pub convert : All (λ r. converts p r ≡ true) records

module _ (zone : ℕ) (deck : List ℕ) (p : Plan) (e : plan_of zone deck ≡ fine p) where
  ok : Accepted p
  ok = accepted zone deck p e

  finished_run : is_fs p.format ≡ false → (room : ℕ) (s : List ℕ) (x : RunOutput) → run_of zone room deck s ≡ fine x → Finished p room s x
  finished_run other room s x d = finished p room s x (sym (the_run zone room deck s p e other) ∙ d)

  pub took : (room : ℕ) (s : List ℕ) (x : RunOutput) → All Byte s → run_of zone room deck s ≡ fine x → Took p s x
  took room s x a d = go (is_fs p.format) refl
    where
      go : (t : Bool) → is_fs p.format ≡ t → Took p s x
      go true t =
          let w = done zone deck p e t room s x d in
          let u = taken_span zone deck p e t room s a x w in
          record { records = drop (p.first - 1) (joined w.recs); takes = u; only = λ rs v. takes_once p ok s rs _ v u; many = ap (λ (z : RunOutput). z.records) w.writes; convert = convert_span zone deck p e t room s a x w }
      go false o =
          let w = finished_run o room s x d in
          let u = run_takes p ok room s x a w o in
          record {
            records = taken_of p ok room s x a w;
            takes = u;
            only = λ rs v. takes_once p ok s rs (taken_of p ok room s x a w) v u;
            many = records_written p room s x w;
            convert = taken_convert p ok room s x a w;
          }

  -- marked as keeping: where both runs finish and write the same reel, the same records were taken, in the same order
  pub same_taken : zone < 16 → (plan_answer (plan_of zone deck)).keeping ≡ 1 → Tells zone deck p
  same_taken z k room room' s s' a a' x x' d d' r rs rs' t t' = go (is_fs p.format) refl
    where
      go : (c : Bool) → is_fs p.format ≡ c → rs ≡ rs'
      go true c =
          let w = done zone deck p e c room s x d in
          let w' = done zone deck p e c room' s' x' d' in
          takes_once p ok s rs _ t (taken_span zone deck p e c room s a x w)
          ∙ told_span zone deck p e c room room' s s' a a' x x' w w' r
          ∙ takes_once p ok s' _ rs' (taken_span zone deck p e c room' s' a' x' w') t'
      go false o =
          let w = finished_run o room s x d in
          let w' = finished_run o room' s' x' d' in
          takes_once p ok s rs _ t (run_takes p ok room s x a w o)
          ∙ same_records p ok room room' s s' x x' a a' w w' ((demand3 zone z deck p e).keeps.0 k) r
          ∙ takes_once p ok s' _ rs' (run_takes p ok room' s' x' a' w' o) t'

  module _ (z : zone < 16) (k : (plan_answer (plan_of zone deck)).keeping ≡ 1) (room room' : ℕ) (s s' : List ℕ) (a : All Byte s) (a' : All Byte s') where
    -- so reels that differ in a record taken are told apart: a run is refused, or both finish and write different reels
    pub apart : (rs rs' : List (List ℕ)) → Takes p s rs → Takes p s' rs' → (rs ≡ rs' → ⊥)
        → IsRefused (run_of zone room deck s) ⊎ (IsRefused (run_of zone room' deck s')
        ⊎ ((x : RunOutput) × (x' : RunOutput) × (run_of zone room deck s ≡ fine x) × (run_of zone room' deck s' ≡ fine x') × (x.reel ≡ x'.reel → ⊥)))
    apart rs rs' t t' o = go (run_of zone room deck s) refl (run_of zone room' deck s') refl
      where
        go : (y : Answer RunOutput) → run_of zone room deck s ≡ y → (y' : Answer RunOutput) → run_of zone room' deck s' ≡ y'
            → IsRefused (run_of zone room deck s) ⊎ (IsRefused (run_of zone room' deck s')
            ⊎ ((x : RunOutput) × (x' : RunOutput) × (run_of zone room deck s ≡ fine x) × (run_of zone room' deck s' ≡ fine x') × (x.reel ≡ x'.reel → ⊥)))
        go (refuse q) d y' d' = inl (q, d)
        go (fine x) d (refuse q) d' = inr (inl (q, d'))
        go (fine x) d (fine x') d' = inr (inr (x, x', d, d', λ r. o (same_taken z k room room' s s' a a' x x' d d' r rs rs' t t')))

  -- TR and TRF: what a run writes is known from the records taken alone
  module _ (other : is_fs p.format ≡ false) (m : (p.mode ≡ tr) ⊎ (p.mode ≡ trf)) where
    reblocked : (bs : List (List (List ℕ))) → blocked p.mode p bs ≡ filled_b p (joined bs)
    reblocked bs = go m
      where
        go : (p.mode ≡ tr) ⊎ (p.mode ≡ trf) → blocked p.mode p bs ≡ filled_b p (joined bs)
        go (inl q) = ap (λ (n : Mode). blocked n p bs) q
        go (inr q) = ap (λ (n : Mode). blocked n p bs) q

    pub written_from : (room : ℕ) (s : List ℕ) (x : RunOutput) → All Byte s → run_of zone room deck s ≡ fine x → (rs : List (List ℕ)) → Takes p s rs
        → x ≡ ran_of p (filled_b p (map (out_record p) rs))
    written_from room s x a d rs t =
        let w = finished_run other room s x d in
        w.writes
        ∙ ap (ran_of p) (reblocked (outputs p w.recs))
        ∙ ap (λ (o : List (List ℕ)). ran_of p (filled_b p o))
        (sym (map_joined (out_record p) (taken_from p.first w.recs)) ∙ ap (map (out_record p)) (takes_once p ok s _ rs (run_takes p ok room s x a w other) t))
