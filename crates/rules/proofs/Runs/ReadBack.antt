-- What a finished run writes is a reel, and read under B it gives the output records, block by block. It holds because each output record is one that B allows,
-- and each output block has a record and fits.
use mathlib.Core.Path.{◌≡◌, refl, ap, sym, ◌∙◌, subst}
use mathlib.Core.Logic.{inl, inr}
use mathlib.Core.Bool.{Bool, true, false, true≢false, false≢true}
use mathlib.Core.List.{List, [], ◌∷◌, ◌++◌, map, append_assoc}
use Prim.Native.Nat.{ℕ, suc, ◌-◌, ◌≤◌}
use native.Mathlib.Omega.{arith}
use lib.ListN.{length}
use Rattle.rules.specs.Base.{joined}
use Rattle.rules.specs.Answer.{fine}
use Rattle.rules.specs.Places.{All, no_more, also, Byte}
use Rattle.rules.specs.Grammar.{Mode, tc, tf, tr, trf, Format, ff, fv, fu, fsp, Size}
use Rattle.rules.specs.Reel.{is_reel}
use Rattle.rules.specs.Permitted.{choices}
use Rattle.rules.specs.Plan.{Plan, is_fs, plan_of, is_tc, selects, record_length, block_length, allowed}
use Rattle.rules.specs.Blocks.{taken_from}
use Rattle.rules.specs.Output.{out_record, block_of, cost, total, fits_b, filled_b, non_empty, blocked}
use Rattle.rules.specs.Run.{fit_behind, fit_together, fit_alone, fitting, RunOutput, ran_of, run_of, outputs, output_blocks}
use Rattle.rules.specs.Rows.{IsTwo, IsOne, Required}
use Rattle.rules.specs.RunRows.{ReelIs, RecordIs, BlockIs, Holds, Gives}
use Rattle.rules.specs.ShortBlocks.{Under}
use Rattle.rules.specs.Judge.{under_b}
use Rattle.rules.specs.Accepted.{Accepted}
use Rattle.rules.specs.InWords.{Packed, no_block as no_packed, last_block, full_block}
use Rattle.rules.proofs.Base.Lists.{length_full}
use Rattle.rules.proofs.Base.AllLaws.{all_left, all_right, all_imply, both_second, made_both, all_map, all_with, all_unmap}
use Rattle.rules.proofs.Deck.AcceptedLaws.{accepted}
use Rattle.rules.proofs.Reel.ReelLaws.{all_blocks, reel_is}
use Rattle.rules.proofs.Blocks.BlockSizes.{size_least}
use Rattle.rules.proofs.Blocks.BlockLaws.{block_some, length_block}
use Rattle.rules.proofs.Halves.RecordLaws.{length_out_record}
use Rattle.rules.proofs.Output.FillLaws.{fits_true, filled_packed}
use Rattle.rules.proofs.Refusals.BlocksOutcome.{holds_of, gives_same}
use Rattle.rules.proofs.Runs.RunParts.{blocked_all, Finished, finished, the_run}
use Rattle.rules.proofs.Runs.Never.{output_other, Taken, holds_taken, fixed_output}
use Rattle.rules.proofs.Runs.CopyLaws.{copy_blocks}
use Rattle.rules.proofs.Deck.LimitLaws.{of_two, of_one}

-- ---- a block that B allows

abbrev pub OutBlock : Plan → List (List ℕ) → Type 0
OutBlock q rs = BlockIs q (block_of q.format rs) rs

-- such blocks hold their records
held : (q : Plan) {outs : List (List (List ℕ))} → All (OutBlock q) outs → Holds q (map (block_of q.format) outs) outs
held q a = made_both (block_of q.format) a

-- ---- what fits

module _ (p : Plan) where
  -- the last record of a block fits behind all others, so the block fits
  behind_fits : (before : List (List ℕ)) (r : List ℕ) (rs : List (List ℕ)) → All (λ holds. holds ≡ true) (fit_behind p before (r ∷ rs))
      → length (block_of p.format (before ++ (r ∷ rs))) ≤ block_length p.output
  unfolding fits_b
  behind_fits before r [] (also h a) =
      let m = block_length p.output in
      let c = cost p.format in
      omega (arith, length_block p.format (before ++ (r ∷ [])), fits_true m c c (before ++ (r ∷ [])) h)
  behind_fits before r (x ∷ rs) (also h a) = subst (λ (z : List (List ℕ)). length (block_of p.format z) ≤ block_length p.output) (append_assoc before (r ∷ []) (x ∷ rs)) (behind_fits (before ++ (r ∷ [])) x rs a)

  -- TF
  together_most : (bs : List (List (List ℕ))) → All (λ holds. holds ≡ true) (fit_together p bs)
      → All (λ b. (b ≡ [] → ⊥) × (length (block_of p.format b) ≤ block_length p.output)) (non_empty bs)
  together_most [] a = no_more
  together_most ([] ∷ bs) a = together_most bs a
  together_most ((r ∷ rs) ∷ bs) a =
      also (cons_some r rs, behind_fits [] r rs (all_left (fit_behind p [] (r ∷ rs)) (fit_together p bs) a)) (together_most bs (all_right (fit_behind p [] (r ∷ rs)) (fit_together p bs) a))
    where
      cons_some : (r : List ℕ) (rs : List (List ℕ)) → r ∷ rs ≡ [] → ⊥
      cons_some r rs e = let z : suc (length rs) ≡ 0 = ap length e in omega arith

  -- TR and TRF
  filled_most : (rs : List (List ℕ)) → All (λ r. fits_b p (r ∷ []) ≡ true) rs → All (λ b. (b ≡ [] → ⊥) × (length (block_of p.format b) ≤ block_length p.output)) (filled_b p rs)
  unfolding fits_b filled_b
  filled_most rs a = go (filled_packed m c c (all_imply (λ r h. fits_true m c c (r ∷ []) h) a))
    where
      m : ℕ
      m = block_length p.output

      c : ℕ
      c = cost p.format

      one_of : (b : List (List ℕ)) → 1 ≤ length b → total c c b ≤ m → (b ≡ [] → ⊥) × (length (block_of p.format b) ≤ m)
      one_of b l f = (λ e. let z : length b ≡ 0 = ap length e in omega arith, omega (arith, length_block p.format b))

      go : {bs : List (List (List ℕ))} → Packed m c c bs → All (λ b. (b ≡ [] → ⊥) × (length (block_of p.format b) ≤ m)) bs
      go no_packed = no_more
      go (last_block {b = b} l f) = also (one_of b l f) no_more
      go (full_block {b = b} l f o h) = also (one_of b l f) (go h)

two_not_one : {s : Size} → IsTwo s → IsOne s → ⊥
two_not_one x y = omega (arith, of_two x, of_one y)

-- ---- a plan, and one that reads under B what it writes

module _ (p q : Plan) (ok : Accepted p) (ok' : Accepted q) (u : Under p q) where
  -- an output record is a record under B; in FV with TF and TRF its data is at least B's n
  pub record_back : (r : List ℕ) → RecordIs p.format p r → RecordIs q.format q (out_record p r)
  record_back r h = go p.format refl
    where
      at : (f : Format) → p.format ≡ f → RecordIs f q (out_record p r) → RecordIs q.format q (out_record p r)
      at f e k = subst (λ (z : Format). RecordIs z q (out_record p r)) (sym (u.format ∙ e)) k

      in_fv : p.format ≡ fv → (1 ≤ length r) × (selects p.mode ≡ true → record_length p.input ≤ length r)
          → (1 ≤ length (out_record p r)) × (selects q.mode ≡ true → record_length q.input ≤ length (out_record p r))
      in_fv e h = select (selects p.mode) refl
        where
          select : (s : Bool) → selects p.mode ≡ s → (1 ≤ length (out_record p r)) × (selects q.mode ≡ true → record_length q.input ≤ length (out_record p r))
          select true s =
              let l = length_out_record p ok s r (h.1 s) in
              let n = size_least p.format p.output ok.output (ok.required.fv_two e s).1 in
              (omega (arith, l, n), λ s'. omega (arith, l, ap record_length (u.same (inr s'))))
          select false s = (
            omega (arith, h.0, ap length (output_other p s r)),
            λ s'. absurd (two_not_one (subst IsTwo (u.same (inr s')) (ok'.required.fv_two (u.format ∙ e) s').0) (ok.required.fv_one e s).1),
          )

      go : (f : Format) → p.format ≡ f → RecordIs q.format q (out_record p r)
      go ff e = at ff e (fixed_output p ok e r (subst (λ (f : Format). RecordIs f p r) e h) ∙ ap record_length (sym (u.same (inl (u.format ∙ e)))))
      go fv e = at fv e (in_fv e (subst (λ (f : Format). RecordIs f p r) e h))
      go fsp e = let k : ⊥ = subst (λ (f : Format). RecordIs f p r) e h in absurd k
      go fu e =
          at fu e (let l : 1 ≤ length r = subst (λ (f : Format). RecordIs f p r) e h in omega (arith, l, ap length (output_other p (ap selects (ok.required.fu_with_tc e)) r)))

  -- ---- the output blocks

  records_back : {ts : List (List (List ℕ))} → All (Taken p) ts → All (All (RecordIs q.format q)) (map (map (out_record p)) ts)
  records_back a = all_map (map (out_record p)) (all_imply (λ rs w. all_map (out_record p) (all_imply record_back w.records)) a)

  -- in FU the mode is TC; elsewhere a block may have several records
  out_block : (p.mode ≡ tc → ⊥) → (b : List (List ℕ)) → ((b ≡ [] → ⊥) × (length (block_of p.format b) ≤ block_length p.output)) × All (RecordIs q.format q) b → OutBlock q b
  out_block o b w =
      record {
        is = refl;
        some = w.0.0;
        records = w.1;
        most = omega (arith, w.0.1, ap (λ (f : Format). length (block_of f b)) u.format, u.most);
        one = λ e. absurd (o (ok.required.fu_with_tc (sym u.format ∙ e)));
      }

  -- the input blocks of TC are blocks under B
  copy_block : p.mode ≡ tc → {bs : List (List ℕ)} {recs : List (List (List ℕ))} → Holds p bs recs → All (OutBlock q) recs
  copy_block m h = both_second one_block h
    where
      one_block : (b : List ℕ) (rs : List (List ℕ)) → BlockIs p b rs → OutBlock q rs
      one_block b rs v =
          record {
            is = refl;
            some = v.some;
            records = all_imply (λ r k. subst (RecordIs q.format q) (output_other p (ap selects m) r) (record_back r k)) v.records;
            most = omega (arith, v.most, ap length v.is, ap (λ (f : Format). length (block_of f rs)) u.format, u.most, ap block_length (ok.required.tc_equal m));
            one = λ e. v.one (sym u.format ∙ e);
          }

  module _ {bs : List (List ℕ)} {recs : List (List (List ℕ))} (h : Holds p bs recs) (fit : All (λ holds. holds ≡ true) (fitting p.mode p (outputs p recs))) where
    pub blocks_allowed : All (OutBlock q) (output_blocks p recs)
    unfolding taken_from filled_b
    blocks_allowed = go p.mode refl
      where
        all : All (All (RecordIs q.format q)) (outputs p recs)
        all = records_back (holds_taken p (p.first - 1) h)

        at : (m : Mode) → p.mode ≡ m → All (OutBlock q) (blocked m p (outputs p recs)) → All (OutBlock q) (output_blocks p recs)
        at m e a = subst (λ (z : Mode). All (OutBlock q) (blocked z p (outputs p recs))) (sym e) a

        fits_in : (m : Mode) → p.mode ≡ m → All (λ holds. holds ≡ true) (fitting m p (outputs p recs))
        fits_in m e = subst (λ (z : Mode). All (λ holds. holds ≡ true) (fitting z p (outputs p recs))) e fit

        packed : is_tc p.mode ≡ false → All (λ holds. holds ≡ true) (fit_alone p (outputs p recs)) → All (OutBlock q) (filled_b p (joined (outputs p recs)))
        packed n f =
            let rs = joined (outputs p recs) in
            all_imply (out_block (λ d. true≢false (sym (ap is_tc d) ∙ n)))
            (all_with (filled_most p rs (all_unmap (λ r. fits_b p (r ∷ [])) rs f)) (blocked_all tr p all))

        go : (m : Mode) → p.mode ≡ m → All (OutBlock q) (output_blocks p recs)
        go tc e = subst (All (OutBlock q)) (sym (copy_blocks p ok e recs)) (copy_block e h)
        go tf e =
            at tf e (all_imply (out_block (λ d. true≢false (sym (ap is_tc d) ∙ ap is_tc e))) (all_with (together_most p (outputs p recs) (fits_in tf e)) (blocked_all tf p all)))
        go tr e = at tr e (packed (ap is_tc e) (fits_in tr e))
        go trf e = at trf e (packed (ap is_tc e) (fits_in trf e))

  -- ---- a finished run

  module _ (room : ℕ) (s : List ℕ) (x : RunOutput) (a : All Byte s) (w : Finished p room s x) where
    blocks_written : All (OutBlock q) (output_blocks p w.recs)
    blocks_written = blocks_allowed (holds_of p ok 1 (all_blocks s a) w.recs w.reads) w.fit

    -- what is written is the reel of the blocks of the output records
    pub reel_written : ReelIs x.reel (map (block_of p.format) (output_blocks p w.recs))
    unfolding ran_of
    reel_written =
        record {
          is = ap (λ (z : RunOutput). z.reel) w.writes;
          blocks = all_map (block_of p.format) (all_imply (λ rs k. subst (λ (f : Format). block_of f rs ≡ [] → ⊥) u.format (length_full _ (block_some q ok' _ rs k))) blocks_written);
          most = w.most;
        }

    -- read under B it gives the output records, block by block
    pub read_back : Gives q x.reel (output_blocks p w.recs)
    read_back = (
      map (block_of q.format) (output_blocks p w.recs),
      subst (λ (z : Format). ReelIs x.reel (map (block_of z) (output_blocks p w.recs))) (sym u.format) reel_written,
      held q blocks_written,
    )

    -- and no other records
    pub read_only : (recs : List (List (List ℕ))) → Gives q x.reel recs → recs ≡ output_blocks p w.recs
    read_only recs g = gives_same q ok' x.reel recs (output_blocks p w.recs) g read_back

-- ---- there is such a plan

pub under_b_lem : (p : Plan) → Under p (under_b p)
under_b_lem p = record { format = refl; most = refl; same = λ o. refl }

pub under_b_accepted : (p : Plan) → Accepted p → Accepted (under_b p)
unfolding allowed choices
under_b_accepted p ok =
    record {
      few = omega arith;
      input = ok.output;
      output = ok.output;
      first = omega arith;
      limits = no_more;
      required = required;
      no_field_lem = λ e. refl;
      no_cv = λ e. refl;
      with_fv = λ e. absurd (false≢true e);
      insides = no_more;
      some = λ i l. omega arith;
    }
  where
    required : Required p.mode p.format p.output p.output 1
    required =
        record {
          fu_with_tc = ok.required.fu_with_tc;
          fs_with = ok.required.fs_with;
          fs_one = λ e. ((ok.required.fs_one e).1, (ok.required.fs_one e).1);
          tc_with_r1 = λ e. refl;
          ff_two = λ e. ((ok.required.ff_two e).1, (ok.required.ff_two e).1);
          fu_one = λ e. ((ok.required.fu_one e).1, (ok.required.fu_one e).1);
          fv_two = λ e s. ((ok.required.fv_two e s).1, (ok.required.fv_two e s).1);
          fv_one = λ e s. ((ok.required.fv_one e s).1, (ok.required.fv_one e s).1);
          ff_multiple = λ e. ((ok.required.ff_multiple e).1, (ok.required.ff_multiple e).1);
          tc_equal = λ e. refl;
          tr_equal = λ e f. refl;
          tf_equal = λ e f. refl;
          fv_room_a = ok.required.fv_room_b;
          fv_room_b = ok.required.fv_room_b;
        }

-- what a finished run writes is a reel
pub written_is : (zone room : ℕ) (deck s : List ℕ) (p : Plan) (x : RunOutput) → plan_of zone deck ≡ fine p → is_fs p.format ≡ false → All Byte s → run_of zone room deck s ≡ fine x → is_reel x.reel ≡ true
written_is zone room deck s p x e o a d =
    let ok = accepted zone deck p e in
    let w = finished p room s x (sym (the_run zone room deck s p e o) ∙ d) in
    reel_is x.reel _ (reel_written p (under_b p) ok (under_b_accepted p ok) (under_b_lem p) room s x a w)
