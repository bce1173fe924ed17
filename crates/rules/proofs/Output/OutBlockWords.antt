-- The output blocks in the paper's words are those that the definitions give: TC's are its input's, TF's go along the input blocks with the number of each block's
-- first record, and of TR and TRF there is one filling only.
use mathlib.Core.Path.{◌≡◌, refl, ap, ap₂, sym, ◌∙◌, subst}
use mathlib.Core.Logic.{◌⊎◌, inl, inr}
use mathlib.Core.Bool.{true, false≢true}
use mathlib.Core.List.{List, [], ◌∷◌, map}
use Prim.Native.Nat.{ℕ, suc, ◌+◌, ◌-◌, ◌≤◌, ◌<◌}
use native.Mathlib.Omega.{arith}
use lib.ListN.{length, drop}
use Rattle.rules.specs.Base.{joined}
use Rattle.rules.specs.Places.{All, no_more, also, Both, Byte}
use Rattle.rules.specs.Grammar.{Mode, tc, tf, tr, trf, Format, ff, fv, fu}
use Rattle.rules.specs.Plan.{Plan, selects, record_length, block_length}
use Rattle.rules.specs.Blocks.{taken_after, taken_from}
use Rattle.rules.specs.Output.{out_record, cost, fits_b, filled, filled_b, non_empty, blocked}
use Rattle.rules.specs.Run.{fit_alone, fitting, outputs, output_blocks}
use Rattle.rules.specs.InWords.{OutputOf, Packed, EachBlock, no_input, nothing_left, something_left, BlocksOut}
use Rattle.rules.specs.RunRows.{RecordIs, Holds}
use Rattle.rules.specs.Accepted.{Accepted}
use Rattle.rules.proofs.Blocks.BlockLaws.{bytes_records}
use Rattle.rules.proofs.Base.Lists.{map_joined}
use Rattle.rules.proofs.Base.AllLaws.{all_drop, all_imply, both_second, both_with, all_with, all_unmap, all_joined}
use Rattle.rules.proofs.Output.FillLaws.{fits_true, filled_all, filled_packed, packed_filled}
use Rattle.rules.proofs.Runs.CopyLaws.{copy_blocks}
use Rattle.rules.proofs.Halves.OutputWords.{Whole, outputs_told, outputs_once}
use Rattle.rules.proofs.Blocks.TakenLaws.{after_joined}

-- ---- the records of good blocks

module _ (p : Plan) (ok : Accepted p) where
  -- with TF or TRF a record has A's n or more; FU is never with them
  long_enough : (f : Format) → p.format ≡ f → (r : List ℕ) → RecordIs f p r → selects p.mode ≡ true → record_length p.input ≤ length r
  long_enough ff e r w t = omega (arith, w)
  long_enough fv e r w t = w.1 t
  long_enough fu e r w t = absurd (false≢true (sym (ap selects (ok.required.fu_with_tc e)) ∙ t))
  long_enough Rattle.rules.specs.Grammar.fsp e r w t = elim w [ ]

  whole_records : {rs : List (List ℕ)} → All (RecordIs p.format p) rs → All (All Byte) rs → All (Whole p) rs
  whole_records ws bs = all_imply (λ r w. record { bytes = w.1; long = long_enough p.format refl r w.0 }) (all_with ws bs)

  pub holds_whole : {bs : List (List ℕ)} {recs : List (List (List ℕ))} → All (All Byte) bs → Holds p bs recs → All (All (Whole p)) recs
  holds_whole a h = both_second (λ b rs w. w) (both_with (λ b rs bytes v. whole_records v.records (bytes_records p ok b rs bytes v)) a h)

module _ (p : Plan) (z : p.zone < 16) (ok : Accepted p) where
  -- ---- TF

  -- block by block
  abbrev left : ℕ → List (List (List ℕ)) → List (List (List ℕ))
  left i recs = non_empty (map (map (out_record p)) (taken_after (p.first - i) recs))

  -- how many records are skipped behind a block
  next : (i : ℕ) (rs : List (List ℕ)) (more : List (List (List ℕ))) → taken_after (p.first - i - length rs) more ≡ taken_after (p.first - (i + length rs)) more
  next i rs more = ap (λ (k : ℕ). taken_after k more) (let e : p.first - i - length rs ≡ p.first - (i + length rs) = omega arith in e)

  each_told : (i : ℕ) {recs : List (List (List ℕ))} → All (All (Whole p)) recs → EachBlock p i recs (left i recs)
  each_told i no_more = no_input
  each_told i (also {x = rs} {xs = more} w ws) = go (each_told (i + length rs) ws) (drop (p.first - i) rs) refl
    where
      go : EachBlock p (i + length rs) more (left (i + length rs) more) → (ts : List (List ℕ)) → drop (p.first - i) rs ≡ ts → EachBlock p i (rs ∷ more) (left i (rs ∷ more))
      go ih [] e = rw (e, next i rs more) (nothing_left e ih)
      go ih (t ∷ ts) e =
          rw (e, next i rs more)
          (something_left (λ q. let y : 0 ≡ suc (length ts) = ap length (sym q ∙ e) in omega arith)
          (subst (λ (us : List (List ℕ)). Both (OutputOf p) (drop (p.first - i) rs) (map (out_record p) us)) e (outputs_told p z ok (all_drop (p.first - i) w))) ih)

  each_once : (i : ℕ) {recs outs : List (List (List ℕ))} → All (All (Whole p)) recs → EachBlock p i recs outs → outs ≡ left i recs
  each_once i no_more no_input = refl
  each_once i (also {x = rs} {xs = more} w ws) (nothing_left e h) = each_once (i + length rs) ws h ∙ rw (e, next i rs more)
  each_once i (also {x = rs} {xs = more} w ws) (something_left {os = os} {outs = outs} n o h) = go (each_once (i + length rs) ws h) (drop (p.first - i) rs) refl
    where
      go : outs ≡ left (i + length rs) more → (ts : List (List ℕ)) → drop (p.first - i) rs ≡ ts → os ∷ outs ≡ left i (rs ∷ more)
      go ih [] e = absurd (n e)
      go ih (t ∷ ts) e =
          let os_are : os ≡ map (out_record p) (t ∷ ts) = outputs_once p z ok (all_drop (p.first - i) w) o ∙ ap (map (out_record p)) e in
          rw (e, next i rs more) (ap₂ ◌∷◌ os_are ih)

  -- ---- TR and TRF

  -- the output records of those from R on
  in_order : (recs : List (List (List ℕ))) → joined (outputs p recs) ≡ map (out_record p) (drop (p.first - 1) (joined recs))
  unfolding taken_from
  in_order recs = sym (map_joined (out_record p) (taken_after (p.first - 1) recs)) ∙ ap (map (out_record p)) (after_joined (p.first - 1) recs)

  abbrev limit : ℕ
  limit = block_length p.output

  abbrev c : ℕ
  c = cost p.format

  module _ (recs : List (List (List ℕ))) (ws : All (All (Whole p)) recs) where
    filled_records : Both (OutputOf p) (drop (p.first - 1) (joined recs)) (joined (filled_b p (joined (outputs p recs))))
    unfolding filled_b
    filled_records =
        subst (Both (OutputOf p) (drop (p.first - 1) (joined recs))) (sym (filled_all limit c c (joined (outputs p recs)) ∙ in_order recs))
        (outputs_told p z ok (all_drop (p.first - 1) (all_joined ws)))

    filled_blocks : All (λ holds. holds ≡ true) (fit_alone p (outputs p recs)) → Packed limit c c (filled_b p (joined (outputs p recs)))
    unfolding filled_b fits_b
    filled_blocks f =
        filled_packed limit c c (all_imply (λ r k. fits_true limit c c (r ∷ []) k) (all_unmap (λ r. fits_b p (r ∷ [])) (joined (outputs p recs)) f))

    filled_once : (outs : List (List (List ℕ))) → Both (OutputOf p) (drop (p.first - 1) (joined recs)) (joined outs) → Packed limit c c outs
        → outs ≡ filled_b p (joined (outputs p recs))
    unfolding filled_b
    filled_once outs o k =
        packed_filled limit c c outs k
        ∙ ap (filled limit c c) (outputs_once p z ok (all_drop (p.first - 1) (all_joined ws)) o ∙ sym (in_order recs))

    -- ---- in every mode

    -- where each record fits, the output blocks are as the words say
    pub blocks_told : All (λ holds. holds ≡ true) (fitting p.mode p (outputs p recs)) → BlocksOut p recs (output_blocks p recs)
    unfolding taken_from
    blocks_told f =
        record {
          TC = λ e. copy_blocks p ok e recs;
          TF = λ e. subst (λ (m : Mode). EachBlock p 1 recs (blocked m p (outputs p recs))) (sym e) (each_told 1 ws);
          tr_records = λ e. go e (λ m. Both (OutputOf p) (drop (p.first - 1) (joined recs)) (joined (blocked m p (outputs p recs)))) filled_records filled_records;
          tr_blocks = λ e. go e (λ m. Packed limit c c (blocked m p (outputs p recs)))
              (filled_blocks (alone e)) (filled_blocks (alone e));
        }
      where
        go : (p.mode ≡ tr) ⊎ (p.mode ≡ trf) → (T : Mode → Type 0) → T tr → T trf → T p.mode
        go (inl e) T x y = subst T (sym e) x
        go (inr e) T x y = subst T (sym e) y

        alone : (p.mode ≡ tr) ⊎ (p.mode ≡ trf) → All (λ holds. holds ≡ true) (fit_alone p (outputs p recs))
        alone (inl e) = subst (λ (m : Mode). All (λ holds. holds ≡ true) (fitting m p (outputs p recs))) e f
        alone (inr e) = subst (λ (m : Mode). All (λ holds. holds ≡ true) (fitting m p (outputs p recs))) e f

    -- and there are no others
    pub blocks_once : (outs : List (List (List ℕ))) → BlocksOut p recs outs → outs ≡ output_blocks p recs
    unfolding taken_from
    blocks_once outs w = go p.mode refl
      where
        go : (m : Mode) → p.mode ≡ m → outs ≡ blocked m p (outputs p recs)
        go tc e = w.TC e ∙ sym (copy_blocks p ok e recs) ∙ ap (λ (m : Mode). blocked m p (outputs p recs)) e
        go tf e = each_once 1 ws (w.TF e)
        go tr e = filled_once outs (w.tr_records (inl e)) (w.tr_blocks (inl e))
        go trf e = filled_once outs (w.tr_records (inr e)) (w.tr_blocks (inr e))
