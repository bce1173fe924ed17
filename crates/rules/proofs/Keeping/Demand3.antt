-- Demand 3, once over the zone: a plan is marked as keeping exactly if no two different records that it converts give the same output record;
-- where it is not, the lost place is the lowest half in which alone two such records differ, or 2n. A plan that keeps is one in which each
-- half of the first n bytes is told by the output, and the tail is carried or empty.
use mathlib.Core.Path.{◌≡◌, refl, ap, ap₂, sym, ◌∙◌}
use mathlib.Core.Logic.{inl, inr}
use mathlib.Core.Bool.{Bool, true, false, cond, ◌&&◌}
use mathlib.Core.List.{List, [], ◌++◌}
use Prim.Native.Nat.{ℕ, ◌+◌, ◌<◌}
use native.Mathlib.Omega.{arith}
use lib.Dec.{eqb}
use lib.ListN.{length, take, drop, get_or, take-append-drop, drop_of_length-le}
use lib.Seq.{ext_get_or}
use borrow.Author.Tests.{eqb-true}
use Rattle.rules.specs.Answer.{fine}
use Rattle.rules.specs.Base.{pairs}
use Rattle.rules.specs.Halves.{halves}
use Rattle.rules.specs.Plan.{Plan, plan_of, plan_answer, bit, selects, is_fv, record_length, block_length, input_halves, allowed, sources_of, lost_at, tail_kept, keeps}
use Rattle.rules.specs.Output.{out_record}
use Rattle.rules.specs.Demand.{Keeping, TwinsAt, TailTwins, LostPlace, Marked}
use Rattle.rules.specs.Accepted.{Accepted}
use Rattle.rules.proofs.Base.Tests.{and_left, and_right}
use Rattle.rules.proofs.Deck.AcceptedLaws.{accepted, zone_of}
use Rattle.rules.proofs.Halves.SizeLaws.{pairs_halves}
use Rattle.rules.proofs.Halves.RecordLaws.{shape_of}
use Rattle.rules.proofs.Keeping.KeepingLaws.{kept_at}
use Rattle.rules.proofs.Keeping.ConvertsLaws.{Converted, converted_of, not_span, held_most, permitted_of, same_output}
use Rattle.rules.proofs.Keeping.Twins.{lost_lowest, lost_place}

-- ---- a plan that keeps

module _ (p : Plan) (z : p.zone < 16) (ok : Accepted p) (sel : selects p.mode ≡ true) where
  -- where no half is missing, the first n bytes are told
  pub same_first : lost_at p ≡ input_halves p → (r s : List ℕ) → Converted p r → Converted p s → out_record p r ≡ out_record p s
      → take (record_length p.input) r ≡ take (record_length p.input) s
  same_first lost r s cr cs e =
      let n = record_length p.input in
      let gr = permitted_of p z ok sel r cr in
      let gs = permitted_of p z ok sel s cs in
      let at : (i : ℕ) → i < input_halves p → get_or (halves (take n r)) i 0 ≡ get_or (halves (take n s)) i 0 =
      λ i l. kept_at (allowed p) (input_halves p) (sources_of p) i l (lost_lowest p i (omega arith)) _ _ gr gs (same_output p z ok sel r s cr cs e).0 in
      let hs : halves (take n r) ≡ halves (take n s) = ext_get_or 0 _ _ (gr.size ∙ sym gs.size) (λ i l. at i (omega (arith, gr.size))) in
      sym (pairs_halves (take n r)) ∙ ap pairs hs ∙ pairs_halves (take n s)

  -- where the tail is kept, it is told
  same_tail : tail_kept p ≡ true → (r s : List ℕ) → Converted p r → Converted p s → out_record p r ≡ out_record p s
      → drop (record_length p.input) r ≡ drop (record_length p.input) s
  unfolding tail_kept
  same_tail kept r s cr cs e = go p.carries refl
    where
      -- without CV m is n+8 in FV, so that there is none
      tight : p.carries ≡ false → is_fv p.format ≡ true → block_length p.input ≡ record_length p.input + 8
      tight c v = eqb-true (block_length p.input) (record_length p.input + 8) (rw (v, c) at kept)

      none : p.carries ≡ false → (t : List ℕ) → Converted p t → drop (record_length p.input) t ≡ []
      none c t ct = drop_of_length-le t {i = record_length p.input} (held_most (shape_of p ok sel) (tight c) (length t) ct.held)

      go : (c : Bool) → p.carries ≡ c → drop (record_length p.input) r ≡ drop (record_length p.input) s
      go true c = rw c at (same_output p z ok sel r s cr cs e).1
      go false c = none c r cr ∙ sym (none c s cs)

  -- then records with the same first n bytes are one
  same_record : tail_kept p ≡ true → (r s : List ℕ) → Converted p r → Converted p s → out_record p r ≡ out_record p s
      → take (record_length p.input) r ≡ take (record_length p.input) s → r ≡ s
  same_record kept r s cr cs e first =
      let n = record_length p.input in
      sym (take-append-drop n r) ∙ ap₂ ◌++◌ first (same_tail kept r s cr cs e) ∙ take-append-drop n s

  keeping_of : lost_at p ≡ input_halves p → tail_kept p ≡ true → Keeping p
  keeping_of lost kept r s cr cs e =
      let r' = converted_of p r (not_span p ok sel) cr in
      let s' = converted_of p s (not_span p ok sel) cs in
      same_record kept r s r' s' e (same_first lost r s r' s' e)

  -- where the tail is kept there are no twins at it
  pub no_tail_twins : tail_kept p ≡ true → TailTwins p → ⊥
  no_tail_twins kept t =
      let n = not_span p ok sel in
      t.differ (same_record kept t.r t.s (converted_of p t.r n t.r_converts) (converted_of p t.s n t.s_converts) t.outputs t.alone)

-- TC and TR plans keep: they carry records unchanged
pub kept_plan : (p : Plan) → p.zone < 16 → Accepted p → keeps p ≡ true → Keeping p
unfolding keeps out_record
kept_plan p z ok k = go (selects p.mode) refl
  where
    go : (t : Bool) → selects p.mode ≡ t → Keeping p
    go false t = λ r s cr cs e. rw t at e
    go true t =
        let both : (eqb (lost_at p) (input_halves p) && tail_kept p) ≡ true = rw t at k in
        keeping_of p z ok t (eqb-true _ _ (and_left (eqb (lost_at p) (input_halves p)) _ both)) (and_right (eqb (lost_at p) (input_halves p)) _ both)

-- ---- demand 3

-- a plan of which no two records are confused has no twins, and so no lost place
pub kept_twins : (p : Plan) (h : ℕ) → Keeping p → TwinsAt p h → ⊥
kept_twins p h told t = t.differ (ap (λ (r : List ℕ). get_or (halves r) h 0) (told _ _ t.r_converts t.s_converts t.outputs))

pub kept_tail : (p : Plan) → Keeping p → TailTwins p → ⊥
kept_tail p told t = t.differ (told _ _ t.r_converts t.s_converts t.outputs)

pub not_lost : (p : Plan) (h : ℕ) → Keeping p → LostPlace p h → ⊥
not_lost p h told (inl w) = kept_twins p h told w.1
not_lost p h told (inr w) = kept_tail p told w.2

pub demand3_of : (p : Plan) → p.zone < 16 → Accepted p → Marked p (bit (keeps p)) (cond (keeps p) 0 (lost_at p))
demand3_of p z ok = go (keeps p) refl
  where
    go : (k : Bool) → keeps p ≡ k → Marked p (bit k) (cond k 0 (lost_at p))
    go true k =
        record {
          mark = inl refl;
          keeps = (λ e. kept_plan p z ok k, λ told. refl);
          kept = λ e. refl;
          loses = λ e. absurd (omega arith);
        }
    go false k =
        record {
          mark = inr refl;
          keeps = (λ e. absurd (omega arith), λ told. absurd (not_lost p (lost_at p) told (lost_place p z ok k)));
          kept = λ e. absurd (omega arith);
          loses = λ e. lost_place p z ok k;
        }

-- of the plan of every deck, and of the two numbers that it answers
pub demand3 : (zone : ℕ) → zone < 16 → (deck : List ℕ) (p : Plan) → plan_of zone deck ≡ fine p
    → Marked p (plan_answer (plan_of zone deck)).keeping (plan_answer (plan_of zone deck)).lost
demand3 zone z deck p e = rw e (demand3_of p (rw (zone_of zone deck p e) z) (accepted zone deck p e))
