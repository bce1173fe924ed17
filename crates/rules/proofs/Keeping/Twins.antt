-- The lost place of a plan that does not keep: the lowest half in which alone two records that the plan converts differ though they have one
-- output record; or 2n where there is none, and then two such records differ in the tail alone. It holds since the halves with such records
-- are the missing ones, and since a tail that is not carried may be of one byte or of none.
use mathlib.Core.Path.{◌≡◌, refl, ap, sym, ◌∙◌}
use mathlib.Core.Logic.{inl, inr}
use mathlib.Core.Bool.{Bool, true, false, cond, true≢false}
use mathlib.Core.List.{List, [], ◌∷◌, ◌++◌, append-nil}
use Prim.Native.Nat.{ℕ, ◌+◌, ◌≤◌, ◌<◌}
use native.Mathlib.Omega.{arith}
use lib.Dec.{eqb}
use lib.ListN.{length, take, drop, length-append, drop_of_length-le}
use lib.Seq.{take_at, take_all}
use borrow.Author.Tests.{eqb-true, eqb-false, eq-eqb, ne_eqb}
use Rattle.rules.specs.Base.{pairs}
use Rattle.rules.specs.Places.{no_more, also}
use Rattle.rules.specs.Halves.{halves}
use Rattle.rules.specs.Keeping.{missing, lost_half}
use Rattle.rules.specs.Plan.{Plan, selects, is_fv, record_length, block_length, input_halves, allowed, sources_of, lost_at, tail_kept, keeps}
use Rattle.rules.specs.Output.{out_record, may_hold, converts}
use Rattle.rules.specs.Demand.{TwinsAt, TailTwins, LostPlace}
use Rattle.rules.specs.Twins.{listed, lowest, raised, first_twin, second_twin}
use Rattle.rules.specs.Accepted.{Accepted}
use Rattle.rules.proofs.Base.Search.{first_found, first_before, first_most}
use Rattle.rules.proofs.Base.AllLaws.{all_append}
use Rattle.rules.proofs.Halves.SizeLaws.{length_pairs, pairs_small, halves_pairs}
use Rattle.rules.proofs.Halves.RecordLaws.{shape_of}
use Rattle.rules.proofs.Halves.ListedLaws.{listed_same}
use Rattle.rules.proofs.Keeping.KeepingLaws.{kept_at, lowests, raiseds, lowest_halves, lost_pair}
use Rattle.rules.proofs.Keeping.ConvertsLaws.{converted_of, not_span, holds_least, holds_more, out_first, out_tail, out_values, PermittedHalves, permitted_of, permitted_half, same_output, made_output, made_converts}
use Rattle.rules.proofs.Halves.BytePlaces.{halves_first}

-- ---- the lost place is the lowest missing half

pub lost_missing : (p : Plan) → lost_at p < input_halves p → missing (allowed p) (sources_of p) (lost_at p) ≡ true
unfolding lost_at lost_half
lost_missing p l = first_found (missing (allowed p) (sources_of p)) 0 (input_halves p) (omega arith)

pub lost_lowest : (p : Plan) (j : ℕ) → j < lost_at p → missing (allowed p) (sources_of p) j ≡ false
unfolding lost_at lost_half
lost_lowest p j l = first_before (missing (allowed p) (sources_of p)) 0 (input_halves p) j (omega arith) l

pub lost_most : (p : Plan) → lost_at p ≤ input_halves p
unfolding lost_at lost_half
lost_most p = omega (arith, first_most (missing (allowed p) (sources_of p)) 0 (input_halves p))

-- ---- an accepted plan with TF or TRF

nothing_carried : (c : Bool) → cond {A = List ℕ} c [] [] ≡ []
nothing_carried true = refl
nothing_carried false = refl

module _ (p : Plan) (z : p.zone < 16) (ok : Accepted p) (sel : selects p.mode ≡ true) where
  -- where a half is not missing there are no twins at it
  pub no_twins : (j : ℕ) → j < input_halves p → missing (allowed p) (sources_of p) j ≡ false → TwinsAt p j → ⊥
  unfolding input_halves
  no_twins j l kept t =
      let n = record_length p.input in
      let cr = converted_of p t.r (not_span p ok sel) t.r_converts in
      let cs = converted_of p t.s (not_span p ok sel) t.s_converts in
      let same =
      kept_at (allowed p) (input_halves p) (sources_of p) j l kept _ _ (permitted_of p z ok sel _ cr) (permitted_of p z ok sel _ cs) (same_output p z ok sel _ _ cr cs t.outputs).0 in
      t.differ (sym (halves_first n t.r j l) ∙ same ∙ halves_first n t.s j l)

  -- ---- records of permitted halves, without a tail

  module _ (xs : List ℕ) (g : PermittedHalves p z ok sel xs) where
    pub plain_length : length (pairs xs) ≡ record_length p.input
    unfolding input_halves
    plain_length = omega (arith, length_pairs xs, g.size)

    pub plain_halves : halves (pairs xs) ≡ xs
    unfolding input_halves
    plain_halves = halves_pairs (omega (arith, g.size)) (permitted_half p z ok sel xs g)

    plain_first : take (record_length p.input) (pairs xs) ≡ pairs xs
    plain_first = take_all (record_length p.input) (pairs xs) (omega (arith, plain_length))

    plain_dropped : out_tail p z ok sel (pairs xs) ≡ []
    plain_dropped = rw (drop_of_length-le (pairs xs) {i = record_length p.input} (omega (arith, plain_length))) (nothing_carried p.carries)

    pub plain_converts : converts p (pairs xs) ≡ true
    plain_converts =
        made_converts p z ok sel xs g (pairs xs) plain_first plain_dropped (pairs_small (permitted_half p z ok sel xs g)) (rw plain_length (holds_least (shape_of p ok sel)))

    plain_output : out_record p (pairs xs) ≡ pairs (out_first p z ok sel xs)
    plain_output = made_output p z ok sel xs g (pairs xs) plain_first plain_dropped

  -- where a half is missing there are twins at it: all halves have their lowest values, and in one record that half has the value above
  pub twins : (i : ℕ) → i < input_halves p → missing (allowed p) (sources_of p) i ≡ true
      → (t : TwinsAt p i) × (t.r ≡ pairs (lowests (allowed p) (input_halves p))) × (t.s ≡ pairs (raiseds (allowed p) (input_halves p) i))
  twins i l e =
      let xs = lowests (allowed p) (input_halves p) in
      let ys = raiseds (allowed p) (input_halves p) i in
      let w = lost_pair (allowed p) (input_halves p) ok.some (sources_of p) i l e in
      let outs = out_values p z ok sel _ w.of_xs.size ∙ w.outputs ∙ sym (out_values p z ok sel _ w.of_ys.size) in (
        record {
          r = pairs xs;
          s = pairs ys;
          r_converts = plain_converts xs w.of_xs;
          s_converts = plain_converts ys w.of_ys;
          lengths = plain_length xs w.of_xs ∙ sym (plain_length ys w.of_ys);
          differ = rw (plain_halves xs w.of_xs, plain_halves ys w.of_ys) w.apart;
          alone = rw (plain_halves xs w.of_xs, plain_halves ys w.of_ys) w.alike;
          outputs = plain_output xs w.of_xs ∙ ap pairs outs ∙ sym (plain_output ys w.of_ys);
        },
        refl,
        refl,
      )

  -- where the tail is not kept, a record without a tail and the same record with a tail of one byte have one output record
  pub tail_twins : tail_kept p ≡ false → (t : TailTwins p) × (t.r ≡ pairs (lowests (allowed p) (input_halves p))) × (t.s ≡ t.r ++ (0 ∷ []))
  unfolding tail_kept
  tail_twins k = go (is_fv p.format) refl p.carries refl (eqb (block_length p.input) (record_length p.input + 8)) refl
    where
      go : (v : Bool) → is_fv p.format ≡ v → (c : Bool) → p.carries ≡ c → (t : Bool) → eqb (block_length p.input) (record_length p.input + 8) ≡ t
          → (t : TailTwins p) × (t.r ≡ pairs (lowests (allowed p) (input_halves p))) × (t.s ≡ t.r ++ (0 ∷ []))
      go false v c ec t et = absurd (true≢false (rw v at k))
      go true v true ec t et = absurd (true≢false (rw (v, ec) at k))
      go true v false ec true et = absurd (true≢false (rw (v, ec, et) at k))
      go true v false ec false et =
          let xs = lowests (allowed p) (input_halves p) in
          let g = lowest_halves (allowed p) (input_halves p) ok.some in
          let n = record_length p.input in
          let plain = pairs xs in
          let more = plain ++ (0 ∷ []) in
          let long : length plain ≡ n = plain_length xs g in
          let first : take n more ≡ plain = take_at plain (0 ∷ []) n long in
          let dropped : out_tail p z ok sel more ≡ [] = ap (λ (c : Bool). cond {A = List ℕ} c (drop n more) []) ec in
          let longer : length more ≡ n + 1 = omega (arith, length-append plain (0 ∷ []), long) in
          let held : may_hold p.format p.input (length more) ≡ true = rw longer (holds_more (shape_of p ok sel) v (eqb-false _ _ et)) in (
            record {
              r = plain;
              s = more;
              r_converts = plain_converts xs g;
              s_converts = made_converts p z ok sel xs g more first dropped (all_append (pairs_small (permitted_half p z ok sel xs g)) (also {x = 0} (omega arith) no_more)) held;
              differ = λ same. let e : length plain ≡ length more = ap length same in omega arith;
              alone = plain_first xs g ∙ sym first;
              outputs = plain_output xs g ∙ sym (made_output p z ok sel xs g more first dropped);
            },
            refl,
            refl,
          )

-- ---- the lost place, and the two records that show it

-- the two records are twins at the lost half, below which there are none; or at the tail
pub data LostPair (p : Plan) : Type 0 where
  at_half : lost_at p < input_halves p → ((j : ℕ) → j < lost_at p → TwinsAt p j → ⊥) → (t : TwinsAt p (lost_at p)) → t.r ≡ first_twin p → t.s ≡ second_twin p → LostPair p
  at_tail : lost_at p ≡ input_halves p → ((j : ℕ) → j < input_halves p → TwinsAt p j → ⊥) → (t : TailTwins p) → t.r ≡ first_twin p → t.s ≡ second_twin p → LostPair p

-- no half is raised for the tail
pub second_tail : (p : Plan) → lost_at p ≡ input_halves p → second_twin p ≡ first_twin p ++ (0 ∷ [])
unfolding first_twin second_twin raised
second_tail p e =
    let same : listed (raised (allowed p) (lost_at p)) 0 (input_halves p) ≡ listed (lowest (allowed p)) 0 (input_halves p) =
    listed_same _ _ 0 (input_halves p) (λ j a b. rw (ne_eqb j (lost_at p) (λ d. omega arith))) in
    rw (same, eq-eqb _ _ e)

pub second_half : (p : Plan) → lost_at p < input_halves p → second_twin p ≡ pairs (raiseds (allowed p) (input_halves p) (lost_at p))
unfolding second_twin
second_half p l = rw (ne_eqb (lost_at p) (input_halves p) (λ e. omega arith)) (append-nil _)

pub lost_twins : (p : Plan) → p.zone < 16 → Accepted p → keeps p ≡ false → LostPair p
unfolding keeps first_twin
lost_twins p z ok k = go (selects p.mode) refl (eqb (lost_at p) (input_halves p)) refl (lost_most p)
  where
    go : (t : Bool) → selects p.mode ≡ t → (q : Bool) → eqb (lost_at p) (input_halves p) ≡ q → lost_at p ≤ input_halves p → LostPair p
    go false t q d m = absurd (true≢false (rw t at k))
    go true t true d m =
        let same = eqb-true (lost_at p) (input_halves p) d in
        let w = tail_twins p z ok t (rw (t, d) at k) in
        at_tail same (λ j l. no_twins p z ok t j l (lost_lowest p j (omega arith))) w.0 w.1 (w.2 ∙ ap (λ (r : List ℕ). r ++ (0 ∷ [])) w.1 ∙ sym (second_tail p same))
    go true t false d m =
        let l : lost_at p < input_halves p = let apart = eqb-false (lost_at p) (input_halves p) d in omega arith in
        let w = twins p z ok t (lost_at p) l (lost_missing p l) in
        at_half l (λ j h. no_twins p z ok t j (omega arith) (lost_lowest p j h)) w.0 w.1 (w.2 ∙ sym (second_half p l))

pub lost_place : (p : Plan) → p.zone < 16 → Accepted p → keeps p ≡ false → LostPlace p (lost_at p)
lost_place p z ok k = go (lost_twins p z ok k)
  where
    go : LostPair p → LostPlace p (lost_at p)
    go (at_half l none t r s) = inl (l, t, none)
    go (at_tail e none t r s) = inr (e, none, t)
