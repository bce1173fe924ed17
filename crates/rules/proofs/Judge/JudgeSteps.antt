-- Judging step by step, as code goes: each refusal is that of the first step that refuses, and where none does the number is that of the first record apart. By the
-- definitions.
use mathlib.Core.Path.{◌≡◌, refl, ap, sym, ◌∙◌}
use mathlib.Core.Bool.{Bool, true, false, not, false≢true}
use mathlib.Core.List.{List, map}
use mathlib.Core.Option.{none}
use Prim.Native.Nat.{ℕ, ◌-◌, ◌<◌, min}
use native.Mathlib.Omega.{arith}
use lib.Dec.{leb}
use lib.ListN.{length, drop, drop_of_length-le}
use borrow.Author.Tests.{leb-true, leb-false, not-true, not-false}
use Rattle.rules.specs.Base.{joined}
use Rattle.rules.specs.Answer.{Refusal, Answer, fine, refuse, refused, ◌>>=◌, ◌>>◌, unless}
use Rattle.rules.specs.Reel.{is_reel, blocks_of}
use Rattle.rules.specs.Plan.{Plan, is_fs, block_length, plan_of}
use Rattle.rules.specs.Blocks.{records_from, taken_from}
use Rattle.rules.specs.Output.{out_record}
use Rattle.rules.specs.Spanned.{spanned_from}
use Rattle.rules.specs.Run.{out_blocks, convert, conversion, outputs}
use Rattle.rules.specs.Asked.{Asked, asked_of}
use Rattle.rules.specs.Judge.{is_filling, plan_to_judge, blocks_read, records_read, our_records, under_b, their_records, agrees, first_apart, judgement, judge_of}
use Rattle.rules.proofs.Base.Lists.{map_joined}
use Rattle.rules.proofs.Refusals.AnswerLaws.{refuse_same, fine_same, bind_fine}
use Rattle.rules.proofs.Refusals.RunColumns.{Refuses}
use Rattle.rules.proofs.Runs.RunParts.{gathered, blocked_records}
use Rattle.rules.proofs.Judge.JudgeRead.{in_fs, in_others, ours_refused, ours_reach, ours_plain}

-- ---- the records of a reel

module _ (q : Plan) (s : List ℕ) where
  read_no_reel : is_reel s ≡ false → records_read q s ≡ refused 11 0
  unfolding records_read unless ◌>>◌
  read_no_reel e = rw e

  read_bad : (r : Refusal) → is_reel s ≡ true → blocks_read q (blocks_of s) ≡ refuse r → records_read q s ≡ refuse r
  unfolding records_read unless ◌>>◌ ◌>>=◌
  read_bad r e d = rw (e, d)

  read_good : (recs : List (List (List ℕ))) → is_reel s ≡ true → blocks_read q (blocks_of s) ≡ fine recs → records_read q s ≡ fine (joined recs)
  unfolding records_read unless ◌>>◌ ◌>>=◌
  read_good recs e d = rw (e, d)

  pub blocks_spanned : is_fs q.format ≡ true → blocks_read q (blocks_of s) ≡ spanned_from (block_length q.input) 1 none (blocks_of s)
  unfolding blocks_read
  blocks_spanned t = rw t

  pub blocks_plain : is_fs q.format ≡ false → blocks_read q (blocks_of s) ≡ records_from q 1 (blocks_of s)
  unfolding blocks_read
  blocks_plain t = rw t

-- ---- the verdict

module _ (p : Plan) (ours theirs : List ℕ) where
  -- 11 to 14
  pub judged_ours : (r : Refusal) → our_records p ours ≡ refuse r → judgement p ours theirs ≡ refuse r
  unfolding judgement ◌>>=◌
  judged_ours r e = rw e

  module _ (outs : List (List ℕ)) (o : our_records p ours ≡ fine outs) where
    -- 17
    pub judged_no_reel : is_reel theirs ≡ false → judgement p ours theirs ≡ refused 17 0
    unfolding judgement their_records ◌>>=◌
    judged_no_reel e = rw (o, read_no_reel (under_b p) theirs e)

    -- 18
    pub judged_bad : (i : ℕ) → is_reel theirs ≡ true → blocks_read (under_b p) (blocks_of theirs) ≡ refused 12 i → judgement p ours theirs ≡ refused 18 i
    unfolding judgement their_records ◌>>=◌
    judged_bad i e d = rw (o, read_bad (under_b p) theirs _ e d)

    pub judged_told : (recs : List (List (List ℕ))) → is_reel theirs ≡ true → blocks_read (under_b p) (blocks_of theirs) ≡ fine recs
        → judgement p ours theirs ≡ fine (first_apart (agrees p) 1 outs (joined recs))
    unfolding judgement their_records ◌>>=◌
    judged_told recs e d = rw (o, read_good (under_b p) theirs recs e d)

-- ---- ours, in FS

-- all but the first k, or none
pub drop_few : (k n : ℕ) (l : List (List ℕ)) → n ≡ length l → drop (min k n) l ≡ drop k l
drop_few k n l e = go (leb k n) refl
  where
    go : (t : Bool) → leb k n ≡ t → drop (min k n) l ≡ drop k l
    go true t = let h = leb-true k n t in ap (λ (i : ℕ). drop i l) (let z : min k n ≡ k = omega arith in z)
    go false t =
        let h = leb-false k n t in
        ap (λ (i : ℕ). drop i l) (let z : min k n ≡ n = omega arith in z) ∙ drop_of_length-le l {i = n} (omega arith) ∙ sym (drop_of_length-le l {i = k} (omega arith))

module _ (p : Plan) (s : List ℕ) (t : is_fs p.format ≡ true) where
  pub spanned_no_reel : is_reel s ≡ false → our_records p s ≡ refused 11 0
  unfolding ◌>>=◌
  spanned_no_reel e = in_fs p s t ∙ rw (read_no_reel p s e)

  pub spanned_bad : (i : ℕ) → is_reel s ≡ true → spanned_from (block_length p.input) 1 none (blocks_of s) ≡ refused 12 i → our_records p s ≡ refused 12 i
  unfolding ◌>>=◌
  spanned_bad i e d = in_fs p s t ∙ rw (read_bad p s _ e (blocks_spanned p s t ∙ d))

  pub spanned_good : (recs : List (List (List ℕ))) → is_reel s ≡ true → spanned_from (block_length p.input) 1 none (blocks_of s) ≡ fine recs
      → our_records p s ≡ fine (drop (p.first - 1) (joined recs))
  unfolding ◌>>=◌
  spanned_good recs e d = in_fs p s t ∙ rw (read_good p s recs e (blocks_spanned p s t ∙ d))

-- ---- ours, in the other formats: a run with no room tells

module _ (p : Plan) (s : List ℕ) (t : is_fs p.format ≡ false) where
  pub plain_run : convert 0 p s ≡ conversion 0 p s
  unfolding conversion
  plain_run = rw t

  -- refused before 15
  pub run_refused : (r : Refusal) → convert 0 p s ≡ refuse r → (r.number ≡ 15 → ⊥) → (our_records p s ≡ refuse r) × (r.column ≡ 0)
  run_refused r e o = go (our_records p s) refl (ours_plain p s (λ f. f.column ≡ 0) (λ m l h i. refl))
    where
      go : (x : Answer (List (List ℕ))) → our_records p s ≡ x → Refuses (λ f. f.column ≡ 0) x → (our_records p s ≡ refuse r) × (r.column ≡ 0)
      go (fine outs) d w =
          let k = ours_reach p s outs d in
          absurd (o (ap (λ (f : Refusal). f.number) (refuse_same r _ (sym e ∙ plain_run ∙ k.1))))
      go (refuse f) d w =
          let same : f ≡ r = refuse_same f r (sym (ours_refused p s f d) ∙ sym plain_run ∙ e) in
          (d ∙ ap refuse same, ap (λ (f : Refusal). f.column) (sym same) ∙ w)

  -- refused with 15: the records are those of the reel
  pub run_reaches : (r : Refusal) → convert 0 p s ≡ refuse r → r.number ≡ 15
      → (recs : List (List (List ℕ))) × (is_reel s ≡ true) × (records_from p 1 (blocks_of s) ≡ fine recs) × (our_records p s ≡ fine (map (out_record p) (joined (taken_from p.first recs))))
  run_reaches r e n = go (our_records p s) refl (ours_plain p s (λ f. f.number < 15) (λ m l h i. h))
    where
      go : (x : Answer (List (List ℕ))) → our_records p s ≡ x → Refuses (λ f. f.number < 15) x
          → (recs : List (List (List ℕ))) × (is_reel s ≡ true) × (records_from p 1 (blocks_of s) ≡ fine recs) × (our_records p s ≡ fine (map (out_record p) (joined (taken_from p.first recs))))
      go (refuse f) d w =
          let same : f ≡ r = refuse_same f r (sym (ours_refused p s f d) ∙ sym plain_run ∙ e) in
          absurd (let z = ap (λ (f : Refusal). f.number) same in omega (arith, w, n))
      go (fine outs) d w =
          let s1 = bind_fine (out_blocks p s) (λ bs. fine (joined bs)) outs (sym (in_others p s t) ∙ d) in
          let g = gathered p s s1.0 s1.1 in
          let is : outs ≡ map (out_record p) (joined (taken_from p.first g.recs))
          = sym (fine_same _ outs s1.2) ∙ ap joined (sym g.is) ∙ blocked_records p.mode p (outputs p g.recs) ∙ sym (map_joined (out_record p) (taken_from p.first g.recs)) in
          (g.recs, g.reel, g.reads, d ∙ ap fine is)

-- ---- the deck

-- TC or TF is asked for
abbrev pub copies_blocks : Answer Asked → Bool
copies_blocks (fine a) = not (is_filling a.utility.mode)
copies_blocks (refuse r) = false

module _ (zone : ℕ) (deck ours theirs : List ℕ) where
  pub deck_copies : copies_blocks (asked_of deck) ≡ true → judge_of zone deck ours theirs ≡ refused 8 1
  unfolding judge_of plan_to_judge ◌>>=◌ ◌>>◌ unless
  deck_copies e = go (asked_of deck) refl
    where
      go : (x : Answer Asked) → asked_of deck ≡ x → judge_of zone deck ours theirs ≡ refused 8 1
      go (fine a) d = rw (d, not-true (is_filling a.utility.mode) (let z : not (is_filling a.utility.mode) ≡ true = rw d at e in z)) refl
      go (refuse r) d = absurd (false≢true (let z : false ≡ true = rw d at e in z))

  pub deck_fills : copies_blocks (asked_of deck) ≡ false → judge_of zone deck ours theirs ≡ (plan_of zone deck >>= λ p. judgement p ours theirs)
  unfolding judge_of plan_to_judge plan_of ◌>>=◌ ◌>>◌ unless
  deck_fills e = go (asked_of deck) refl
    where
      go : (x : Answer Asked) → asked_of deck ≡ x → judge_of zone deck ours theirs ≡ (plan_of zone deck >>= λ p. judgement p ours theirs)
      go (fine a) d = rw (d, not-false (is_filling a.utility.mode) (let z : not (is_filling a.utility.mode) ≡ false = rw d at e in z)) refl
      go (refuse r) d = rw d refl
