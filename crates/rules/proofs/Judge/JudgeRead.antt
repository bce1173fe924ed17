-- What is read of two reels to judge one by the other, in words: their records are those of good blocks under B, ours are the output records of those taken, and what a
-- run with no room finds wrong with ours is what is refused, up to 15. By the parts of a run, in FS and in the other formats.
use mathlib.Core.Path.{◌≡◌, refl, ap, sym, ◌∙◌, subst}
use mathlib.Core.Logic.{◌⊎◌, inl, inr}
use mathlib.Core.Bool.{Bool, true, false, cond, true≢false}
use mathlib.Core.List.{List, [], ◌∷◌, map}
use mathlib.Core.Option.{none}
use Prim.Native.Nat.{ℕ, ◌-◌, ◌≤◌, ◌<◌}
use native.Mathlib.Omega.{arith}
use lib.ListN.{length, drop}
use borrow.Author.Tests.{lt-leb}
use Rattle.rules.specs.Base.{joined}
use Rattle.rules.specs.Answer.{Refusal, Answer, fine, refuse, refused, ◌>>=◌, ◌>>◌, unless}
use Rattle.rules.specs.Places.{All, Both, none_left, both, Byte}
use Rattle.rules.specs.Grammar.{Mode, tc, tf, tr, trf}
use Rattle.rules.specs.Reel.{is_reel, blocks_of, reel_of}
use Rattle.rules.specs.Plan.{Plan, is_tc, is_fs, selects, block_length}
use Rattle.rules.specs.Blocks.{records_in, records_from}
use Rattle.rules.specs.Output.{block_of}
use Rattle.rules.specs.Spanned.{spanned_from, BadSpan}
use Rattle.rules.specs.Run.{RunOutput, out_blocks, ran_of, housed, convert, spanned_out, spanned_ran, spanned_run, conversion}
use Rattle.rules.specs.RunRows.{BadBlock, BadIn}
use Rattle.rules.specs.InWords.{OutputOf}
use Rattle.rules.specs.Taken.{Records, of_blocks, of_spans, Takes}
use Rattle.rules.specs.Accepted.{Accepted}
use Rattle.rules.specs.Judge.{is_filling, blocks_read, records_read, our_records}
use Rattle.rules.proofs.Refusals.AnswerLaws.{not_fine, fine_same, refuse_same, bind_fine, fine_bind, then_fine, fine_then, unless_fine, fine_unless}
use Rattle.rules.proofs.Reel.ReelLaws.{length_reel, all_blocks, reel_of_lem}
use Rattle.rules.proofs.Refusals.Given.{Outcome, outcome_same}
use Rattle.rules.proofs.Refusals.BlocksOutcome.{blocks_outcome, reads_give}
use Rattle.rules.proofs.Runs.RunParts.{gives_read, Gathered, gathered}
use Rattle.rules.proofs.Refusals.RunColumns.{Refuses, Plainly, refuses_bind, refuses_then, refuses_unless, refuses_reads, refuses_spans, refuses_outs}
use Rattle.rules.proofs.Output.OutBlockWords.{holds_whole, blocks_told}
use Rattle.rules.proofs.Spanned.SpannedRead.{spans_exactly}
use Rattle.rules.proofs.Spanned.SpannedOutcome.{spans_outcome}
use Rattle.rules.proofs.Spanned.SpannedDeck.{gives_read as span_read}
use Rattle.rules.proofs.Spanned.SpannedOut.{most_a, not_selects}

-- ---- the records of a reel

module _ (q : Plan) (ok : Accepted q) where
  high : is_fs q.format ≡ true → block_length q.input < 65536
  high t = omega (arith, most_a q ok t)

  -- the first block that breaks its rule is found
  pub blocks_read_lem : {bs : List (List ℕ)} → All (All Byte) bs → Outcome 12 (BadIn q bs) (blocks_read q bs)
  unfolding blocks_read
  blocks_read_lem {bs} a = go (is_fs q.format) refl
    where
      g : ℕ
      g = block_length q.input

      at : (t : Bool) → is_fs q.format ≡ t → Outcome 12 (BadIn q bs) (cond t (spanned_from g 1 none bs) (records_from q 1 bs)) → Outcome 12 (BadIn q bs) (blocks_read q bs)
      at t e o = subst (λ (z : Bool). Outcome 12 (BadIn q bs) (cond z (spanned_from g 1 none bs) (records_from q 1 bs))) (sym e) o

      go : (t : Bool) → is_fs q.format ≡ t → Outcome 12 (BadIn q bs) (blocks_read q bs)
      go true t = at true t (outcome_same 12 _ _ (spanned_from g 1 none bs) (λ p f. inr (t, f)) (λ p f. in_segments p f) (spans_outcome g (high t) a))
        where
          in_segments : (p : ℕ) → BadIn q bs p → BadSpan g bs p
          in_segments p (inl x) = absurd (true≢false (sym t ∙ x.0))
          in_segments p (inr x) = x.1
      go false t = at false t (outcome_same 12 _ _ (records_from q 1 bs) (λ p f. inl (t, f)) (λ p f. in_blocks p f) (blocks_outcome q ok a))
        where
          in_blocks : (p : ℕ) → BadIn q bs p → BadBlock q bs p
          in_blocks p (inl x) = x.1
          in_blocks p (inr x) = absurd (true≢false (sym x.0 ∙ t))

  -- what is read are the records
  pub read_records : (s : List ℕ) → All Byte s → (rs : List (List ℕ)) → records_read q s ≡ fine rs → Records q s rs
  unfolding records_read blocks_read
  read_records s a rs e =
      let s1 = then_fine (unless (is_reel s) 11 0) _ rs e in
      let s2 = bind_fine (blocks_read q (blocks_of s)) _ rs s1.1 in
      subst (Records q s) (fine_same _ rs s2.2) (go (unless_fine (is_reel s) 11 0 s1.0) s2.0 (is_fs q.format) refl s2.1)
    where
      go : is_reel s ≡ true → (recs : List (List (List ℕ))) (t : Bool) → is_fs q.format ≡ t → blocks_read q (blocks_of s) ≡ fine recs → Records q s (joined recs)
      go reel recs true t d =
          of_spans t (blocks_of s, reel_of_lem s a reel, (spans_exactly (block_length q.input) (high t) (all_blocks s a) (joined recs)).0 (recs, rw t at d, refl))
      go reel recs false t d = of_blocks t (reads_give q ok s a reel recs (rw t at d))

  -- and the records are read
  pub records_read_lem : (s : List ℕ) (rs : List (List ℕ)) → Records q s rs → records_read q s ≡ fine rs
  unfolding records_read blocks_read
  records_read_lem s rs (of_blocks {blocks = recs} t g) =
      let r = gives_read q ok s recs g in
      fine_then (unless (is_reel s) 11 0) _ (fine_unless (is_reel s) 11 0 r.0) ∙ fine_bind (blocks_read q (blocks_of s)) _ recs (rw t r.1)
  records_read_lem s rs (of_spans t g) =
      let r = span_read (block_length q.input) (high t) s rs g in
      fine_then (unless (is_reel s) 11 0) _ (fine_unless (is_reel s) 11 0 r.0) ∙ fine_bind (blocks_read q (blocks_of s)) _ r.1 (rw t r.2) ∙ ap fine r.3

-- a refusal of it is 11 or 12, and has no column
pub read_plain : (P : Refusal → Type 0) (q : Plan) (s : List ℕ) → Plainly P 11 → Plainly P 12 → Refuses P (records_read q s)
unfolding records_read blocks_read
read_plain P q s z11 z12 =
    refuses_then P (unless (is_reel s) 11 0) _ (refuses_unless P (is_reel s) 11 0 z11) (λ e1. refuses_bind P (blocks_read q (blocks_of s)) _ (go (is_fs q.format) refl) (λ recs e2. tt))
  where
    go : (t : Bool) → is_fs q.format ≡ t → Refuses P (blocks_read q (blocks_of s))
    go true t = rw t (refuses_spans P (block_length q.input) 1 none (blocks_of s) z12)
    go false t = rw t (refuses_reads P 12 (records_in q) 1 (blocks_of s) z12)

-- ---- our records

pub fills_by : (m : Mode) → is_filling m ≡ true → (m ≡ tr) ⊎ (m ≡ trf)
fills_by tc e = absurd (true≢false (sym e))
fills_by tf e = absurd (true≢false (sym e))
fills_by tr e = inl refl
fills_by trf e = inr refl

module _ (p : Plan) (ok : Accepted p) where
  -- TR carries records unchanged
  carried : selects p.mode ≡ false → (rs : List (List ℕ)) → Both (OutputOf p) rs rs
  carried t [] = none_left
  carried t (r ∷ rs) = both (record { selected = λ e. absurd (true≢false (sym e ∙ t)); unchanged = λ e. refl }) (carried t rs)

  -- they are the output records of those taken
  pub record OursAre (s : List ℕ) (outs : List (List ℕ)) : Type 0 where
    pub taken : List (List ℕ)
    pub takes : Takes p s taken
    pub outputs : Both (OutputOf p) taken outs

  pub ours_are : p.zone < 16 → is_filling p.mode ≡ true → (s : List ℕ) → All Byte s → (outs : List (List ℕ)) → our_records p s ≡ fine outs → OursAre s outs
  unfolding our_records
  ours_are z fill s a outs e = go (is_fs p.format) refl
    where
      others : is_fs p.format ≡ false → (bs : List (List (List ℕ))) → joined bs ≡ outs → Gathered p s bs → OursAre s outs
      others t bs is w =
          let g = reads_give p ok s a w.reel w.recs w.reads in
          let told = blocks_told p z ok w.recs (holds_whole p ok (all_blocks s a) g.2) w.fit in
          record {
            taken = drop (p.first - 1) (joined w.recs);
            takes = record { records = joined w.recs; gives = of_blocks t g; from_r = refl };
            outputs = subst (Both (OutputOf p) (drop (p.first - 1) (joined w.recs))) (ap joined w.is ∙ is) (told.tr_records (fills_by p.mode fill));
          }

      go : (t : Bool) → is_fs p.format ≡ t → OursAre s outs
      go true t =
          let d : (records_read p s >>= λ rs. fine (drop (p.first - 1) rs)) ≡ fine outs = rw t at e in
          let s1 = bind_fine (records_read p s) (λ rs. fine (drop (p.first - 1) rs)) outs d in
          let is : drop (p.first - 1) s1.0 ≡ outs = fine_same _ outs s1.2 in
          record {
            taken = drop (p.first - 1) s1.0;
            takes = record { records = s1.0; gives = read_records p ok s a s1.0 s1.1; from_r = refl };
            outputs = subst (Both (OutputOf p) (drop (p.first - 1) s1.0)) is (carried (not_selects p ok t) (drop (p.first - 1) s1.0));
          }
      go false t =
          let d : (out_blocks p s >>= λ bs. fine (joined bs)) ≡ fine outs = rw t at e in
          let s1 = bind_fine (out_blocks p s) (λ bs. fine (joined bs)) outs d in
          others t s1.0 (fine_same _ outs s1.2) (gathered p s s1.0 s1.1)

-- ---- a run with no room

fine_again : {A : Type 0} (x : Answer A) → (x >>= λ a. fine a) ≡ x
unfolding ◌>>=◌
fine_again (fine a) = refl
fine_again (refuse r) = refl

module _ {A B C : Type 0} where
  -- what is made of an answer is refused where the answer is
  made_refused : (x : Answer A) (f : A → B) (g : A → Answer C) (r : Refusal) → (x >>= λ a. fine (f a)) ≡ refuse r → (x >>= g) ≡ refuse r
  unfolding ◌>>=◌
  made_refused (fine a) f g r e = absurd (not_fine r (f a) (sym e))
  made_refused (refuse q) f g r e = ap refuse (refuse_same q r e)

  -- and behind a test
  tested_refused : (t : Answer Unit) (x : Answer A) (f : A → B) (g : A → Answer C) (r : Refusal) → (t >> (x >>= λ a. fine (f a))) ≡ refuse r → (t >> (x >>= g)) ≡ refuse r
  unfolding ◌>>◌
  tested_refused (fine u) x f g r e = made_refused x f g r e
  tested_refused (refuse q) x f g r e = ap refuse (refuse_same q r e)

  tested_fine : (t : Answer Unit) (x : Answer A) (f : A → B) (g : A → Answer C) (b : B) → (t >> (x >>= λ a. fine (f a))) ≡ fine b → (a : A) × ((t >> (x >>= g)) ≡ g a)
  tested_fine t x f g b e =
      let s1 = then_fine t (x >>= λ a. fine (f a)) b e in
      let s2 = bind_fine x (λ a. fine (f a)) b s1.1 in
      (s2.0, fine_then t (x >>= g) s1.0 ∙ fine_bind x g s2.0 s2.1)

-- every reel has a header, for which there is no room
housed_none : (x : RunOutput) (bs : List (List ℕ)) → x.reel ≡ reel_of bs → housed 0 x ≡ refused 15 (length x.reel)
unfolding housed unless ◌>>◌
housed_none x bs e = rw (lt-leb (length x.reel) 0 (omega (arith, ap length e, length_reel bs)))

module _ (p : Plan) (s : List ℕ) where
  abbrev copies : Bool
  copies = is_tc p.mode

  abbrev spans : List (List ℕ) → List (List ℕ)
  spans rs = spanned_out copies (block_length p.output) (blocks_of s) (drop (p.first - 1) rs)

  abbrev spanned_records : Answer (List (List ℕ))
  spanned_records = unless (is_reel s) 11 0 >> (spanned_from (block_length p.input) 1 none (blocks_of s) >>= λ recs. fine (joined recs))

  -- in FS, and in the other formats
  pub in_fs : is_fs p.format ≡ true → our_records p s ≡ (records_read p s >>= λ rs. fine (drop (p.first - 1) rs))
  unfolding our_records
  in_fs t = rw t

  read_fs : is_fs p.format ≡ true → records_read p s ≡ spanned_records
  unfolding records_read blocks_read
  read_fs t = rw t

  run_fs : is_fs p.format ≡ true → conversion 0 p s ≡ spanned_run copies (block_length p.input) (block_length p.output) p.first 0 s
  unfolding conversion
  run_fs t = rw t

  pub in_others : is_fs p.format ≡ false → our_records p s ≡ (out_blocks p s >>= λ bs. fine (joined bs))
  unfolding our_records
  in_others t = rw t

  run_others : is_fs p.format ≡ false → conversion 0 p s ≡ (out_blocks p s >>= λ bs. housed 0 (ran_of p bs))
  unfolding conversion convert
  run_others t = rw t

  -- with no room a run goes as far as 15: what it refuses before is what is refused of ours
  pub ours_refused : (r : Refusal) → our_records p s ≡ refuse r → conversion 0 p s ≡ refuse r
  unfolding spanned_run
  ours_refused r e = go (is_fs p.format) refl
    where
      go : (t : Bool) → is_fs p.format ≡ t → conversion 0 p s ≡ refuse r
      go true t =
          let k = sym (fine_again (records_read p s)) ∙ made_refused (records_read p s) (drop (p.first - 1)) (λ rs. fine rs) r (sym (in_fs t) ∙ e) in
          run_fs t ∙ tested_refused (unless (is_reel s) 11 0) (spanned_from (block_length p.input) 1 none (blocks_of s)) joined _ r (sym (read_fs t) ∙ k)
      go false t = run_others t ∙ made_refused (out_blocks p s) joined (λ bs. housed 0 (ran_of p bs)) r (sym (in_others t) ∙ e)

  pub ours_reach : (outs : List (List ℕ)) → our_records p s ≡ fine outs → (l : ℕ) × (conversion 0 p s ≡ refused 15 l)
  unfolding spanned_run ran_of
  ours_reach outs e = go (is_fs p.format) refl
    where
      go : (t : Bool) → is_fs p.format ≡ t → (l : ℕ) × (conversion 0 p s ≡ refused 15 l)
      go true t =
          let s1 = bind_fine (records_read p s) (λ rs. fine (drop (p.first - 1) rs)) outs (sym (in_fs t) ∙ e) in
          let w = tested_fine (unless (is_reel s) 11 0) (spanned_from (block_length p.input) 1 none (blocks_of s)) joined (λ recs. housed 0 (spanned_ran (spans (joined recs)) (drop (p.first - 1) (joined recs)))) s1.0 (sym (read_fs t) ∙ s1.1) in
          let x = spanned_ran (spans (joined w.0)) (drop (p.first - 1) (joined w.0)) in
          (length x.reel, run_fs t ∙ w.1 ∙ housed_none x (spans (joined w.0)) refl)
      go false t =
          let s1 = bind_fine (out_blocks p s) (λ bs. fine (joined bs)) outs (sym (in_others t) ∙ e) in
          let x = ran_of p s1.0 in
          (length x.reel, run_others t ∙ fine_bind (out_blocks p s) (λ bs. housed 0 (ran_of p bs)) s1.0 s1.1 ∙ housed_none x (map (block_of p.format) s1.0) refl)

  -- no number is higher than 14, and none has a column
  pub ours_plain : (P : Refusal → Type 0) → ((m : ℕ) → 11 ≤ m → m < 15 → Plainly P m) → Refuses P (our_records p s)
  ours_plain P z = go (is_fs p.format) refl
    where
      go : (t : Bool) → is_fs p.format ≡ t → Refuses P (our_records p s)
      go true t =
          subst (Refuses P) (sym (in_fs t))
          (refuses_bind P (records_read p s) (λ rs. fine (drop (p.first - 1) rs)) (read_plain P p s (z 11 (omega arith) (omega arith)) (z 12 (omega arith) (omega arith))) (λ rs d. tt))
      go false t = subst (Refuses P) (sym (in_others t)) (refuses_bind P (out_blocks p s) (λ bs. fine (joined bs)) (refuses_outs P 0 p s z) (λ bs d. tt))
