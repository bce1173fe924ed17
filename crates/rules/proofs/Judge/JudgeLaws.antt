-- What a caller of the judge is told, and what follows: our own output is judged true, how foreign records are cut does not matter, and where every position is written a
-- true reel holds just our records. A deck and two reels give one list of records each, so that the words speak of what was compared.
use mathlib.Core.Path.{◌≡◌, refl, ap, sym, ◌∙◌, subst}
use mathlib.Core.Logic.{◌⊎◌, inl, inr}
use mathlib.Core.Bool.{Bool, true, false, true≢false, false≢true}
use mathlib.Core.List.{List}
use Prim.Native.Nat.{ℕ, ◌-◌, ◌≤◌, ◌<◌}
use native.Mathlib.Omega.{arith}
use lib.Dec.{ltb, eqb}
use lib.ListN.{drop}
use borrow.Author.Tests.{ltb-true, ltb-false, eqb-true, eqb-false}
use Rattle.rules.specs.Base.{joined}
use Rattle.rules.specs.Answer.{Answer, fine, refuse, refusal_of, place_of, column_of, ◌>>=◌}
use Rattle.rules.specs.Places.{All, Both, Byte}
use Rattle.rules.specs.Grammar.{Mode, tc, tf, tr, trf}
use Rattle.rules.specs.Plan.{Plan, plan_of, is_tc, is_fs, block_length}
use Rattle.rules.specs.Run.{RunOutput, out_blocks, ran_of, housed, convert, run_of, output_blocks}
use Rattle.rules.specs.Rows.{Done}
use Rattle.rules.specs.ColumnRows.{Answered}
use Rattle.rules.specs.InWords.{OutputOf}
use Rattle.rules.specs.Taken.{Records, of_blocks, of_spans, Takes}
use Rattle.rules.specs.Accepted.{Accepted}
use Rattle.rules.specs.Lent.{zone_f}
use Rattle.rules.specs.Judge.{is_filling, plan_to_judge, under_b, foreign, records_read, our_records, their_records, agrees, first_apart, judgement, judge_of, judge, JudgeAnswer, judge_answer}
use Rattle.rules.specs.JudgeWords.{Compares, Stands, AgreeAt, True, FirstApart, RowJudge, JudgeSays, Judging}
use Rattle.rules.proofs.Refusals.AnswerLaws.{not_fine, fine_same, bind_fine, fine_bind}
use Rattle.rules.proofs.Base.AllLaws.{all_drop, all_joined, all_imply}
use Rattle.rules.proofs.Deck.AcceptedLaws.{accepted, zone_of}
use Rattle.rules.proofs.Reel.ReelLaws.{all_blocks, reel_blocks}
use Rattle.rules.proofs.Refusals.PlanTable.{plan_asks, asks_once}
use Rattle.rules.proofs.Refusals.SaidLaws.{answered}
use Rattle.rules.proofs.Twins.TwinOnce.{answered_once}
use Rattle.rules.proofs.Runs.TakenRecords.{takes_once}
use Rattle.rules.proofs.Halves.OutputWords.{Whole, outputs_once}
use Rattle.rules.proofs.Output.OutBlockWords.{holds_whole}
use Rattle.rules.proofs.Runs.RunParts.{finished, the_run, gathered}
use Rattle.rules.proofs.Runs.ReadBack.{under_b_lem, under_b_accepted, read_back}
use Rattle.rules.proofs.Spanned.SpannedOut.{not_selects}
use Rattle.rules.proofs.Spanned.SpannedDeck.{spans_bytes, done, input_span, back_span}
use Rattle.rules.proofs.Judge.JudgeRead.{records_read_lem, read_records, ours_are, in_fs, in_others}
use Rattle.rules.proofs.Judge.JudgeTable.{foreign_fine, judged_plan, plan_judged, judge_told, judge_columns}
use Rattle.rules.proofs.Judge.JudgeAgree.{agrees_self, same_all, apart_none, apart_first, just_ours}

-- ---- one list of records each

-- a record that is taken is bytes, and with TRF has A's n or more of them
taken_whole : (p : Plan) → Accepted p → (s : List ℕ) → All Byte s → (taken : List (List ℕ)) → Takes p s taken → All (Whole p) taken
taken_whole p ok s a taken t = subst (All (Whole p)) (sym t.from_r) (all_drop (p.first - 1) (of t.gives))
  where
    bytes_only : is_fs p.format ≡ true → {rs : List (List ℕ)} → All (All Byte) rs → All (Whole p) rs
    bytes_only f bs = all_imply (λ r b. record { bytes = b; long = λ e. absurd (true≢false (sym e ∙ not_selects p ok f)) }) bs

    of : {rs : List (List ℕ)} → Records p s rs → All (Whole p) rs
    of (of_blocks o g) = all_joined (holds_whole p ok (subst (All (All Byte)) (reel_blocks s g.0 g.1) (all_blocks s a)) g.2)
    of (of_spans f g) = bytes_only f (spans_bytes (block_length p.input) (subst (All (All Byte)) (reel_blocks s g.0 g.1) (all_blocks s a)) g.2)

-- what was compared
record Verdict (deck ours theirs : List ℕ) (n : ℕ) : Type 0 where
  p : Plan
  planned : plan_of zone_f deck ≡ fine p
  fill : is_filling p.mode ≡ true
  outs : List (List ℕ)
  others : List (List ℕ)
  compares : Compares deck ours theirs p outs others
  is : first_apart (agrees p) 1 outs others ≡ n

module _ (deck ours theirs : List ℕ) (bytes : All Byte ours) (bytes' : All Byte theirs) where
  verdict_of : (n : ℕ) → judge_of zone_f deck ours theirs ≡ fine n → Verdict deck ours theirs n
  unfolding judge_of judgement their_records
  verdict_of n e =
      let s1 = bind_fine (plan_to_judge zone_f deck) _ n e in
      let p = s1.0 in
      let w = judged_plan zone_f deck p s1.1 in
      let s2 = bind_fine (our_records p ours) _ n s1.2 in
      let s3 = bind_fine (their_records p theirs) _ n s2.2 in
      let ok = accepted zone_f deck p w.0 in
      let o = ours_are p ok (rw (zone_of zone_f deck p w.0) (omega arith)) w.1 ours bytes s2.0 s2.1 in
      record {
        p = p;
        planned = w.0;
        fill = w.1;
        outs = s2.0;
        others = s3.0;
        compares = record {
          asks = plan_asks zone_f deck Done p w.0;
          taken = o.taken;
          takes = o.takes;
          outputs = o.outputs;
          records = read_records (under_b p) (under_b_accepted p ok) theirs bytes' s3.0 (foreign_fine _ s3.0 s3.1);
        };
        is = fine_same _ n s3.2;
      }

  module _ (n : ℕ) (v : Verdict deck ours theirs n) where
    ok : Accepted v.p
    ok = accepted zone_f deck v.p v.planned

    -- whatever else is compared by the deck is the same
    same_plan : {p : Plan} {outs others : List (List ℕ)} → Compares deck ours theirs p outs others → p ≡ v.p
    same_plan {p} c = asks_once zone_f deck Done v.p p v.planned c.asks

    same_outs : {outs others : List (List ℕ)} → Compares deck ours theirs v.p outs others → outs ≡ v.outs
    same_outs {outs} c =
        let z : v.p.zone < 16 = rw (zone_of zone_f deck v.p v.planned) (omega arith) in
        let t = v.compares.takes in
        let o = subst (λ (rs : List (List ℕ)). Both (OutputOf v.p) rs outs) (takes_once v.p ok ours c.taken v.compares.taken c.takes t) c.outputs in
        let w = taken_whole v.p ok ours bytes v.compares.taken t in
        outputs_once v.p z ok w o ∙ sym (outputs_once v.p z ok w v.compares.outputs)

    same_others : {outs others : List (List ℕ)} → Compares deck ours theirs v.p outs others → others ≡ v.others
    same_others {others = others} c =
        let ok' = under_b_accepted v.p ok in
        fine_same others v.others (sym (records_read_lem (under_b v.p) ok' theirs others c.records) ∙ records_read_lem (under_b v.p) ok' theirs v.others v.compares.records)

    -- a true conversion has the number 0
    true_0 : True deck ours theirs → n ≡ 0
    true_0 t =
        let c : Compares deck ours theirs v.p t.outs t.others × ((n : ℕ) → Stands t.outs t.others n → AgreeAt v.p t.outs t.others n)
        = subst (λ (q : Plan). Compares deck ours theirs q t.outs t.others × ((n : ℕ) → Stands t.outs t.others n → AgreeAt q t.outs t.others n)) (same_plan t.compares) (t.compares, t.all) in
        let all
        = subst (λ (xs : List (List ℕ)). (n : ℕ) → Stands xs v.others n → AgreeAt v.p xs v.others n) (same_outs c.0)
        (subst (λ (ys : List (List ℕ)). (n : ℕ) → Stands t.outs ys n → AgreeAt v.p t.outs ys n) (same_others c.0) c.1) in
        sym v.is ∙ (apart_none v.p v.fill v.outs v.others).1 all

    -- and 0 is the number of a true conversion
    zero_true : n ≡ 0 → True deck ours theirs
    zero_true z =
        record { p = v.p; outs = v.outs; others = v.others; compares = v.compares; all = (apart_none v.p v.fill v.outs v.others).0 (v.is ∙ z) }

    first_of : (n ≡ 0 → ⊥) → FirstApart deck ours theirs n
    first_of o =
        let w = apart_first v.p v.fill v.outs v.others (λ z. o (sym v.is ∙ z)) in
        subst (FirstApart deck ours theirs) v.is
        (record { p = v.p; outs = v.outs; others = v.others; compares = v.compares; there = w.0; apart = w.1; before = w.2 })

  -- ---- what a caller is told

  says_of : (x : Answer ℕ) → judge_of zone_f deck ours theirs ≡ x → Answered (RowJudge zone_f deck ours theirs) deck (refusal_of x) (place_of x) (column_of x)
      → (refusal_of x ≡ 0 → (n : ℕ) × (x ≡ fine n)) → JudgeSays deck ours theirs (judge_answer x)
  says_of (fine n) d a h = go (eqb n 0) refl
    where
      v : Verdict deck ours theirs n
      v = verdict_of n d

      go : (t : Bool) → eqb n 0 ≡ t → JudgeSays deck ours theirs (judge_answer (fine n))
      go true t =
          let z = eqb-true n 0 t in
          record {
            table = a;
            mark = inl (rw t refl);
            refused = λ o. absurd (o refl);
            exactly = λ _. (λ _. zero_true n v z, λ _. rw t refl);
            with_0 = λ _. z;
            no = λ _ y. absurd (one_not_zero (let q : ◌≡◌ {A = ℕ} 1 0 = rw t at y in q));
          }
        where
          one_not_zero : ◌≡◌ {A = ℕ} 1 0 → ⊥
          one_not_zero q = omega arith
      go false t =
          let z = eqb-false n 0 t in
          record {
            table = a;
            mark = inr (rw t refl);
            refused = λ o. absurd (o refl);
            exactly = λ _. (λ y. absurd (zero_not_one (let q : ◌≡◌ {A = ℕ} 0 1 = rw t at y in q)), λ w. absurd (z (true_0 n v w)));
            with_0 = λ y. absurd (zero_not_one (let q : ◌≡◌ {A = ℕ} 0 1 = rw t at y in q));
            no = λ _ y. first_of n v z;
          }
        where
          zero_not_one : ◌≡◌ {A = ℕ} 0 1 → ⊥
          zero_not_one q = omega arith
  says_of (refuse r) d a h =
      record {
        table = a;
        mark = inr refl;
        refused = λ o. (refl, refl);
        exactly = λ z. let w = h z in absurd (not_fine r w.0 w.1);
        with_0 = λ y. refl;
        no = λ z y. let w = h z in absurd (not_fine r w.0 w.1);
      }

  pub judge_says : JudgeSays deck ours theirs (judge_answer (judge deck ours theirs))
  unfolding judge
  judge_says =
      let rows = RowJudge zone_f deck ours theirs in
      let a
      = answered rows deck (judge_of zone_f deck ours theirs) (judge_columns zone_f (omega arith) deck ours theirs bytes bytes') (judge_told zone_f (omega arith) deck ours theirs bytes bytes') (λ p r. r) in
      says_of (judge_of zone_f deck ours theirs) refl a (λ z. (judge_told zone_f (omega arith) deck ours theirs bytes bytes').1 (a.none.0 z))

  -- ---- these words leave one outcome alone

  -- what is compared, and where it is first apart, in terms of the one verdict
  own_first : (k : ℕ) (v : Verdict deck ours theirs k) (n : ℕ) → FirstApart deck ours theirs n
      → Stands v.outs v.others n × (AgreeAt v.p v.outs v.others n → ⊥) × ((m : ℕ) → 1 ≤ m → m < n → AgreeAt v.p v.outs v.others m)
  own_first k v n f =
      let c : Compares deck ours theirs v.p f.outs f.others × (AgreeAt v.p f.outs f.others n → ⊥) × ((m : ℕ) → 1 ≤ m → m < n → AgreeAt v.p f.outs f.others m)
      = subst (λ (q : Plan). Compares deck ours theirs q f.outs f.others × (AgreeAt q f.outs f.others n → ⊥) × ((m : ℕ) → 1 ≤ m → m < n → AgreeAt q f.outs f.others m)) (same_plan k v f.compares) (f.compares, f.apart, f.before) in
      let o = same_outs k v c.0 in
      let t = same_others k v c.0 in
      subst (λ (xs : List (List ℕ)). Stands xs v.others n × (AgreeAt v.p xs v.others n → ⊥) × ((m : ℕ) → 1 ≤ m → m < n → AgreeAt v.p xs v.others m)) o
      (subst (λ (ys : List (List ℕ)). Stands f.outs ys n × (AgreeAt v.p f.outs ys n → ⊥) × ((m : ℕ) → 1 ≤ m → m < n → AgreeAt v.p f.outs ys m)) t (f.there, c.1, c.2))

  first_once : (k : ℕ) → Verdict deck ours theirs k → (n m : ℕ) → FirstApart deck ours theirs n → FirstApart deck ours theirs m → n ≡ m
  first_once k v n m f g = go (ltb n m) refl (ltb m n) refl
    where
      go : (a : Bool) → ltb n m ≡ a → (b : Bool) → ltb m n ≡ b → n ≡ m
      go true a b eb = let w = own_first k v n f in absurd (w.1 ((own_first k v m g).2 n w.0.0 (ltb-true n m a)))
      go false a true b = let w = own_first k v m g in absurd (w.1 ((own_first k v n f).2 m w.0.0 (ltb-true m n b)))
      go false a false b = omega (arith, ltb-false n m a, ltb-false m n b)

  pub says_once : (n m : JudgeAnswer) → JudgeSays deck ours theirs n → JudgeSays deck ours theirs m → n ≡ m
  unfolding judge
  says_once n m a b = λ i. record { refusal = same.0 i; place = same.1 i; column = same.2 i; yes = rest.0 i; number = rest.1 i }
    where
      same : (n.refusal ≡ m.refusal) × (n.place ≡ m.place) × (n.column ≡ m.column)
      same = answered_once _ deck _ _ _ _ _ _ a.table b.table

      verdict : n.refusal ≡ 0 → (k : ℕ) × (judge_of zone_f deck ours theirs ≡ fine k)
      verdict z = (judge_told zone_f (omega arith) deck ours theirs bytes bytes').1 (a.table.none.0 z)

      marked : n.refusal ≡ 0 → (n.yes ≡ 1) ⊎ (n.yes ≡ 0) → (m.yes ≡ 1) ⊎ (m.yes ≡ 0) → (n.yes ≡ m.yes) × (n.number ≡ m.number)
      marked z (inl y) (inl y') = (y ∙ sym y', a.with_0 y ∙ sym (b.with_0 y'))
      marked z (inl y) (inr y') = let q = (b.exactly (sym same.0 ∙ z)).1 ((a.exactly z).0 y) in absurd (omega arith)
      marked z (inr y) (inl y') = let q = (a.exactly z).1 ((b.exactly (sym same.0 ∙ z)).0 y') in absurd (omega arith)
      marked z (inr y) (inr y') =
          let w = verdict z in
          (y ∙ sym y', first_once w.0 (verdict_of w.0 w.1) n.number m.number (a.no z y) (b.no (sym same.0 ∙ z) y'))

      decide : (t : Bool) → eqb n.refusal 0 ≡ t → (n.yes ≡ m.yes) × (n.number ≡ m.number)
      decide true t = marked (eqb-true n.refusal 0 t) a.mark b.mark
      decide false t =
          let o = eqb-false n.refusal 0 t in
          let w = a.refused o in
          let w' = b.refused (λ z. o (same.0 ∙ z)) in
          (w.0 ∙ sym w'.0, w.1 ∙ sym w'.1)

      rest : (n.yes ≡ m.yes) × (n.number ≡ m.number)
      rest = decide (eqb n.refusal 0) refl

-- ---- what follows

filling_tc : (m : Mode) → is_filling m ≡ true → is_tc m ≡ false
filling_tc tc e = absurd (false≢true e)
filling_tc tf e = refl
filling_tc tr e = refl
filling_tc trf e = refl

module _ (zone : ℕ) (deck : List ℕ) (p : Plan) (e : plan_of zone deck ≡ fine p) (fill : is_filling p.mode ≡ true) where
  okay : Accepted p
  okay = accepted zone deck p e

  -- the judgement by the deck's plan, of reels whose records are known
  by_records : (ours theirs : List ℕ) (outs others : List (List ℕ)) → our_records p ours ≡ fine outs → their_records p theirs ≡ fine others
      → judge_of zone deck ours theirs ≡ fine (first_apart (agrees p) 1 outs others)
  unfolding judge_of judgement
  by_records ours theirs outs others o t =
      fine_bind (plan_to_judge zone deck) (λ q. judgement q ours theirs) p (plan_judged zone deck p e fill)
      ∙ fine_bind (our_records p ours) (λ outs. their_records p theirs >>= λ others. fine (first_apart (agrees p) 1 outs others)) outs o
      ∙ fine_bind (their_records p theirs) (λ others. fine (first_apart (agrees p) 1 outs others)) others t

  their_records_lem : (s : List ℕ) (rs : List (List ℕ)) → Records (under_b p) s rs → their_records p s ≡ fine rs
  unfolding their_records
  their_records_lem s rs h = ap foreign (records_read_lem (under_b p) (under_b_accepted p okay) s rs h)

  -- a finished run: its output records are ours, and its reel gives them under B
  own_records : (room : ℕ) (s : List ℕ) (x : RunOutput) → All Byte s → run_of zone room deck s ≡ fine x
      → (outs : List (List ℕ)) × (our_records p s ≡ fine outs) × Records (under_b p) x.reel outs
  unfolding convert
  own_records room s x a d = go (is_fs p.format) refl
    where
      not_tc : is_tc p.mode ≡ false
      not_tc = filling_tc p.mode fill

      go : (t : Bool) → is_fs p.format ≡ t → (outs : List (List ℕ)) × (our_records p s ≡ fine outs) × Records (under_b p) x.reel outs
      go true t =
          let w = done zone deck p e t room s x d in
          let g = input_span zone deck p e t room s a x w in
          let r = records_read_lem p okay s (joined w.recs) (of_spans t g) in
          (drop (p.first - 1) (joined w.recs), in_fs p s t ∙ fine_bind (records_read p s) (λ rs. fine (drop (p.first - 1) rs)) (joined w.recs) r, of_spans t (back_span zone deck p e t room s a x not_tc w))
      go false t =
          let c = sym (the_run zone room deck s p e t) ∙ d in
          let s1 = bind_fine (out_blocks p s) (λ bs. housed room (ran_of p bs)) x c in
          let w = finished p room s x c in
          let g = gathered p s s1.0 s1.1 in
          let same : output_blocks p w.recs ≡ s1.0 = ap (output_blocks p) (fine_same _ _ (sym w.reads ∙ g.reads)) ∙ g.is in (
            joined s1.0,
            in_others p s t ∙ fine_bind (out_blocks p s) (λ bs. fine (joined bs)) s1.0 s1.1,
            subst (λ (bs : List (List (List ℕ))). Records (under_b p) x.reel (joined bs)) same (of_blocks t (read_back p (under_b p) okay (under_b_accepted p okay) (under_b_lem p) room s x a w)),
          )

  cut : (ours theirs others : List ℕ) → their_records p theirs ≡ their_records p others → judge_of zone deck ours theirs ≡ judge_of zone deck ours others
  unfolding judge_of judgement
  cut ours theirs others q =
      let j = plan_judged zone deck p e fill in
      fine_bind (plan_to_judge zone deck) (λ q. judgement q ours theirs) p j
      ∙ ap (λ (y : Answer (List (List ℕ))). our_records p ours >>= λ outs. y >>= λ others. fine (first_apart (agrees p) 1 outs others)) q
      ∙ sym (fine_bind (plan_to_judge zone deck) (λ q. judgement q ours others) p j)

  pub judging : Judging zone deck p
  judging =
      record {
        own = λ room s x a d.
            let w = own_records room s x a d in
            by_records s x.reel w.0 w.0 w.1 (their_records_lem x.reel w.0 w.2) ∙ ap fine (same_all (agrees p) (agrees_self p) w.0 1);
        cut_anew = λ ours theirs others rs h k. cut ours theirs others (their_records_lem theirs rs h ∙ sym (their_records_lem others rs k));
        just_ours = just_ours p fill;
      }
