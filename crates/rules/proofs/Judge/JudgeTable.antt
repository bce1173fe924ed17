-- The table of refusals of judging: 1 to 14 as for a run, with TC and TF under 8; 17 and 18 of the foreign reel; no 15. By following the tests: the rows of a run are
-- clear up to 14 where a run with no room is refused with 15, and where the mode is TR or TRF the further sentence of 8 does not apply.
use mathlib.Core.Path.{◌≡◌, refl, ap, sym, ◌∙◌, subst}
use mathlib.Core.Logic.{◌↔◌, ◌⊎◌, inl, inr}
use mathlib.Core.Bool.{Bool, true, false, true≢false}
use mathlib.Core.List.{List, []}
use Prim.Native.Nat.{ℕ, zero, suc, ◌+◌, ◌-◌, ◌≤◌, ◌<◌}
use native.Mathlib.Nat.{not-suc-le-zero}
use native.Mathlib.Omega.{arith}
use lib.Dec.{ltb}
use borrow.Author.Tests.{ltb-true, ltb-false}
use Rattle.rules.specs.Base.{joined}
use Rattle.rules.specs.Answer.{Refusal, Answer, fine, refuse, refused_at, ◌>>=◌, ◌>>◌, unless}
use Rattle.rules.specs.Places.{All, Some, Found, Byte}
use Rattle.rules.specs.Grammar.{Mode, tc, tf, tr, trf, fv, in_key}
use Rattle.rules.specs.Asked.{Asked, asked_of, fields_of, cvs}
use Rattle.rules.specs.Reel.{is_reel, blocks_of}
use Rattle.rules.specs.Plan.{Plan, plan_of, selects, joined_size, combined, assembled}
use Rattle.rules.specs.Run.{conversion, run_of}
use Rattle.rules.specs.Rows.{Required, IsKeyed, KeyFits, Asks, Row8, Row9, Row10, PlanRows, ◌⊳◌, No, Done, GivenBy}
use Rattle.rules.specs.RunRows.{BadIn, Row11, Row12, Row13, Row14, RowRun}
use Rattle.rules.specs.ColumnRows.{Column, Lowest}
use Rattle.rules.specs.Accepted.{Accepted}
use Rattle.rules.specs.Judge.{is_filling, plan_to_judge, under_b, foreign, blocks_read, records_read, our_records, their_records, judgement, judge_of}
use Rattle.rules.specs.JudgeWords.{RowMode, Row17, Row18, RowJudge}
use Rattle.rules.proofs.Refusals.AnswerLaws.{not_fine, fine_same, bind_fine, fine_bind, then_fine, fine_then, unless_fine, fine_unless}
use Rattle.rules.proofs.Deck.AcceptedLaws.{accepted}
use Rattle.rules.proofs.Reel.ReelLaws.{reel_exactly, reel_blocks, reel_of_lem, all_blocks}
use Rattle.rules.proofs.Refusals.Given.{found_low, Outcome, unless_outcome, Clear, clear_next, Upto, stage, upto_bind, upto_then, given_exactly, fine_exactly}
use Rattle.rules.proofs.Refusals.AskedTable.{asked_once, upto_asked, asked_says}
use Rattle.rules.proofs.Refusals.PlanTable.{upto_plan, plan_asks, asks_once}
use Rattle.rules.proofs.Refusals.RunTable.{run_table}
use Rattle.rules.proofs.Refusals.RunColumns.{Refuses}
use Rattle.rules.proofs.Columns.ColumnTable.{lowest_zero, ColumnIs, Columned, plain_late, columned_bind, columned_then, columned_unless, columned_asked, columned_plan, columns}
use Rattle.rules.proofs.Runs.ReadBack.{under_b_accepted}
use Rattle.rules.proofs.Judge.JudgeRead.{blocks_read_lem, read_plain, ours_refused, ours_reach, ours_plain}
use Rattle.rules.proofs.Base.Tests.{fails, failing}

-- ---- tables that agree up to a number

abbrev Below : ℕ → (ℕ → ℕ → Type 0) → (ℕ → ℕ → Type 0) → Type 0
Below k R S = (n p : ℕ) → n < k → R n p ↔ S n p

-- of each of the numbers 0 to 7, and of those from 8 on
eight : (P : ℕ → Type 0) → P 0 → P 1 → P 2 → P 3 → P 4 → P 5 → P 6 → P 7 → ((n : ℕ) → P (suc (suc (suc (suc (suc (suc (suc (suc n))))))))) → (n : ℕ) → P n
eight P a b c d e f g h more zero = a
eight P a b c d e f g h more (suc zero) = b
eight P a b c d e f g h more (suc (suc zero)) = c
eight P a b c d e f g h more (suc (suc (suc zero))) = d
eight P a b c d e f g h more (suc (suc (suc (suc zero)))) = e
eight P a b c d e f g h more (suc (suc (suc (suc (suc zero))))) = f
eight P a b c d e f g h more (suc (suc (suc (suc (suc (suc zero)))))) = g
eight P a b c d e f g h more (suc (suc (suc (suc (suc (suc (suc zero))))))) = h
eight P a b c d e f g h more (suc (suc (suc (suc (suc (suc (suc (suc n)))))))) = more n

given_below : {R S : ℕ → ℕ → Type 0} (k : ℕ) → Below k R S → (n p : ℕ) → n < k → GivenBy S n p → GivenBy R n p
given_below k same n p l g = ((same n p l).1 g.0, λ q h r. g.1 q h ((same n q l).0 r), λ m q h r. g.2 m q h ((same m q (omega arith)).0 r))

-- ---- tables that agree

module _ {R S : ℕ → ℕ → Type 0} (to : (n p : ℕ) → R n p → S n p) (from : (n p : ℕ) → S n p → R n p) where
  upto_same : {A : Type 0} (n p : ℕ) (x : Answer A) → Upto R {A = A} n p x → Upto S {A = A} n p x
  upto_same n p (fine a) c = (λ q l s. c.0 q l (from n q s), λ m q l s. c.1 m q l (from m q s))
  upto_same n p (refuse r) g = (to r.number r.place g.0, λ q l s. g.1 q l (from r.number q s), λ m q l s. g.2 m q l (from m q s))

-- ---- a foreign reel

module _ {A : Type 0} where
  foreign_outcome : (c : ℕ) (F : ℕ → Type 0) (x : Answer A) → Outcome c F x → Outcome (6 + c) F (foreign x)
  foreign_outcome c F (fine a) o = o
  foreign_outcome c F (refuse r) o = (ap (6 +◌) o.0, o.1, o.2)

  foreign_then : (t : Answer Unit) (x : Answer A) → foreign (t >> x) ≡ (foreign t >> foreign x)
  unfolding ◌>>◌
  foreign_then (fine u) x = refl
  foreign_then (refuse r) x = refl

foreign_bind : {A B : Type 0} (x : Answer A) (f : A → B) → foreign (x >>= λ a. fine (f a)) ≡ (foreign x >>= λ a. fine (f a))
unfolding ◌>>=◌
foreign_bind (fine a) f = refl
foreign_bind (refuse r) f = refl

-- what is fine was fine
pub foreign_fine : {A : Type 0} (x : Answer A) (a : A) → foreign x ≡ fine a → x ≡ fine a
foreign_fine (fine b) a e = e
foreign_fine (refuse r) a e = absurd (not_fine _ a e)

their_parts : (p : Plan) (s : List ℕ) → their_records p s ≡ (foreign (unless (is_reel s) 11 0) >> (foreign (blocks_read (under_b p) (blocks_of s)) >>= λ recs. fine (joined recs)))
unfolding their_records records_read
their_parts p s =
    foreign_then (unless (is_reel s) 11 0) (blocks_read (under_b p) (blocks_of s) >>= λ recs. fine (joined recs))
    ∙ ap (foreign (unless (is_reel s) 11 0) >>◌) (foreign_bind (blocks_read (under_b p) (blocks_of s)) joined)

-- ---- the plan that judges

module _ (zone : ℕ) (deck : List ℕ) where
  -- it is the deck's plan, of TR or TRF
  pub judged_plan : (p : Plan) → plan_to_judge zone deck ≡ fine p → (plan_of zone deck ≡ fine p) × (is_filling p.mode ≡ true)
  unfolding plan_to_judge plan_of assembled
  judged_plan p e =
      let s1 = bind_fine (asked_of deck) _ p e in
      let s2 = then_fine (unless (is_filling s1.0.utility.mode) 8 1) _ p s1.2 in
      let t1 = bind_fine (asked_of deck) _ p s2.1 in
      let t2 = then_fine (combined zone t1.0) _ p t1.2 in
      let same : s1.0 ≡ t1.0 = fine_same _ _ (sym s1.1 ∙ t1.1) in
      (s2.1, ap (λ (q : Plan). is_filling q.mode) (sym (fine_same _ p t2.1)) ∙ ap (λ (a : Asked). is_filling a.utility.mode) (sym same) ∙ unless_fine _ 8 1 s2.0)

  pub plan_judged : (p : Plan) → plan_of zone deck ≡ fine p → is_filling p.mode ≡ true → plan_to_judge zone deck ≡ fine p
  unfolding plan_to_judge plan_of assembled
  plan_judged p e fill =
      let t1 = bind_fine (asked_of deck) _ p e in
      let t2 = then_fine (combined zone t1.0) _ p t1.2 in
      let mode : is_filling t1.0.utility.mode ≡ true = ap (λ (q : Plan). is_filling q.mode) (fine_same _ p t2.1) ∙ fill in
      fine_bind (asked_of deck) _ t1.0 t1.1 ∙ fine_then (unless (is_filling t1.0.utility.mode) 8 1) _ (fine_unless _ 8 1 mode) ∙ e

-- ---- the table

not_filling : (m : Mode) → is_filling m ≡ false → (m ≡ tc) ⊎ (m ≡ tf)
not_filling tc e = inl refl
not_filling tf e = inr refl
not_filling tr e = absurd (true≢false e)
not_filling trf e = absurd (true≢false e)

filling_not : (m : Mode) → (m ≡ tc) ⊎ (m ≡ tf) → is_filling m ≡ false
filling_not m (inl e) = ap is_filling e
filling_not m (inr e) = ap is_filling e

-- what row 8 says of its place
abbrev Sentences : (deck : List ℕ) {q : ℕ} → Row8 deck q → ℕ → Type 0
Sentences deck r p =
    ((p ≡ 1) × (Required r.3.mode r.3.format (joined_size r.3.input) r.3.output r.3.first × KeyFits r.3.mode r.3.format r.3.input → ⊥))
    ⊎ (((p ≡ 1) × (selects r.3.mode ≡ true) × (r.1 ≡ []))
    ⊎ (((p ≡ 2) × (selects r.3.mode ≡ false) × (r.1 ≡ [] → ⊥))
    ⊎ (((r.3.format ≡ fv → ⊥) × Found (λ c. 1 ≤ cvs c) p 2 r.1)
    ⊎ ((IsKeyed r.3.input → ⊥) × Found (λ c. Some (λ f. f.part ≡ in_key) (fields_of c)) p 2 r.1))))

-- no place of 8 is below 1
eight_low : (deck : List ℕ) (q : ℕ) → q < 1 → Row8 deck q ⊎ RowMode deck q → ⊥
eight_low deck q l (inr r) = omega (arith, r.5)
eight_low deck q l (inl r) = go r.5
  where
    go : Sentences deck r q → ⊥
    go (inl x) = omega (arith, x.0)
    go (inr (inl x)) = omega (arith, x.0)
    go (inr (inr (inl x))) = omega (arith, x.0)
    go (inr (inr (inr (inl x)))) = omega (arith, found_low x.1)
    go (inr (inr (inr (inr x)))) = omega (arith, found_low x.1)

module _ (zone : ℕ) (half : zone < 16) (deck ours theirs : List ℕ) (bytes : All Byte ours) (bytes' : All Byte theirs) where
  abbrev Rows : ℕ → ℕ → Type 0
  Rows = RowJudge zone deck ours theirs

  abbrev Further : ℕ → ℕ → Type 0
  Further =
      Row11 zone deck ours 0 ⊳ Row12 zone deck ours 0 ⊳ Row13 zone deck ours 0 ⊳ Row14 zone deck ours 0 ⊳ No ⊳ No ⊳ Row17 zone deck ours theirs ⊳ Row18 zone deck ours theirs ⊳ Done

  -- the same without the further sentence of 8
  abbrev Plain : ℕ → ℕ → Type 0
  Plain = PlanRows zone deck Further

  -- rows 1 to 14 are those of a run
  run_row : Below 15 Plain (RowRun zone deck ours 0)
  run_row =
      eight (λ n. (p : ℕ) → n < 15 → Plain n p ↔ RowRun zone deck ours 0 n p) (λ p l. own) (λ p l. own) (λ p l. own) (λ p l. own) (λ p l. own) (λ p l. own) (λ p l. own) (λ p l. own)
      (eight (λ n. (p : ℕ) → suc (suc (suc (suc (suc (suc (suc (suc n))))))) < 15 → Plain (suc (suc (suc (suc (suc (suc (suc (suc n)))))))) p ↔ RowRun zone deck ours 0 (suc (suc (suc (suc (suc (suc (suc (suc n)))))))) p)
      (λ p l. own) (λ p l. own) (λ p l. own) (λ p l. own) (λ p l. own) (λ p l. own) (λ p l. own) (λ p l. absurd (omega arith)) (λ n p l. absurd (omega arith)))
    where
      own : {R : Type 0} → R ↔ R
      own = (λ r. r, λ r. r)

  module _ (pl : Plan) (e : plan_of zone deck ≡ fine pl) where
    ok : Accepted pl
    ok = accepted zone deck pl e

    ok' : Accepted (under_b pl)
    ok' = under_b_accepted pl ok

    asks : Asks zone deck pl
    asks = plan_asks zone deck Done pl e

    same : (pl' : Plan) → Asks zone deck pl' → pl' ≡ pl
    same pl' x = asks_once zone deck Done pl pl' e x

    -- ---- 11 to 14

    upto_ours : Upto Plain 15 0 (our_records pl ours)
    unfolding run_of
    upto_ours = go (our_records pl ours) refl (ours_plain pl ours (λ r. r.number < 15) (λ m l h p. h))
      where
        the_run : run_of zone 0 deck ours ≡ conversion 0 pl ours
        the_run = fine_bind (plan_of zone deck) (λ p. conversion 0 p ours) pl e

        go : (x : Answer (List (List ℕ))) → our_records pl ours ≡ x → Refuses (λ r. r.number < 15) x → Upto Plain 15 0 x
        go (fine outs) d l =
            let w = ours_reach pl ours outs d in
            let g = (run_table zone half deck ours bytes 0 15 w.0).0 (0, the_run ∙ w.1) in
            (λ q h r. absurd (not-suc-le-zero h), λ m q h r. g.2 m q h ((run_row m q h).0 r))
        go (refuse r) d l = given_below 15 run_row r.number r.place l ((run_table zone half deck ours bytes 0 r.number r.place).0 (r.column, the_run ∙ ours_refused pl ours r d))

    -- ---- 17 and 18

    upto_reel : Clear Plain 17 0 → Upto Plain 18 0 (foreign (unless (is_reel theirs) 11 0))
    upto_reel c =
        stage Plain 17 0 _ (foreign (unless (is_reel theirs) 11 0)) (foreign_outcome 11 _ (unless (is_reel theirs) 11 0) (unless_outcome (is_reel theirs) 11 0)) c
        (λ p f. (pl, asks, f.0, λ bs r. fails (is_reel theirs) (reel_exactly theirs bytes') f.1 (bs, r)))
        (λ p l r. (r.2, failing (is_reel theirs) (reel_exactly theirs bytes') (λ w. r.3 w.0 w.1)))

    upto_blocks : is_reel theirs ≡ true → Clear Plain 18 0 → Upto Plain 19 0 (foreign (blocks_read (under_b pl) (blocks_of theirs)))
    upto_blocks t c =
        stage Plain 18 0 _ (foreign (blocks_read (under_b pl) (blocks_of theirs)))
        (foreign_outcome 12 _ (blocks_read (under_b pl) (blocks_of theirs)) (blocks_read_lem (under_b pl) ok' (all_blocks theirs bytes'))) c
        (λ p f. (pl, asks, blocks_of theirs, reel_of_lem theirs bytes' t, f))
        (λ p l r.
        subst (λ (z : List (List ℕ)). BadIn (under_b pl) z p) (sym (reel_blocks theirs r.2 r.3))
        (subst (λ (z : Plan). BadIn (under_b z) r.2 p) (same r.0 r.1) r.4))

    upto_theirs : Clear Plain 15 0 → Upto Plain 19 0 (their_records pl theirs)
    upto_theirs c =
        subst (Upto Plain 19 0) (sym (their_parts pl theirs))
        (upto_then Plain 18 0 19 0 _ _ (upto_reel (clear_next Plain 16 0 (clear_next Plain 15 0 c (λ q l r. r)) (λ q l r. r))) (λ e1 c1.
        upto_bind Plain 19 0 19 0 _ _ (upto_blocks (unless_fine (is_reel theirs) 11 0 (foreign_fine _ tt e1)) c1) (λ recs e2 c2. c2)))

    upto_plan_judged : Upto Plain 19 0 (judgement pl ours theirs)
    unfolding judgement
    upto_plan_judged = upto_bind Plain 15 0 19 0 _ _ upto_ours (λ outs e1 c1. upto_bind Plain 19 0 19 0 _ _ (upto_theirs c1) (λ others e2 c2. c2))

  -- ---- 8 of TC and TF

  module _ (a : Asked) (e : asked_of deck ≡ fine a) where
    -- the mode is the one that the cards say
    mode_row : (p : ℕ) → RowMode deck p → is_filling a.utility.mode ≡ false
    mode_row p r =
        let w = asked_once deck (record { utility = r.3; cards = r.1 }) a (r.0, r.2, r.4) (asked_says deck Done a e) in
        ap (λ (z : Asked). is_filling z.utility.mode) (sym w) ∙ filling_not r.3.mode r.6

    -- TR and TRF: the rows are those without the further sentence
    plain_row : is_filling a.utility.mode ≡ true → (n p : ℕ) → Rows n p → Plain n p
    plain_row fill n p r =
        eight (λ n. (p : ℕ) → Rows n p → Plain n p) (λ p r. r) (λ p r. r) (λ p r. r) (λ p r. r) (λ p r. r) (λ p r. r) (λ p r. r) (λ p r. r) (λ n. above n) n p r
      where
        only : (p : ℕ) → Row8 deck p ⊎ RowMode deck p → Row8 deck p
        only p (inl r) = r
        only p (inr r) = absurd (true≢false (sym fill ∙ mode_row p r))

        above : (n p : ℕ) → Rows (suc (suc (suc (suc (suc (suc (suc (suc n)))))))) p → Plain (suc (suc (suc (suc (suc (suc (suc (suc n)))))))) p
        above zero p r = only p r
        above (suc n) p r = r

    upto_mode : Clear Rows 8 0 → Upto Rows 8 0 (unless (is_filling a.utility.mode) 8 1)
    unfolding unless
    upto_mode c = go (is_filling a.utility.mode) refl
      where
        go : (t : Bool) → is_filling a.utility.mode ≡ t → Upto Rows 8 0 (unless t 8 1)
        go true t = c
        go false t =
            let w = asked_says deck Done a e in
            (inr (w.0, a.cards, w.1, a.utility, w.2, refl, not_filling a.utility.mode t), λ q l r. eight_low deck q l r, c.1)

  row_plain : (n p : ℕ) → Plain n p → Rows n p
  row_plain n p r =
      eight (λ n. (p : ℕ) → Plain n p → Rows n p) (λ p r. r) (λ p r. r) (λ p r. r) (λ p r. r) (λ p r. r) (λ p r. r) (λ p r. r) (λ p r. r) (λ n. above n) n p r
    where
      above : (n p : ℕ) → Plain (suc (suc (suc (suc (suc (suc (suc (suc n)))))))) p → Rows (suc (suc (suc (suc (suc (suc (suc (suc n)))))))) p
      above zero p r = inl r
      above (suc n) p r = r

  -- ---- all of them

  upto_deck : Upto Rows 11 0 (plan_to_judge zone deck)
  unfolding plan_to_judge
  upto_deck =
      upto_bind Rows 8 0 11 0 (asked_of deck) _ (upto_asked deck ((λ p. Row8 deck p ⊎ RowMode deck p) ⊳ Row9 deck ⊳ Row10 zone deck ⊳ Further)) (λ a e1 c1.
      upto_then Rows 8 0 11 0 _ _ (upto_mode a e1 c1) (λ e2 c2. upto_same row_plain (plain_row a e1 (unless_fine _ 8 1 e2)) 11 0 (plan_of zone deck) (upto_plan zone deck Further)))

  upto_judged : (p : Plan) → plan_to_judge zone deck ≡ fine p → Upto Rows 19 0 (judgement p ours theirs)
  unfolding plan_to_judge
  upto_judged p e =
      let s1 = bind_fine (asked_of deck) _ p e in
      let s2 = then_fine (unless (is_filling s1.0.utility.mode) 8 1) _ p s1.2 in
      upto_same row_plain (plain_row s1.0 s1.1 (unless_fine _ 8 1 s2.0)) 19 0 (judgement p ours theirs) (upto_plan_judged p s2.1)

  upto_judge : Upto Rows 19 0 (judge_of zone deck ours theirs)
  unfolding judge_of
  upto_judge = upto_bind Rows 11 0 19 0 (plan_to_judge zone deck) _ upto_deck (λ p e c. upto_judged p e)

  judge_most : (n p : ℕ) → Rows n p → n < 19
  judge_most n p r = go (ltb n 19) refl
    where
      go : (t : Bool) → ltb n 19 ≡ t → n < 19
      go true t = ltb-true n 19 t
      go false t =
          let l = ltb-false n 19 t in
          let e : n ≡ suc (suc (suc (suc (suc (suc (suc (suc (suc (suc (suc (suc (suc (suc (suc (suc (suc (suc (suc (n - 19))))))))))))))))))) = omega arith in
          let none : ⊥ = subst (λ (k : ℕ). Rows k p) e r in
          absurd none

  -- refused with n at p exactly if the table gives n at p
  judge_table : (n p : ℕ) → ((c : ℕ) × (judge_of zone deck ours theirs ≡ refused_at n p c)) ↔ GivenBy Rows n p
  judge_table = given_exactly Rows 19 (judge_of zone deck ours theirs) upto_judge judge_most

  -- there is a verdict exactly if no row applies
  pub judge_told : ((n : ℕ) × (judge_of zone deck ours theirs ≡ fine n)) ↔ ((n p : ℕ) → RowJudge zone deck ours theirs n p → ⊥)
  judge_told = fine_exactly Rows 19 (judge_of zone deck ours theirs) upto_judge judge_most

  -- ---- the columns

  -- no refusal of a reel has one
  columned_theirs : (p : Plan) → Columned deck (their_records p theirs)
  unfolding their_records
  columned_theirs p = go (records_read (under_b p) theirs) (read_plain Low (under_b p) theirs (λ i. (omega arith, refl)) (λ i. (omega arith, refl)))
    where
      Low : Refusal → Type 0
      Low r = (11 ≤ r.number) × (r.column ≡ 0)

      go : (x : Answer (List (List ℕ))) → Refuses Low x → Columned deck (foreign x)
      go (fine rs) w = tt
      go (refuse r) w = rw w.1 (plain_late deck (6 + r.number) (omega (arith, w.0)) r.place)

  columned_judge : Columned deck (judge_of zone deck ours theirs)
  unfolding judge_of plan_to_judge judgement
  columned_judge =
      columned_bind deck (plan_to_judge zone deck) _
      (columned_bind deck (asked_of deck) _ (columned_asked deck) (λ a e1. columned_then deck _ _ (columned_unless deck _ 8 1 (λ p. lowest_zero)) (λ e2. columned_plan deck zone))) (λ p e.
      columned_bind deck (our_records p ours) _ (ours_plain p ours (ColumnIs deck) (λ m l h. plain_late deck m l)) (λ outs e1.
      columned_bind deck (their_records p theirs) _ (columned_theirs p) (λ others e2. tt)))

  -- refused with n at p and column c exactly if the table gives n at p, and c is the lowest column of that row there
  pub judge_columns : (n p c : ℕ) → (judge_of zone deck ours theirs ≡ refused_at n p c) ↔ (GivenBy (RowJudge zone deck ours theirs) n p × Lowest (Column deck p n) c)
  judge_columns = columns deck (judge_of zone deck ours theirs) Rows judge_table columned_judge
