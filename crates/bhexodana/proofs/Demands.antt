-- The demands, of what the five exported functions promise (specs/Promise), for every deck, reel, table and output. Each holds since the promise is the rules'
-- answer, of which it is proved: the table of refusals, demand 3 and what the lent memory holds in rules/proofs/SaidLaws, what runs tell in Apart.
use mathlib.Core.Path.{◌≡◌, refl, ap, sym, ◌∙◌, subst}
use mathlib.Core.Logic.{◌⊎◌, inl, inr}
use mathlib.Core.Bool.{Bool, true, false}
use mathlib.Core.List.{List, [], ◌∷◌, map}
use Prim.Native.Nat.{ℕ, ◌≤◌}
use native.Mathlib.Omega.{arith}
use lib.Dec.{eqb}
use lib.ListN.{length, take, drop, length-map}
use lib.Seq.{take_at}
use borrow.Author.Tests.{eqb-true, eqb-false}
use Rattle.rules.specs.Answer.{Answer, fine, refuse, refused_at}
use Rattle.rules.specs.Places.{All, Byte}
use Rattle.rules.specs.Reel.{reel_of}
use Rattle.rules.specs.Plan.{Plan, is_fs, record_length, plan_answer}
use Rattle.rules.specs.Output.{block_of, out_record}
use Rattle.rules.specs.Rows.{Row, Done}
use Rattle.rules.specs.Run.{RunOutput}
use Rattle.rules.specs.Lent.{zone_f, plan, plan_into, table_after, run, run_answer, output_after}
use Rattle.rules.specs.Said.{PlanSays, TableSays, RunSays}
use Rattle.rules.specs.Twins.{twins_into, twins_answer}
use Rattle.rules.specs.TwinWords.{Shows, Told, TwinsSays}
use Rattle.rules.specs.Taken.{Records, Takes}
use Rattle.rules.specs.Judge.{is_filling, under_b, judge, judge_answer}
use Rattle.rules.specs.JudgeWords.{Written, carried, Stands, AgreeAt, True, JudgeSays, Judging}
use Rattle.rules.specs.ShortBlocks.{NeverRefused, Under, RunsAgain}
use Rattle.rules.specs.Grammar.{tc, tr}
use Rattle.rules.proofs.Refusals.AnswerLaws.{fine_same}
use Rattle.rules.proofs.Refusals.SaidLaws.{plan_says, table_says, run_says}
use Rattle.rules.proofs.Refusals.PlanTable.{asks_once}
use Rattle.rules.proofs.Twins.TwinSaid.{twins_says}
use Rattle.rules.proofs.Runs.OneRecord.{own_ran}
use Rattle.rules.proofs.Keeping.Confused.{alone_runs}
use Rattle.rules.proofs.Keeping.Apart.{run_never_0, took, same_taken}
use Rattle.rules.proofs.Runs.ShortBlockLaws.{run_gives}
use Rattle.rules.proofs.Spanned.SpannedLaws.{spanned_deck}
use Rattle.rules.proofs.Keeping.Demand3.{not_lost}
use Rattle.rules.proofs.Judge.JudgeLaws.{judge_says, judging}
use Rattle.terms.specs.Meaning.{entry_means}
use Rattle.terms.specs.declared.Entry.{Entry}
use Rattle.terms.proofs.Entries.{entries_hold}
use Rattle.outcomes.specs.declared.Ran.{Ran}
use Rattle.outcomes.specs.Promise.{ran_struct, run_numbers}
use Rattle.plans.specs.declared.Planned.{Planned}
use Rattle.plans.specs.Promise.{numbers_of}
use Rattle.twins.specs.declared.Twins.{Twins}
use Rattle.twins.specs.Promise.{twins_numbers}
use Rattle.verdicts.specs.declared.Judged.{Judged}
use Rattle.verdicts.specs.Promise.{judged_of, judge_numbers}
use Rattle.bhexodana.specs.Promise.{PlanOf, PlannedInto, RanInto, TwinsInto, JudgedAs}

-- ---- one outcome only

-- two outcomes that a promise allows are equal, the lent memory too
pub only_one_plan : (deck : List ℕ) (r r' : Planned) → PlanOf deck r → PlanOf deck r' → r ≡ r'
only_one_plan deck r r' w w' = w ∙ sym w'

pub only_one_into : (deck : List ℕ) (before : List Entry) (r r' : Planned) (after after' : List Entry) → PlannedInto deck before r after → PlannedInto deck before r' after'
    → (r ≡ r') × (after ≡ after')
only_one_into deck before r r' after after' w w' = (w.answer ∙ sym w'.answer, w.table ∙ sym w'.table)

pub only_one_run : (deck reel before : List ℕ) (r r' : Ran) (after after' : List ℕ) → RanInto deck reel before r after → RanInto deck reel before r' after'
    → (r ≡ r') × (after ≡ after')
only_one_run deck reel before r r' after after' w w' = (w.answer ∙ sym w'.answer, w.output ∙ sym w'.output)

pub only_one_twins : (deck before : List ℕ) (r r' : Twins) (after after' : List ℕ) → TwinsInto deck before r after → TwinsInto deck before r' after'
    → (r ≡ r') × (after ≡ after')
only_one_twins deck before r r' after after' w w' = (w.answer ∙ sym w'.answer, w.output ∙ sym w'.output)

pub only_one_judge : (deck ours theirs : List ℕ) (r r' : Judged) → JudgedAs deck ours theirs r → JudgedAs deck ours theirs r' → r ≡ r'
only_one_judge deck ours theirs r r' w w' = w ∙ sym w'

-- ---- demands 1, 2 and 3, in words (rules/specs/Said)

-- of bhx_plan: refusal, place and column by the table, given exactly if; refused, the other three are 0; else there is the plan that the deck asks for, and keeping and
-- lost place are right for all pairs of records
pub plan_demands : (deck : List ℕ) (r : Planned) → PlanOf deck r → PlanSays (Row zone_f deck) deck (numbers_of r)
plan_demands deck r w = subst (λ (z : Planned). PlanSays (Row zone_f deck) deck (numbers_of z)) (sym w) (plan_says deck)

-- of bhx_plan_into: the same, with row 15; a refusal changes no entry; else each entry up to the field count holds its field, and the others stay
pub into_demands : (deck : List ℕ) (before : List Entry) (r : Planned) (after : List Entry) → PlannedInto deck before r after
    → TableSays deck (map entry_means before) (numbers_of r) (map entry_means after)
into_demands deck before r after w =
    let many : length (map entry_means before) ≡ length before = length-map before entry_means in
    let x : ℕ → Answer Plan = λ k. plan_into k deck in
    let table : map entry_means after ≡ table_after (map entry_means before) deck (x (length before)) = ap (map entry_means) w.table ∙ entries_hold (table_after (map entry_means before) deck (x (length before))) in
    subst (λ (z : Planned). TableSays deck (map entry_means before) (numbers_of z) (map entry_means after)) (sym w.answer)
    (subst (TableSays deck (map entry_means before) (plan_answer (x (length before)))) (sym table)
    (subst (λ (k : ℕ). TableSays deck (map entry_means before) (plan_answer (x k)) (table_after (map entry_means before) deck (x k))) many (table_says deck (map entry_means before))))

-- of bhx_run: refusal, place and column by the table; refused, the other three are 0 and no lent byte changes; else the reel of the output blocks that the deck asks for
-- stands at the front of the output, its length, records and blocks are told, and the bytes past it stay. What is lent as a reel are bytes
pub run_demands : (deck reel before : List ℕ) (r : Ran) (after : List ℕ) → All Byte reel → RanInto deck reel before r after → RunSays deck reel before (run_numbers r) after
run_demands deck reel before r after a w =
    subst (λ (z : Ran). RunSays deck reel before (run_numbers z) after) (sym w.answer)
    (subst (RunSays deck reel before (run_answer (run (length before) deck reel))) (sym w.output) (run_says deck reel a before))

-- of bhx_twins (document 02, order 3): refusal, place and column by the table; refused, reason and length are 0 and no lent byte changes; else the two records stand at
-- the front of the output: the plan converts both, they differ in the lost half alone or by the byte behind, they have one output record, and the reason holds
pub twins_demands : (deck before : List ℕ) (r : Twins) (after : List ℕ) → TwinsInto deck before r after → TwinsSays deck before (twins_numbers r) after
twins_demands deck before r after w =
    subst (λ (z : Twins). TwinsSays deck before (twins_numbers z) after) (sym w.answer)
    (subst (TwinsSays deck before (twins_answer (twins_into (length before) deck))) (sym w.output) (twins_says deck before))

-- of bhx_judge (document 02, order 7): refusal, place and column by the table; refused, yes and number are 0; else yes, with 0, exactly if theirs is a true conversion, and
-- otherwise the number of the first record that disagrees or lacks a partner. What is lent as reels are bytes
pub judge_demands : (deck ours theirs : List ℕ) (r : Judged) → All Byte ours → All Byte theirs → JudgedAs deck ours theirs r → JudgeSays deck ours theirs (judge_numbers r)
judge_demands deck ours theirs r a b w = subst (λ (z : Judged). JudgeSays deck ours theirs (judge_numbers z)) (sym w) (judge_says deck ours theirs a b)

-- ---- what was written

-- the reel that a run wrote
abbrev pub reel_in : Ran → List ℕ → List ℕ
reel_in r after = take r.length after

-- ---- what they say

-- a deck that is marked as keeping has a plan
pub keeping_plan : (deck : List ℕ) (n : Planned) → PlanOf deck n → n.keeping ≡ 1 → (p : Plan) × (plan deck ≡ fine p) × ((plan_answer (plan deck)).keeping ≡ 1)
keeping_plan deck n w k = go (plan deck) refl
  where
    one : (plan_answer (plan deck)).keeping ≡ 1
    one = sym (ap (λ (z : Planned). z.keeping) w) ∙ k

    go : (x : Answer Plan) → plan deck ≡ x → (p : Plan) × (plan deck ≡ fine p) × ((plan_answer (plan deck)).keeping ≡ 1)
    go (fine p) e = (p, e, one)
    go (refuse q) e = let z : ◌≡◌ {A = ℕ} 0 1 = sym (ap (λ (x : Answer Plan). (plan_answer x).keeping) e) ∙ one in absurd (omega arith)

-- the reel of a finished run stands at the front of the lent output
front : (before : List ℕ) (r : Ran) (after : List ℕ) (x : RunOutput) → r ≡ ran_struct (run_answer (fine x)) → after ≡ output_after before (fine x) → reel_in r after ≡ x.reel
front before r after x is out =
    ap (λ (n : ℕ). take n after) (ap (λ (n : Ran). n.length) is) ∙ ap (take (length x.reel)) out ∙ take_at x.reel (drop (length x.reel) before) (length x.reel) refl

-- a run that is not refused is finished, its reel stands at the front of the lent output, and its numbers are the reel's
pub finished_run : (deck reel before : List ℕ) (r : Ran) (after : List ℕ) → All Byte reel → RanInto deck reel before r after → r.refusal ≡ 0
    → (x : RunOutput) × (run (length before) deck reel ≡ fine x) × (reel_in r after ≡ x.reel) × (r ≡ ran_struct (run_answer (fine x)))
unfolding run
finished_run deck reel before r after a w z = go (run (length before) deck reel) refl
  where
    go : (y : Answer RunOutput) → run (length before) deck reel ≡ y
        → (x : RunOutput) × (run (length before) deck reel ≡ fine x) × (reel_in r after ≡ x.reel) × (r ≡ ran_struct (run_answer (fine x)))
    go (refuse q) d = absurd (run_never_0 zone_f (length before) (omega arith) deck reel a q d (sym (ap (λ (n : Ran). n.refusal) (w.answer ∙ ap (λ (y : Answer RunOutput). ran_struct (run_answer y)) d)) ∙ z))
    go (fine x) d =
        let is : r ≡ ran_struct (run_answer (fine x)) = w.answer ∙ ap (λ (y : Answer RunOutput). ran_struct (run_answer y)) d in
        (x, d, front before r after x is (w.output ∙ ap (output_after before) d), is)

-- ---- demand 3 and the run

-- of both reels these records, and no others, are taken; there are as many as either run counted
pub record SameTaken (deck s s' : List ℕ) (r r' : Ran) : Type 0 where
  pub p : Plan
  pub planned : plan deck ≡ fine p
  pub records : List (List ℕ)
  pub takes : Takes p s records
  pub takes' : Takes p s' records
  pub only : (rs : List (List ℕ)) → Takes p s rs → rs ≡ records
  pub only' : (rs : List (List ℕ)) → Takes p s' rs → rs ≡ records
  pub many : r.records ≡ length records
  pub many' : r'.records ≡ length records

module _ (deck : List ℕ) (n : Planned) (planned : PlanOf deck n) (keeping : n.keeping ≡ 1) (s s' before before' : List ℕ) (a : All Byte s) (a' : All Byte s') (r r' : Ran) (after after' : List ℕ)
    (w : RanInto deck s before r after) (w' : RanInto deck s' before' r' after') where
  -- marked as keeping: two runs that are not refused and write the same reel took the same records, in the same order, and so as many
  pub same_records : r.refusal ≡ 0 → r'.refusal ≡ 0 → reel_in r after ≡ reel_in r' after' → SameTaken deck s s' r r'
  unfolding plan run
  same_records z z' e =
      let q = keeping_plan deck n planned keeping in
      let x = finished_run deck s before r after a w z in
      let x' = finished_run deck s' before' r' after' a' w' z' in
      let t = took zone_f deck q.0 q.1 (length before) s x.0 a x.1 in
      let t' = took zone_f deck q.0 q.1 (length before') s' x'.0 a' x'.1 in
      let same : t'.records ≡ t.records =
      sym (same_taken zone_f deck q.0 q.1 (omega arith) q.2 (length before) (length before') s s' a a' x.0 x'.0 x.1 x'.1 (sym x.2 ∙ e ∙ x'.2) t.records t'.records t.takes t'.takes) in
      record {
        p = q.0;
        planned = q.1;
        records = t.records;
        takes = t.takes;
        takes' = subst (Takes q.0 s') same t'.takes;
        only = t.only;
        only' = λ rs u. t'.only rs u ∙ same;
        many = ap (λ (n : Ran). n.records) x.3 ∙ t.many;
        many' = ap (λ (n : Ran). n.records) x'.3 ∙ t'.many ∙ ap length same;
      }

  -- so where a record taken differs, a run is refused, or the reels that are written differ
  pub told_apart : (p : Plan) → plan deck ≡ fine p → (rs rs' : List (List ℕ)) → Takes p s rs → Takes p s' rs' → (rs ≡ rs' → ⊥)
      → (r.refusal ≡ 0 → ⊥) ⊎ ((r'.refusal ≡ 0 → ⊥) ⊎ (reel_in r after ≡ reel_in r' after' → ⊥))
  told_apart p e rs rs' t t' o = go (eqb r.refusal 0) refl (eqb r'.refusal 0) refl
    where
      told : r.refusal ≡ 0 → r'.refusal ≡ 0 → reel_in r after ≡ reel_in r' after' → ⊥
      told z z' d =
          let v = same_records z z' d in
          let is : p ≡ v.p = fine_same p v.p (sym e ∙ v.planned) in
          o (v.only rs (subst (λ (x : Plan). Takes x s rs) is t) ∙ sym (v.only' rs' (subst (λ (x : Plan). Takes x s' rs') is t')))

      go : (b : Bool) → eqb r.refusal 0 ≡ b → (b' : Bool) → eqb r'.refusal 0 ≡ b' → (r.refusal ≡ 0 → ⊥) ⊎ ((r'.refusal ≡ 0 → ⊥) ⊎ (reel_in r after ≡ reel_in r' after' → ⊥))
      go false z b' z' = inl (eqb-false r.refusal 0 z)
      go true z false z' = inr (inl (eqb-false r'.refusal 0 z'))
      go true z true z' = inr (inr (told (eqb-true r.refusal 0 z) (eqb-true r'.refusal 0 z')))

-- ---- what a run wrote, run again (document 02, order 2)

-- r' and after' are of a run of a deck, whose plan q reads under B, over what r wrote
pub record RunsBack (q : Plan) (r : Ran) (after before' : List ℕ) (r' : Ran) (after' : List ℕ) : Type 0 where
  pub no_11 : r'.refusal ≡ 11 → ⊥
  pub no_12 : r'.refusal ≡ 12 → ⊥
  -- TC answers the same and writes the same reel, where there is room
  pub copied : q.mode ≡ tc → r.length ≤ length before' → (r' ≡ r) × (reel_in r' after' ≡ reel_in r after)

module _ (deck reel before : List ℕ) (r : Ran) (after : List ℕ) (a : All Byte reel) (w : RanInto deck reel before r after) (z : r.refusal ≡ 0)
    (p : Plan) (e : plan deck ≡ fine p) (deck' : List ℕ) (q : Plan) (e' : plan deck' ≡ fine q) (u : Under p q)
    (before' : List ℕ) (r' : Ran) (after' : List ℕ) (w' : RanInto deck' (reel_in r after) before' r' after') where
  pub runs_back : RunsBack q r after before' r' after'
  unfolding plan run
  runs_back =
      record {
        no_11 = λ n. never 11 (omega arith) back.no_11 (run (length before') deck' x.0.reel) refl n;
        no_12 = λ n. never 12 (omega arith) back.no_12 (run (length before') deck' x.0.reel) refl n;
        copied = λ m l.
            let c : run (length before') deck' x.0.reel ≡ fine x.0 = back.copied m (length before') (rw (ap (λ (n : Ran). n.length) x.3) at l) in
            let is : r' ≡ ran_struct (run_answer (fine x.0)) = answer ∙ ap (λ (y : Answer RunOutput). ran_struct (run_answer y)) c in
            let out : after' ≡ output_after before' (fine x.0) =
            w'.output ∙ ap (λ (s : List ℕ). output_after before' (run (length before') deck' s)) x.2 ∙ ap (output_after before') c in
            (is ∙ sym x.3, front before' r' after' x.0 is out ∙ sym x.2);
      }
    where
      x : (x : RunOutput) × (run (length before) deck reel ≡ fine x) × (reel_in r after ≡ x.reel) × (r ≡ ran_struct (run_answer (fine x)))
      x = finished_run deck reel before r after a w z

      back : RunsAgain zone_f deck' q x.0
      back = go (is_fs p.format) refl
        where
          go : (f : Bool) → is_fs p.format ≡ f → RunsAgain zone_f deck' q x.0
          go false f = ((run_gives zone_f (length before) (omega arith) deck reel p x.0 e f a x.1).back deck' q e' u).again
          go true f = ((spanned_deck zone_f deck p e f (omega arith)).finished (length before) reel a x.0 x.1).back deck' q e' u

      answer : r' ≡ ran_struct (run_answer (run (length before') deck' x.0.reel))
      answer = w'.answer ∙ ap (λ (s : List ℕ). ran_struct (run_answer (run (length before') deck' s))) x.2

      never : (n : ℕ) → 1 ≤ n → NeverRefused zone_f deck' x.0.reel n → (y : Answer RunOutput) → run (length before') deck' x.0.reel ≡ y → r'.refusal ≡ n → ⊥
      never n l h y d k = go y d (sym (ap (λ (b : Ran). b.refusal) (answer ∙ ap (λ (y : Answer RunOutput). ran_struct (run_answer y)) d)) ∙ k)
        where
          go : (y : Answer RunOutput) → run (length before') deck' x.0.reel ≡ y → (run_answer y).refusal ≡ n → ⊥
          go (fine b) d k = omega arith
          go (refuse b) d k = h (length before') b.place b.column (d ∙ (λ i. refused_at (k i) b.place b.column))

-- ---- the two records of bhx_twins, run (document 02, order 3)

-- the reel of one block that holds a record alone
abbrev pub alone : Plan → List ℕ → List ℕ
alone p r = reel_of (block_of p.format (r ∷ []) ∷ [])

module _ (deck before : List ℕ) (t : Twins) (after : List ℕ) (told : Told deck before (twins_numbers t) after) (p : Plan) (e : plan deck ≡ fine p) (first : p.first ≡ 1)
    (lent lent' : List ℕ) (room : length lent ≡ 65536) (room' : length lent' ≡ 65536) (r r' : Ran) (out out' : List ℕ)
    (w : RanInto deck (alone p told.r) lent r out) (w' : RanInto deck (alone p told.s) lent' r' out') where
  -- with R1 bhx_run finishes over each of them alone, and writes one reel
  pub twins_run : (r.refusal ≡ 0) × (r ≡ r') × (reel_in r out ≡ reel_in r' out')
  unfolding plan run
  twins_run = (
    ap (λ (x : Ran). x.refusal) is,
    is ∙ sym is',
    front lent r out x is (w.output ∙ ap (output_after lent) runs) ∙ sym (front lent' r' out' x is' (w'.output ∙ ap (output_after lent') runs')),
  )
    where
      shows : Shows p told.lost told.r told.s
      shows = subst (λ (q : Plan). Shows q told.lost told.r told.s) (asks_once zone_f deck Done p told.p e told.asks) told.shows

      -- a plan in FS keeps, so that there are no twins
      other : is_fs p.format ≡ false
      other = go (is_fs p.format) refl
        where
          go : (f : Bool) → is_fs p.format ≡ f → is_fs p.format ≡ false
          go false f = f
          go true f = absurd (not_lost p told.lost (spanned_deck zone_f deck p e f (omega arith)).keeping shows.place)

      x : RunOutput
      x = own_ran p (out_record p told.r)

      runs : run (length lent) deck (alone p told.r) ≡ fine x
      runs = ap (λ (k : ℕ). run k deck (alone p told.r)) room ∙ alone_runs zone_f deck p e first other told.r shows.r_converts

      runs' : run (length lent') deck (alone p told.s) ≡ fine x
      runs' =
          ap (λ (k : ℕ). run k deck (alone p told.s)) room' ∙ alone_runs zone_f deck p e first other told.s shows.s_converts
          ∙ ap (λ (o : List ℕ). fine (own_ran p o)) (sym shows.outputs)

      is : r ≡ ran_struct (run_answer (fine x))
      is = w.answer ∙ ap (λ (y : Answer RunOutput). ran_struct (run_answer y)) runs

      is' : r' ≡ ran_struct (run_answer (fine x))
      is' = w'.answer ∙ ap (λ (y : Answer RunOutput). ran_struct (run_answer y)) runs'

-- ---- a reel from elsewhere (document 02, order 7)

module _ (deck : List ℕ) (p : Plan) (planned : plan deck ≡ fine p) (fill : is_filling p.mode ≡ true) where
  follows : Judging zone_f deck p
  unfolding plan
  follows = judging zone_f deck p planned fill

  -- whatever bhx_run writes by a deck of TR or TRF, in any format and from any R on, bhx_judge judges true
  pub own_true : (reel before : List ℕ) (r : Ran) (after : List ℕ) → All Byte reel → RanInto deck reel before r after → r.refusal ≡ 0
      → (j : Judged) → JudgedAs deck reel (reel_in r after) j → j ≡ record { refusal = 0; place = 0; column = 0; yes = 1; number = 0 }
  unfolding run judge
  own_true reel before r after a w z j k =
      let f = finished_run deck reel before r after a w z in
      k ∙ ap (λ (s : List ℕ). judged_of (judge_answer (judge deck reel s))) f.2 ∙ ap (λ (x : Answer ℕ). judged_of (judge_answer x)) (follows.own (length before) reel f.0 a f.1)

  -- two foreign reels with the same records are judged alike, however each is cut into blocks and segments
  pub cut_alike : (ours theirs others : List ℕ) (rs : List (List ℕ)) → Records (under_b p) theirs rs → Records (under_b p) others rs
      → (j j' : Judged) → JudgedAs deck ours theirs j → JudgedAs deck ours others j' → j ≡ j'
  unfolding judge
  cut_alike ours theirs others rs h h' j j' k k' = k ∙ ap (λ (x : Answer ℕ). judged_of (judge_answer x)) (follows.cut_anew ours theirs others rs h h') ∙ sym k'

  -- where every position of an output record is written, as in TR, a reel that is judged true holds just our records
  pub holds_just_ours : ((i : ℕ) → 1 ≤ i → i ≤ record_length p.output → Written p i) → (ours theirs : List ℕ) → All Byte ours → All Byte theirs
      → (j : Judged) → JudgedAs deck ours theirs j → j.refusal ≡ 0 → j.yes ≡ 1 → (t : True deck ours theirs) × (t.others ≡ t.outs)
  unfolding plan
  holds_just_ours h ours theirs a b j k z y =
      let t = ((judge_demands deck ours theirs j a b k).exactly z).0 y in
      let all
      = subst (λ (q : Plan). (n : ℕ) → Stands t.outs t.others n → AgreeAt q t.outs t.others n) (asks_once zone_f deck Done p t.p planned t.compares.asks) t.all in
      (t, follows.just_ours h t.outs t.others all)

-- in TR every position is written
pub carried_all : (p : Plan) → p.mode ≡ tr → (i : ℕ) → Written p i
carried_all p e i = carried e
