-- Judging in FF and FV: what a run with no room is refused with before 15 is at fault with ours; else the reading of theirs tells 17 or 18, or both reels are read and the
-- number is that of the first pair apart. By the steps of the rules.
use mathlib.Core.Path.{◌≡◌, refl, ap, sym, ◌∙◌, subst}
use mathlib.Core.Bool.{Bool}
use mathlib.Core.List.{List}
use Prim.Native.Nat.{ℕ, zero, suc}
use Rattle.rules.specs.Answer.{Refusal, Answer, fine, refuse, refused_at}
use Rattle.rules.specs.Plan.{Plan, bit}
use Rattle.rules.specs.Run.{RunOutput, convert, conversion}
use Rattle.rules.specs.Lent.{run_answer}
use Rattle.rules.specs.Judge.{under_b, our_records, judge_answer}
use Rattle.rules.proofs.Refusals.AnswerLaws.{not_fine}
use Rattle.rules.proofs.Runs.ReadBack.{under_b_accepted}
use Rattle.rules.proofs.Judge.JudgeRead.{ours_refused, ours_reach}
use Rattle.rules.proofs.Judge.JudgeSteps.{blocks_plain, judged_ours, judged_no_reel, judged_bad, judged_told, plain_run, run_refused, run_reaches}
use Rattle.terms.specs.declared.Task.{Task}
use Rattle.pieces.specs.declared.Form.{Form}
use Rattle.std.specs.Prelude.{Option, Ok, Err}
use Rattle.std.proofs.Math.Dec.{eqb-suc-zero}
use Rattle.reels.specs.declared.Contents.{Contents}
use Rattle.reels.specs.declared.ReelError.TheVariants.{NotReel, BadBlock}
use Rattle.reels.specs.Records.{ReelRead, ReadAs}
use Rattle.reels.proofs.ReelTold.{Tells, tells}
use Rattle.walks.specs.Promise.{Good}
use Rattle.walks.proofs.PromiseLaws.{good_read}
use Rattle.tasks.specs.Promise.{form_under}
use Rattle.tasks.proofs.LengthLaws.{form_judged}
use Rattle.outcomes.specs.declared.Ran.{Ran}
use Rattle.outcomes.specs.Promise.{ran_struct}
use Rattle.checks.specs.Promise.{PlanGiven, SomePlanGiven, Checked}
use Rattle.span_pairs.specs.Promise.{number_of}
use Rattle.pairs.specs.Promise.{BothRead, ApartAt}
use Rattle.verdicts.specs.declared.Judged.{Judged}
use Rattle.verdicts.specs.Promise.{judged_of, refused_with, told_as, Ours, OursRead, OfOurs, OfPlan}

-- the struct of an answer that is known
pub says : (r : Judged) (x y : Answer ℕ) → r ≡ judged_of (judge_answer y) → x ≡ y → r ≡ judged_of (judge_answer x)
says r x y e q = e ∙ ap (λ (a : Answer ℕ). judged_of (judge_answer a)) (sym q)

-- a number that the rules answer is told as it is, and 0 for none
pub told_number : (n : ℕ) → told_as (number_of n) ≡ judged_of (judge_answer (fine n))
told_number zero = refl
told_number (suc n) = ap (λ (b : Bool). judged_of (record { refusal = 0; place = 0; column = 0; yes = bit b; number = suc n })) (sym (eqb-suc-zero n))

-- ---- theirs

module _ {task : Task} {fields theirs : List ℕ} (ours : List ℕ) {under : Form} (u : under ≡ form_under task) {read : ReelRead} (w : ReadAs under theirs read) where
  theirs_tell : (p : Plan) → PlanGiven task fields p → Tells (under_b p) theirs read
  theirs_tell p g = tells under (under_b p) (form_judged g.is u) theirs read w

  pub ends_no_reel : read ≡ Err NotReel → (r : Judged) → r ≡ refused_with 17 0 0 → OfOurs task fields ours theirs r
  ends_no_reel t r e =
      record {
        is = λ p recs y. says r _ (refused_at 17 0 0) e (judged_no_reel p ours theirs _ y.outs (subst (Tells (under_b p) theirs) t (theirs_tell p y.given)));
      }

  pub ends_bad : (i : ℕ) → read ≡ Err (BadBlock i) → (r : Judged) → r ≡ refused_with 18 i 0 → OfOurs task fields ours theirs r
  ends_bad i t r e =
      record {
        is = λ p recs y.
            let x = subst (Tells (under_b p) theirs) t (theirs_tell p y.given) in
            says r _ (refused_at 18 i 0) e (judged_bad p ours theirs _ y.outs i x.0 (blocks_plain (under_b p) theirs y.given.plain ∙ x.1));
      }

  module _ (found : Contents) (t : read ≡ Ok found) where
    their_good : (p : Plan) → PlanGiven task fields p → (others : List (List (List ℕ))) × Good (under_b p) theirs others
    their_good p g = let x = good_read (under_b_accepted p g.accepted) (form_judged g.is u) (subst (ReadAs under theirs) t w) in (x.0, x.1)

    pub both_read : OursRead task fields ours → BothRead task fields ours theirs
    both_read y =
        let x = their_good y.p y.ours_are.given in
        record { p = y.p; recs = y.recs; others = x.0; given = y.ours_are.given; good = y.ours_are.good; good' = x.1 }

    pub ends_read : (n : Option ℕ) → ApartAt task fields ours theirs n → (r : Judged) → r ≡ told_as n → OfOurs task fields ours theirs r
    ends_read n a r e =
        record {
          is = λ p recs y.
              let x = their_good p y.given in
              says r _ (fine _) (e ∙ ap told_as (a.is p recs x.0 y.given y.good x.1) ∙ told_number _)
              (judged_told p ours theirs _ y.outs x.0 x.1.reel (blocks_plain (under_b p) theirs y.given.plain ∙ x.1.records));
        }

-- ---- ours

module _ {task : Task} {fields ours : List ℕ} {r : Ran} (h : Checked task fields ours 0 r) where
  -- the run is refused
  ran_as : (p : Plan) → PlanGiven task fields p → (q : Refusal) × (convert 0 p ours ≡ refuse q) × (r.refusal ≡ q.number) × (r.place ≡ q.place)
  ran_as p g = go (convert 0 p ours) refl
    where
      never : (x : RunOutput) → conversion 0 p ours ≡ fine x → (y : Answer (List (List ℕ))) → our_records p ours ≡ y → ⊥
      never x e (fine outs) d = let k = ours_reach p ours outs d in not_fine _ x (sym k.1 ∙ e)
      never x e (refuse q) d = not_fine q x (sym (ours_refused p ours q d) ∙ e)

      go : (x : Answer RunOutput) → convert 0 p ours ≡ x → (q : Refusal) × (convert 0 p ours ≡ refuse q) × (r.refusal ≡ q.number) × (r.place ≡ q.place)
      go (fine x) e = absurd (never x (sym (plain_run p ours g.plain) ∙ e) (our_records p ours) refl)
      go (refuse q) e =
          let w = h.is p g ∙ ap (λ (a : Answer RunOutput). ran_struct (run_answer a)) e in
          (q, e, ap (λ (s : Ran). s.refusal) w, ap (λ (s : Ran). s.place) w)

  pub ours_at_fault : (theirs : List ℕ) → (r.refusal ≡ 15 → ⊥) → (j : Judged) → j ≡ refused_with r.refusal r.place 0 → OfPlan task fields ours theirs j
  ours_at_fault theirs o j e =
      record {
        is = λ p g.
            let w = ran_as p g in
            let k = run_refused p ours g.plain w.0 w.1 (λ n. o (w.2 ∙ n)) in
            e
            ∙ (λ i. refused_with (w.2 i) (w.3 i) (sym k.1 i))
            ∙ ap (λ (a : Answer ℕ). judged_of (judge_answer a)) (sym (judged_ours p ours theirs w.0 k.0));
      }

  module _ (n : r.refusal ≡ 15) where
    fair : (p : Plan) → PlanGiven task fields p → (recs : List (List (List ℕ))) × Ours task fields ours p recs
    fair p g =
        let w = ran_as p g in
        let k = run_reaches p ours g.plain w.0 w.1 (sym w.2 ∙ n) in
        (k.0, record { given = g; good = record { accepted = g.accepted; reel = k.1; records = k.2 }; outs = k.3 })

    pub ours_fair : SomePlanGiven task fields → OursRead task fields ours
    ours_fair y = let w = fair y.p y.given in record { p = y.p; recs = w.0; ours_are = w.1 }

    pub of_ours : (theirs : List ℕ) (j : Judged) → OfOurs task fields ours theirs j → OfPlan task fields ours theirs j
    of_ours theirs j a = record { is = λ p g. let w = fair p g in a.is p w.0 w.1 }
