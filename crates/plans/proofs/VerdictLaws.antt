-- The verdicts are those of the rules, where the struct says what a deck asks for: first what `combine` answers, then what weighing
-- answers, then the tail. And the promise allows one verdict alone.
use mathlib.Core.Path.{◌≡◌, refl, ap, ap₂, sym, subst, ◌∙◌}
use mathlib.Core.Bool.{Bool, true, false, cond, ◌&&◌}
use mathlib.Core.List.{List}
use Prim.Native.Nat.{ℕ, ◌*◌}
use native.Mathlib.Omega.{arith}
use lib.Dec.{eqb}
use borrow.Author.Tests.{eqb-true, eq-eqb}
use Rattle.std.proofs.Common.{Option, Some, None, Result, Ok, Err}
use Rattle.std.specs.Option.{option_or}
use Rattle.rules.specs.Halves.{Field as RuleField}
use Rattle.rules.specs.Answer.{Answer, fine, refused, refusal_of, place_of, ◌>>=◌, ◌>>◌}
use Rattle.rules.specs.Asked.{Asked as RuleAsked}
use Rattle.rules.specs.Plan.{Plan, assembled, selects, record_length, block_length, input_halves, lost_at, tail_kept, keeps, bit}
use Rattle.rules.specs.Lent.{zone_f}
use Rattle.rules.proofs.Refusals.AnswerLaws.{fine_same, then_fine, fine_then, fine_unless, then_assoc, then_bind}
use Rattle.rules.proofs.Refusals.PlanSteps.{no_barren, keeps_carried}
use Rattle.terms.specs.Meaning.{mode_of, format_of, size_of, laid_fields, plan_in}
use Rattle.terms.proofs.PlanOf.{plan_means}
use Rattle.terms.specs.declared.Asked.{Asked}
use Rattle.combinations.specs.Promise.{combined_of, answer_of as combination}
use Rattle.combinations.specs.declared.Unsound.{Unsound}
use Rattle.combinations.specs.declared.Unsound.TheVariants.{Broken, Outside}
use Rattle.combinations.proofs.CombineLaws.{refusal10, combined_same, laid_same}
use Rattle.keeping.specs.Promise.{weighed_of, answer_of as weighed}
use Rattle.keeping.specs.declared.Barren.{Barren}
use Rattle.keeping.proofs.PlanLaws.{weighed_is}
use Rattle.plans.specs.Verdict.{planned, mark_of, verdict_answer, unsound_as, SaysAsked, Weighs, SaysSome, tail_told}
use Rattle.plans.specs.declared.verdict.Refused.{Refused}
use Rattle.plans.proofs.FairLaws.{no_field_lem}

-- where no half is lost, the tail decides; its lost place is 2n
abbrev pub by_tail : Bool → ℕ → ℕ × ℕ → Answer (ℕ × ℕ)
by_tail tail halves n = fine (cond (eqb n.0 1) (cond tail (1, 0) (0, halves)) n)

-- the lost half, or else the lost tail, is what both answer
pub or_tail : (tail : Bool) (halves : ℕ) (lost : Option ℕ)
    → verdict_answer (Ok (option_or lost (cond tail None (Some halves)))) ≡ (weighed (Ok lost) >>= by_tail tail halves)
unfolding ◌>>=◌
or_tail tail halves (Some h) = refl
or_tail true halves None = refl
or_tail false halves None = refl

with_tail : (tail : Bool) (lost halves : ℕ)
    → by_tail tail halves (cond (eqb lost halves) (1, 0) (0, lost)) ≡ fine (bit (eqb lost halves && tail), cond (eqb lost halves && tail) 0 lost)
with_tail tail lost halves = go tail (eqb lost halves) refl
  where
    go : (t k : Bool) → eqb lost halves ≡ k → by_tail t halves (cond k (1, 0) (0, lost)) ≡ fine (bit (k && t), cond (k && t) 0 lost)
    go t false e = refl
    go true true e = refl
    go false true e = rw (eqb-true lost halves e)

module _ (x : Asked) (row : List ℕ) (a : RuleAsked) (h : SaysAsked x row a) where
  -- the fields that the deck asks for, and the plan that they are
  abbrev fs : List RuleField
  fs = laid_fields a

  abbrev p : Plan
  p = plan_in zone_f x fs

  abbrev n : ℕ
  n = record_length (size_of x.input)

  -- refusals 8 and 9, and then refusal 10
  answered : planned zone_f a ≡ (combined_of x fs >> (refusal10 (assembled zone_f a) >> fine (assembled zone_f a)))
  answered =
      ap (λ (z : Answer Unit). z >> fine (assembled zone_f a)) (combined_same zone_f x a h.means h.utility h.fields)
      ∙ then_assoc (combined_of x fs) (refusal10 (assembled zone_f a)) (fine (assembled zone_f a))

  combined_refused : (number place : ℕ) → refused number place ≡ combined_of x fs → refused number place ≡ mark_of (planned zone_f a)
  unfolding ◌>>◌ ◌>>=◌ mark_of
  combined_refused number place e = sym (ap mark_of (answered ∙ ap (λ (z : Answer Unit). z >> (refusal10 (assembled zone_f a) >> fine (assembled zone_f a))) (sym e)))

  pub combined_unsound : (u : Unsound) → combination (Err u) ≡ combined_of x fs → verdict_answer (Err (unsound_as u)) ≡ mark_of (planned zone_f a)
  combined_unsound (Broken place) e = combined_refused 8 place e
  combined_unsound (Outside field) e = combined_refused 9 field e

  module _ (sound : combined_of x fs ≡ fine tt) where
    -- where nothing is refused, it is the plan of the rules
    plan_is : assembled zone_f a ≡ p
    plan_is =
        sym (ap (plan_in zone_f x) (laid_same zone_f x a h.means h.utility h.fields sound) ∙ plan_means zone_f x a h.means)

    -- refusal 10, and then keeping
    on_plan : mark_of (planned zone_f a) ≡ (refusal10 p >> fine (bit (keeps p), cond (keeps p) 0 (lost_at p)))
    unfolding mark_of
    on_plan =
        ap mark_of (answered ∙ fine_then (combined_of x fs) _ sound ∙ ap (λ (q : Plan). refusal10 q >> fine q) plan_is) ∙ then_bind (refusal10 p) p _

    pub carried : selects (mode_of x.mode) ≡ false → fine (1, 0) ≡ mark_of (planned zone_f a)
    unfolding plan_in
    carried s = sym (on_plan ∙ fine_then (refusal10 p) _ (fine_unless _ 10 _ (eq-eqb _ _ (no_barren p (no_field_lem x a fs h.means sound s)))) ∙ rw (keeps_carried p s))

    -- in TF and TRF: what weighing answers, and then the tail
    pub by_weighing : selects (mode_of x.mode) ≡ true → (w : Result (Option ℕ) Barren) → weighed w ≡ weighed_of zone_f fs n (record_length (size_of x.output))
        → (weighed w >>= by_tail (tail_told (format_of x.format) x.cv n (block_length (size_of x.input))) (2 * n)) ≡ mark_of (planned zone_f a)
    unfolding plan_in keeps tail_kept input_halves
    by_weighing s w e =
        rw (e ∙ weighed_is p) (then_bind (refusal10 p) _ _ ∙ ap (refusal10 p >>◌) (with_tail (tail_kept p) (lost_at p) (input_halves p)) ∙ sym (on_plan ∙ rw s))

  -- the fields of the row are those of the plan
  pub fields_same : (q : Plan) → planned zone_f a ≡ fine q → laid_fields a ≡ q.fields
  fields_same q e =
      let own = then_fine _ (fine (assembled zone_f a)) q e in
      let sound = then_fine (combined_of x fs) (refusal10 (assembled zone_f a)) tt (sym (combined_same zone_f x a h.means h.utility h.fields) ∙ own.0) in
      laid_same zone_f x a h.means h.utility h.fields sound.0 ∙ ap (λ (z : Plan). z.fields) (fine_same (assembled zone_f a) q own.1)

  pub plan_same : (q : Plan) → planned zone_f a ≡ fine q → plan_in zone_f x q.fields ≡ q
  plan_same q e =
      let own : assembled zone_f a ≡ q = fine_same (assembled zone_f a) q (then_fine _ (fine (assembled zone_f a)) q e).1 in
      subst (λ (z : Plan). plan_in zone_f x z.fields ≡ z) own (plan_means zone_f x a h.means)

-- ---- one verdict

-- no two verdicts answer the same
pub answer_once : (r q : Result (Option ℕ) Refused) → verdict_answer r ≡ verdict_answer q → r ≡ q
answer_once (Err r) (Err q) e = ap₂ (λ (number place : ℕ). Err (record { number = number; place = place })) (ap refusal_of e) (ap place_of e)
answer_once (Err r) (Ok None) e = cc
answer_once (Err r) (Ok (Some half)) e = cc
answer_once (Ok None) (Err q) e = cc
answer_once (Ok None) (Ok None) e = refl
answer_once (Ok None) (Ok (Some half)) e = absurd (omega (arith, ap (λ (n : ℕ × ℕ). n.0) (fine_same (1, 0) (0, half) e)))
answer_once (Ok (Some half)) (Err q) e = cc
answer_once (Ok (Some half)) (Ok None) e = absurd (omega (arith, ap (λ (n : ℕ × ℕ). n.0) (fine_same (0, half) (1, 0) e)))
answer_once (Ok (Some half)) (Ok (Some half')) e = ap (λ (h : ℕ). Ok (Some h)) (ap (λ (n : ℕ × ℕ). n.1) (fine_same (0, half) (0, half') e))

pub verdict_only_one : (x : Asked) (row : List ℕ) → SaysSome x row → (r q : Result (Option ℕ) Refused) → Weighs x row r → Weighs x row q → r ≡ q
unfolding Weighs
verdict_only_one x row w r q j k = answer_once r q (j w.asked w.says ∙ sym (k w.asked w.says))
