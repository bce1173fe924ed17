-- From what a deck asks for to its plan: the verdict's numbers are those of the rules, and an accepted plan is what was read.
use mathlib.Core.Path.{◌≡◌, refl, ap, sym, subst, ◌∙◌}
use mathlib.Core.List.{List, []}
use Prim.Native.Nat.{ℕ}
use lib.ListN.{length}
use Rattle.rules.specs.Halves.{Field as RuleField}
use Rattle.rules.specs.Answer.{Refusal, Answer, fine, refuse, ◌>>=◌}
use Rattle.rules.specs.Asked.{Asked as RuleAsked, asked_of}
use Rattle.rules.specs.Plan.{Plan, plan_answer}
use Rattle.rules.specs.Lent.{zone_f, plan}
use Rattle.rules.proofs.Refusals.AnswerLaws.{fine_same}
use Rattle.rules.proofs.Deck.AcceptedLaws.{limited_of, limits_utility, limits_fields}
use Rattle.rules.proofs.Refusals.PlanSteps.{never_0, deck_refused, deck_asks}
use Rattle.terms.specs.Meaning.{laid_fields, Means}
use Rattle.terms.proofs.Laid.{many_laid}
use Rattle.terms.specs.declared.Asked.{Asked}
use Rattle.rows.specs.Flat.{flat_of}
use Rattle.rows.specs.Kept.{row_of}
use Rattle.plans.specs.Verdict.{planned, mark_of, SaysAsked, SaysSome}
use Rattle.plans.proofs.VerdictLaws.{fields_same, plan_same}
use Rattle.cards.specs.Promise.{nothing_asked}
use Rattle.plans.specs.Promise.{planned_of, refused_deck_plan, planned_by, HoldsPlan, HoldsFor, Plans}
use Rattle.plans.specs.declared.DeckPlan.{DeckPlan}

-- ---- a deck that is refused by 1 to 7

pub refused_deck : (deck : List ℕ) (q : Refusal) (row : List ℕ) → asked_of deck ≡ refuse q → row ≡ row_of [] → Plans deck (refused_deck_plan q.number q.place q.column) row
unfolding plan
refused_deck deck q row e none =
    let r = deck_refused zone_f deck q e in
    record { numbers = ap (λ (z : Answer Plan). planned_of (plan_answer z)) (sym r); held = subst (λ (z : Answer Plan). HoldsFor deck z nothing_asked row) (sym r) (refl, none) }

-- ---- a deck that asks for something

-- the numbers of the verdict are those that the rules answer
numbers_by : (x : Asked) (q : Answer Plan) → ((p : Plan) → q ≡ fine p → x.count ≡ length p.fields) → (planned_by x (mark_of q)).answer ≡ planned_of (plan_answer q)
unfolding mark_of ◌>>=◌
numbers_by x (refuse r) many = refl
numbers_by x (fine p) many = rw (many p refl)

module _ (deck : List ℕ) (a : RuleAsked) (asks : asked_of deck ≡ fine a) (x : Asked) (m : Means x a) where
  abbrev fs : List RuleField
  fs = laid_fields a

  -- what is read of it says what it asks for, so that it can be judged
  pub says : (row : List ℕ) → row ≡ flat_of fs → SaysAsked x row a
  says row e = let l = limited_of deck a asks in record { means = m; utility = limits_utility a l; fields = limits_fields a l; flat = e }

  pub judgeable : (row : List ℕ) → row ≡ flat_of fs → SaysSome x row
  judgeable row e = record { asked = a; says = says row e }

  is_planned : plan deck ≡ planned zone_f a
  unfolding plan
  is_planned = deck_asks zone_f deck a asks

  -- its fields are those of the plan
  pub row_fields : (p : Plan) → planned zone_f a ≡ fine p → fs ≡ p.fields
  row_fields p e = fields_same x (flat_of fs) a (says (flat_of fs) refl) p e

  many : (p : Plan) → planned zone_f a ≡ fine p → x.count ≡ length p.fields
  many p e = many_laid x a m ∙ ap length (row_fields p e)

  numbers_are : (r : DeckPlan) → r ≡ planned_by x (mark_of (planned zone_f a)) → r.answer ≡ planned_of (plan_answer (plan deck))
  numbers_are r e = ap (λ (s : DeckPlan). s.answer) e ∙ numbers_by x (planned zone_f a) many ∙ ap (λ (z : Answer Plan). planned_of (plan_answer z)) (sym is_planned)

  -- accepted, and the row holds its fields
  held : (row : List ℕ) → row ≡ row_of fs → (p : Plan) → planned zone_f a ≡ fine p → HoldsPlan deck p x row
  held row e p q =
      record {
        is = plan_same x (flat_of fs) a (says (flat_of fs) refl) p q;
        fields = e ∙ ap row_of (row_fields p q);
        count = many p q;
        means = λ b w. subst (Means x) (fine_same a b (sym asks ∙ w)) m;
      }

  pub asked_kept : (row : List ℕ) → row ≡ row_of fs → (r : DeckPlan) → r ≡ planned_by x (mark_of (planned zone_f a)) → r.answer.refusal ≡ 0 → Plans deck r row
  unfolding plan mark_of ◌>>=◌
  asked_kept row full r e z = record { numbers = numbers_are r e; held = go (planned zone_f a) refl }
    where
      go : (q : Answer Plan) → planned zone_f a ≡ q → HoldsFor deck (plan deck) r.asked row
      go (fine p) w =
          let i : r.asked ≡ x = ap (λ (s : DeckPlan). s.asked) (e ∙ ap (λ (z : Answer Plan). planned_by x (mark_of z)) w) in
          subst (λ (z : Answer Plan). HoldsFor deck z r.asked row) (sym (is_planned ∙ w)) (subst (λ (y : Asked). HoldsPlan deck p y row) (sym i) (held row full p w))
      go (refuse q) w = absurd (never_0 zone_f deck q (is_planned ∙ w) (sym (ap (λ (s : DeckPlan). s.answer.refusal) (e ∙ ap (λ (z : Answer Plan). planned_by x (mark_of z)) w)) ∙ z))

  -- refused, and the row is cleared
  pub asked_refused : (row : List ℕ) → row ≡ row_of [] → (r : DeckPlan) → r ≡ planned_by x (mark_of (planned zone_f a)) → (r.answer.refusal ≡ 0 → ⊥) → Plans deck r row
  unfolding plan mark_of ◌>>=◌
  asked_refused row none r e n = record { numbers = numbers_are r e; held = go (planned zone_f a) refl }
    where
      go : (q : Answer Plan) → planned zone_f a ≡ q → HoldsFor deck (plan deck) r.asked row
      go (fine p) w = absurd (n (ap (λ (s : DeckPlan). s.answer.refusal) (e ∙ ap (λ (z : Answer Plan). planned_by x (mark_of z)) w)))
      go (refuse q) w =
          subst (λ (z : Answer Plan). HoldsFor deck z r.asked row) (sym (is_planned ∙ w))
          (ap (λ (s : DeckPlan). s.asked) (e ∙ ap (λ (z : Answer Plan). planned_by x (mark_of z)) w), none)
