-- What the numbers of a plan say of the rules' answer, and what its struct and its row hold.
use mathlib.Core.Path.{◌≡◌, refl, ap, sym, subst, ◌∙◌}
use mathlib.Core.List.{List, []}
use Prim.Native.Nat.{ℕ, ◌*◌, ◌≤◌}
use native.Mathlib.Omega.{arith}
use lib.ListN.{length, take}
use Rattle.rules.specs.Answer.{Refusal, Answer, fine, refuse}
use Rattle.rules.specs.Accepted.{Accepted}
use Rattle.rules.specs.Plan.{Plan, PlanAnswer, plan_answer}
use Rattle.rules.specs.Lent.{zone_f, plan}
use Rattle.rules.proofs.Deck.AcceptedLaws.{accepted}
use Rattle.rules.proofs.Refusals.PlanSteps.{never_0}
use Rattle.terms.specs.Meaning.{plan_in}
use Rattle.terms.specs.declared.Asked.{Asked}
use Rattle.rows.specs.Flat.{flat_of}
use Rattle.rows.specs.Kept.{fields_in}
use Rattle.rows.specs.Fair.{PlanFair}
use Rattle.rows.proofs.RowLaws.{fields_back, flat_front, length_row}
use Rattle.plans.specs.Promise.{planned_of, numbers_of, HoldsPlan, HoldsFor, Plans}
use Rattle.plans.specs.declared.DeckPlan.{DeckPlan}
use Rattle.plans.specs.declared.Planned.{Planned}

-- ---- what the numbers say

-- they say all that the rules answer
pub plan_told : (x : PlanAnswer) → numbers_of (planned_of x) ≡ x
plan_told x = refl

-- what is answered of a plan
abbrev answered : Answer Plan → Planned
answered x = planned_of (plan_answer x)

module _ (deck : List ℕ) (r : DeckPlan) (row : List ℕ) (w : Plans deck r row) where
  -- refused, with the number, the place and the column
  pub refused_plan_lem : (r.answer.refusal ≡ 0 → ⊥)
      → (q : Refusal) × (plan deck ≡ refuse q) × (r.answer.refusal ≡ q.number) × (r.answer.place ≡ q.place) × (r.answer.column ≡ q.column)
  refused_plan_lem h = go (plan deck) refl
    where
      go : (x : Answer Plan) → plan deck ≡ x
          → (q : Refusal) × (plan deck ≡ refuse q) × (r.answer.refusal ≡ q.number) × (r.answer.place ≡ q.place) × (r.answer.column ≡ q.column)
      go (refuse q) e =
          let n = w.numbers ∙ ap answered e in
          (q, e, ap (λ (n : Planned). n.refusal) n, ap (λ (n : Planned). n.place) n, ap (λ (n : Planned). n.column) n)
      go (fine p) e = absurd (h (ap (λ (n : Planned). n.refusal) (w.numbers ∙ ap answered e)))

  -- accepted, with the plan's own numbers
  pub accepted_plan : r.answer.refusal ≡ 0 → (p : Plan) × (plan deck ≡ fine p) × (r.answer ≡ planned_of (plan_answer (fine p))) × HoldsPlan deck p r.asked row
  unfolding plan
  accepted_plan z = go (plan deck) refl
    where
      go : (x : Answer Plan) → plan deck ≡ x → (p : Plan) × (plan deck ≡ fine p) × (r.answer ≡ planned_of (plan_answer (fine p))) × HoldsPlan deck p r.asked row
      go (refuse q) e = absurd (never_0 zone_f deck q e (sym (ap (λ (n : Planned). n.refusal) (w.numbers ∙ ap answered e)) ∙ z))
      go (fine p) e = (p, e, w.numbers ∙ ap answered e, subst (λ (x : Answer Plan). HoldsFor deck x r.asked row) e w.held)

-- ---- the struct and the row of an accepted plan

module _ (deck : List ℕ) (p : Plan) (x : Asked) (row : List ℕ) (h : HoldsPlan deck p x row) (end : ℕ) (all : end ≡ 5 * length p.fields) where
  -- the row begins with the numbers of its fields
  pub front : take end row ≡ flat_of p.fields
  front = ap (take end) h.fields ∙ flat_front p.fields end all

  pub fields_are : fields_in (take end row) ≡ p.fields
  fields_are = ap fields_in front ∙ fields_back p.fields

  -- so they hold the plan
  pub plan_is : plan_in zone_f x (fields_in (take end row)) ≡ p
  plan_is = ap (plan_in zone_f x) fields_are ∙ h.is

  module _ (e : plan deck ≡ fine p) where
    pub plan_fair : PlanFair x (take end row)
    unfolding plan
    plan_fair = record { accepted = subst Accepted (sym plan_is) (accepted zone_f deck p e); flat = front ∙ ap flat_of (sym fields_are) }

-- there is room for its fields, and they stand in the row
pub row_holds : (deck : List ℕ) (p : Plan) → plan deck ≡ fine p → (x : Asked) (row : List ℕ) → HoldsPlan deck p x row → (length p.fields ≤ 64) × (length row ≡ 320)
unfolding plan
row_holds deck p e x row h = let few = (accepted zone_f deck p e).few in (few, ap length h.fields ∙ length_row p.fields few)

-- whatever is planned, the row has its 320 numbers
pub plans_long : (deck : List ℕ) (r : DeckPlan) (row : List ℕ) → Plans deck r row → length row ≡ 320
plans_long deck r row w = go (plan deck) refl w.held
  where
    go : (x : Answer Plan) → plan deck ≡ x → HoldsFor deck x r.asked row → length row ≡ 320
    go (fine p) e h = (row_holds deck p e r.asked row h).1
    go (refuse q) e h = ap length h.1 ∙ length_row [] (omega arith)

-- the plan of a deck that is accepted, for those who go on with the struct and the front of the row
module _ (deck : List ℕ) (r : DeckPlan) (row : List ℕ) (w : Plans deck r row) (z : r.answer.refusal ≡ 0) where
  -- as many numbers as its fields have
  all_numbers : 5 * r.asked.count ≡ 5 * length (accepted_plan deck r row w z).0.fields
  all_numbers = ap (λ (n : ℕ). 5 * n) (accepted_plan deck r row w z).3.count

  pub plan_taken : plan_in zone_f r.asked (fields_in (take (5 * r.asked.count) row)) ≡ (accepted_plan deck r row w z).0
  plan_taken = let a = accepted_plan deck r row w z in plan_is deck a.0 r.asked row a.3 _ all_numbers

  pub runnable : PlanFair r.asked (take (5 * r.asked.count) row)
  runnable = let a = accepted_plan deck r row w z in plan_fair deck a.0 r.asked row a.3 _ all_numbers a.1

  -- its fields stand in the row
  pub front_in : 5 * r.asked.count ≤ length row
  front_in = let a = accepted_plan deck r row w z in let l = row_holds deck a.0 a.1 r.asked row a.3 in omega (arith, l.0, l.1, all_numbers)
