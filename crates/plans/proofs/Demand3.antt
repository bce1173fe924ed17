-- Demand 3 of what the function on decks answers: where it refuses nothing, its two numbers say of the deck's plan what document 01 demands.
use mathlib.Core.Path.{◌≡◌, sym, subst}
use mathlib.Core.List.{List}
use Prim.Native.Nat.{ℕ}
use native.Mathlib.Omega.{arith}
use Rattle.rules.specs.Answer.{fine}
use Rattle.rules.specs.Demand.{Marked}
use Rattle.rules.specs.Plan.{Plan}
use Rattle.rules.specs.Lent.{zone_f, plan}
use Rattle.rules.proofs.Keeping.Demand3.{demand3 as rules_demand3}
use Rattle.plans.specs.Promise.{Plans}
use Rattle.plans.specs.declared.DeckPlan.{DeckPlan}
use Rattle.plans.specs.declared.Planned.{Planned}
use Rattle.plans.proofs.FilledLaws.{accepted_plan}

-- marked as keeping exactly if no two different records that the plan converts give one output record; else the lost place is the lowest half
-- in which alone two such records differ, or 2n
pub demand3 : (deck : List ℕ) (r : DeckPlan) (row : List ℕ) → Plans deck r row → r.answer.refusal ≡ 0 → (p : Plan) × (plan deck ≡ fine p) × Marked p r.answer.keeping r.answer.lost
unfolding plan
demand3 deck r row w z =
    let s = accepted_plan deck r row w z in (
      s.0,
      s.1,
      subst (λ (n : Planned). Marked s.0 n.keeping n.lost) (sym w.numbers) (rules_demand3 zone_f (omega arith) deck s.0 s.1),
    )
