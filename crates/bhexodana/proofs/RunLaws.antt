-- The run of a deck is the run of its plan, or the deck's own refusal: by cases on the plan, as the rules run it.
use mathlib.Core.Path.{◌≡◌, ap, sym, ◌∙◌}
use mathlib.Core.List.{List}
use Prim.Native.Nat.{ℕ, ◌*◌}
use lib.ListN.{take}
use Rattle.rules.specs.Answer.{Answer, fine, refuse, refused_at, ◌>>=◌}
use Rattle.rules.specs.Plan.{Plan}
use Rattle.rules.specs.Run.{conversion, run_of}
use Rattle.rules.specs.Lent.{zone_f, plan, run}
use Rattle.terms.specs.Meaning.{plan_in}
use Rattle.rows.specs.Kept.{fields_in}
use Rattle.plans.specs.Promise.{Plans}
use Rattle.plans.specs.declared.DeckPlan.{DeckPlan}
use Rattle.plans.proofs.FilledLaws.{refused_plan_lem, accepted_plan, plan_taken}

-- the plan is asked first
run_plan : (room : ℕ) (deck s : List ℕ) (x : Answer Plan) → plan deck ≡ x → run room deck s ≡ (x >>= λ p. conversion room p s)
unfolding run run_of plan
run_plan room deck s x e = ap (λ (y : Answer Plan). y >>= λ p. conversion room p s) e

module _ (deck : List ℕ) (r : DeckPlan) (row : List ℕ) (w : Plans deck r row) where
  pub run_refused : (r.answer.refusal ≡ 0 → ⊥) → (room : ℕ) (s : List ℕ) → run room deck s ≡ refused_at r.answer.refusal r.answer.place r.answer.column
  unfolding ◌>>=◌
  run_refused h room s =
      let q = refused_plan_lem deck r row w h in
      run_plan room deck s (refuse q.0) q.1 ∙ (λ i. refuse (record { number = sym q.2 i; place = sym q.3 i; column = sym q.4 i }))

  module _ (z : r.answer.refusal ≡ 0) where
    pub run_accepted : (room : ℕ) (s : List ℕ) → run room deck s ≡ conversion room (plan_in zone_f r.asked (fields_in (take (5 * r.asked.count) row))) s
    unfolding ◌>>=◌
    run_accepted room s =
        let a = accepted_plan deck r row w z in
        run_plan room deck s (fine a.0) a.1 ∙ ap (λ (p : Plan). conversion room p s) (sym (plan_taken deck r row w z))
