-- What is promised of the plan of a deck.
use Rattle.std.specs.Prelude.{◌≡◌, List, [], ℕ, length}
use Rattle.rules.specs.Answer.{Answer, fine, refuse}
use Rattle.rules.specs.Asked.{Asked as RuleAsked, asked_of}
use Rattle.rules.specs.Plan.{Plan, PlanAnswer, plan_answer}
use Rattle.rules.specs.Lent.{zone_f, plan}
use Rattle.terms.specs.Meaning.{Means, plan_in}
use Rattle.terms.specs.declared.Asked.{Asked}
use Rattle.rows.specs.Kept.{row_of}
use Rattle.cards.specs.Promise.{nothing_asked}
use Rattle.plans.specs.Verdict.{planned, mark_of, SaysAsked}
use Rattle.plans.specs.declared.DeckPlan.{DeckPlan}
use Rattle.plans.specs.declared.Planned.{Planned}

-- ---- the six numbers

-- the struct that says what the rules say, and what it says
abbrev pub planned_of : PlanAnswer → Planned
planned_of n = record { refusal = n.refusal; place = n.place; column = n.column; keeping = n.keeping; lost = n.lost; fields = n.fields }

abbrev pub numbers_of : Planned → PlanAnswer
numbers_of r = record { refusal = r.refusal; place = r.place; column = r.column; keeping = r.keeping; lost = r.lost; fields = r.fields }

abbrev pub refused_plan : ℕ → ℕ → ℕ → Planned
refused_plan number place column = record { refusal = number; place = place; column = column; keeping = 0; lost = 0; fields = 0 }

-- ---- the plan of a deck

abbrev pub refused_deck_plan : ℕ → ℕ → ℕ → DeckPlan
refused_deck_plan number place column = record { answer = refused_plan number place column; asked = nothing_asked }

abbrev pub kept_as : Asked → ℕ → ℕ → DeckPlan
kept_as x keeping lost = record { answer = record { refusal = 0; place = 0; column = 0; keeping = keeping; lost = lost; fields = x.count }; asked = x }

-- the verdict on what a deck asks for, with the plan: its refusal, or the mark of keeping and the lost place
abbrev pub planned_by : Asked → Answer (ℕ × ℕ) → DeckPlan
planned_by x (fine n) = kept_as x n.0 n.1
planned_by x (refuse r) = refused_deck_plan r.number r.place r.column

unfoldable pub Verdicts : Asked → List ℕ → DeckPlan → Type 0
Verdicts x row r = (a : RuleAsked) → SaysAsked x row a → r ≡ planned_by x (mark_of (planned zone_f a))

-- the struct and the row hold the plan p of the deck: they say just what the deck asks for
pub record HoldsPlan (deck : List ℕ) (p : Plan) (x : Asked) (row : List ℕ) : Type 0 where
  pub is : plan_in zone_f x p.fields ≡ p
  pub fields : row ≡ row_of p.fields
  pub count : x.count ≡ length p.fields
  pub means : (a : RuleAsked) → asked_of deck ≡ fine a → Means x a

-- where the deck is refused they hold nothing
abbrev pub HoldsFor : List ℕ → Answer Plan → Asked → List ℕ → Type 0
HoldsFor deck (fine p) x row = HoldsPlan deck p x row
HoldsFor deck (refuse r) x row = (x ≡ nothing_asked) × (row ≡ row_of [])

pub record Plans (deck : List ℕ) (r : DeckPlan) (row : List ℕ) : Type 0 where
  pub numbers : r.answer ≡ planned_of (plan_answer (plan deck))
  pub held : HoldsFor deck (plan deck) r.asked row
