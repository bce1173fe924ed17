-- What is promised of the functions that users call: the rules' answers, as structs, and what the lent memory holds afterwards. One predicate for each.
use Rattle.std.specs.Prelude.{◌≡◌, List, map, ℕ, length}
use Rattle.rules.specs.Plan.{plan_answer}
use Rattle.rules.specs.Lent.{plan, plan_into, table_after, run, run_answer, output_after}
use Rattle.rules.specs.Twins.{twins_into, twins_answer, twins_after}
use Rattle.rules.specs.Judge.{judge, judge_answer}
use Rattle.terms.specs.Meaning.{entry_means, entry_for}
use Rattle.terms.specs.declared.Entry.{Entry}
use Rattle.plans.specs.declared.Planned.{Planned}
use Rattle.plans.specs.Promise.{planned_of}
use Rattle.outcomes.specs.declared.Ran.{Ran}
use Rattle.outcomes.specs.Promise.{ran_struct}
use Rattle.twins.specs.declared.Twins.{Twins}
use Rattle.twins.specs.Promise.{twins_of}
use Rattle.verdicts.specs.declared.Judged.{Judged}
use Rattle.verdicts.specs.Promise.{judged_of}

-- bhx_plan
abbrev pub PlanOf : List ℕ → Planned → Type 0
PlanOf deck r = r ≡ planned_of (plan_answer (plan deck))

-- bhx_plan_into: the answer, and the lent table afterwards
pub record PlannedInto (deck : List ℕ) (before : List Entry) (r : Planned) (after : List Entry) : Type 0 where
  pub answer : r ≡ planned_of (plan_answer (plan_into (length before) deck))
  pub table : after ≡ map entry_for (table_after (map entry_means before) deck (plan_into (length before) deck))

-- bhx_run: the answer, and the lent output afterwards
pub record RanInto (deck reel before : List ℕ) (r : Ran) (after : List ℕ) : Type 0 where
  pub answer : r ≡ ran_struct (run_answer (run (length before) deck reel))
  pub output : after ≡ output_after before (run (length before) deck reel)

-- bhx_twins: the answer, and the lent output afterwards
pub record TwinsInto (deck before : List ℕ) (r : Twins) (after : List ℕ) : Type 0 where
  pub answer : r ≡ twins_of (twins_answer (twins_into (length before) deck))
  pub output : after ≡ twins_after before (twins_into (length before) deck)

-- bhx_judge
abbrev pub JudgedAs : List ℕ → List ℕ → List ℕ → Judged → Type 0
JudgedAs deck ours theirs r = r ≡ judged_of (judge_answer (judge deck ours theirs))
