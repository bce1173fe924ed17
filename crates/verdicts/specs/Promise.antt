-- What is promised of judging: the rules' answer as a struct, for every plan that the numbers may be.
use Rattle.std.specs.Prelude.{◌≡◌, true, cond, List, map, ℕ, ◌+◌, ◌-◌, min, length, Option, Some, None}
use Rattle.rules.specs.Base.{joined}
use Rattle.rules.specs.Answer.{fine}
use Rattle.rules.specs.Asked.{asked_of}
use Rattle.rules.specs.Plan.{Plan, is_fs, block_length}
use Rattle.rules.specs.Accepted.{Accepted}
use Rattle.rules.specs.Blocks.{taken_from}
use Rattle.rules.specs.Output.{out_record}
use Rattle.rules.specs.Judge.{our_records, JudgeAnswer, judge_answer, judgement}
use Rattle.rules.proofs.Judge.JudgeSteps.{copies_blocks}
use Rattle.terms.specs.declared.Task.{Task}
use Rattle.walks.specs.Promise.{Good}
use Rattle.checks.specs.Promise.{PlanGiven}
use Rattle.segments.specs.Promise.{GoodSpans}
use Rattle.verdicts.specs.declared.Judged.{Judged}

-- ---- the struct

-- it says what the rules say, and this is what it says
abbrev pub judged_of : JudgeAnswer → Judged
judged_of x = record { refusal = x.refusal; place = x.place; column = x.column; yes = x.yes; number = x.number }

abbrev pub judge_numbers : Judged → JudgeAnswer
judge_numbers r = record { refusal = r.refusal; place = r.place; column = r.column; yes = r.yes; number = r.number }

abbrev pub refused_with : ℕ → ℕ → ℕ → Judged
refused_with refusal place column = record { refusal = refusal; place = place; column = column; yes = 0; number = 0 }

abbrev pub told_as : Option ℕ → Judged
told_as None = record { refusal = 0; place = 0; column = 0; yes = 1; number = 0 }
told_as (Some number) = record { refusal = 0; place = 0; column = 0; yes = 0; number = number }

-- it says what is judged by a plan
abbrev pub Judges : Plan → List ℕ → List ℕ → Judged → Type 0
Judges p ours theirs r = r ≡ judged_of (judge_answer (judgement p ours theirs))

-- ---- in FF and FV

-- nothing is at fault with ours
pub record Ours (task : Task) (fields ours : List ℕ) (p : Plan) (recs : List (List (List ℕ))) : Type 0 where
  pub given : PlanGiven task fields p
  pub good : Good p ours recs
  pub outs : our_records p ours ≡ fine (map (out_record p) (joined (taken_from p.first recs)))

pub record OursRead (task : Task) (fields ours : List ℕ) : Type 0 where
  pub p : Plan
  pub recs : List (List (List ℕ))
  pub ours_are : Ours task fields ours p recs

pub record OfOurs (task : Task) (fields ours theirs : List ℕ) (r : Judged) : Type 0 where
  pub is : (p : Plan) (recs : List (List (List ℕ))) → Ours task fields ours p recs → Judges p ours theirs r

pub record OfPlan (task : Task) (fields ours theirs : List ℕ) (r : Judged) : Type 0 where
  pub is : (p : Plan) → PlanGiven task fields p → Judges p ours theirs r

-- ---- in FS

-- a plan in FS with these numbers
pub record Spanning (g m first : ℕ) (p : Plan) : Type 0 where
  pub accepted : Accepted p
  pub spanned : is_fs p.format ≡ true
  pub g_is : g ≡ block_length p.input
  pub m_is : m ≡ block_length p.output
  pub first_is_lem : first ≡ p.first

-- nothing is at fault with ours; of its records so many are passed over, up to R, and so many are left
pub record OursSpanned (ours : List ℕ) (passed count : ℕ) : Type 0 where
  pub g : ℕ
  pub first : ℕ
  pub recs : List (List (List ℕ))
  pub good : GoodSpans g ours recs
  pub passes : passed ≡ min (first - 1) (length (joined recs))
  pub counted : passed + count ≡ length (joined recs)

pub record OfSpanned (m : ℕ) (ours : List ℕ) (passed count : ℕ) (theirs : List ℕ) (r : Judged) : Type 0 where
  pub is : (y : OursSpanned ours passed count) (p : Plan) → Spanning y.g m y.first p → Judges p ours theirs r

pub record OfNumbers (g m first : ℕ) (ours theirs : List ℕ) (r : Judged) : Type 0 where
  pub is : (p : Plan) → Spanning g m first p → Judges p ours theirs r

-- ---- a deck that is refused

pub record NotJudged (deck : List ℕ) (refusal place column : ℕ) (r : Judged) : Type 0 where
  pub is : r ≡ cond (copies_blocks (asked_of deck)) (refused_with 8 1 0) (refused_with refusal place column)
