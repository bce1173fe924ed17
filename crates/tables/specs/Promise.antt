-- What is promised of the plan for a lent table.
use Rattle.std.specs.Prelude.{List, [], ◌++◌, map, cond, ℕ, ◌-◌, leb, length, replicate}
use Rattle.rules.specs.Answer.{Answer, fine, refuse}
use Rattle.rules.specs.Grammar.{in_data, in_key, CardField}
use Rattle.rules.specs.Halves.{Field as RuleField}
use Rattle.rules.specs.Asked.{asked_of}
use Rattle.rules.specs.Plan.{Plan, plan_answer}
use Rattle.rules.specs.Lent.{entry_of, card_fields}
use Rattle.terms.specs.Meaning.{entry_for, no_entry}
use Rattle.terms.specs.declared.Entry.{Entry}
use Rattle.plans.specs.Promise.{planned_of, Plans}
use Rattle.plans.specs.declared.DeckPlan.{DeckPlan}
use Rattle.plans.specs.declared.Planned.{Planned}
use Rattle.tables.specs.declared.TablePlan.{TablePlan}

-- it is the plan of some deck
pub record OfDeck (r : DeckPlan) (row : List ℕ) : Type 0 where
  pub deck : List ℕ
  pub plans : Plans deck r row

-- ---- the fields for a lent table

-- a field of a plan as it stands on its card, behind a key of so many bytes: what begins in the key is taken from it, and behind it data count from 1 again
abbrev pub part_on_card : ℕ → ℕ → ℕ
part_on_card key r = cond (leb r key) 1 0

abbrev pub place_on_card : ℕ → ℕ → ℕ
place_on_card key r = cond (leb r key) r (r - key)

unfoldable pub on_card : ℕ → RuleField → CardField
on_card key f = record { part = cond (leb f.r key) in_key in_data; field = record { r = place_on_card key f.r; kind = f.kind; t = f.t } }

-- an entry for each field, and nothing behind them: 64 in all
unfoldable pub table_of : List CardField → List Entry
table_of fs = map entry_for (map entry_of fs) ++ replicate (64 - length fs) no_entry

-- the numbers, and so many entries to store
abbrev pub filled_with : Planned → List CardField → TablePlan
filled_with r fs = record { answer = r; entries = table_of fs; store = length fs }

abbrev pub not_filled : Planned → TablePlan
not_filled r = filled_with r []

-- the fields that are stored
abbrev pub stored : List ℕ → Answer Plan → List CardField
stored deck (fine p) = card_fields (asked_of deck)
stored deck (refuse r) = []

abbrev pub filled_for : List ℕ → Answer Plan → TablePlan
filled_for deck x = filled_with (planned_of (plan_answer x)) (stored deck x)
