-- What the struct and the row of an accepted plan give to who runs it, or judges by it: its task is that of an accepted plan, and in FS its numbers are within their
-- limits. By the parts of an accepted plan.
use mathlib.Core.Path.{◌≡◌, refl}
use mathlib.Core.Bool.{true, false}
use mathlib.Core.List.{List}
use Prim.Native.Nat.{ℕ, ◌≤◌, ◌<◌}
use native.Mathlib.Omega.{arith}
use Rattle.rules.specs.Halves.{Field as RuleField}
use Rattle.rules.specs.Plan.{Plan, is_fs, block_length}
use Rattle.rules.specs.Lent.{zone_f}
use Rattle.rules.proofs.Spanned.SpannedOut.{low_b, most_a, most_b}
use Rattle.terms.specs.declared.Asked.{Asked}
use Rattle.terms.specs.declared.Task.{Task}
use Rattle.terms.specs.Meaning.{format_of, size_of, plan_in, TaskIs}
use Rattle.rows.specs.Kept.{fields_in}
use Rattle.rows.specs.Fair.{PlanFair}
use Rattle.checks.specs.Promise.{PlanGiven}

-- the row is lent as it is: it is just the numbers of the plan's fields
pub given_plan : {asked : Asked} {row : List ℕ} → PlanFair asked row → is_fs (format_of asked.format) ≡ false → (task : Task) → ((fs : List RuleField) → TaskIs task (plan_in zone_f asked fs))
    → PlanGiven task row (plan_in zone_f asked (fields_in row))
unfolding plan_in
given_plan {asked} {row} ok plain task is = record { is = is (fields_in row); accepted = ok.accepted; plain = plain; flat = ok.flat; zone = refl }

module _ (asked : Asked) (row : List ℕ) where
  abbrev q : Plan
  q = plan_in zone_f asked (fields_in row)

  -- the numbers of A, B and R
  pub spans_fair : PlanFair asked row → is_fs (format_of asked.format) ≡ true
      → (9 ≤ block_length (size_of asked.output)) × (block_length (size_of asked.output) < 65536) × (block_length (size_of asked.input) < 65536) × (1 ≤ asked.first) × (asked.first ≤ 65536)
  unfolding plan_in
  spans_fair ok e =
      let w = ok.accepted in
      (low_b q w e, omega (arith, most_b q w e), omega (arith, most_a q w e), w.first.0, w.first.1)
