-- What is promised of writing, and of a whole run, for every plan that the numbers may be.
use Rattle.std.specs.Prelude.{◌≡◌, List, ℕ, length}
use Rattle.rules.specs.Answer.{fine}
use Rattle.rules.specs.Plan.{Plan}
use Rattle.rules.specs.Run.{RunOutput, convert}
use Rattle.rules.specs.Lent.{run_answer, output_after}
use Rattle.terms.specs.declared.Task.{Task}
use Rattle.outcomes.specs.declared.Ran.{Ran}
use Rattle.outcomes.specs.Promise.{ran_struct}
use Rattle.checks.specs.Promise.{PlanGiven}

-- the run finishes, with so many blocks
pub record Finishes (task : Task) (fields s : List ℕ) (blocks room : ℕ) (p : Plan) (x : RunOutput) : Type 0 where
  pub given : PlanGiven task fields p
  pub finishes : convert room p s ≡ fine x
  pub count : blocks ≡ x.blocks

pub record Finishing (task : Task) (fields s : List ℕ) (blocks room : ℕ) : Type 0 where
  pub p : Plan
  pub x : RunOutput
  pub given : Finishes task fields s blocks room p x

-- the output reel is written
pub record ReelWritten (task : Task) (fields s : List ℕ) (blocks : ℕ) (old new : List ℕ) : Type 0 where
  pub is : (p : Plan) (x : RunOutput) → Finishes task fields s blocks (length old) p x → new ≡ output_after old (fine x)

-- what the rules say of the answer and of the lent output
pub record PlanRanInto (task : Task) (fields s old : List ℕ) (r : Ran) (new : List ℕ) : Type 0 where
  pub answer : (p : Plan) → PlanGiven task fields p → r ≡ ran_struct (run_answer (convert (length old) p s))
  pub output : (p : Plan) → PlanGiven task fields p → new ≡ output_after old (convert (length old) p s)
