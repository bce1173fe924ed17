-- What is promised of a run before anything is written, for every plan that the numbers may be.
use Rattle.std.specs.Prelude.{◌≡◌, false, Option, Result, List, ℕ, length}
use Rattle.rules.specs.Base.{joined}
use Rattle.rules.specs.Answer.{each}
use Rattle.rules.specs.Plan.{Plan, is_fs}
use Rattle.rules.specs.Blocks.{taken_from}
use Rattle.rules.specs.Output.{permits}
use Rattle.rules.specs.Run.{convert}
use Rattle.rules.specs.Accepted.{Accepted}
use Rattle.rules.specs.Lent.{zone_f, run_answer}
use Rattle.terms.specs.declared.Task.{Task}
use Rattle.terms.specs.Meaning.{TaskIs}
use Rattle.rows.specs.Flat.{flat_of}
use Rattle.walks.specs.Promise.{Good}
use Rattle.measures.specs.declared.Measured.{Measured}
use Rattle.measures.specs.declared.TooLong.{TooLong}
use Rattle.measures.specs.Promise.{answer_at, answer_of, measured_of}
use Rattle.outcomes.specs.declared.Ran.{Ran}
use Rattle.outcomes.specs.Promise.{ran_struct}

-- ---- plans

-- the numbers are those of an accepted plan, and the lent numbers are its fields
pub record PlanGiven (task : Task) (fields : List ℕ) (p : Plan) : Type 0 where
  pub is : TaskIs task p
  pub accepted : Accepted p
  -- FS is asked by itself (spans)
  pub plain : is_fs p.format ≡ false
  pub flat : fields ≡ flat_of p.fields
  pub zone : p.zone ≡ zone_f

-- there is such a plan
pub record SomePlanGiven (task : Task) (fields : List ℕ) : Type 0 where
  pub p : Plan
  pub given : PlanGiven task fields p

-- there is such a plan, and the reel is good by it
pub record ReadBy (task : Task) (fields s : List ℕ) : Type 0 where
  pub p : Plan
  pub recs : List (List (List ℕ))
  pub given : PlanGiven task fields p
  pub good : Good p s recs

-- ---- the steps

-- 13: none, or the first record taken with a half that is not permitted
pub record PermittedRun (task : Task) (fields s : List ℕ) (r : Option ℕ) : Type 0 where
  pub is :
      (p : Plan) (recs : List (List (List ℕ))) → PlanGiven task fields p → Good p s recs
      → each 13 (permits p) p.first (joined (taken_from p.first recs)) ≡ answer_at 13 r

-- 14 and the measure, where the input has so many blocks and records
pub record MeasuredRun (task : Task) (fields s : List ℕ) (blocks records : ℕ) (r : Result Measured TooLong) : Type 0 where
  pub is :
      (p : Plan) (recs : List (List (List ℕ))) → PlanGiven task fields p → Good p s recs → blocks ≡ length recs → records ≡ length (joined recs)
      → answer_of r ≡ measured_of p recs

-- 13, 14 and 15 of a good reel
pub record CheckedRun (task : Task) (fields s : List ℕ) (blocks records room : ℕ) (r : Ran) : Type 0 where
  pub is :
      (p : Plan) (recs : List (List (List ℕ))) → PlanGiven task fields p → Good p s recs → blocks ≡ length recs → records ≡ length (joined recs)
      → r ≡ ran_struct (run_answer (convert room p s))

-- all of them
pub record Checked (task : Task) (fields s : List ℕ) (room : ℕ) (r : Ran) : Type 0 where
  pub is : (p : Plan) → PlanGiven task fields p → r ≡ ran_struct (run_answer (convert room p s))
