-- What the passes promise, for every plan that the numbers may be, and every reel that is good by it.
use Rattle.std.specs.Prelude.{◌≡◌, true, false, Option, Some, None, Result, Ok, Err, List, map, ℕ, ◌*◌, ◌≤◌, length, drop}
use Rattle.rules.specs.Base.{joined}
use Rattle.rules.specs.Answer.{Answer, fine, refused, ◌>>◌, each}
use Rattle.rules.specs.Plan.{Plan, selects, is_tc}
use Rattle.rules.specs.Reel.{reel_of}
use Rattle.rules.specs.Blocks.{taken_from}
use Rattle.rules.specs.Output.{permits, block_of}
use Rattle.rules.specs.Run.{fitting, outputs, output_blocks}
use Rattle.rules.specs.Lent.{zone_f}
use Rattle.terms.specs.declared.Task.{Task}
use Rattle.terms.specs.declared.Format.TheVariants.{FF}
use Rattle.terms.specs.Meaning.{TaskIs}
use Rattle.rows.specs.Flat.{flat_of}
use Rattle.walks.specs.Promise.{Good}
use Rattle.walks.specs.Walking.{fixed_start}
use Rattle.tasks.specs.Promise.{form_of}
use Rattle.measures.specs.declared.Measured.{Measured}
use Rattle.measures.specs.declared.TooLong.{TooLong}

-- the numbers are those of a plan, and the reel is good by it, with these records
pub record GoodTask (task : Task) (s : List ℕ) (p : Plan) (recs : List (List (List ℕ))) : Type 0 where
  pub is : TaskIs task p
  pub good : Good p s recs

-- ---- refusal 13

-- the plan selects fields, and these are lent
pub record Selecting (task : Task) (fields s : List ℕ) (p : Plan) (recs : List (List (List ℕ))) : Type 0 where
  pub fair : GoodTask task s p recs
  pub flat : fields ≡ flat_of p.fields
  pub zone : p.zone ≡ zone_f
  pub selecting : selects p.mode ≡ true

-- there is such a plan
pub record Selected (task : Task) (fields s : List ℕ) : Type 0 where
  pub p : Plan
  pub recs : List (List (List ℕ))
  pub given : Selecting task fields s p recs

-- fine, or refused at this record
abbrev pub answer_at : ℕ → Option ℕ → Answer Unit
answer_at number None = fine tt
answer_at number (Some i) = refused number i

-- the halves of each record taken are permitted, or this is the first that has one that is not
unfoldable pub FirstUnpermitted : Task → List ℕ → List ℕ → Option ℕ → Type 0
FirstUnpermitted task fields s r =
    (p : Plan) (recs : List (List (List ℕ))) → Selecting task fields s p recs
    → each 13 (permits p) p.first (joined (taken_from p.first recs)) ≡ answer_at 13 r

-- ---- refusal 14, and the measure

-- the plan is no copy
pub record Measuring (task : Task) (s : List ℕ) (p : Plan) (recs : List (List (List ℕ))) : Type 0 where
  pub fair : GoodTask task s p recs
  pub other : is_tc p.mode ≡ false

-- there is such a plan
pub record Measurable (task : Task) (s : List ℕ) : Type 0 where
  pub p : Plan
  pub recs : List (List (List ℕ))
  pub given : Measuring task s p recs

-- refusal 14's answer
unfoldable pub fit_answer : Plan → List (List (List ℕ)) → Answer Unit
fit_answer p recs = each 14 (λ holds. holds) p.first (fitting p.mode p (outputs p recs))

-- refusal 14 at the record, or the blocks, records and bytes of the output reel
abbrev pub answer_of : Result Measured TooLong → Answer (ℕ × ℕ × ℕ)
answer_of (Err long) = refused 14 long.number
answer_of (Ok m) = fine (m.blocks, m.records, m.length)

-- what the rules answer of these records, and measure of their output
unfoldable pub measured_of : Plan → List (List (List ℕ)) → Answer (ℕ × ℕ × ℕ)
measured_of p recs =
    let bs = output_blocks p recs in
    fit_answer p recs >> fine (length bs, length (joined bs), length (reel_of (map (block_of p.format) bs)))

-- the answer is that of the rules
unfoldable pub Measures : Task → List ℕ → Result Measured TooLong → Type 0
Measures task s r = (p : Plan) (recs : List (List (List ℕ))) → Measuring task s p recs → answer_of r ≡ measured_of p recs

-- ---- FF

-- the plan is no copy, in FF, and so many records stand from this place on
pub record FixedFrom (task : Task) (s : List ℕ) (from records : ℕ) : Type 0 where
  pub some : Measurable task s
  pub fixed : task.format ≡ FF
  pub start : from ≡ fixed_start (form_of task) s task.first
  pub all : length (drop from s) ≡ records * task.n

-- so many blocks has the output
pub record FixedBlocks (task : Task) (s : List ℕ) (r : ℕ) : Type 0 where
  pub is : (p : Plan) (recs : List (List (List ℕ))) → Measuring task s p recs → r ≡ length (output_blocks p recs)
  pub few : r ≤ 131072
