-- What stands behind the block count, in every format: for every plan and every reel of records that the lent numbers may be, the offsets and the output blocks.
use Rattle.std.specs.Prelude.{◌≡◌, false, cond, List, ◌++◌, map, ℕ, ◌+◌, ◌*◌, ◌≤◌, length}
use Rattle.rules.specs.Base.{joined}
use Rattle.rules.specs.Halves.{over, Field}
use Rattle.rules.specs.Reel.{offset_words, reel_of}
use Rattle.rules.specs.Plan.{Plan, selects, is_tc, is_fs}
use Rattle.rules.specs.Output.{block_of}
use Rattle.rules.specs.Lent.{zone_f}
use Rattle.rules.specs.Run.{output_blocks}
use Rattle.terms.specs.Meaning.{mode_of, TaskIs}
use Rattle.terms.specs.declared.Task.{Task}
use Rattle.rows.specs.Flat.{flat_of}
use Rattle.records.specs.Promise.{out_bytes}
use Rattle.walks.specs.Promise.{Good}

-- the output blocks of a plan, as bytes
unfoldable pub blocks_in : Plan → List (List (List ℕ)) → List (List ℕ)
blocks_in p recs = map (block_of p.format) (output_blocks p recs)

-- the numbers are those of a plan that converts, s is a good reel by it, and its output has so many blocks and room
pub record Ready (task : Task) (s : List ℕ) (blocks room : ℕ) : Type 0 where
  pub p : Plan
  pub recs : List (List (List ℕ))
  pub is : TaskIs task p
  pub good : Good p s recs
  pub zone : p.zone ≡ zone_f
  pub other : is_tc p.mode ≡ false
  pub plain : is_fs p.format ≡ false
  pub count : blocks ≡ length (output_blocks p recs)
  pub roomy : length (reel_of (blocks_in p recs)) ≤ room
  pub most : length (reel_of (blocks_in p recs)) ≤ 65536

-- the lent numbers are the fields of the plan
pub record Lent (task : Task) (xs s : List ℕ) (blocks room : ℕ) : Type 0 where
  pub ready : Ready task s blocks room
  pub flat : xs ≡ flat_of ready.p.fields

-- behind the block count the offsets stand, and the blocks behind them
unfoldable pub BodyPut : Task → List ℕ → List ℕ → ℕ → List ℕ → List ℕ → Type 0
BodyPut task xs s blocks old new =
    (y : Lent task xs s blocks (length old))
    → new ≡ over 4 (offset_words (4 * blocks + 8) (blocks_in y.ready.p y.ready.recs) ++ joined (blocks_in y.ready.p y.ready.recs)) old

-- the output of a record, by the fields that the lent numbers are
unfoldable pub out_of : Task → List Field → List ℕ → List ℕ
out_of task fs r = cond (selects (mode_of task.mode)) (out_bytes task.n task.width fs task.carries r) r
