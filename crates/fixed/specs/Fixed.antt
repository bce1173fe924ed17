-- What is promised of FF: the outputs of records of equal length, one behind the other, and the offsets of their blocks.
use Rattle.std.specs.Prelude.{◌≡◌, false, List, map, ℕ, ◌+◌, ◌*◌, ◌≤◌, length, drop}
use Rattle.rules.specs.Base.{joined}
use Rattle.rules.specs.Halves.{over, Field}
use Rattle.rules.specs.Plan.{selects}
use Rattle.rules.specs.Reel.{offset_words}
use Rattle.rules.specs.EvenRecords.{Even}
use Rattle.terms.specs.declared.Task.{Task}
use Rattle.terms.specs.declared.Format.TheVariants.{FF}
use Rattle.terms.specs.Meaning.{mode_of}
use Rattle.rows.specs.Flat.{FlatFair, Fielded}
use Rattle.records.specs.Promise.{out_bytes}
use Rattle.walks.specs.Walking.{fixed_start}
use Rattle.tasks.specs.Promise.{form_of}
use Rattle.fixed.specs.Promise.{blocks_in, Ready, out_of}

-- ---- the outputs

-- the bytes are records of n bytes, of which the fields may be written into m bytes each, and there is room for all
pub record OutputsFit (xs : List ℕ) (n m : ℕ) (block : List ℕ) (room : ℕ) : Type 0 where
  pub some : 1 ≤ n
  pub fielded : Fielded xs n m
  pub records : List (List ℕ)
  pub even : Even n block records
  pub short : length block ≤ 65536
  pub roomy : length records * m ≤ room

-- their outputs stand at the front, and bytes past them stay
unfoldable pub OutputsPut : List ℕ → ℕ → ℕ → List ℕ → List ℕ → List ℕ → Type 0
OutputsPut xs n m block old new =
    (fs : List Field) → FlatFair xs fs n m → (rs : List (List ℕ)) → Even n block rs → new ≡ over 0 (joined (map (out_bytes n m fs false) rs)) old

-- the same by the numbers of a plan, which carries no data past n
pub record BytesFit (task : Task) (xs block : List ℕ) (room : ℕ) : Type 0 where
  pub outputs : OutputsFit xs task.n task.width block room
  pub none_carried : task.carries ≡ false
  pub whole : selects (mode_of task.mode) ≡ false → length block ≤ room

unfoldable pub BytesPut : Task → List ℕ → List ℕ → List ℕ → List ℕ → Type 0
BytesPut task xs block old new =
    (fs : List Field) → FlatFair xs fs task.n task.width → (rs : List (List ℕ)) → Even task.n block rs → new ≡ over 0 (joined (map (out_of task fs) rs)) old

-- ---- the offsets

-- the output of a plan in FF starts at base, and so many records stand from the place where R starts
pub record EndsFit (task : Task) (s : List ℕ) (from records base room : ℕ) : Type 0 where
  pub blocks : ℕ
  pub ready : Ready task s blocks room
  pub fixed : task.format ≡ FF
  pub start : from ≡ fixed_start (form_of task) s task.first
  pub all : length (drop from s) ≡ records * task.n
  pub behind : base ≡ 4 * blocks + 8

-- they stand from place 4 on
unfoldable pub EndsPut : Task → List ℕ → ℕ → List ℕ → List ℕ → Type 0
EndsPut task s base old new = (blocks : ℕ) (x : Ready task s blocks (length old)) → base ≡ 4 * blocks + 8 → new ≡ over 4 (offset_words base (blocks_in x.p x.recs)) old
