-- What the writers promise: for every plan and every reel of records that the lent numbers may be, the reel of the output blocks stands at the front of the
-- lent output, and bytes past it stay.
use Rattle.std.specs.Prelude.{◌≡◌, true, List, ℕ, ◌+◌, ◌-◌, ◌≤◌, ◌<◌, length}
use Rattle.rules.specs.Halves.{over, Field}
use Rattle.rules.specs.Reel.{reel_of}
use Rattle.rules.specs.Plan.{selects}
use Rattle.rules.specs.Output.{cost}
use Rattle.terms.specs.Meaning.{mode_of, format_of}
use Rattle.terms.specs.declared.Task.{Task}
use Rattle.rows.specs.Flat.{FlatFair, Fielded}
use Rattle.fillings.specs.declared.Tally.{Tally}
use Rattle.fillings.specs.Offsets.{offset_put, OffsetFits}
use Rattle.tasks.specs.Promise.{output_length_of}
use Rattle.fixed.specs.Promise.{blocks_in, out_of, Lent}
use Rattle.writers.specs.Writing.{size_word, record_piece}

-- ---- a record

-- a record whose output may be written
pub record Writable (task : Task) (xs r : List ℕ) : Type 0 where
  pub fielded : Fielded xs task.n task.width
  pub least : selects (mode_of task.mode) ≡ true → task.n ≤ length r
  pub costs : task.cost ≡ cost (format_of task.format)
  pub width : task.width ≤ 4096
  pub long : length r ≤ 65536
  pub word : output_length_of task (length r) + 4 < 65536

unfoldable pub DataPut : Task → List ℕ → List ℕ → List ℕ → List ℕ → Type 0
DataPut task xs r old new = (fs : List Field) → FlatFair xs fs task.n task.width → new ≡ over 0 (out_of task fs r) old

unfoldable pub PiecePut : Task → List ℕ → List ℕ → ℕ → List ℕ → List ℕ → Type 0
PiecePut task xs r at old new =
    (fs : List Field) → FlatFair xs fs task.n task.width → new ≡ over at (record_piece (format_of task.format) (out_of task fs r)) old

-- there is room for a record of k bytes at the end of its block, which ends where the blocks so far do
pub record NextFits (task : Task) (k base : ℕ) (tally more : Tally) (room : ℕ) : Type 0 where
  pub offset : OffsetFits base tally more room
  pub inside : base + more.bytes ≤ room
  pub most : base + more.bytes ≤ 65536
  pub header : 8 ≤ base
  pub whole : more.size ≤ more.bytes
  pub piece : task.cost + (task.cost + output_length_of task k) ≤ more.size

-- the offset, the word of the block, which says its size so far, and the record
unfoldable pub next_put : Task → List Field → List ℕ → ℕ → Tally → Tally → List ℕ → List ℕ
next_put task fs r base tally more out =
    let f = format_of task.format in
    let end = base + more.bytes in
    over (end - (task.cost + output_length_of task (length r))) (record_piece f (out_of task fs r))
    (over (end - more.size) (size_word f more.size) (offset_put base tally more out))

unfoldable pub NextPut : Task → List ℕ → List ℕ → ℕ → Tally → Tally → List ℕ → List ℕ → Type 0
NextPut task xs r base tally more old new = (fs : List Field) → FlatFair xs fs task.n task.width → new ≡ next_put task fs r base tally more old

-- ---- the reel

-- the reel stands at the front, and bytes past it stay
unfoldable pub ReelPut : Task → List ℕ → List ℕ → ℕ → List ℕ → List ℕ → Type 0
ReelPut task xs s blocks old new = (y : Lent task xs s blocks (length old)) → new ≡ over 0 (reel_of (blocks_in y.ready.p y.ready.recs)) old
