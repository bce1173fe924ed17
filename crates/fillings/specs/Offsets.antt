-- The offset of a block that a record or a segment opens.
use Rattle.std.specs.Prelude.{cond, List, ℕ, ◌+◌, ◌*◌, ◌≤◌, ◌<◌, ltb}
use Rattle.rules.specs.Halves.{over}
use Rattle.rules.specs.Reel.{word}
use Rattle.fillings.specs.declared.Tally.{Tally}

-- the offset of block i, from 1, stands at place 4i; the blocks start at base
unfoldable pub offset_put : ℕ → Tally → Tally → List ℕ → List ℕ
offset_put base tally more out = cond (ltb tally.blocks more.blocks) (over (4 * more.blocks) (word (base + tally.bytes)) out) out

-- there is room for it
pub record OffsetFits (base : ℕ) (tally more : Tally) (room : ℕ) : Type 0 where
  pub inside : tally.blocks < more.blocks → 4 * more.blocks + 4 ≤ room
  pub low : base + tally.bytes ≤ 65536
  pub few : more.blocks ≤ 65536
