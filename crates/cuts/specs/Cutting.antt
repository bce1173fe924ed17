-- How a record is cut, by numbers alone: a new block starts where fewer than 5 bytes are left, and a segment takes all that is left of its record, or of its block.
use Rattle.std.specs.Prelude.{◌≡◌, cond, ℕ, zero, suc, ◌+◌, ◌-◌, ◌*◌, ◌≤◌, ◌<◌, min, ltb}
use Rattle.fillings.specs.declared.Tally.{Tally}
use Rattle.cuts.specs.declared.CutTaken.{CutTaken}

-- numbers that are far from wrapping, where so many bytes are to come: each takes at most a block's word and its segment's besides
pub record CutSmall (m : ℕ) (t : Tally) (rest : ℕ) : Type 0 where
  pub low : 9 ≤ m
  pub high : m < 65536
  pub inside : t.size ≤ m
  pub blocks : t.blocks + rest ≤ 0x10000000000
  pub bytes : t.bytes + 9 * rest ≤ 0x10000000000

-- between two segments: no block is there, and nothing is left of it; or the last is one of those so far
pub record BetweenSegments (m : ℕ) (t : Tally) : Type 0 where
  pub word : 4 ≤ t.size
  pub none : t.blocks ≡ 0 → m ≤ t.size
  pub last : 1 ≤ t.blocks → t.size ≤ t.bytes

-- before the first segment: no block, and nothing is left of it
abbrev pub full_of : ℕ → Tally
full_of m = record { blocks = 0; size = m; bytes = 0 }

-- the block that a segment goes into
unfoldable pub opened_of : ℕ → Tally → Tally
opened_of m t = cond (ltb (m - t.size) 5) (record { blocks = t.blocks + 1; size = 4; bytes = t.bytes + 4 }) t

-- a segment of n bytes more in the block
abbrev pub part_in : Tally → ℕ → CutTaken
part_in b n = record { size = n; tally = record { blocks = b.blocks; size = b.size + (n + 4); bytes = b.bytes + (n + 4) } }

-- the next segment of a record of which so many bytes are left
unfoldable pub cut_of : ℕ → Tally → ℕ → CutTaken
cut_of m t rest = let b = opened_of m t in part_in b (min rest (m - b.size - 4))

-- cut by cut (each takes a byte or more, so that one step for each byte is enough)
abbrev pub tally_from : ℕ → ℕ → Tally → ℕ → Tally
tally_from m zero t rest = t
tally_from m (suc k) t zero = t
tally_from m (suc k) t (suc n) = tally_from m k (cut_of m t (suc n)).tally (suc n - (cut_of m t (suc n)).size)

-- behind a record of so many bytes
unfoldable pub behind_record : ℕ → Tally → ℕ → Tally
behind_record m t size = tally_from m size t size
