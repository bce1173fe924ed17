-- What a spot is answered, for every list of bytes and every spot; and the spot behind so many bytes of data.
use Rattle.std.specs.Prelude.{true, cond, List, ℕ, zero, suc, ◌+◌, ◌%◌, ltb, eqb, length, Some, None, Ok, Err}
use Rattle.std.proofs.Math.Seq.{slice}
use Rattle.reels.specs.Header.{block_part}
use Rattle.pieces.specs.Pieces.{PieceRead, worded_in}
use Rattle.segments.specs.declared.Spot.{Spot}
use Rattle.segments.specs.declared.SegmentRead.{SegmentRead}

-- ---- the next segment

-- nothing is left where there is none
abbrev pub no_segment : ℕ → ℕ → SegmentRead
no_segment block at = record { spot = record { block = block; from = at; to = at }; ends = true }

-- codes 0 and 2 end a record
abbrev pub segment_read : ℕ → ℕ → PieceRead → SegmentRead
segment_read block at (Ok (Some x)) = record { spot = record { block = block; from = x.place; to = x.next.at }; ends = eqb (x.third % 2) 0 }
segment_read block at (Ok None) = no_segment block at
segment_read block at (Err e) = no_segment block at

-- the segment whose word stands at a place of a block
unfoldable pub read_at : List ℕ → ℕ → ℕ → SegmentRead
read_at s block at = segment_read block at (worded_in 3 (block_part s block) at)

-- the segment behind a spot: at a block's end the first one of the next block
unfoldable pub next_of : List ℕ → Spot → SegmentRead
next_of s v = cond (ltb v.to (length (block_part s v.block))) (read_at s v.block v.to) (read_at s (v.block + 1) 4)

-- ---- behind so many bytes

-- of the bytes that are left of the segment
abbrev pub passed_by : ℕ → Spot → Spot
passed_by n v = record { block = v.block; from = v.from + n; to = v.to }

-- the same spot, or where nothing is left of the segment the next one
unfoldable pub on_data : List ℕ → Spot → Spot
on_data s v = cond (ltb v.from v.to) v (next_of s v).spot

-- byte by byte
abbrev pub spot_after : List ℕ → ℕ → Spot → Spot
spot_after s zero v = v
spot_after s (suc n) v = spot_after s n (passed_by 1 (on_data s v))

-- before the first segment of a reel
abbrev pub first_spot : Spot
first_spot = record { block = 0; from = 4; to = 4 }

-- the bytes that are left of the segment
unfoldable pub bytes_at : List ℕ → Spot → List ℕ
bytes_at s v = slice v.from v.to (block_part s v.block)
