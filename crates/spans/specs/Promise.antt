-- What is promised of a run in FS, for every good reel and every record of it that the spots and numbers may be.
use Rattle.std.specs.Prelude.{◌≡◌, Bool, List, map, ℕ, ◌+◌, ◌-◌, ◌*◌, ◌≤◌, ◌<◌, length, take, drop}
use Rattle.rules.specs.Base.{joined}
use Rattle.rules.specs.Halves.{over}
use Rattle.rules.specs.Reel.{reel_of}
use Rattle.rules.specs.Spanned.{span_of, segmented}
use Rattle.rules.specs.Run.{RunOutput, housed, spanned_ran}
use Rattle.rules.specs.Lent.{run_answer, output_after}
use Rattle.fillings.specs.declared.Tally.{Tally}
use Rattle.fillings.specs.Offsets.{OffsetFits}
use Rattle.segments.specs.declared.Spot.{Spot}
use Rattle.segments.specs.Promise.{GoodSpans, Streams, Before}
use Rattle.outcomes.specs.declared.Ran.{Ran}
use Rattle.outcomes.specs.Promise.{ran_struct}
use Rattle.cuts.specs.declared.CutTaken.{CutTaken}
use Rattle.cuts.specs.Cutting.{CutSmall, BetweenSegments, behind_record}
use Rattle.spans.specs.Putting.{segment_put, record_put}

-- ---- a segment

-- so many bytes of data are left from a spot on
pub record Streaming (s : List ℕ) (v : Spot) (n : ℕ) : Type 0 where
  pub g : ℕ
  pub bytes : List ℕ
  pub streams : Streams g s v bytes
  pub enough : n ≤ length bytes

-- there is room for a segment at the end of its block, which ends where the blocks so far do
pub record SegmentFits (base : ℕ) (t : Tally) (p : CutTaken) (room : ℕ) : Type 0 where
  pub offset : OffsetFits base t p.tally room
  pub inside : base + p.tally.bytes ≤ room
  pub most : base + p.tally.bytes ≤ 65536
  pub header : 8 ≤ base
  pub whole : p.tally.size ≤ p.tally.bytes
  pub segment : p.size + 8 ≤ p.tally.size

pub record SegmentPut (s : List ℕ) (v : Spot) (first last : Bool) (base : ℕ) (t : Tally) (p : CutTaken) (old new : List ℕ) (w : Spot) : Type 0 where
  pub written : (y : Streaming s v p.size) → new ≡ segment_put base t p first last (take p.size y.bytes) old
  pub streams : (y : Streaming s v p.size) → Streams y.g s w (drop p.size y.bytes)

-- ---- a record

-- there is room for all segments of a record of so many bytes
pub record RecordFits (m base : ℕ) (t : Tally) (size room : ℕ) : Type 0 where
  pub small : CutSmall m t size
  pub fair : BetweenSegments m t
  pub header : 8 ≤ base
  pub front : 4 * (behind_record m t size).blocks + 4 ≤ base
  pub inside : base + (behind_record m t size).bytes ≤ room
  pub most : base + (behind_record m t size).bytes ≤ 65536

pub record RecordPut (m base : ℕ) (s : List ℕ) (v : Spot) (size : ℕ) (t : Tally) (old new : List ℕ) (u : Tally) : Type 0 where
  pub is : u ≡ behind_record m t size
  pub written : (y : Streaming s v size) → new ≡ record_put m base t (take size y.bytes) old

-- ---- all records

-- the spot stands before so many records
pub record SpotStanding (s : List ℕ) (v : Spot) (count : ℕ) : Type 0 where
  pub g : ℕ
  pub records : List (List ℕ)
  pub before : Before g s v records
  pub counts : count ≡ length records

-- the blocks that they fill, and the bytes of these
pub record SpannedMeasures (m : ℕ) (s : List ℕ) (v : Spot) (count : ℕ) (t : Tally) : Type 0 where
  pub blocks : (y : SpotStanding s v count) → t.blocks ≡ length (segmented m y.records)
  pub bytes : (y : SpotStanding s v count) → t.bytes ≡ length (joined (map span_of (segmented m y.records)))
  pub few : t.blocks ≤ 0x10000000000
  pub most : t.bytes ≤ 0x10000000000

-- they fill so many blocks, and there is room for their reel
pub record SpannedLent (m : ℕ) (s : List ℕ) (v : Spot) (count blocks room : ℕ) : Type 0 where
  pub standing : SpotStanding s v count
  pub low : 9 ≤ m
  pub high : m < 65536
  pub many : blocks ≡ length (segmented m standing.records)
  pub roomy : length (reel_of (map span_of (segmented m standing.records))) ≤ room
  pub most : length (reel_of (map span_of (segmented m standing.records))) ≤ 65536

-- the reel stands at the front, and bytes past it stay
unfoldable pub SpannedPut : ℕ → List ℕ → Spot → ℕ → ℕ → List ℕ → List ℕ → Type 0
SpannedPut m s v count blocks old new =
    (y : SpannedLent m s v count blocks (length old)) → new ≡ over 0 (reel_of (map span_of (segmented m y.standing.records))) old

-- ---- a run

-- the reel is written, or refused where there is no room for it
pub record RanAs (x : RunOutput) (old : List ℕ) (r : Ran) (new : List ℕ) : Type 0 where
  pub answer : r ≡ ran_struct (run_answer (housed (length old) x))
  pub output : new ≡ output_after old (housed (length old) x)

-- TC: the input itself
abbrev pub ran_in : List ℕ → ℕ → ℕ → RunOutput
ran_in s records blocks = record { reel = s; records = records; blocks = blocks }

-- TR: so many records are passed over, and so many are left
pub record Taking (s : List ℕ) (passed records : ℕ) : Type 0 where
  pub g : ℕ
  pub recs : List (List (List ℕ))
  pub good : GoodSpans g s recs
  pub enough : passed ≤ length (joined recs)
  pub counts : records ≡ length (joined recs) - passed

unfoldable pub FilledRun : ℕ → List ℕ → ℕ → ℕ → List ℕ → Ran → List ℕ → Type 0
FilledRun m s passed records old r new =
    (y : Taking s passed records) → RanAs (spanned_ran (map span_of (segmented m (drop passed (joined y.recs)))) (drop passed (joined y.recs))) old r new
