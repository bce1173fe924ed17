-- What the functions promise: where a reel is read by the rules, they go along just the segments, and so the records, that these find.
use Rattle.std.specs.Prelude.{◌≡◌, ◌↔◌, Bool, true, List, ◌∷◌, ◌++◌, map, ℕ, suc, ◌≤◌, ◌<◌, length, take, drop}
use Rattle.std.proofs.Math.Option.{Option, none, some}
use Rattle.rules.specs.Base.{joined}
use Rattle.rules.specs.Answer.{fine}
use Rattle.rules.specs.Places.{All, Both}
use Rattle.rules.specs.Halves.{over}
use Rattle.rules.specs.Reel.{block_count, is_reel, blocks_of}
use Rattle.rules.specs.Blocks.{Piece, walk_from}
use Rattle.rules.specs.Spanned.{Segment, part, segment_at, segments_in, spanned_from, Joined}
use Rattle.reels.specs.Header.{block_part}
use Rattle.segments.specs.declared.Spot.{Spot}
use Rattle.segments.specs.declared.RecordAhead.{RecordAhead}
use Rattle.segments.specs.Spots.{spot_after, first_spot, bytes_at}

-- ---- a good reel

-- a reel whose blocks are blocks of segments in turn, and the records that end in each block
pub record GoodSpans (g : ℕ) (s : List ℕ) (recs : List (List (List ℕ))) : Type 0 where
  pub reel : is_reel s ≡ true
  pub high : g < 65536
  pub records : spanned_from g 1 none (blocks_of s) ≡ fine recs

-- ---- places in it

abbrev pub all_segments : List ℕ → Option (List Piece) → Option (List Segment)
all_segments b none = none
all_segments b (some xs) = some (map (segment_at b) xs)

-- the segments of a block whose words stand from a place on
unfoldable pub segments_from : List ℕ → ℕ → Option (List Segment)
segments_from b i = all_segments b (walk_from 3 (suc (length b)) i (drop i b))

-- the segments behind a spot: those left of its block, and then those of the blocks behind it
pub record SpotStands (g : ℕ) (s : List ℕ) (v : Spot) (ss : List Segment) : Type 0 where
  pub reel : is_reel s ≡ true
  pub most : v.block ≤ block_count s
  pub ordered : v.from ≤ v.to
  pub inside : v.from < v.to → v.to ≤ length (block_part s v.block)
  pub here : List Segment
  pub left : segments_from (block_part s v.block) v.to ≡ some here
  pub later : List (List Segment)
  pub behind : Both (λ b xs. segments_in g b ≡ some xs) (drop (suc v.block) (blocks_of s)) later
  pub is : ss ≡ here ++ joined later

-- all data that is left: of the segment read last, and then of the segments behind it
pub record Streams (g : ℕ) (s : List ℕ) (v : Spot) («data» : List ℕ) : Type 0 where
  pub segments : List Segment
  pub stands : SpotStands g s v segments
  pub is : «data» ≡ bytes_at s v ++ joined (map part segments)

-- a spot between two records, before these
pub record Before (g : ℕ) (s : List ℕ) (v : Spot) (rs : List (List ℕ)) : Type 0 where
  pub segments : List Segment
  pub stands : SpotStands g s v segments
  pub nothing : v.from ≡ v.to
  pub joins : Joined true segments rs
  pub most : All (λ r. length r ≤ 32752) rs

-- ---- behind so many records

-- there are so many
pub record Takeable (s : List ℕ) (count : ℕ) : Type 0 where
  pub g : ℕ
  pub recs : List (List (List ℕ))
  pub good : GoodSpans g s recs
  pub enough : count ≤ length (joined recs)

-- the spot before the others; it is the one behind the bytes of those passed over
pub record SpotTaken (s : List ℕ) (count : ℕ) (v : Spot) : Type 0 where
  pub before : (g : ℕ) (recs : List (List (List ℕ))) → GoodSpans g s recs → Before g s v (drop count (joined recs))
  pub is : (g : ℕ) (recs : List (List (List ℕ))) → GoodSpans g s recs → v ≡ spot_after s (length (joined (take count (joined recs)))) first_spot

-- ---- the record that begins at a spot

-- there is one
pub record Coming (s : List ℕ) (v : Spot) : Type 0 where
  pub g : ℕ
  pub next : List ℕ
  pub more : List (List ℕ)
  pub before : Before g s v (next ∷ more)

-- its length, and the spot before the others, which is the one behind its bytes
pub record Comes (s : List ℕ) (v : Spot) (a : RecordAhead) : Type 0 where
  pub size : (g : ℕ) (r : List ℕ) (rs : List (List ℕ)) → Before g s v (r ∷ rs) → a.size ≡ length r
  pub behind : (g : ℕ) (r : List ℕ) (rs : List (List ℕ)) → Before g s v (r ∷ rs) → Before g s a.behind rs
  pub is : a.behind ≡ spot_after s a.size v

-- ---- the data from a spot on

-- there is so much, and so much room
pub record Copyable (s : List ℕ) (v : Spot) (n room : ℕ) : Type 0 where
  pub g : ℕ
  pub «data» : List ℕ
  pub streams : Streams g s v «data»
  pub enough : n ≤ length «data»
  pub fits : n ≤ room

-- so many bytes stand at the front, and from the spot behind them on the others are left
pub record Copied (s : List ℕ) (v : Spot) (n : ℕ) (old new : List ℕ) (w : Spot) : Type 0 where
  pub written : (g : ℕ) («data» : List ℕ) → Streams g s v «data» → n ≤ length «data» → new ≡ over 0 (take n «data») old
  pub streams : (g : ℕ) («data» : List ℕ) → Streams g s v «data» → n ≤ length «data» → Streams g s w (drop n «data»)
  pub is : w ≡ spot_after s n v

-- ---- the data of two reels

-- there is so much from a spot on
pub record Streamed (s : List ℕ) (v : Spot) (n : ℕ) : Type 0 where
  pub g : ℕ
  pub «data» : List ℕ
  pub streams : Streams g s v «data»
  pub enough : n ≤ length «data»

-- whether so many bytes from a spot on are those from a spot of another reel on
pub record SameData (s : List ℕ) (v : Spot) (t : List ℕ) (u : Spot) (n : ℕ) (r : Bool) : Type 0 where
  pub is : (g h : ℕ) (xs ys : List ℕ) → Streams g s v xs → n ≤ length xs → Streams h t u ys → n ≤ length ys → (r ≡ true) ↔ (take n xs ≡ take n ys)
