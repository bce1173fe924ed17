-- What the functions promise: where a reel is read by the rules, a walk goes along just the records that these find.
use Rattle.std.specs.Prelude.{◌≡◌, Bool, true, Option, Some, None, List, [], ◌∷◌, ◌++◌, ℕ, suc, ◌+◌, ◌-◌, ◌≤◌, ◌<◌, length, drop}
use Rattle.std.proofs.Math.Option.{some}
use Rattle.std.proofs.Math.Seq.{slice}
use Rattle.rules.specs.Answer.{fine}
use Rattle.rules.specs.Plan.{Plan}
use Rattle.rules.specs.Accepted.{Accepted}
use Rattle.rules.specs.Reel.{block_count, is_reel, blocks_of}
use Rattle.rules.specs.Blocks.{least_data, records_from, taken_from}
use Rattle.rules.specs.ReelPlaces.{records_at}
use Rattle.pieces.specs.declared.Form.{Form}
use Rattle.pieces.specs.Form.{FormIs}
use Rattle.reels.specs.Header.{block_part}
use Rattle.walks.specs.declared.Walk.{Walk}
use Rattle.walks.specs.declared.RecordRead.{RecordRead}
use Rattle.walks.specs.Marks.{marked, marked_all}
use Rattle.walks.specs.Walking.{first_walk, record_of, taken_walk, Place, walk_of}

-- a reel whose blocks all obey their rule, by a plan that is accepted, and the records of each block
pub record Good (p : Plan) (s : List ℕ) (recs : List (List (List ℕ))) : Type 0 where
  pub accepted : Accepted p
  pub reel : is_reel s ≡ true
  pub records : records_from p 1 (blocks_of s) ≡ fine recs

-- a place before the marked records `rest` of a good reel: before those left of its block, and then those of the blocks behind it
-- (and at no block's end, but the last's, so that one call finds the next record)
pub record PlaceStands (p : Plan) (s : List ℕ) (v : Place) (rest : List (Bool × List ℕ)) : Type 0 where
  pub accepted : Accepted p
  pub reel : is_reel s ≡ true
  pub most : v.block ≤ block_count s
  pub inside : v.block < block_count s → v.at < length (block_part s v.block)
  pub here : List (List ℕ)
  pub left : records_at p (block_part s v.block) v.at ≡ some here
  pub later : List (List (List ℕ))
  pub behind : records_from p (suc (suc v.block)) (drop (suc v.block) (blocks_of s)) ≡ fine later
  pub is : rest ≡ marked v.begins here ++ marked_all later

-- the walk leads to such a place
pub record Walks (p : Plan) (s : List ℕ) (w : Walk) (rest : List (Bool × List ℕ)) : Type 0 where
  pub place : Place
  pub is : w ≡ walk_of s place
  pub stands : PlaceStands p s place rest

-- the reel is good by a plan that asks this of blocks, as it is where it was read
pub record Sound (form : Form) (s : List ℕ) : Type 0 where
  pub p : Plan
  pub recs : List (List (List ℕ))
  pub form_is : FormIs form p
  pub good : Good p s recs

-- the walk stands before some records of such a reel, or behind the last
pub record Standing (form : Form) (s : List ℕ) (w : Walk) : Type 0 where
  pub p : Plan
  pub rest : List (Bool × List ℕ)
  pub form_is : FormIs form p
  pub walks : Walks p s w rest

-- the walk to the first record: before all of them
pub record Begun (form : Form) (s : List ℕ) (w : Walk) : Type 0 where
  pub is : w ≡ first_walk form s
  pub all : (p : Plan) (recs : List (List (List ℕ))) → FormIs form p → Good p s recs → Walks p s w (marked_all recs)

-- the record is the first of those that were left, and the walk goes on before the others
pub record Passed (p : Plan) (s : List ℕ) (rest : List (Bool × List ℕ)) (read : RecordRead) : Type 0 where
  pub more : List (Bool × List ℕ)
  pub is : rest ≡ (read.begins, slice read.start (read.start + read.length) s) ∷ more
  pub long : least_data p ≤ read.length
  pub walks : Walks p s read.next more

abbrev pub RecordSays : Plan → List ℕ → List (Bool × List ℕ) → Option RecordRead → Type 0
RecordSays p s rest (Some read) = Passed p s rest read
RecordSays p s rest None = rest ≡ []

-- the bytes of the reel from a walk on, by which a loop over a walk ends
unfoldable pub bytes_left : List ℕ → Walk → ℕ
bytes_left s w = length s - w.at

-- the data lies in the reel, and behind it less of the reel is left, at least by the data
pub record DataInside (s : List ℕ) (w : Walk) (read : RecordRead) : Type 0 where
  pub ends : read.start + read.length ≤ length s
  pub less : bytes_left s read.next < bytes_left s w
  pub fewer : bytes_left s read.next + read.length ≤ bytes_left s w

abbrev pub Lies : List ℕ → Walk → Option RecordRead → Type 0
Lies s w (Some read) = DataInside s w read
Lies s w None = Unit

-- the answer, and where it lies; and where the walk stands before some records of a good reel, that it is the first of them
pub record RecordTold (form : Form) (s : List ℕ) (w : Walk) (r : Option RecordRead) : Type 0 where
  pub is : r ≡ record_of form s w
  pub lies : Lies s w r
  pub says : (p : Plan) (rest : List (Bool × List ℕ)) → FormIs form p → Walks p s w rest → RecordSays p s rest r

-- the walk to the first record that is taken: before all that are taken
pub record WalkTaken (form : Form) (s : List ℕ) (first : ℕ) (w : Walk) : Type 0 where
  pub is : w ≡ taken_walk form s first
  pub all : (p : Plan) (recs : List (List (List ℕ))) → FormIs form p → Good p s recs → Walks p s w (marked_all (taken_from first recs))
