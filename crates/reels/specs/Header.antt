-- What the header of a reel is read as.
use Rattle.std.specs.Prelude.{cond, ◌&&◌, List, [], ℕ, suc, ◌+◌, ◌*◌, leb, length, Option, Some, None}
use Rattle.std.proofs.Math.Seq.{slice}
use Rattle.rules.specs.Reel.{block_count, is_reel}
use Rattle.rules.specs.ReelPlaces.{offset_at}

-- the block count of a reel; none, if there is no reel (refusal 11)
abbrev pub HeaderRead : Type 0
HeaderRead = Option ℕ

unfoldable pub header_of : List ℕ → HeaderRead
header_of s = cond (is_reel s) (Some (block_count s)) None

-- the part between offset i and offset i+1: empty where the two words are not there, or where the second is past the end
-- (or below the first)
unfoldable pub block_part : List ℕ → ℕ → List ℕ
block_part s i =
    cond (leb (4 * i + 12) (length s) && leb (offset_at s (suc i)) (length s))
    (slice (offset_at s i) (offset_at s (suc i)) s)
    []
