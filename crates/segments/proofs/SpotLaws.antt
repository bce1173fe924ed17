-- What a spot is answered, for each outcome of the tests; and the spot behind so many bytes: within a segment it moves on by as many, and bytes behind
-- others are all of them together. By the definitions, and byte by byte.
use mathlib.Core.Path.{◌≡◌, refl, ap, sym, ◌∙◌}
use mathlib.Core.List.{List}
use Prim.Native.Nat.{ℕ, zero, suc, ◌+◌, ◌≤◌, ◌<◌}
use native.Mathlib.Omega.{arith}
use lib.ListN.{length}
use borrow.Author.Tests.{lt-ltb, le-ltb}
use Rattle.reels.specs.Header.{block_part}
use Rattle.pieces.specs.Pieces.{PieceRead, worded_in}
use Rattle.std.specs.Prelude.{Some, None, Ok, Err}
use Rattle.std.specs.Option.{option_flatten}
use Rattle.std.specs.Result.{result_ok}
use Rattle.pieces.specs.declared.FoundPiece.{FoundPiece}
use Rattle.segments.specs.declared.Spot.{Spot}
use Rattle.segments.specs.declared.SegmentRead.{SegmentRead}
use Rattle.segments.specs.Spots.{no_segment, segment_read, read_at, next_of, passed_by, on_data, spot_after}

-- ---- what stands there

pub read_is : (s : List ℕ) (block at : ℕ) (b : List ℕ) (r : PieceRead) → b ≡ block_part s block → r ≡ worded_in 3 b at → read_at s block at ≡ segment_read block at r
unfolding read_at
read_is s block at b r e f = ap (segment_read block at) (ap (λ (z : List ℕ). worded_in 3 z at) (sym e) ∙ sym f)

-- a segment stands there, or none does
pub some_read : (block at : ℕ) (r : PieceRead) (x : FoundPiece) → Some x ≡ option_flatten (result_ok r) → segment_read block at (Ok (Some x)) ≡ segment_read block at r
some_read block at (Ok (Some y)) x e = let z : x ≡ y = cc in ap (λ (w : FoundPiece). segment_read block at (Ok (Some w))) z
some_read block at (Ok None) x e = cc
some_read block at (Err y) x e = cc

pub none_read : (block at : ℕ) (r : PieceRead) → None ≡ option_flatten (result_ok r) → no_segment block at ≡ segment_read block at r
none_read block at (Ok (Some y)) e = cc
none_read block at (Ok None) e = refl
none_read block at (Err y) e = refl

pub next_here : (s : List ℕ) (v : Spot) (b : List ℕ) → b ≡ block_part s v.block → v.to < length b → read_at s v.block v.to ≡ next_of s v
unfolding next_of
next_here s v b e l = rw (lt-ltb v.to (length (block_part s v.block)) (omega (arith, ap length e)))

pub next_later : (s : List ℕ) (v : Spot) (b : List ℕ) → b ≡ block_part s v.block → length b ≤ v.to → read_at s (v.block + 1) 4 ≡ next_of s v
unfolding next_of
next_later s v b e l = rw (le-ltb v.to (length (block_part s v.block)) (omega (arith, ap length e)))

pub on_here : (s : List ℕ) (v : Spot) → v.from < v.to → v ≡ on_data s v
unfolding on_data
on_here s v l = rw (lt-ltb v.from v.to l)

pub on_next : (s : List ℕ) (v : Spot) (r : SegmentRead) → v.to ≤ v.from → r ≡ next_of s v → r.spot ≡ on_data s v
unfolding on_data
on_next s v r l e = rw (le-ltb v.from v.to l) (ap (λ (x : SegmentRead). x.spot) e)

-- ---- behind so many bytes

spot_same : (block to : ℕ) {from from' : ℕ} → from ≡ from' → ◌≡◌ {A = Spot} (record { block = block; from = from; to = to }) (record { block = block; from = from'; to = to })
spot_same block to e = λ j. record { block = block; from = e j; to = to }

pub after_inside : (s : List ℕ) (n : ℕ) (v : Spot) → v.from + n ≤ v.to → spot_after s n v ≡ passed_by n v
after_inside s zero v l = spot_same v.block v.to (let z : v.from ≡ v.from + 0 = omega arith in z)
after_inside s (suc n) v l =
    ap (λ (w : Spot). spot_after s n (passed_by 1 w)) (sym (on_here s v (omega arith)))
    ∙ after_inside s n (passed_by 1 v) (let z : v.from + 1 + n ≤ v.to = omega arith in z)
    ∙ spot_same v.block v.to (let z : v.from + 1 + n ≡ v.from + suc n = omega arith in z)

-- from a spot at which nothing is left, or something is
pub after_data : (s : List ℕ) (n : ℕ) (v w : Spot) → w ≡ on_data s v → 1 ≤ n → w.from + n ≤ w.to → spot_after s n v ≡ passed_by n w
after_data s zero v w e h l = absurd (omega arith)
after_data s (suc n) v w e h l =
    ap (λ (x : Spot). spot_after s n (passed_by 1 x)) (sym e)
    ∙ after_inside s n (passed_by 1 w) (let z : w.from + 1 + n ≤ w.to = omega arith in z)
    ∙ spot_same w.block w.to (let z : w.from + 1 + n ≡ w.from + suc n = omega arith in z)

pub after_more : (s : List ℕ) (m n : ℕ) (v : Spot) → spot_after s (m + n) v ≡ spot_after s n (spot_after s m v)
after_more s zero n v = ap (λ (k : ℕ). spot_after s k v) (let z : 0 + n ≡ n = omega arith in z)
after_more s (suc m) n v =
    ap (λ (k : ℕ). spot_after s k v) (let z : suc m + n ≡ suc (m + n) = omega arith in z) ∙ after_more s m n (passed_by 1 (on_data s v))
