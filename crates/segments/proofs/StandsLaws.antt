-- A spot in a good reel: before a block's first segment it stands before all segments from there on, and the segment that is read next is the first of
-- those behind the spot. By the steps of a block; at a block's end by the first place of the next block.
use mathlib.Core.Path.{◌≡◌, refl, ap, sym, ◌∙◌, subst}
use mathlib.Core.Bool.{Bool, true, false}
use mathlib.Core.List.{List, [], ◌∷◌, ◌++◌, map}
use mathlib.Core.Option.{some}
use Prim.Native.Nat.{ℕ, suc, ◌+◌, ◌-◌, ◌≤◌, ◌<◌}
use native.Mathlib.Omega.{arith}
use native.Mathlib.Numerals.{add-one}
use lib.Dec.{ltb}
use lib.ListN.{length, take, drop, drop_of_length-le}
use lib.Seq.{slice, slice_empty, length-slice, take-take, drop-drop, drop-append-le, take-append-le}
use borrow.Author.Tests.{ltb-true, ltb-false}
use Rattle.rules.specs.Base.{joined}
use Rattle.rules.specs.Places.{Both, none_left, both}
use Rattle.rules.specs.Reel.{block_count, is_reel, blocks_of}
use Rattle.rules.specs.Blocks.{word_length}
use Rattle.rules.specs.ReelPlaces.{piece_at}
use Rattle.rules.specs.Spanned.{Segment, ends, part, segment_at}
use Rattle.rules.proofs.Spanned.SpannedRead.{Reads}
use Rattle.rules.proofs.Base.Lists.{slice_from, slice_part}
use Rattle.rules.proofs.Reel.ReelLaws.{header_is, length_blocks}
use Rattle.reels.specs.Header.{block_part}
use Rattle.pieces.specs.Pieces.{found}
use Rattle.reels.proofs.HeaderLaws.{part_step}
use Rattle.pieces.proofs.PiecesLaws.{worded_good}
use Rattle.segments.specs.declared.Spot.{Spot}
use Rattle.segments.specs.declared.SegmentRead.{SegmentRead}
use Rattle.segments.specs.Spots.{segment_read, read_at, next_of, passed_by, on_data, bytes_at}
use Rattle.segments.specs.Promise.{segments_from, SpotStands, Streams}
use Rattle.segments.proofs.SegmentLaws.{from_end, from_first, first_data, first_ends, read_from}
use Rattle.segments.proofs.SpotLaws.{read_is, next_here, next_later, on_here, on_next}

-- ---- the next segment

-- what was read is a segment, and the others are behind it
pub record Step (g : ℕ) (s : List ℕ) (r : SegmentRead) (ss : List Segment) : Type 0 where
  pub first : Segment
  pub more : List Segment
  pub is : ss ≡ first ∷ more
  pub stands : SpotStands g s r.spot more
  pub bytes : bytes_at s r.spot ≡ part first
  pub ends : r.ends ≡ ends first
  pub some : r.spot.from < r.spot.to
  pub inside : r.spot.to ≤ length (block_part s r.spot.block)

module _ (g : ℕ) (s : List ℕ) (e : is_reel s ≡ true) where
  -- in its block
  step_here : (block i : ℕ) → block ≤ block_count s → i < length (block_part s block) → (here : List Segment) → segments_from (block_part s block) i ≡ some here
      → (later : List (List Segment)) → Both (Reads g) (drop (suc block) (blocks_of s)) later → Step g s (read_at s block i) (here ++ joined later)
  unfolding bytes_at
  step_here block i m l here left later behind_it =
      let b = block_part s block in
      let f = from_first b i here l left in
      let x = piece_at i (drop i b) in
      let n = word_length (drop i (block_part s block)) in
      let to : i + 4 + (n - 4) ≡ i + n = omega (arith, f.least) in
      let q : read_at s block i ≡ segment_read block i (found x) = read_is s block i b (found x) refl (worded_good 3 b i l f.head) in
      subst (λ (r : SegmentRead). Step g s r (here ++ joined later)) (sym q)
      (record {
        first = segment_at b x;
        more = f.more ++ joined later;
        is = ap (◌++ joined later) f.is;
        stands =
            record {
              reel = e;
              most = m;
              ordered = omega arith;
              inside = λ _. omega (arith, f.most, f.least);
              here = f.more;
              left = ap (segments_from b) to ∙ f.next;
              later = later;
              behind = behind_it;
              is = refl;
            };
        bytes =
            slice_from (i + 4) (n - 4) b ∙ sym (first_data b i);
        ends = sym (first_ends b i);
        some = omega (arith, f.least);
        inside = omega (arith, f.most, f.least);
      })

  -- of the next block
  step_later : (block : ℕ) → (later : List (List Segment)) → 1 ≤ length (joined later) → Both (Reads g) (drop block (blocks_of s)) later → Step g s (read_at s block 4) (joined later)
  step_later block later some_left all = go (ltb block (block_count s)) refl
    where
      split : (later : List (List Segment)) → block < block_count s → Both (Reads g) (block_part s block ∷ drop (suc block) (blocks_of s)) later → Step g s (read_at s block 4) (joined later)
      split (here ∷ later) m (both v w) = let k = read_from g (block_part s block) here v in step_here block 4 (omega arith) k.1 here k.0 later w
      split [] m x = elim x [ ]

      none_behind : (later : List (List Segment)) → Both (Reads g) [] later → length (joined later) ≡ 0
      none_behind [] none_left = refl
      none_behind (_ ∷ _) x = elim x [ ]

      go : (t : Bool) → ltb block (block_count s) ≡ t → Step g s (read_at s block 4) (joined later)
      go true t =
          let m = ltb-true block (block_count s) t in
          split later m (subst (λ (bs : List (List ℕ)). Both (Reads g) bs later) (part_step s block e m) all)
      go false t =
          let m = ltb-false block (block_count s) t in
          let z : drop block (blocks_of s) ≡ [] = drop_of_length-le (blocks_of s) {i = block} (omega (arith, length_blocks s e)) in
          let n = none_behind later (subst (λ (bs : List (List ℕ)). Both (Reads g) bs later) z all) in
          absurd (omega arith)

-- behind a spot
pub step_next : (g : ℕ) (s : List ℕ) (v : Spot) (ss : List Segment) → SpotStands g s v ss → 1 ≤ length ss → Step g s (next_of s v) ss
step_next g s v ss k l = go (ltb v.to (length (block_part s v.block))) refl
  where
    go : (t : Bool) → ltb v.to (length (block_part s v.block)) ≡ t → Step g s (next_of s v) ss
    go true t =
        let m = ltb-true v.to (length (block_part s v.block)) t in
        subst (Step g s (next_of s v)) (sym k.is)
        (subst (λ (r : SegmentRead). Step g s r (k.here ++ joined k.later)) (next_here s v (block_part s v.block) refl m)
        (step_here g s k.reel v.block v.to k.most m k.here k.left k.later k.behind))
    go false t =
        let m = ltb-false v.to (length (block_part s v.block)) t in
        let z : ss ≡ joined k.later = k.is ∙ ap (◌++ joined k.later) (from_end (block_part s v.block) v.to k.here m k.left) in
        let n : 1 ≤ length (joined k.later) = omega (arith, ap length z) in
        subst (Step g s (next_of s v)) (sym z)
        (subst (λ (r : SegmentRead). Step g s r (joined k.later)) (next_later s v (block_part s v.block) refl m)
        (step_later g s k.reel (v.block + 1) k.later n (subst (λ (i : ℕ). Both (Reads g) (drop i (blocks_of s)) k.later) (sym (add-one v.block)) k.behind)))

-- ---- within a segment

-- a spot of a reel: its block is one of the reel's, or the one behind them
pub stands_block : {g : ℕ} {s : List ℕ} {v : Spot} {ss : List Segment} → SpotStands g s v ss → v.block ≤ length s
stands_block {s = s} k = omega (arith, k.most, (header_is s k.reel).there)

pub stands_moved : {g : ℕ} {s : List ℕ} {v : Spot} {ss : List Segment} → (n : ℕ) → v.from + n ≤ v.to → SpotStands g s v ss → SpotStands g s (passed_by n v) ss
stands_moved {v = v} n l k =
    record {
      reel = k.reel;
      most = k.most;
      ordered = l;
      inside = λ h. k.inside (omega arith);
      here = k.here;
      left = k.left;
      later = k.later;
      behind = k.behind;
      is = k.is;
    }

-- where nothing is left
pub bytes_none : (s : List ℕ) (v : Spot) → v.from ≡ v.to → bytes_at s v ≡ []
unfolding bytes_at
bytes_none s v e = ap (λ (i : ℕ). slice i v.to (block_part s v.block)) e ∙ slice_empty v.to (block_part s v.block)

pub bytes_moved : (s : List ℕ) (v : Spot) (n : ℕ) → bytes_at s (passed_by n v) ≡ drop n (bytes_at s v)
unfolding bytes_at
bytes_moved s v n = sym (drop-drop n v.from (take v.to (block_part s v.block)))

pub spot_length : (s : List ℕ) (v : Spot) → v.from < v.to → v.to ≤ length (block_part s v.block) → length (bytes_at s v) ≡ v.to - v.from
unfolding bytes_at
spot_length s v l m = length-slice v.from v.to (block_part s v.block) m

module _ {g : ℕ} {s : List ℕ} {v : Spot} {all : List ℕ} (k : Streams g s v all) where
  -- all bytes of the segment are there
  pub bytes_length : length (bytes_at s v) ≡ v.to - v.from
  bytes_length = go (ltb v.from v.to) refl
    where
      go : (t : Bool) → ltb v.from v.to ≡ t → length (bytes_at s v) ≡ v.to - v.from
      go true t = let m = ltb-true v.from v.to t in spot_length s v m (k.stands.inside m)
      go false t =
          let m = ltb-false v.from v.to t in
          let q : v.from ≡ v.to = omega (arith, k.stands.ordered) in
          ap length (bytes_none s v q) ∙ (let z : 0 ≡ v.to - v.from = omega arith in z)

  pub streams_moved : (n : ℕ) → v.from + n ≤ v.to → Streams g s (passed_by n v) (drop n all)
  streams_moved n l =
      record {
        segments = k.segments;
        stands = stands_moved n l k.stands;
        is =
            ap (drop n) k.is
            ∙ drop-append-le n (bytes_at s v) (joined (map part k.segments)) (omega (arith, bytes_length))
            ∙ ap (◌++ joined (map part k.segments)) (sym (bytes_moved s v n));
      }

  -- so many of them are the first of all that is left
  pub bytes_taken : (n : ℕ) → v.from + n ≤ v.to → v.to ≤ length (block_part s v.block) → take n (drop v.from (block_part s v.block)) ≡ take n all
  unfolding bytes_at
  bytes_taken n l m =
      let b = block_part s v.block in
      sym (ap (take n) k.is
      ∙ take-append-le n (slice v.from v.to b) (joined (map part k.segments)) (omega (arith, length-slice v.from v.to b m))
      ∙ ap (take n) (slice_part v.from v.to b k.stands.ordered)
      ∙ take-take n (v.to - v.from) (drop v.from b) (omega arith))

  -- on to data
  pub streams_on : 1 ≤ length all → (w : Spot) → w ≡ on_data s v → Streams g s w all × (w.from < w.to) × (w.to ≤ length (block_part s w.block))
  streams_on l w e = go (ltb v.from v.to) refl
    where
      On : Spot → Type 0
      On x = Streams g s x all × (x.from < x.to) × (x.to ≤ length (block_part s x.block))

      some_segment : (ss : List Segment) → 1 ≤ length (joined (map part ss)) → 1 ≤ length ss
      some_segment [] h = h
      some_segment (x ∷ ss) h = omega arith

      go : (t : Bool) → ltb v.from v.to ≡ t → On w
      go true t = let m = ltb-true v.from v.to t in subst On (on_here s v m ∙ sym e) (k, m, k.stands.inside m)
      go false t =
          let m = ltb-false v.from v.to t in
          let q : v.from ≡ v.to = omega (arith, k.stands.ordered) in
          let z : all ≡ joined (map part k.segments) = k.is ∙ ap (◌++ joined (map part k.segments)) (bytes_none s v q) in
          let c = step_next g s v k.segments k.stands (some_segment k.segments (omega (arith, ap length z))) in
          subst On (on_next s v (next_of s v) m refl ∙ sym e) (
            record {
              segments = c.more;
              stands = c.stands;
              is = z ∙ ap (λ (x : List Segment). joined (map part x)) c.is ∙ ap (◌++ joined (map part c.more)) (sym c.bytes);
            },
            c.some,
            c.inside,
          )
