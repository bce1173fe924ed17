-- A reel that is read by the rules: its first spot stands before all records. Block by block each record's segments are found in turn; a reel has one list of
-- records, whatever its blocks may be long. And what is left from a spot on lies in the reel, so that it is at most 65,536 bytes, each segment with a byte or more.
use mathlib.Core.Path.{◌≡◌, refl, ap, sym, ◌∙◌, subst}
use mathlib.Core.Bool.{Bool, true, false, cond, ◌&&◌}
use mathlib.Core.List.{List, [], ◌∷◌, ◌++◌, map, append_assoc}
use mathlib.Core.Option.{Option, none, some-injective}
use Prim.Native.Nat.{ℕ, suc, ◌+◌, ◌-◌, ◌*◌, ◌≤◌}
use native.Mathlib.Omega.{arith}
use lib.Dec.{ltb, leb}
use lib.ListN.{length, take, drop, length-append, length-drop, length-take, drop_of_length-le}
use lib.Seq.{slice}
use borrow.Author.Tests.{ltb-true, ltb-false}
use Rattle.rules.specs.Base.{joined}
use Rattle.rules.specs.Answer.{fine}
use Rattle.rules.specs.Places.{All, no_more, Both, none_left, both}
use Rattle.rules.specs.Reel.{block_count, is_reel, blocks_of}
use Rattle.rules.specs.ReelPlaces.{offset_at}
use Rattle.rules.specs.Spanned.{Segment, part, spanned_from, Joined, no_segment, ending, going, Turns}
use Rattle.rules.proofs.Spanned.SpannedRead.{gathered, read_held, Reads}
use Rattle.rules.proofs.Base.Lists.{drop_less, mapped_append}
use Rattle.rules.proofs.Base.AllLaws.{all_append, both_map, both_same}
use Rattle.rules.proofs.Reel.Bounds.{parts_length}
use Rattle.rules.proofs.Reel.ReelLaws.{header_is, length_blocks}
use Rattle.rules.proofs.Reel.ReelSteps.{offset_first, offset_last}
use Rattle.rules.proofs.Spanned.SpannedTurns.{turns_once, turns_exactly}
use Rattle.reels.specs.Header.{block_part}
use Rattle.reels.proofs.HeaderLaws.{part_step, words_missing}
use Rattle.segments.specs.declared.Spot.{Spot}
use Rattle.segments.specs.Spots.{first_spot, bytes_at}
use Rattle.segments.specs.Promise.{GoodSpans, SpotStands, Streams, Before}
use Rattle.segments.proofs.SegmentLaws.{end_from, from_parts, read_from}
use Rattle.segments.proofs.StandsLaws.{bytes_length}

-- ---- the segments of all blocks

pub read_spans : (g i : ℕ) (now : Option (List ℕ)) (bs : List (List ℕ)) (recs : List (List (List ℕ))) → spanned_from g i now bs ≡ fine recs
    → (sss : List (List Segment)) × Both (Reads g) bs sss × Turns now (joined sss) (joined recs) none
read_spans g i now bs recs e = gathered (Reads g) (read_held g i now bs recs e)

-- one list of segments
reads_same : (g g' : ℕ) {bs : List (List ℕ)} {sss sss' : List (List Segment)} → Both (Reads g) bs sss → Both (Reads g') bs sss' → sss ≡ sss'
reads_same g g' w w' =
    both_same (λ b ss ss' v v'. some-injective ss ss' (sym v ∙ v')) (both_map (λ b ss v. (read_from g b ss v).0) w) (both_map (λ b ss v. (read_from g' b ss v).0) w')

pub good_same : {g g' : ℕ} {s : List ℕ} {recs recs' : List (List (List ℕ))} → GoodSpans g s recs → GoodSpans g' s recs' → joined recs ≡ joined recs'
good_same {g} {g'} {s} {recs} {recs'} a b =
    let k = read_spans g 1 none (blocks_of s) recs a.records in
    let m = read_spans g' 1 none (blocks_of s) recs' b.records in
    (turns_once k.2 (subst (λ (z : List (List Segment)). Turns none (joined z) (joined recs') none) (sym (reads_same g g' k.1 m.1)) m.2)).0

-- ---- the first spot

stands_first : (g : ℕ) (s : List ℕ) → is_reel s ≡ true → (sss : List (List Segment)) → Both (Reads g) (blocks_of s) sss → SpotStands g s first_spot (joined sss)
stands_first g s e sss all = go (ltb 0 (block_count s)) refl
  where
    split : (sss : List (List Segment)) → Both (Reads g) (block_part s 0 ∷ drop 1 (blocks_of s)) sss → SpotStands g s first_spot (joined sss)
    split (here ∷ later) (both v w) =
        record {
          reel = e;
          most = omega arith;
          ordered = omega arith;
          inside = λ h. absurd (omega arith);
          here = here;
          left = (read_from g (block_part s 0) here v).0;
          later = later;
          behind = w;
          is = refl;
        }
    split [] x = elim x [ ]

    -- a reel of no block has no part
    nothing : blocks_of s ≡ [] → length (block_part s 0) ≤ 4 → (sss : List (List Segment)) → Both (Reads g) [] sss → SpotStands g s first_spot (joined sss)
    nothing z n [] none_left =
        record {
          reel = e;
          most = omega arith;
          ordered = omega arith;
          inside = λ h. absurd (omega arith);
          here = [];
          left = end_from (block_part s 0) 4 n;
          later = [];
          behind = subst (λ (bs : List (List ℕ)). Both (Reads g) (drop 1 bs) []) (sym z) none_left;
          is = refl;
        }
    nothing z n (_ ∷ _) x = elim x [ ]

    go : (t : Bool) → ltb 0 (block_count s) ≡ t → SpotStands g s first_spot (joined sss)
    go true t = split sss (subst (λ (bs : List (List ℕ)). Both (Reads g) bs sss) (part_step s 0 e (ltb-true 0 (block_count s) t)) all)
    go false t =
        let m = ltb-false 0 (block_count s) t in
        let q : block_count s ≡ 0 = omega arith in
        let last : offset_at s 0 ≡ length s = ap (offset_at s) (sym q) ∙ offset_last s e in
        let n : length (block_part s 0) ≤ 4 = omega (arith, ap length (words_missing s 0 (omega (arith, last, offset_first s e)))) in
        let z : blocks_of s ≡ [] = drop_of_length-le (blocks_of s) {i = 0} (omega (arith, length_blocks s e)) in
        nothing z n sss (subst (λ (bs : List (List ℕ)). Both (Reads g) bs sss) z all)

pub good_before : {g : ℕ} {s : List ℕ} {recs : List (List (List ℕ))} → GoodSpans g s recs → Before g s first_spot (joined recs)
good_before {g} {s} {recs} a =
    let k = read_spans g 1 none (blocks_of s) recs a.records in
    let j = (turns_exactly (joined k.0) (joined recs)).0 k.2 in
    record { segments = joined k.0; stands = stands_first g s a.reel k.0 k.1; nothing = refl; joins = j.0; most = j.1 }

-- ---- how much is left

part_most : (s : List ℕ) (i : ℕ) → length (block_part s i) ≤ length s
unfolding block_part
part_most s i = go (leb (4 * i + 12) (length s) && leb (offset_at s (suc i)) (length s))
  where
    go : (t : Bool) → length (cond t (slice (offset_at s i) (offset_at s (suc i)) s) []) ≤ length s
    go true = omega (arith, length-drop (offset_at s i) (take (offset_at s (suc i)) s), length-take (offset_at s (suc i)) s)
    go false = omega arith

-- of the blocks behind
abbrev Parts : List Segment → ℕ → Type 0
Parts ss n = All (λ x. 1 ≤ length (part x)) ss × (length (joined (map part ss)) ≤ n)

later_parts : (g : ℕ) {bs : List (List ℕ)} {sss : List (List Segment)} → Both (Reads g) bs sss → Parts (joined sss) (length (joined bs))
later_parts g none_left = (no_more, omega arith)
later_parts g (both {x = b} {y = ss} {xs = bs} {ys = sss} v w) =
    let k = later_parts g w in
    let f = from_parts (length b) b 4 ss (omega arith) (read_from g b ss v).0 in
    (all_append f.0 k.0, omega (arith, f.1, k.1, ap length (mapped_append part ss (joined sss)), length-append (joined (map part ss)) (joined (map part (joined sss))), length-append b (joined bs)))

-- a block and those behind it lie in the reel
blocks_few : (s : List ℕ) → is_reel s ≡ true → (i : ℕ) → length (block_part s i) + length (joined (drop (suc i) (blocks_of s))) ≤ 65536
blocks_few s e i = go (ltb i (block_count s)) refl
  where
    go : (t : Bool) → ltb i (block_count s) ≡ t → length (block_part s i) + length (joined (drop (suc i) (blocks_of s))) ≤ 65536
    go true t =
        let q = ap (λ (bs : List (List ℕ)). length (joined bs)) (part_step s i e (ltb-true i (block_count s) t)) in
        omega (arith, q, length-append (block_part s i) (joined (drop (suc i) (blocks_of s))), drop_less i (blocks_of s), parts_length s e, (header_is s e).most)
    go false t =
        let m = ltb-false i (block_count s) t in
        let z : drop (suc i) (blocks_of s) ≡ [] = drop_of_length-le (blocks_of s) {i = suc i} (omega (arith, length_blocks s e)) in
        omega (arith, ap (λ (bs : List (List ℕ)). length (joined bs)) z, part_most s i, (header_is s e).most)

module _ {g : ℕ} {s : List ℕ} {v : Spot} {ss : List Segment} (k : SpotStands g s v ss) where
  here_parts : Parts k.here (length (block_part s v.block) - v.to)
  here_parts = from_parts (length (block_part s v.block)) (block_part s v.block) v.to k.here (omega arith) k.left

  pub stands_parts : All (λ x. 1 ≤ length (part x)) ss
  stands_parts = subst (All (λ x. 1 ≤ length (part x))) (sym k.is) (all_append here_parts.0 (later_parts g k.behind).0)

  data_most : length (joined (map part ss)) ≤ (length (block_part s v.block) - v.to) + length (joined (drop (suc v.block) (blocks_of s)))
  data_most =
      omega (
        arith,
        ap (λ (z : List Segment). length (joined (map part z))) k.is,
        ap length (mapped_append part k.here (joined k.later)),
        length-append (joined (map part k.here)) (joined (map part (joined k.later))),
        here_parts.1,
        (later_parts g k.behind).1,
      )

pub streams_few : {g : ℕ} {s : List ℕ} {v : Spot} {all : List ℕ} → Streams g s v all → length all ≤ 65536
streams_few {g} {s} {v} {all} k = go (ltb v.from v.to) refl
  where
    n : length all ≡ length (bytes_at s v) + length (joined (map part k.segments))
    n = ap length k.is ∙ length-append (bytes_at s v) (joined (map part k.segments))

    go : (t : Bool) → ltb v.from v.to ≡ t → length all ≤ 65536
    go true t =
        omega (arith, n, bytes_length k, k.stands.inside (ltb-true v.from v.to t), data_most k.stands, blocks_few s k.stands.reel v.block)
    go false t =
        omega (arith, n, bytes_length k, ltb-false v.from v.to t, data_most k.stands, blocks_few s k.stands.reel v.block)

-- ---- the data of the records

pub joins_data : {fresh : Bool} {ss : List Segment} {rs : List (List ℕ)} → Joined fresh ss rs → joined (map part ss) ≡ joined rs
joins_data no_segment = refl
joins_data (ending {d = d} j) = ap (d ++◌) (joins_data j)
joins_data (going {d = d} {r = r} {rs = rs} j) = ap (d ++◌) (joins_data j) ∙ sym (append_assoc d r (joined rs))
