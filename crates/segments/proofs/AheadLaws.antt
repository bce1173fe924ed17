-- Walking along the segments of a record: what is passed and what is missing are the record, so that the segment that ends it leads before the records
-- behind it. By cases on how segments make records.
use mathlib.Core.Path.{◌≡◌, refl, ap, sym, ◌∙◌, subst}
use mathlib.Core.Bool.{Bool, true, false, true≢false, false≢true}
use mathlib.Core.List.{List, ◌∷◌}
use Prim.Native.Nat.{ℕ, ◌+◌, ◌-◌, ◌≤◌, ◌<◌}
use native.Mathlib.Omega.{arith}
use lib.ListN.{length, length-append}
use Rattle.rules.specs.Places.{All}
use Rattle.rules.specs.Spanned.{Segment, segment, ends, part, Joined, ending, going}
use Rattle.rules.proofs.Base.AllLaws.{all_head, all_tail}
use Rattle.segments.specs.declared.Spot.{Spot}
use Rattle.segments.specs.declared.SegmentRead.{SegmentRead}
use Rattle.segments.specs.Spots.{next_of, passed_by, spot_after}
use Rattle.segments.specs.Promise.{SpotStands, Before, Coming, Comes}
use Rattle.segments.proofs.SpotLaws.{on_next, after_data, after_more}
use Rattle.segments.proofs.StandsLaws.{Step, step_next, stands_block, stands_moved, spot_length}

-- so much of the record is passed, and this is missing
pub record Within (g : ℕ) (s : List ℕ) (r : List ℕ) (rs : List (List ℕ)) (v : Spot) (size : ℕ) : Type 0 where
  pub segments : List Segment
  pub stands : SpotStands g s v segments
  pub nothing : v.from ≡ v.to
  pub fresh : Bool
  pub missing : List ℕ
  pub joins : Joined fresh segments (missing ∷ rs)
  pub sum : size + length missing ≡ length r
  pub most : All (λ x. length x ≤ 32752) (r ∷ rs)

-- all that is left of a segment is passed
abbrev pub length_at : Spot → ℕ
length_at v = v.to - v.from

-- the segment read next, and how the record goes on behind it
pub record Passed (g : ℕ) (s : List ℕ) (r : List ℕ) (rs : List (List ℕ)) (size : ℕ) (x : SegmentRead) : Type 0 where
  pub some : x.spot.from < x.spot.to
  pub few : size + length_at x.spot ≤ length r
  pub ended : x.ends ≡ true → (size + length_at x.spot ≡ length r) × Before g s (passed_by (length_at x.spot) x.spot) rs
  pub goes : x.ends ≡ false → Within g s r rs (passed_by (length_at x.spot) x.spot) (size + length_at x.spot)

head_same : (x y : Segment) (xs ys : List Segment) → x ∷ xs ≡ y ∷ ys → x ≡ y
head_same x y xs ys e = cc

tail_same : (x y : Segment) (xs ys : List Segment) → x ∷ xs ≡ y ∷ ys → xs ≡ ys
tail_same x y xs ys e = cc

module _ (g : ℕ) (s : List ℕ) (x : SegmentRead) (b e : Bool) (d : List ℕ) (more : List Segment) (c : Step g s x (segment b e d ∷ more)) where
  is_first : c.first ≡ segment b e d
  is_first = sym (head_same (segment b e d) c.first more c.more c.is)

  read_ends : x.ends ≡ e
  read_ends = c.ends ∙ ap ends is_first

  read_length : length_at x.spot ≡ length d
  read_length = sym (spot_length s x.spot c.some c.inside) ∙ ap length (c.bytes ∙ ap part is_first)

  read_past : SpotStands g s (passed_by (length_at x.spot) x.spot) more
  read_past =
      stands_moved (length_at x.spot) (omega (arith, c.some)) (subst (SpotStands g s x.spot) (sym (tail_same (segment b e d) c.first more c.more c.is)) c.stands)

passed_by_lem : (g : ℕ) (s r : List ℕ) (rs : List (List ℕ)) (size : ℕ) (x : SegmentRead) → All (λ y. length y ≤ 32752) (r ∷ rs) → {fresh : Bool} {ss : List Segment} {m : List ℕ}
    → Joined fresh ss (m ∷ rs) → size + length m ≡ length r → Step g s x ss → Passed g s r rs size x
passed_by_lem g s r rs size x most (ending {fresh = fresh} {d = d} {ss = more} j) q c =
    let n = read_length g s x fresh true d more c in
    record {
      some = c.some;
      few = omega arith;
      ended = λ _. (
        omega arith,
        record {
          segments = more;
          stands = read_past g s x fresh true d more c;
          nothing = omega (arith, c.some);
          joins = j;
          most = all_tail most;
        },
      );
      goes = λ e. absurd (true≢false (sym (read_ends g s x fresh true d more c) ∙ e));
    }
passed_by_lem g s r rs size x most (going {fresh = fresh} {d = d} {ss = more} {r = rest} j) q c =
    let n = read_length g s x fresh false d more c in
    let m = length-append d rest in
    record {
      some = c.some;
      few = omega arith;
      ended = λ e. absurd (false≢true (sym (read_ends g s x fresh false d more c) ∙ e));
      goes = λ _.
          record {
            segments = more;
            stands = read_past g s x fresh false d more c;
            nothing = omega (arith, c.some);
            fresh = false;
            missing = rest;
            joins = j;
            sum = omega arith;
            most = most;
          };
    }

some_segment : {fresh : Bool} {ss : List Segment} {m : List ℕ} {more : List (List ℕ)} → Joined fresh ss (m ∷ more) → 1 ≤ length ss
some_segment (ending j) = omega arith
some_segment (going j) = omega arith

passed_next : {g : ℕ} {s r : List ℕ} {rs : List (List ℕ)} {v : Spot} {size : ℕ} → Within g s r rs v size → Passed g s r rs size (next_of s v)
passed_next {g} {s} {r} {rs} {v} {size} k = passed_by_lem g s r rs size (next_of s v) k.most k.joins k.sum (step_next g s v k.segments k.stands (some_segment k.joins))

-- ---- a turn of the walk, which holds a spot and how much of the record is passed

pub record Walking (s : List ℕ) (v at : Spot) (size : ℕ) : Type 0 where
  pub coming : Coming s v
  pub all : (g : ℕ) (r : List ℕ) (rs : List (List ℕ)) → Before g s v (r ∷ rs) → Within g s r rs at size
  pub is : at ≡ spot_after s size v

pub walking_start : {s : List ℕ} {v : Spot} → Coming s v → Walking s v v 0
walking_start {s} {v} c =
    record {
      coming = c;
      all = λ g r rs w.
          record {
            segments = w.segments;
            stands = w.stands;
            nothing = w.nothing;
            fresh = true;
            missing = r;
            joins = w.joins;
            sum = omega arith;
            most = w.most;
          };
      is = refl;
    }

module _ {s : List ℕ} {v at : Spot} {size : ℕ} (k : Walking s v at size) where
  here : Within k.coming.g s k.coming.next k.coming.more at size
  here = k.all k.coming.g k.coming.next k.coming.more k.coming.before

  pub walking_block : at.block ≤ length s
  walking_block = stands_block here.stands

  module _ (x : SegmentRead) (e : x ≡ next_of s at) where
    passed : (g : ℕ) (r : List ℕ) (rs : List (List ℕ)) → Before g s v (r ∷ rs) → Passed g s r rs size x
    passed g r rs w = subst (Passed g s r rs size) (sym e) (passed_next (k.all g r rs w))

    now : Passed k.coming.g s k.coming.next k.coming.more size x
    now = passed k.coming.g k.coming.next k.coming.more k.coming.before

    -- the segment has data, and no record is longer than 32,752 bytes
    pub walking_some : x.spot.from < x.spot.to
    walking_some = now.some

    pub walking_few : size + length_at x.spot ≤ 32752
    walking_few = omega (arith, now.few, all_head here.most)

    after : passed_by (length_at x.spot) x.spot ≡ spot_after s (size + length_at x.spot) v
    after =
        sym (after_more s size (length_at x.spot) v ∙ ap (spot_after s (length_at x.spot)) (sym k.is)
        ∙ after_data s (length_at x.spot) at x.spot (on_next s at x (omega (arith, here.nothing)) e) (omega (arith, walking_some)) (omega (arith, walking_some)))

    -- it ends the record
    pub walking_end : x.ends ≡ true → (w : Spot) → w ≡ passed_by (length_at x.spot) x.spot → Comes s v (record { size = size + length_at x.spot; behind = w })
    walking_end t w q =
        record {
          size = λ g r rs b. ((passed g r rs b).ended t).0;
          behind = λ g r rs b. subst (λ (z : Spot). Before g s z rs) (sym q) ((passed g r rs b).ended t).1;
          is = q ∙ after;
        }

    -- it does not
    pub walking_more : x.ends ≡ false → (w : Spot) → w ≡ passed_by (length_at x.spot) x.spot → Walking s v w (size + length_at x.spot)
    walking_more t w q =
        record {
          coming = k.coming;
          all = λ g r rs b. subst (λ (z : Spot). Within g s r rs z (size + length_at x.spot)) (sym q) ((passed g r rs b).goes t);
          is = q ∙ after;
        }
