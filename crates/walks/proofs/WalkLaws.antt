-- A walk over a good reel: it leads to a place before all records, each answer is the first of those that are left, and the walk behind it leads to the place
-- before the others. By the steps of the places; what is read lies in the reel.
use mathlib.Core.Path.{◌≡◌, refl, ap, ap₂, sym, ◌∙◌, subst, subst₂}
use mathlib.Core.Bool.{Bool, true, false}
use mathlib.Core.List.{List, ◌∷◌, ◌++◌}
use Prim.Native.Nat.{ℕ, zero, suc, ◌+◌, ◌-◌, ◌*◌, ◌≤◌, ◌<◌}
use native.Mathlib.Numerals.{add-one}
use native.Mathlib.Omega.{arith}
use lib.Dec.{ltb, leb}
use lib.ListN.{length, drop}
use borrow.Author.Tests.{lt-ltb, le-ltb, ltb-true, ltb-false, lt-leb, le-leb}
use Rattle.rules.specs.Plan.{Plan, record_length}
use Rattle.rules.specs.Reel.{block_count, is_reel}
use Rattle.rules.specs.Blocks.{Piece, taken_from}
use Rattle.rules.specs.Output.{cost}
use Rattle.rules.specs.ReelPlaces.{offset_at, behind}
use Rattle.rules.proofs.Reel.HeaderSteps.{next_at}
use Rattle.rules.proofs.Reel.ReelSteps.{offset_rises, offset_last, offset_most}
use Rattle.rules.proofs.Blocks.BlockSteps.{good_inside}
use Rattle.rules.proofs.Blocks.RecordSteps.{piece_of, Next, fixed_pos, records_next}
use Rattle.terms.specs.Meaning.{format_of}
use Rattle.pieces.specs.declared.Form.{Form}
use Rattle.pieces.specs.Form.{FormIs}
use Rattle.reels.specs.Header.{block_part}
use Rattle.walks.specs.declared.Walk.{Walk}
use Rattle.walks.specs.declared.RecordRead.{RecordRead}
use Rattle.std.specs.Prelude.{Option, Some, None}
use Rattle.walks.specs.Marks.{marked, marked_all, opened, taken_marks}
use Rattle.walks.specs.Walking.{Starting, block_start, first_walk, behind_at, end_in, record_of, opened_walk, on_record, onwards, taken_walk, Place, block_place, behind_place, walk_of}
use Rattle.walks.specs.Promise.{Good, PlaceStands, Walks, RecordSays, Passed, bytes_left, DataInside, Lies}
use Rattle.walks.proofs.MarksLaws.{opened_marked, taken_marks_lem}
use Rattle.walks.proofs.PlaceLaws.{Part, part_inside, data_place, piece_ends}
use Rattle.walks.proofs.StandsLaws.{stands_block, stands_all, stands_next, nothing_left}

-- ---- the walk to a place

walk_in : (s : List ℕ) (v : Place) → v.block < block_count s
    → walk_of s v ≡ record { word = 4 * v.block + 8; at = offset_at s v.block + v.at; end = offset_at s (suc v.block); begins = v.begins }
unfolding walk_of
walk_in s v l = rw (lt-ltb v.block (block_count s) l)

walk_past : (s : List ℕ) (v : Place) → block_count s ≤ v.block → walk_of s v ≡ record { word = 4 * v.block + 8; at = length s; end = length s; begins = v.begins }
unfolding walk_of
walk_past s v l = rw (le-ltb v.block (block_count s) l)

opened_walk_lem : (s : List ℕ) (v : Place) → opened_walk (walk_of s v) ≡ walk_of s (record { block = v.block; at = v.at; begins = true })
unfolding walk_of
opened_walk_lem s v = go (ltb v.block (block_count s)) refl
  where
    go : (t : Bool) → ltb v.block (block_count s) ≡ t → opened_walk (walk_of s v) ≡ walk_of s (record { block = v.block; at = v.at; begins = true })
    go true t = rw t
    go false t = rw t

module _ (form : Form) (s : List ℕ) (e : is_reel s ≡ true) where
  -- a block that does not start at the reel's end
  pub starts_in : (j : ℕ) → j ≤ block_count s → offset_at s j < length s → j < block_count s
  starts_in j m l = go (ltb j (block_count s)) refl
    where
      go : (t : Bool) → ltb j (block_count s) ≡ t → j < block_count s
      go true t = ltb-true j (block_count s) t
      go false t =
          let z : j ≡ block_count s = omega (arith, ltb-false j (block_count s) t) in
          absurd (omega (arith, offset_last s e, ap (offset_at s) z))

  -- to the first record of a block
  pub start_walk : (j : ℕ) → j ≤ block_count s → block_start form s (4 * j + 8) (offset_at s j) ≡ walk_of s (block_place form j)
  unfolding block_start walk_of
  start_walk j m = go (ltb j (block_count s)) refl
    where
      go : (t : Bool) → ltb j (block_count s) ≡ t → block_start form s (4 * j + 8) (offset_at s j) ≡ walk_of s (block_place form j)
      go true t =
          let l = ltb-true j (block_count s) t in
          rw (t, lt-leb (length s) (offset_at s j) (omega (arith, offset_rises s e j l, offset_most s e (suc j) l)), next_at s j)
      go false t =
          let z : j ≡ block_count s = omega (arith, ltb-false j (block_count s) t) in
          let n : offset_at s j ≡ length s = ap (offset_at s) z ∙ offset_last s e in
          rw (t, n, le-leb (length s) (length s) (omega arith))

-- ---- the record that a walk stands before

record_is : (form : Form) (s : List ℕ) (w : Walk) (to start size : ℕ) (next : Walk) → w.at < length s → end_in (format_of form.format) form.n s w.at w.end ≡ to
    → w.at + cost (format_of form.format) ≡ start → to - (w.at + cost (format_of form.format)) ≡ size → behind_at form s w to ≡ next
    → record_of form s w ≡ Some (record { start = start; length = size; begins = w.begins; next = next })
unfolding record_of
record_is form s w to start size next l e b n d = rw (lt-leb (length s) w.at l, e, n, b, d)

-- behind a record no walk goes back
behind_far : (form : Form) (s : List ℕ) (w : Walk) (at : ℕ) → at ≤ (behind_at form s w at).at
unfolding behind_at block_start
behind_far form s w at = go (ltb at w.end) refl (leb (length s) at) refl
  where
    go : (t : Bool) → ltb at w.end ≡ t → (u : Bool) → leb (length s) at ≡ u → at ≤ (behind_at form s w at).at
    go true t u z = rw t (omega arith)
    go false t true z = rw (t, z) (omega arith)
    go false t false z = rw (t, z) (omega arith)

-- what is read of the reel where a record is: it lies in the reel, and so does what is read to go on
pub record Reads (form : Form) (s : List ℕ) (w : Walk) : Type 0 where
  pub starts : w.at + cost (format_of form.format) ≤ end_in (format_of form.format) form.n s w.at w.end
  pub ends : end_in (format_of form.format) form.n s w.at w.end ≤ length s
  pub word : w.word ≤ length s
  pub next : w.end ≤ end_in (format_of form.format) form.n s w.at w.end → Starting form s (w.word + 4) (end_in (format_of form.format) form.n s w.at w.end)

pub starting : (form : Form) (p : Plan) (s : List ℕ) (j : ℕ) (rest : List (Bool × List ℕ)) → PlaceStands p s (block_place form j) rest → Starting form s (4 * j + 8) (offset_at s j)
starting form p s j rest k h =
    let i = k.inside (starts_in form s k.reel j k.most h) in
    let q = part_inside s j (omega arith) in
    (omega (arith, q.words), omega (arith, q.ends, q.most))

module _ (form : Form) (p : Plan) (s : List ℕ) (v : Place) (rest : List (Bool × List ℕ)) (f : FormIs form p) (k : PlaceStands p s v rest) where
  module _ (l : v.block < block_count s) where
    abbrev b : List ℕ
    b = block_part s v.block

    abbrev a : ℕ
    a = offset_at s v.block

    abbrev end : ℕ
    end = offset_at s (suc v.block)

    abbrev y : Piece
    y = piece_of p b v.at

    part : Part s v.block
    part = part_inside s v.block (omega (arith, k.inside l))

    here : Next p b v.at k.here
    here = records_next p k.accepted b v.at k.here (k.inside l) k.left

    -- the piece lies in its block
    lies : (v.at ≤ y.place) × (v.at < behind y) × (behind y ≤ length b)
    lies = good_inside p.format (record_length p.input) b v.at (fixed_pos p k.accepted) (k.inside l) here.good

    -- where its data begins, and where it ends
    ends : (v.at + cost (format_of form.format) ≡ y.place) × (end_in (format_of form.format) form.n s (a + v.at) end ≡ a + behind y)
    ends =
        let g = piece_ends (record_length p.input) s b a end v.at part.is part.ends part.most (k.inside l) p.format here.good in
        (ap (λ z. v.at + cost z) f.format ∙ g.0, ap₂ (λ z n. end_in z n s (a + v.at) end) f.format f.n ∙ g.1)

    abbrev next : Place
    next = behind_place form v.block (behind y) (length b)

    -- the walk behind it
    behind_walk : behind_at form s (walk_of s v) (a + behind y) ≡ walk_of s next
    unfolding behind_at behind_place
    behind_walk = rw (walk_in s v l) (go (ltb (behind y) (length b)) refl)
      where
        go : (t : Bool) → ltb (behind y) (length b) ≡ t
            → behind_at form s (record { word = 4 * v.block + 8; at = a + v.at; end = end; begins = v.begins }) (a + behind y) ≡ walk_of s next
        go true t =
            let m = ltb-true (behind y) (length b) t in
            rw (t, lt-ltb (a + behind y) end (omega (arith, part.ends))) (sym (walk_in s (record { block = v.block; at = behind y; begins = false }) l))
        go false t =
            let m = ltb-false (behind y) (length b) t in
            let z : a + behind y ≡ end = omega (arith, part.ends, lies) in
            let w : 4 * v.block + 8 + 4 ≡ 4 * suc v.block + 8 = omega arith in
            rw (t, z, le-ltb end end (omega arith), w, add-one v.block) (start_walk form s k.reel (suc v.block) l)

    -- the numbers of the walk
    pub at_is : (walk_of s v).at ≡ a + v.at
    at_is = ap (λ (w : Walk). w.at) (walk_in s v l)

    pub end_is : (walk_of s v).end ≡ end
    end_is = ap (λ (w : Walk). w.end) (walk_in s v l)

    pub word_is : (walk_of s v).word ≡ 4 * v.block + 8
    word_is = ap (λ (w : Walk). w.word) (walk_in s v l)

    pub to_is : end_in (format_of form.format) form.n s (walk_of s v).at (walk_of s v).end ≡ a + behind y
    to_is = ap₂ (λ (i j : ℕ). end_in (format_of form.format) form.n s i j) at_is end_is ∙ ends.1

    -- what is answered
    abbrev read : RecordRead
    read = record { start = a + y.place; length = y.size; begins = v.begins; next = walk_of s next }

    step : record_of form s (walk_of s v) ≡ Some read
    step =
        record_is form s (walk_of s v) (a + behind y) (a + y.place) y.size (walk_of s next) (omega (arith, at_is, k.inside l, part.ends, part.most)) to_is
        (omega (arith, at_is, ends.0)) (omega (arith, at_is, ends.0)) behind_walk
        ∙ ap (λ (t : Bool). Some (record { start = a + y.place; length = y.size; begins = t; next = walk_of s next })) (ap (λ (w : Walk). w.begins) (walk_in s v l))

    next_far : a + behind y ≤ (walk_of s next).at
    next_far = subst (λ (z : Walk). a + behind y ≤ z.at) behind_walk (behind_far form s (walk_of s v) (a + behind y))

    passes : Passed p s rest read
    passes =
        record {
          more = marked false here.more ++ marked_all k.later;
          is =
              k.is
              ∙ ap (λ rs. marked v.begins rs ++ marked_all k.later) here.is
              ∙ ap (λ r. (v.begins, r) ∷ (marked false here.more ++ marked_all k.later)) (data_place s b a end y part.is part.most (omega (arith, lies.2, part.ends)));
          long = here.long;
          walks = record { place = next; is = refl; stands = stands_next form p s v rest f k (behind y) l here.more here.left };
        }

    inside : DataInside s (walk_of s v) read
    unfolding bytes_left
    inside =
        record {
          ends = omega (arith, lies.2, part.ends, part.most);
          less = omega (arith, at_is, next_far, lies, part.ends, part.most);
          fewer = omega (arith, at_is, next_far, lies, part.ends, part.most);
        }

    reads_in : Reads form s (walk_of s v)
    reads_in =
        record {
          starts = omega (arith, at_is, to_is, ends.0);
          ends = omega (arith, to_is, lies, part.ends, part.most);
          word = omega (arith, word_is, part.words);
          next = λ h.
              let z : a + behind y ≡ end = omega (arith, to_is, end_is, lies, part.ends) in
              let n : (walk_of s v).word + 4 ≡ 4 * suc v.block + 8 = omega (arith, word_is) in
              subst₂ (Starting form s) (sym n) (sym (to_is ∙ z))
              (starting form p s (suc v.block) (marked_all k.later) (stands_block form p f k.accepted s k.reel (suc v.block) l k.later k.behind));
        }

  -- behind the last record
  no_record : block_count s ≤ v.block → record_of form s (walk_of s v) ≡ None
  unfolding record_of
  no_record m =
      let z = ap (λ (w : Walk). w.at) (walk_past s v m) in
      rw (le-leb (length s) (walk_of s v).at (omega arith))

  says_place : RecordSays p s rest (record_of form s (walk_of s v)) × Lies s (walk_of s v) (record_of form s (walk_of s v))
  says_place = go (ltb v.block (block_count s)) refl
    where
      go : (t : Bool) → ltb v.block (block_count s) ≡ t → RecordSays p s rest (record_of form s (walk_of s v)) × Lies s (walk_of s v) (record_of form s (walk_of s v))
      go true t = let l = ltb-true v.block (block_count s) t in rw (step l) (passes l, inside l)
      go false t = let m = ltb-false v.block (block_count s) t in rw (no_record m) (nothing_left form p s v rest f k m, tt)

  reads_place : (walk_of s v).at < length s → Reads form s (walk_of s v)
  reads_place h = go (ltb v.block (block_count s)) refl
    where
      go : (t : Bool) → ltb v.block (block_count s) ≡ t → Reads form s (walk_of s v)
      go true t = reads_in (ltb-true v.block (block_count s) t)
      go false t = let z = ap (λ (w : Walk). w.at) (walk_past s v (ltb-false v.block (block_count s) t)) in absurd (omega arith)

module _ (form : Form) (p : Plan) (s : List ℕ) (w : Walk) (rest : List (Bool × List ℕ)) (f : FormIs form p) (k : Walks p s w rest) where
  pub reads_of : w.at < length s → Reads form s w
  reads_of h = subst (Reads form s) (sym k.is) (reads_place form p s k.place rest f k.stands (subst (λ (z : Walk). z.at < length s) k.is h))

  pub says_of : RecordSays p s rest (record_of form s w)
  says_of = subst (λ (z : Walk). RecordSays p s rest (record_of form s z)) (sym k.is) (says_place form p s k.place rest f k.stands).0

  pub lies_of : Lies s w (record_of form s w)
  lies_of = subst (λ (z : Walk). Lies s z (record_of form s z)) (sym k.is) (says_place form p s k.place rest f k.stands).1

pub walks_all : (form : Form) (p : Plan) (s : List ℕ) (recs : List (List (List ℕ))) → FormIs form p → Good p s recs → Walks p s (first_walk form s) (marked_all recs)
unfolding first_walk
walks_all form p s recs f g =
    record { place = block_place form 0; is = start_walk form s g.reel 0 (omega arith); stands = stands_all form p s recs f g }

-- ---- the records that are taken

module _ (form : Form) (p : Plan) (s : List ℕ) (f : FormIs form p) where
  -- behind k records: before all others
  walks_onwards : (k : ℕ) (w : Walk) (rest : List (Bool × List ℕ)) → Walks p s w rest → Walks p s (onwards form s k w) (drop k rest)
  walks_onwards zero w rest x = x
  walks_onwards (suc k) w rest x = go (λ v more y. walks_onwards k v more y) (record_of form s w) (says_of form p s w rest f x)
    where
      go : ((v : Walk) (more : List (Bool × List ℕ)) → Walks p s v more → Walks p s (onwards form s k v) (drop k more)) → (r : Option RecordRead) → RecordSays p s rest r
          → Walks p s (on_record r w (λ next. onwards form s k next)) (drop (suc k) rest)
      go ih (Some read) y = rw y.is (ih read.next y.more y.walks)
      go ih None y = let z : rest ≡ drop (suc k) rest = rw y in subst (Walks p s w) z x

  -- the same place, with the first of the records marked
  walks_opened : (w : Walk) (rest : List (Bool × List ℕ)) → Walks p s w rest → Walks p s (opened_walk w) (opened rest)
  walks_opened w rest x =
      record {
        place = record { block = x.place.block; at = x.place.at; begins = true };
        is = ap opened_walk x.is ∙ opened_walk_lem s x.place;
        stands = record {
          accepted = x.stands.accepted;
          reel = x.stands.reel;
          most = x.stands.most;
          inside = x.stands.inside;
          here = x.stands.here;
          left = x.stands.left;
          later = x.stands.later;
          behind = x.stands.behind;
          is = ap opened x.stands.is ∙ opened_marked x.place.begins x.stands.here x.stands.later;
        };
      }

  pub walks_taken : (first : ℕ) (recs : List (List (List ℕ))) → Good p s recs → Walks p s (taken_walk form s first) (marked_all (taken_from first recs))
  unfolding taken_walk taken_marks
  walks_taken first recs g =
      subst (Walks p s (taken_walk form s first)) (taken_marks_lem first recs)
      (walks_opened _ _ (walks_onwards (first - 1) (first_walk form s) (marked_all recs) (walks_all form p s recs f g)))
