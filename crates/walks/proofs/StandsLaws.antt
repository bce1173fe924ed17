-- A place in a good reel: before a block's first record it stands before all records from there on, and behind a record before the others. By the steps of the
-- pieces of a block; at a block's end by the first place of the next block, and behind the last block nothing is left.
use mathlib.Core.Path.{◌≡◌, refl, ap, ap₂, sym, ◌∙◌}
use mathlib.Core.Bool.{Bool, true, false}
use mathlib.Core.List.{List, [], ◌++◌}
use mathlib.Core.Option.{some}
use Prim.Native.Nat.{ℕ, suc, ◌≤◌, ◌<◌}
use native.Mathlib.Numerals.{add-one}
use native.Mathlib.Omega.{arith}
use lib.Dec.{ltb}
use lib.ListN.{length, drop, drop_of_length-le}
use borrow.Author.Tests.{ltb-true, ltb-false}
use Rattle.rules.specs.Answer.{fine}
use Rattle.rules.specs.Plan.{Plan}
use Rattle.rules.specs.Accepted.{Accepted}
use Rattle.rules.specs.Reel.{block_count, is_reel, blocks_of}
use Rattle.rules.specs.Blocks.{records_from}
use Rattle.rules.specs.Output.{cost}
use Rattle.rules.specs.ReelPlaces.{records_at}
use Rattle.rules.proofs.Reel.ReelLaws.{length_blocks}
use Rattle.rules.proofs.Blocks.RecordSteps.{records_end, records_done}
use Rattle.rules.proofs.Blocks.MarkedLaws.{first_block, no_more_blocks}
use Rattle.terms.specs.Meaning.{format_of}
use Rattle.pieces.specs.declared.Form.{Form}
use Rattle.pieces.specs.Form.{FormIs}
use Rattle.reels.specs.Header.{block_part}
use Rattle.reels.proofs.HeaderLaws.{part_step}
use Rattle.walks.specs.Marks.{marked, marked_all}
use Rattle.walks.specs.Walking.{Place, block_place, behind_place}
use Rattle.walks.specs.Promise.{Good, PlaceStands}
use Rattle.walks.proofs.PlaceLaws.{no_part}

-- ---- before the first record of a block

module _ (form : Form) (p : Plan) (f : FormIs form p) (ok : Accepted p) (s : List ℕ) (e : is_reel s ≡ true) where
  pub stands_block : (i : ℕ) → i ≤ block_count s → (recs : List (List (List ℕ))) → records_from p (suc i) (drop i (blocks_of s)) ≡ fine recs
      → PlaceStands p s (block_place form i) (marked_all recs)
  stands_block i l recs d = go (ltb i (block_count s)) refl
    where
      first : cost (format_of form.format) ≡ cost p.format
      first = ap cost f.format

      go : (t : Bool) → ltb i (block_count s) ≡ t → PlaceStands p s (block_place form i) (marked_all recs)
      go true t =
          let m = ltb-true i (block_count s) t in
          let w = first_block p ok (suc i) (block_part s i) (drop (suc i) (blocks_of s)) recs (ap (records_from p (suc i)) (sym (part_step s i e m)) ∙ d) in
          record {
            accepted = ok;
            reel = e;
            most = l;
            inside = λ _. rw first w.begins.inside;
            here = w.here;
            left = rw first w.begins.left;
            later = w.later;
            behind = w.behind;
            is = ap marked_all w.is;
          }
      go false t =
          let m = ltb-false i (block_count s) t in
          let z : i ≡ block_count s = omega arith in
          let n : length (block_part s i) ≤ 0 = rw z (no_part s e) in
          let none : drop i (blocks_of s) ≡ [] = drop_of_length-le (blocks_of s) {i = i} (omega (arith, length_blocks s e)) in
          let past : drop (suc i) (blocks_of s) ≡ [] = drop_of_length-le (blocks_of s) {i = suc i} (omega (arith, length_blocks s e)) in
          record {
            accepted = ok;
            reel = e;
            most = l;
            inside = λ h. absurd (omega arith);
            here = [];
            left = records_end p (block_part s i) (cost (format_of form.format)) (omega arith);
            later = [];
            behind = ap (records_from p (suc (suc i))) past;
            is = ap marked_all (no_more_blocks p (suc i) recs (ap (records_from p (suc i)) (sym none) ∙ d));
          }

pub stands_all : (form : Form) (p : Plan) (s : List ℕ) (recs : List (List (List ℕ))) → FormIs form p → Good p s recs → PlaceStands p s (block_place form 0) (marked_all recs)
stands_all form p s recs f g = stands_block form p f g.accepted s g.reel 0 (omega arith) recs g.records

-- ---- behind a record

module _ (form : Form) (p : Plan) (s : List ℕ) (v : Place) (rest : List (Bool × List ℕ)) (f : FormIs form p) (k : PlaceStands p s v rest) where
  -- behind the record: in its block, or before the first record of the next one
  pub stands_next : (i : ℕ) → v.block < block_count s → (more : List (List ℕ)) → records_at p (block_part s v.block) i ≡ some more
      → PlaceStands p s (behind_place form v.block i (length (block_part s v.block))) (marked false more ++ marked_all k.later)
  unfolding behind_place
  stands_next i l more e = go (ltb i (length (block_part s v.block))) refl
    where
      go : (t : Bool) → ltb i (length (block_part s v.block)) ≡ t
          → PlaceStands p s (behind_place form v.block i (length (block_part s v.block))) (marked false more ++ marked_all k.later)
      go true t =
          rw t
          (record {
            accepted = k.accepted;
            reel = k.reel;
            most = k.most;
            inside = λ _. ltb-true i (length (block_part s v.block)) t;
            here = more;
            left = e;
            later = k.later;
            behind = k.behind;
            is = refl;
          })
      go false t =
          let none : more ≡ [] = records_done p (block_part s v.block) i more (ltb-false i (length (block_part s v.block)) t) e in
          rw (t, none, add-one v.block)
          (stands_block form p f k.accepted s k.reel (suc v.block) l k.later k.behind)

  -- behind the last block
  pub nothing_left : block_count s ≤ v.block → rest ≡ []
  nothing_left m =
      let z : v.block ≡ block_count s = omega (arith, k.most) in
      let n : length (block_part s v.block) ≤ 0 = rw z (no_part s k.reel) in
      let past : drop (suc v.block) (blocks_of s) ≡ [] = drop_of_length-le (blocks_of s) {i = suc v.block} (omega (arith, length_blocks s k.reel)) in
      k.is
      ∙ ap₂ (λ rs recs. marked v.begins rs ++ marked_all recs) (records_done p (block_part s v.block) v.at k.here (omega arith) k.left)
      (no_more_blocks p (suc (suc v.block)) k.later (ap (records_from p (suc (suc v.block))) (sym past) ∙ k.behind))
