-- The block count, and behind it the offsets and the blocks, are the reel. By the laws of what is put over an output.
use mathlib.Core.Path.{◌≡◌, refl, ap, sym, ◌∙◌, subst}
use mathlib.Core.Bool.{false}
use mathlib.Core.List.{List, ◌++◌, map}
use Prim.Native.Nat.{ℕ, ◌+◌, ◌*◌, ◌≤◌}
use native.Mathlib.Omega.{arith}
use lib.ListN.{length, drop}
use Rattle.rules.specs.Base.{joined}
use Rattle.rules.specs.Halves.{over}
use Rattle.rules.specs.Reel.{word, offset_words, reel_of}
use Rattle.rules.specs.Plan.{Plan, is_tc, is_fs}
use Rattle.rules.specs.Output.{block_of}
use Rattle.rules.specs.Run.{ran_of, output_blocks}
use Rattle.rules.specs.Lent.{zone_f}
use Rattle.rules.proofs.Base.LentParts.{front_over}
use Rattle.rules.proofs.Halves.SizeLaws.{length_over}
use Rattle.rules.proofs.Reel.WordLaws.{length_word}
use Rattle.terms.specs.Meaning.{TaskIs}
use Rattle.terms.specs.declared.Task.{Task}
use Rattle.rows.specs.Flat.{flat_of}
use Rattle.walks.specs.Promise.{Good}
use Rattle.fillings.proofs.LaidLaws.{reel_over}
use Rattle.fixed.specs.Promise.{blocks_in, Lent, BodyPut}
use Rattle.writers.specs.Promise.{ReelPut}
use Rattle.fixed.proofs.ReadyLaws.{count_is, header_fits}

-- the same in an output of the same length
abbrev lent_as : {task : Task} {xs s : List ℕ} {blocks room next : ℕ} → room ≡ next → Lent task xs s blocks room → Lent task xs s blocks next
lent_as e y =
    record {
      ready =
          record {
            p = y.ready.p;
            recs = y.ready.recs;
            is = y.ready.is;
            good = y.ready.good;
            zone = y.ready.zone;
            other = y.ready.other;
            plain = y.ready.plain;
            count = y.ready.count;
            roomy = subst (λ (n : ℕ). length (reel_of (blocks_in y.ready.p y.ready.recs)) ≤ n) e y.ready.roomy;
            most = y.ready.most;
          };
      flat = y.flat;
    }

module _ {task : Task} {xs s : List ℕ} {blocks : ℕ} (old : List ℕ) (y : Lent task xs s blocks (length old)) where
  -- for the count
  pub count_room : 4 ≤ length old
  count_room = omega (arith, header_fits y.ready, y.ready.roomy)

  module _ (first : List ℕ) (count : first ≡ over 0 (word blocks) old) where
    first_length : length old ≡ length first
    first_length = sym (ap length count ∙ length_over 0 (word blocks) old (omega (arith, length_word blocks, count_room)))

    -- for the offsets and the blocks
    pub first_lent : Lent task xs s blocks (length first)
    first_lent = lent_as first_length y

    pub reel_put : (second : List ℕ) → BodyPut task xs s blocks first second → second ≡ over 0 (reel_of (blocks_in y.ready.p y.ready.recs)) old
    unfolding BodyPut
    reel_put second q =
        let bs = blocks_in y.ready.p y.ready.recs in
        q (lent_as first_length y)
        ∙ ap (over 4 (offset_words (4 * blocks + 8) bs ++ joined bs)) count
        ∙ reel_over bs blocks (sym (count_is y.ready)) old y.ready.roomy

-- ---- for callers

-- the plan and the records that the lent numbers are
pub lent_of : {task : Task} {xs s : List ℕ} {blocks room : ℕ} (p : Plan) (recs : List (List (List ℕ))) → TaskIs task p → Good p s recs → p.zone ≡ zone_f → is_tc p.mode ≡ false → is_fs p.format ≡ false → xs ≡ flat_of p.fields
    → blocks ≡ length (output_blocks p recs) → length (ran_of p (output_blocks p recs)).reel ≤ room → length (ran_of p (output_blocks p recs)).reel ≤ 65536 → Lent task xs s blocks room
unfolding ran_of blocks_in
lent_of p recs is good zone other plain flat count roomy most =
    record {
      ready = record { p = p; recs = recs; is = is; good = good; zone = zone; other = other; plain = plain; count = count; roomy = roomy; most = most };
      flat = flat;
    }

-- what a finished run writes stands at the front
pub write_says : {task : Task} {xs s : List ℕ} {blocks : ℕ} (old : List ℕ) (y : Lent task xs s blocks (length old)) {new : List ℕ} → ReelPut task xs s blocks old new
    → new ≡ (ran_of y.ready.p (output_blocks y.ready.p y.ready.recs)).reel ++ drop (length (ran_of y.ready.p (output_blocks y.ready.p y.ready.recs)).reel) old
unfolding ReelPut ran_of blocks_in
write_says old y q =
    let reel = reel_of (map (block_of y.ready.p.format) (output_blocks y.ready.p y.ready.recs)) in
    q y ∙ sym (front_over (length reel) old reel refl)

-- ---- one outcome only

pub write_only_one : {task : Task} {xs s : List ℕ} {blocks : ℕ} (old : List ℕ) → Lent task xs s blocks (length old) → {x z : List ℕ} → ReelPut task xs s blocks old x → ReelPut task xs s blocks old z → x ≡ z
unfolding ReelPut
write_only_one old y a b = a y ∙ sym (b y)
