-- Marked records: they are the records of all blocks, block after block; those from number R on, the first of them marked, are the marked records that
-- are taken; and the marks tell the blocks again, but for those of which no record is taken. By going along the blocks and their records.
use mathlib.Core.Path.{◌≡◌, refl, ap, ap₂, sym, ◌∙◌}
use mathlib.Core.Bool.{Bool, true, false}
use mathlib.Core.List.{List, [], ◌∷◌, ◌++◌, map, append-nil, append_assoc, map-append}
use Prim.Native.Nat.{ℕ, zero, suc, ◌-◌}
use native.Mathlib.Omega.{arith}
use lib.ListN.{length, drop, length-append}
use lib.Seq.{drop-nil}
use Rattle.rules.specs.Base.{joined}
use Rattle.rules.specs.Blocks.{taken_after, taken_from}
use Rattle.rules.specs.Output.{non_empty}
use Rattle.rules.proofs.Blocks.TakenLaws.{after_zero}
use Rattle.walks.specs.Marks.{marked, marked_all, opened, taken_marks, opened_from, blocks_marked, bytes_of, on_marked}

-- ---- all records

module _ {A : Type 0} where
  pub marked_records : (begins : Bool) (rs : List A) → map bytes_of (marked begins rs) ≡ rs
  marked_records begins [] = refl
  marked_records begins (r ∷ rs) = ap (r ∷◌) (marked_records false rs)

  pub all_records : (recs : List (List A)) → map bytes_of (marked_all recs) ≡ joined recs
  all_records [] = refl
  all_records (rs ∷ more) = map-append bytes_of (marked true rs) (marked_all more) ∙ ap₂ ◌++◌ (marked_records true rs) (all_records more)

  marked_length : (begins : Bool) (rs : List A) → length (marked begins rs) ≡ length rs
  marked_length begins [] = refl
  marked_length begins (r ∷ rs) = ap suc (marked_length false rs)

  pub all_length : (recs : List (List A)) → length (marked_all recs) ≡ length (joined recs)
  all_length [] = refl
  all_length (rs ∷ more) =
      omega (arith, length-append (marked true rs) (marked_all more), length-append rs (joined more), marked_length true rs, all_length more)

module _ {A B : Type 0} (f : A → B) where
  marked_map : (begins : Bool) (rs : List A) → marked begins (map f rs) ≡ map (on_marked f) (marked begins rs)
  marked_map begins [] = refl
  marked_map begins (r ∷ rs) = ap ((begins, f r) ∷◌) (marked_map false rs)

  -- what is made of each record has the record's mark
  pub all_map : (recs : List (List A)) → marked_all (map (map f) recs) ≡ map (on_marked f) (marked_all recs)
  all_map [] = refl
  all_map (rs ∷ more) = ap₂ ◌++◌ (marked_map true rs) (all_map more) ∙ sym (map-append (on_marked f) (marked true rs) (marked_all more))

-- ---- those that are taken

opened_all : (recs : List (List (List ℕ))) → opened (marked_all recs) ≡ marked_all recs
opened_all [] = refl
opened_all ([] ∷ more) = opened_all more
opened_all ((r ∷ rs) ∷ more) = refl

pub opened_marked : (begins : Bool) (rs : List (List ℕ)) (recs : List (List (List ℕ))) → opened (marked begins rs ++ marked_all recs) ≡ marked true rs ++ marked_all recs
opened_marked begins [] recs = opened_all recs
opened_marked begins (r ∷ rs) recs = refl

-- from the k-th on, of some records of a block and those of further blocks
dropped : (recs : List (List (List ℕ))) → ((j : ℕ) → opened (drop j (marked_all recs)) ≡ marked_all (taken_after j recs)) → (k : ℕ) (begins : Bool) (rs : List (List ℕ))
    → opened (drop k (marked begins rs ++ marked_all recs)) ≡ marked true (drop k rs) ++ marked_all (taken_after (k - length rs) recs)
dropped recs ih zero begins rs = opened_marked begins rs recs ∙ rw (let z : 0 - length rs ≡ 0 = omega arith in z, after_zero recs)
dropped recs ih (suc k) begins [] = ih (suc k) ∙ rw (let z : suc k - 0 ≡ suc k = omega arith in z)
dropped recs ih (suc k) begins (r ∷ rs) = dropped recs ih k false rs ∙ rw (let z : suc k - suc (length rs) ≡ k - length rs = omega arith in z)

taken_after_lem : (recs : List (List (List ℕ))) (k : ℕ) → opened (drop k (marked_all recs)) ≡ marked_all (taken_after k recs)
taken_after_lem [] k = ap opened (drop-nil k)
taken_after_lem (rs ∷ recs) k = dropped recs (λ j. taken_after_lem recs j) k true rs

-- the marked records that are taken, from number R on
pub taken_marks_lem : (first : ℕ) (recs : List (List (List ℕ))) → taken_marks first (marked_all recs) ≡ marked_all (taken_from first recs)
unfolding taken_marks taken_from
taken_marks_lem first recs = taken_after_lem recs (first - 1)

-- ---- the blocks again

opened_block : (now rs : List (List ℕ)) (recs : List (List (List ℕ))) → opened_from now (marked false rs ++ marked_all recs) ≡ (now ++ rs) ∷ blocks_marked (marked_all recs)
opened_block now [] [] = ap (◌∷ []) (sym (append-nil now))
opened_block now [] ([] ∷ recs) = opened_block now [] recs
opened_block now [] ((r ∷ rs) ∷ recs) = ap (◌∷ opened_from (r ∷ []) (marked false rs ++ marked_all recs)) (sym (append-nil now))
opened_block now (r ∷ rs) recs = opened_block (now ++ (r ∷ [])) rs recs ∙ ap (◌∷ blocks_marked (marked_all recs)) (append_assoc now (r ∷ []) rs)

pub blocks_marked_lem : (recs : List (List (List ℕ))) → blocks_marked (marked_all recs) ≡ non_empty recs
blocks_marked_lem [] = refl
blocks_marked_lem ([] ∷ more) = blocks_marked_lem more
blocks_marked_lem ((r ∷ rs) ∷ more) = opened_block (r ∷ []) rs more ∙ ap ((r ∷ rs) ∷◌) (blocks_marked_lem more)
