-- The blocks of a reel by place, for code that walks them: block i is the part from offset i to offset i+1, and the offsets rise from the header to the end.
-- A step holds since one more offset stands at the front of those that are left, and the blocks are cut at the offsets.
use mathlib.Core.Path.{◌≡◌, ap, sym, ◌∙◌, subst}
use mathlib.Core.Bool.{true}
use mathlib.Core.List.{List, [], ◌∷◌}
use Prim.Native.Nat.{ℕ, zero, suc, ◌+◌, ◌-◌, ◌*◌, ◌≤◌, ◌<◌}
use native.Mathlib.Nat.{add-zero, add-suc}
use native.Mathlib.Omega.{arith}
use native.Mathlib.Numerals.{add-one}
use lib.ListN.{length, drop, get_or, drop_of_length-le}
use lib.Seq.{slice, length-slice, drop-drop, get_or-drop}
use Rattle.rules.specs.Reel.{cut, block_count, offsets, is_reel, blocks_of}
use Rattle.rules.specs.ReelPlaces.{offset_at}
use Rattle.rules.proofs.Reel.ReelLaws.{header_is, length_blocks}
use Rattle.rules.proofs.Reel.HeaderSteps.{first_at, rises_from, offsets_step, rises_all, rises_each, rises_last, header_rises}

module _ (s : List ℕ) (e : is_reel s ≡ true) where
  there_all : 4 * block_count s + 8 ≤ length s
  there_all = (header_is s e).there

  rises_reel : (i : ℕ) → i ≤ block_count s → rises_from s i ≡ true
  rises_reel = rises_all s there_all (header_rises s (header_is s e))

  pub offset_first : offset_at s 0 ≡ 4 * block_count s + 8
  offset_first = omega (arith, (header_is s e).first, first_at s (omega (arith, there_all)))

  pub offset_rises : (i : ℕ) → i < block_count s → offset_at s i < offset_at s (suc i)
  offset_rises = rises_each s there_all (header_rises s (header_is s e))

  pub offset_last : offset_at s (block_count s) ≡ length s
  offset_last = rises_last s there_all (header_rises s (header_is s e))

  offset_further : (i n : ℕ) → i + n ≤ block_count s → offset_at s i + n ≤ offset_at s (i + n)
  offset_further i zero l = rw (add-zero i, add-zero (offset_at s i)) (omega arith)
  offset_further i (suc n) l = rw (add-suc i n) (omega (arith, offset_further i n (omega arith), offset_rises (i + n) (omega arith)))

  -- each offset is at least one higher than the one before it
  pub offset_order : (i j : ℕ) → i ≤ j → j ≤ block_count s → offset_at s i + (j - i) ≤ offset_at s j
  offset_order i j l m =
      let z : i + (j - i) ≡ j = omega arith in
      subst (λ (n : ℕ). offset_at s i + (j - i) ≤ offset_at s n) z (offset_further i (j - i) (omega arith))

  -- every offset lies between the header and the end
  pub offset_least : (i : ℕ) → i ≤ block_count s → 4 * block_count s + 8 + i ≤ offset_at s i
  offset_least i l = omega (arith, offset_first, offset_order 0 i (omega arith) l)

  pub offset_most : (i : ℕ) → i ≤ block_count s → offset_at s i + (block_count s - i) ≤ length s
  offset_most i l = omega (arith, offset_last, offset_order i (block_count s) l (omega arith))

  rest_blocks : (i : ℕ) → i ≤ block_count s → drop i (blocks_of s) ≡ cut s (offset_at s i) (drop i (offsets s))
  unfolding blocks_of
  rest_blocks zero l = ap (λ (a : ℕ). cut s a (offsets s)) (first_at s (omega (arith, there_all)))
  rest_blocks (suc i) l =
      ap (λ (n : ℕ). drop n (blocks_of s)) (sym (add-one i))
      ∙ sym (drop-drop 1 i (blocks_of s))
      ∙ ap (drop 1) (rest_blocks i (omega arith) ∙ ap (cut s (offset_at s i)) (offsets_step s there_all i l))

  -- the walk over the blocks: a step, and the end
  pub blocks_step : (i : ℕ) → i < block_count s → drop i (blocks_of s) ≡ slice (offset_at s i) (offset_at s (suc i)) s ∷ drop (suc i) (blocks_of s)
  blocks_step i l =
      rest_blocks i (omega arith)
      ∙ ap (cut s (offset_at s i)) (offsets_step s there_all i l)
      ∙ ap (slice (offset_at s i) (offset_at s (suc i)) s ∷◌) (sym (rest_blocks (suc i) l))

  pub blocks_end : drop (block_count s) (blocks_of s) ≡ []
  blocks_end = drop_of_length-le (blocks_of s) {i = block_count s} (omega (arith, length_blocks s e))

  pub block_at : (i : ℕ) → i < block_count s → get_or (blocks_of s) i [] ≡ slice (offset_at s i) (offset_at s (suc i)) s
  block_at i l =
      ap (λ (n : ℕ). get_or (blocks_of s) n []) (sym (add-zero i))
      ∙ sym (get_or-drop i (blocks_of s) 0 [])
      ∙ ap (λ (bs : List (List ℕ)). get_or bs 0 []) (blocks_step i l)

  pub length_block : (i : ℕ) → i < block_count s → length (get_or (blocks_of s) i []) ≡ offset_at s (suc i) - offset_at s i
  length_block i l = ap length (block_at i l) ∙ length-slice (offset_at s i) (offset_at s (suc i)) s (omega (arith, offset_most (suc i) l))
