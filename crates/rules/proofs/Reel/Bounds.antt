-- How many blocks a reel has at most, and how long they are: each block has a byte or more, so that k blocks and their header take 5k+8 bytes of at most 65,536.
use mathlib.Core.Path.{◌≡◌, refl, ap, ◌∙◌}
use mathlib.Core.Bool.{true}
use mathlib.Core.List.{List, [], ◌∷◌, ◌++◌}
use Prim.Native.Nat.{ℕ, suc, ◌+◌, ◌-◌, ◌*◌, ◌≤◌, ◌<◌}
use native.Mathlib.Omega.{arith}
use lib.ListN.{length, get_or, length-append, length-drop}
use Rattle.rules.specs.Base.{joined}
use Rattle.rules.specs.Places.{All, no_more, also}
use Rattle.rules.specs.Reel.{block_count, is_reel, blocks_of, reel_of}
use Rattle.rules.specs.ReelPlaces.{offset_at}
use Rattle.rules.proofs.Base.Lists.{full_length}
use Rattle.rules.proofs.Base.AllLaws.{all_imply}
use Rattle.rules.proofs.Reel.ReelLaws.{header_is, full_blocks, length_blocks, length_reel, joined_blocks, joined_count}
use Rattle.rules.proofs.Reel.ReelSteps.{offset_least, offset_most, offset_rises, length_block}

-- ---- lists of which none is empty

-- there are no more lists than elements
pub full_count : {bs : List (List ℕ)} → All (λ b. b ≡ [] → ⊥) bs → length bs ≤ length (joined bs)
full_count a = joined_count (all_imply full_length a)

-- and no list is longer than all together
pub joined_most : (bs : List (List ℕ)) → All (λ b. length b ≤ length (joined bs)) bs
joined_most [] = no_more
joined_most (b ∷ bs) =
    let l : length b ≤ length (b ++ joined bs) = omega (arith, length-append b (joined bs)) in
    also l (all_imply (λ x m. longer x m) (joined_most bs))
  where
    longer : (x : List ℕ) → length x ≤ length (joined bs) → length x ≤ length (b ++ joined bs)
    longer x m = omega (arith, length-append b (joined bs))

-- ---- a reel that is written

-- k blocks, none of them empty, and their header have at least 5k+8 bytes
pub written_least : (bs : List (List ℕ)) → All (λ b. b ≡ [] → ⊥) bs → 5 * length bs + 8 ≤ length (reel_of bs)
written_least bs a = omega (arith, full_count a, length_reel bs)

pub written_most : (bs : List (List ℕ)) → All (λ b. b ≡ [] → ⊥) bs → length (reel_of bs) ≤ 65536 → length bs ≤ 13105
written_most bs a l = omega (arith, written_least bs a)

-- ---- a reel that is read

module _ (s : List ℕ) (e : is_reel s ≡ true) where
  pub reel_least : 8 ≤ length s
  reel_least = omega (arith, (header_is s e).there)

  pub reel_most : length s ≤ 65536
  reel_most = (header_is s e).most

  -- the header and the blocks are the reel
  pub parts_length : 4 * block_count s + 8 + length (joined (blocks_of s)) ≡ length s
  parts_length = omega (arith, (header_is s e).there, ap length (joined_blocks s e) ∙ length-drop (4 * block_count s + 8) s)

  pub count_least : 5 * block_count s + 8 ≤ length s
  count_least = omega (arith, parts_length, length_blocks s e, full_count (full_blocks s e))

  -- a reel has at most 13,105 blocks
  pub count_most : block_count s ≤ 13105
  count_most = omega (arith, count_least, reel_most)

  pub blocks_most : length (blocks_of s) ≤ 13105
  blocks_most = omega (arith, length_blocks s e, count_most)

  -- the header has at most 52,428 bytes
  pub header_most : 4 * block_count s + 8 ≤ 52428
  header_most = omega (arith, count_most)

  -- the blocks have so many bytes together, at most 65,528
  pub bytes_length : length (joined (blocks_of s)) ≡ length s - (4 * block_count s + 8)
  bytes_length = omega (arith, parts_length)

  pub bytes_most : length (joined (blocks_of s)) ≤ 65528
  bytes_most = omega (arith, parts_length, reel_most)

  -- every offset is at most the length
  pub offset_inside : (i : ℕ) → i ≤ block_count s → offset_at s i ≤ 65536
  offset_inside i l = omega (arith, offset_most s e i l, reel_most)

  -- one block has at least 1 byte and at most 65,524, and fewer with each other block: 5 for each
  pub block_least : (i : ℕ) → i < block_count s → 1 ≤ length (get_or (blocks_of s) i [])
  block_least i l = omega (arith, length_block s e i l, offset_rises s e i l)

  pub block_most : (i : ℕ) → i < block_count s → length (get_or (blocks_of s) i []) + 5 * block_count s + 7 ≤ length s
  block_most i l = omega (arith, length_block s e i l, offset_rises s e i l, offset_least s e i (omega arith), offset_most s e (suc i) l)

  pub all_blocks_most : All (λ b. length b ≤ 65524) (blocks_of s)
  all_blocks_most = go (blocks_of s) refl
    where
      go : (bs : List (List ℕ)) → blocks_of s ≡ bs → All (λ b. length b ≤ 65524) bs
      go [] q = no_more
      go (x ∷ bs) q =
          let n : length (joined (blocks_of s)) ≡ length (joined (x ∷ bs)) = ap (λ (z : List (List ℕ)). length (joined z)) q in
          let k : length (blocks_of s) ≡ suc (length bs) = ap length q in
          let m : length (joined (x ∷ bs)) ≤ 65524 = omega (arith, parts_length, length_blocks s e, reel_most) in
          all_imply (λ b l. shorter b l m) (joined_most (x ∷ bs))
        where
          shorter : (b : List ℕ) → length b ≤ length (joined (x ∷ bs)) → length (joined (x ∷ bs)) ≤ 65524 → length b ≤ 65524
          shorter b l m = omega arith
