-- TF with records of equal length: one output block for each input block that has a record left. Where it ends follows from where the input block ends, since both hold the
-- same number of records. By going along the blocks, with the records still to skip, or those since the first that is taken.
use mathlib.Core.Path.{◌≡◌, refl, ap, sym, ◌∙◌}
use mathlib.Core.Bool.{Bool, true, false, cond}
use mathlib.Core.List.{List, [], ◌∷◌, ◌++◌, map}
use Prim.Native.Nat.{ℕ, suc, ◌+◌, ◌-◌, ◌*◌, ◌≤◌, ◌<◌}
use native.Mathlib.Nat.{zero-mul, one-mul, suc-mul, add-mul, mul-le-mul_right, div-eq_of_eq-mul_left}
use native.Mathlib.Omega.{arith}
use lib.Dec.{ltb, leb}
use lib.ListN.{length, drop, length-drop, length-map, drop_of_length-le}
use borrow.Author.Tests.{leb-true, leb-false, lt-ltb, le-ltb}
use Rattle.rules.specs.Base.{joined}
use Rattle.rules.specs.Places.{All, also, Both, none_left, both}
use Rattle.rules.specs.Reel.{word, first_offset, offsets, is_reel, blocks_of}
use Rattle.rules.specs.Blocks.{taken_after}
use Rattle.rules.specs.Output.{non_empty}
use Rattle.rules.specs.EvenRecords.{ends_behind, count_behind}
use Rattle.rules.proofs.Base.AllLaws.{all_drop, all_map}
use Rattle.rules.proofs.Reel.WordLaws.{unwords}
use Rattle.rules.proofs.Reel.ReelLaws.{nexts, nexts_cut, header_is}
use Rattle.rules.proofs.Blocks.BlockLaws.{length_joined}
use Rattle.rules.proofs.Blocks.EvenLaws.{EvenBlock, even_size}

-- the offsets of a reel behind its first are those at which its blocks end
pub offsets_after : (s : List ℕ) → is_reel s ≡ true → offsets s ≡ nexts (first_offset s) (blocks_of s)
unfolding blocks_of
offsets_after s e = sym (nexts_cut s (first_offset s) (offsets s) (header_is s e).rises)

-- ---- those of the blocks that have a record left

pub count_behind_most : (from : ℕ) (os : List ℕ) → count_behind from os ≤ length os
count_behind_most from [] = omega arith
count_behind_most from (o ∷ os) = go (ltb from o) (count_behind_most from os)
  where
    go : (t : Bool) → count_behind from os ≤ length os → cond t (suc (count_behind from os)) (count_behind from os) ≤ suc (length os)
    go true l = omega arith
    go false l = omega arith

module _ (n : ℕ) (least : 1 ≤ n) where
  -- a block of i records ends at e: all of them are skipped, or some are left
  data Step (from k i e : ℕ) : Type 0 where
    skipped : i ≤ k → e ≤ from → (k - i) * n ≡ from - e → Step from k i e
    left : k < i → from < e → (k - i) * n ≡ from - e → Step from k i e

  step : (from a k i e : ℕ) → 1 ≤ i → e ≡ a + i * n → k * n ≡ from - a → Step from k i e
  step from a k i e l q s = go (leb i k) refl
    where
      go : (t : Bool) → leb i k ≡ t → Step from k i e
      go true t =
          let m = leb-true i k t in
          let p : 1 * n ≤ i * n = mul-le-mul_right n l in
          let z : (k - i + i) * n ≡ k * n = ap (λ (x : ℕ). x * n) (let z : k - i + i ≡ k = omega arith in z) in
          skipped m (omega (arith, mul-le-mul_right {m = i} {n = k} n m, one-mul n)) (omega (arith, add-mul (k - i) i n))
      go false t =
          let m = leb-false i k t in
          let p : suc k * n ≤ i * n = mul-le-mul_right n m in
          let z : (k - i) * n ≡ 0 * n = ap (λ (x : ℕ). x * n) (let z : k - i ≡ 0 = omega arith in z) in
          left m (omega (arith, suc-mul k n)) (omega (arith, suc-mul k n, zero-mul n))

  -- where some are left, so many records were taken since the first that is
  since : (from a k j i e : ℕ) → e ≡ a + i * n → k * n ≡ from - a → j * n ≡ a - from → k < i → (j + (i - k)) * n ≡ e - from
  since from a k j i e q s t l =
      let z : (i - k + k) * n ≡ i * n = ap (λ (x : ℕ). x * n) (let z : i - k + k ≡ i = omega arith in z) in
      omega (arith, add-mul j (i - k) n, add-mul (i - k) k n)

  block_end : (a : ℕ) {b : List ℕ} {rs : List (List ℕ)} → EvenBlock n b rs → a + length b ≡ a + length rs * n
  block_end a v = omega (arith, even_size v.even)

  block_step : (from a k : ℕ) {b : List ℕ} {rs : List (List ℕ)} → EvenBlock n b rs → k * n ≡ from - a → Step from k (length rs) (a + length b)
  block_step from a k v s = step from a k _ _ v.some (block_end a v) s

  module _ (out : List ℕ → List ℕ) where
    outs : ℕ → List (List (List ℕ)) → List (List (List ℕ))
    outs k recs = map (map out) (taken_after k recs)

    none_left_of : (k : ℕ) (rs : List (List ℕ)) (recs : List (List (List ℕ))) → length rs ≤ k → non_empty (outs k (rs ∷ recs)) ≡ non_empty (outs (k - length rs) recs)
    unfolding outs
    none_left_of k rs recs l = rw (drop_of_length-le rs l)

    some_left_of : (k : ℕ) (rs : List (List ℕ)) (recs : List (List (List ℕ))) → k < length rs
        → non_empty (outs k (rs ∷ recs)) ≡ map out (drop k rs) ∷ non_empty (outs (k - length rs) recs)
    unfolding outs
    some_left_of k rs recs l = go (map out (drop k rs)) (omega (arith, length-map (drop k rs) out, length-drop k rs))
      where
        go : (b : List (List ℕ)) → 1 ≤ length b → non_empty (b ∷ outs (k - length rs) recs) ≡ b ∷ non_empty (outs (k - length rs) recs)
        go [] m = absurd (omega arith)
        go (r ∷ b) m = refl

    -- how many output blocks there are: one for each input block that ends behind the first record that is taken
    pub taken_count : (from a k : ℕ) {bs : List (List ℕ)} {recs : List (List (List ℕ))} → Both (EvenBlock n) bs recs → k * n ≡ from - a
        → length (non_empty (map (map out) (taken_after k recs))) ≡ count_behind from (nexts a bs)
    unfolding outs
    taken_count from a k none_left s = refl
    taken_count from a k (both {x = b} {y = rs} {xs = bs} {ys = recs} v h) s =
        go (λ t. taken_count from (a + length b) (k - length rs) h t) (block_step from a k v s)
      where
        go : ((k - length rs) * n ≡ from - (a + length b) → length (non_empty (outs (k - length rs) recs)) ≡ count_behind from (nexts (a + length b) bs))
            → Step from k (length rs) (a + length b) → length (non_empty (outs k (rs ∷ recs))) ≡ count_behind from (nexts a (b ∷ bs))
        go later (skipped l e t) = ap length (none_left_of k rs recs l) ∙ rw (le-ltb from (a + length b) e) (later t)
        go later (left l e t) = ap length (some_left_of k rs recs l) ∙ rw (lt-ltb from (a + length b) e) (ap suc (later t))

    -- where they end: each after as many outputs as its input block ends records behind the first that is taken
    pub taken_ends : (w from to a k j : ℕ) {bs : List (List ℕ)} {recs : List (List (List ℕ))} → Both (EvenBlock n) bs recs → All (All (λ r. length (out r) ≡ w)) recs
        → k * n ≡ from - a → j * n ≡ a - from
        → unwords (nexts (to + j * w) (map joined (non_empty (map (map out) (taken_after k recs))))) ≡ ends_behind n w from to (nexts a bs)
    unfolding outs
    taken_ends w from to a k j none_left o s t = refl
    taken_ends w from to a k j (both {x = b} {y = rs} {xs = bs} {ys = recs} v h) (also m o) s t =
        go (λ j' s' t'. taken_ends w from to (a + length b) (k - length rs) j' h o s' t') (block_step from a k v s)
      where
        go : ((j' : ℕ) → (k - length rs) * n ≡ from - (a + length b) → j' * n ≡ a + length b - from
            → unwords (nexts (to + j' * w) (map joined (non_empty (outs (k - length rs) recs)))) ≡ ends_behind n w from to (nexts (a + length b) bs))
            → Step from k (length rs) (a + length b)
            → unwords (nexts (to + j * w) (map joined (non_empty (outs k (rs ∷ recs))))) ≡ ends_behind n w from to (nexts a (b ∷ bs))
        go later (skipped l u s') =
            ap (λ (z : List (List (List ℕ))). unwords (nexts (to + j * w) (map joined z))) (none_left_of k rs recs l) ∙ rw (le-ltb from (a + length b) u) (later j s' (omega arith))
        go later (left l u s') =
            let taken = j + (length rs - k) in
            let t' : taken * n ≡ a + length b - from = since from a k j (length rs) (a + length b) (block_end a v) s t l in
            let size : length (joined (map out (drop k rs))) ≡ (length rs - k) * w =
            length_joined w (all_map out (all_drop k m)) ∙ ap (λ (i : ℕ). i * w) (length-map (drop k rs) out ∙ length-drop k rs) in
            let there : to + j * w + length (joined (map out (drop k rs))) ≡ to + taken * w = omega (arith, size, add-mul j (length rs - k) w) in
            ap (λ (z : List (List (List ℕ))). unwords (nexts (to + j * w) (map joined z))) (some_left_of k rs recs l)
            ∙ ap (λ (p : ℕ). word p ++ unwords (nexts p (map joined (non_empty (outs (k - length rs) recs))))) there
            ∙ rw (lt-ltb from (a + length b) u, div-eq_of_eq-mul_left least (sym t')) (ap (word (to + taken * w) ++◌) (later taken s' t'))
