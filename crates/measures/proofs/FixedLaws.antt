-- In FF what an output measures is found by division, and of TF by looking at each offset of the input. By the laws of records of equal length, and by going along the offsets.
use mathlib.Core.Path.{◌≡◌, refl, ap, sym, ◌∙◌}
use mathlib.Core.Bool.{true}
use mathlib.Core.List.{List, []}
use Prim.Native.Nat.{ℕ, suc, ◌+◌, ◌*◌, ◌≤◌, ◌<◌}
use native.Mathlib.Omega.{arith}
use lib.ListN.{length, drop}
use borrow.Author.Tests.{lt-ltb, le-ltb}
use Rattle.rules.specs.Reel.{block_count, offsets, is_reel}
use Rattle.rules.specs.ReelPlaces.{word_at}
use Rattle.rules.specs.EvenRecords.{count_behind}
use Rattle.rules.proofs.Reel.ReelLaws.{header_is}
use Rattle.rules.proofs.Reel.HeaderSteps.{count_at, offsets_next, offsets_end}

-- ---- the offsets of the input behind a place

-- so many of the first i are, and the others are left to look at
pub record Behind (s : List ℕ) (from count blocks i : ℕ) : Type 0 where
  pub reel : is_reel s ≡ true
  pub all : count ≡ block_count s
  pub upto : i ≤ count
  pub few : blocks ≤ i
  pub left : blocks + count_behind from (drop i (offsets s)) ≡ count_behind from (offsets s)

pub behind_start : (s : List ℕ) (from : ℕ) {count : ℕ} → is_reel s ≡ true → count ≡ word_at s 0 → Behind s from count 0 0
behind_start s from r e =
    record { reel = r; all = e ∙ sym (count_at s (omega (arith, (header_is s r).there))); upto = omega arith; few = omega arith; left = omega arith }

module _ {s : List ℕ} {from count blocks i : ℕ} (k : Behind s from count blocks i) where
  there : 4 * block_count s + 8 ≤ length s
  there = (header_is s k.reel).there

  -- its word is there
  pub behind_word : i < count → 4 * i + 8 + 4 ≤ length s
  behind_word l = omega (arith, there, k.all)

  pub behind_small : count ≤ 65536
  behind_small = omega (arith, there, k.all, (header_is s k.reel).most)

  pub behind_more : i < count → (o : ℕ) → o ≡ word_at s (4 * i + 8) → from < o → Behind s from count (blocks + 1) (i + 1)
  behind_more l o e h =
      record {
        reel = k.reel;
        all = k.all;
        upto = omega arith;
        few = omega (arith, k.few);
        left = sym (sym k.left ∙ ap (λ (x : List ℕ). blocks + count_behind from x) (offsets_next s there i o (omega (arith, k.all)) e) ∙ rw (lt-ltb from o h) (let z : blocks + suc (count_behind from (drop (i + 1) (offsets s))) ≡ blocks + 1 + count_behind from (drop (i + 1) (offsets s)) = omega arith in z));
      }

  pub behind_same : i < count → (o : ℕ) → o ≡ word_at s (4 * i + 8) → o ≤ from → Behind s from count blocks (i + 1)
  behind_same l o e h =
      record {
        reel = k.reel;
        all = k.all;
        upto = omega arith;
        few = omega (arith, k.few);
        left = sym (sym k.left ∙ ap (λ (x : List ℕ). blocks + count_behind from x) (offsets_next s there i o (omega (arith, k.all)) e) ∙ rw (le-ltb from o h) refl);
      }

  pub behind_end : count ≤ i → blocks ≡ count_behind from (offsets s)
  behind_end l =
      let q : i ≡ block_count s = omega (arith, k.upto, k.all) in
      let z : drop i (offsets s) ≡ [] = ap (λ (j : ℕ). drop j (offsets s)) q ∙ offsets_end s there in
      (let e : blocks ≡ blocks + count_behind from [] = omega arith in e) ∙ ap (λ (x : List ℕ). blocks + count_behind from x) (sym z) ∙ k.left
