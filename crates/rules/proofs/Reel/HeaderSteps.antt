-- The header of a reel by place, for code that tests it: the count is the word at 0, offset i the word at 4i+4.
-- The walk over the offsets has a law for its start, one for a step and one for each end; a step holds since one more offset stands at the front of those that are left.
use mathlib.Core.Path.{◌≡◌, refl, ap, ap₂, sym, ◌∙◌, subst}
use mathlib.Core.Bool.{Bool, true, false}
use mathlib.Core.List.{List, [], ◌∷◌}
use Prim.Native.Nat.{ℕ, zero, suc, ◌+◌, ◌*◌, ◌≤◌, ◌<◌}
use native.Mathlib.Omega.{arith}
use native.Mathlib.Numerals.{add-one}
use lib.Dec.{ltb, eqb}
use lib.ListN.{length, drop, get_or, drop_of_length-le}
use lib.Seq.{drop-cons, get_or-drop, get_or-take}
use borrow.Author.Tests.{ltb-true, eqb-true, lt-ltb, le-ltb, le-leb, eq-eqb}
use Rattle.rules.specs.Reel.{words, rising, block_count, first_offset, offsets, is_reel}
use Rattle.rules.specs.ReelPlaces.{word_at, offset_at}
use Rattle.rules.proofs.Base.Tests.{and_left, and_right, never_true}
use Rattle.rules.proofs.Reel.WordLaws.{word_at_lem}
use Rattle.rules.proofs.Reel.ReelLaws.{HeaderIs, header_is, length_offsets}

pub next_at : (s : List ℕ) (i : ℕ) → offset_at s (suc i) ≡ word_at s (4 * i + 8)
next_at s i = ap (word_at s) (let z : 4 * suc i + 4 ≡ 4 * i + 8 = omega arith in z)

-- ---- the words of the header

pub count_at : (s : List ℕ) → 4 ≤ length s → block_count s ≡ word_at s 0
unfolding block_count
count_at s l = word_at_lem s 0 l

pub first_at : (s : List ℕ) → 8 ≤ length s → first_offset s ≡ offset_at s 0
unfolding first_offset
first_at s l = word_at_lem s 1 l

-- ---- the walk over the offsets

-- the offsets from number i on rise strictly, and the last is the length
unfoldable pub rises_from : List ℕ → ℕ → Bool
rises_from s i = rising (length s) (offset_at s i) (drop i (offsets s))

module _ (s : List ℕ) (there : 4 * block_count s + 8 ≤ length s) where
  pub offset_at_lem : (i : ℕ) → i < block_count s → get_or (offsets s) i 0 ≡ offset_at s (suc i)
  unfolding offsets
  offset_at_lem i l =
      get_or-take (block_count s) (drop 2 (words s)) i 0 l
      ∙ get_or-drop 2 (words s) i 0
      ∙ word_at_lem s (2 + i) (omega arith)
      ∙ ap (word_at s) (let z : 4 * (2 + i) ≡ 4 * suc i + 4 = omega arith in z)

  pub offsets_step : (i : ℕ) → i < block_count s → drop i (offsets s) ≡ offset_at s (suc i) ∷ drop (suc i) (offsets s)
  offsets_step i l = drop-cons (offsets s) i 0 (omega (arith, length_offsets s there)) ∙ ap (◌∷ drop (suc i) (offsets s)) (offset_at_lem i l)

  -- by the word that is read there
  pub offsets_next : (i o : ℕ) → i < block_count s → o ≡ word_at s (4 * i + 8) → drop i (offsets s) ≡ o ∷ drop (i + 1) (offsets s)
  offsets_next i o l e = offsets_step i l ∙ ap₂ (λ (x j : ℕ). x ∷ drop j (offsets s)) (next_at s i ∙ sym e) (sym (add-one i))

  pub offsets_end : drop (block_count s) (offsets s) ≡ []
  offsets_end = drop_of_length-le (offsets s) {i = block_count s} (omega (arith, length_offsets s there))

  -- an offset and a higher one: it goes on
  pub rises_step : (i : ℕ) → i < block_count s → offset_at s i < offset_at s (suc i) → rises_from s i ≡ rises_from s (suc i)
  unfolding rises_from
  rises_step i l r = rw (offsets_step i l, lt-ltb (offset_at s i) (offset_at s (suc i)) r)

  -- an offset and one that is not higher: it is no reel
  pub rises_not : (i : ℕ) → i < block_count s → offset_at s (suc i) ≤ offset_at s i → rises_from s i ≡ false
  unfolding rises_from
  rises_not i l r = rw (offsets_step i l, le-ltb (offset_at s i) (offset_at s (suc i)) r)

  -- past the last offset
  pub rises_end : rises_from s (block_count s) ≡ eqb (offset_at s (block_count s)) (length s)
  unfolding rises_from
  rises_end = rw offsets_end

  rises_next : (i : ℕ) → i < block_count s → rises_from s i ≡ true → (offset_at s i < offset_at s (suc i)) × (rises_from s (suc i) ≡ true)
  unfolding rises_from
  rises_next i l r =
      let e : rising (length s) (offset_at s i) (offset_at s (suc i) ∷ drop (suc i) (offsets s)) ≡ true = rw (offsets_step i l) at r in
      (ltb-true (offset_at s i) (offset_at s (suc i)) (and_left (ltb (offset_at s i) (offset_at s (suc i))) _ e), and_right (ltb (offset_at s i) (offset_at s (suc i))) _ e)

  pub rises_all : rises_from s 0 ≡ true → (i : ℕ) → i ≤ block_count s → rises_from s i ≡ true
  rises_all r zero l = r
  rises_all r (suc i) l = (rises_next i l (rises_all r i (omega arith))).1

  pub rises_each : rises_from s 0 ≡ true → (i : ℕ) → i < block_count s → offset_at s i < offset_at s (suc i)
  rises_each r i l = (rises_next i l (rises_all r i (omega arith))).0

  pub rises_last : rises_from s 0 ≡ true → offset_at s (block_count s) ≡ length s
  rises_last r = eqb-true (offset_at s (block_count s)) (length s) (sym rises_end ∙ rises_all r (block_count s) (omega arith))

  rises_steps : ((i : ℕ) → i < block_count s → offset_at s i < offset_at s (suc i)) → (i : ℕ) → i ≤ block_count s → rises_from s 0 ≡ rises_from s i
  rises_steps f zero l = refl
  rises_steps f (suc i) l = rises_steps f i (omega arith) ∙ rises_step i l (f i l)

  rises_of : ((i : ℕ) → i < block_count s → offset_at s i < offset_at s (suc i)) → offset_at s (block_count s) ≡ length s → rises_from s 0 ≡ true
  rises_of f e = rises_steps f (block_count s) (omega arith) ∙ rises_end ∙ eq-eqb (offset_at s (block_count s)) (length s) e

-- ---- the header test

pub header_rises : (s : List ℕ) → HeaderIs s → rises_from s 0 ≡ true
unfolding rises_from
header_rises s h = subst (λ (a : ℕ). rising (length s) a (offsets s) ≡ true) (first_at s (omega (arith, h.there))) h.rises

-- the start of the walk: the length, the count and the first offset are right
pub reel_rises : (s : List ℕ) → length s ≤ 65536 → 4 * word_at s 0 + 8 ≤ length s → word_at s 4 ≡ 4 * word_at s 0 + 8 → is_reel s ≡ rises_from s 0
unfolding is_reel rises_from
reel_rises s m t e =
    let c : 4 * block_count s + 8 ≡ 4 * word_at s 0 + 8 = ap (λ (k : ℕ). 4 * k + 8) (count_at s (omega arith)) in
    rw (c, first_at s (omega arith), le-leb (length s) 65536 m, le-leb (4 * word_at s 0 + 8) (length s) t, eq-eqb (word_at s 4) (4 * word_at s 0 + 8) e)

not_header : (s : List ℕ) → (HeaderIs s → ⊥) → is_reel s ≡ false
not_header s f = never_true (is_reel s) (λ e. f (header_is s e))

-- the ways in which the walk does not start
pub too_long : (s : List ℕ) → 65536 < length s → is_reel s ≡ false
too_long s l = not_header s (λ h. omega (arith, h.most))

pub too_short : (s : List ℕ) → length s < 8 → is_reel s ≡ false
too_short s l = not_header s (λ h. omega (arith, h.there))

pub count_too_high : (s : List ℕ) → 4 ≤ length s → length s < 4 * word_at s 0 + 8 → is_reel s ≡ false
count_too_high s m l = not_header s (λ h. omega (arith, h.there, count_at s m))

pub first_wrong : (s : List ℕ) → 8 ≤ length s → (word_at s 4 ≡ 4 * word_at s 0 + 8 → ⊥) → is_reel s ≡ false
first_wrong s m f = not_header s (λ h. f (omega (arith, h.first, first_at s m, count_at s (omega arith))))

-- what the header test asks, over the words of the header
pub record HeaderWords (s : List ℕ) : Type 0 where
  pub most : length s ≤ 65536
  pub there : 4 * word_at s 0 + 8 ≤ length s
  pub first : word_at s 4 ≡ 4 * word_at s 0 + 8
  pub rise : (i : ℕ) → i < word_at s 0 → offset_at s i < offset_at s (suc i)
  pub last : offset_at s (word_at s 0) ≡ length s

-- ---- the test as a loop, which holds the count k, the number i of an offset and the offset a

pub record HeaderWalk (s : List ℕ) (k i a : ℕ) : Type 0 where
  pub count : block_count s ≡ k
  pub there : 4 * k + 8 ≤ length s
  pub inside : i ≤ k
  pub offset : a ≡ offset_at s i
  pub left : is_reel s ≡ rises_from s i

pub walk_start : (s : List ℕ) (k a : ℕ) → length s ≤ 65536 → 8 ≤ length s → k ≡ word_at s 0 → 4 * k + 8 ≤ length s → a ≡ word_at s 4 → a ≡ 4 * k + 8 → HeaderWalk s k 0 a
walk_start s k a m n c t e f =
    record {
      count = count_at s (omega arith) ∙ sym c;
      there = t;
      inside = omega arith;
      offset = e;
      left = reel_rises s m (omega arith) (omega arith);
    }

module _ {s : List ℕ} {k i a : ℕ} (w : HeaderWalk s k i a) where
  -- the next offset b is higher
  pub walk_step : (b : ℕ) → i < k → b ≡ word_at s (4 * i + 8) → a < b → HeaderWalk s k (i + 1) b
  walk_step b l e r =
      let c = w.count in
      let o : b ≡ offset_at s (suc i) = e ∙ sym (next_at s i) in
      let f = rises_step s (omega (arith, w.there)) i (omega arith) (omega (arith, w.offset)) in
      record {
        count = c;
        there = w.there;
        inside = omega arith;
        offset = o ∙ ap (offset_at s) (sym (add-one i));
        left = w.left ∙ f ∙ ap (rises_from s) (sym (add-one i));
      }

  -- it is not
  pub walk_not : (b : ℕ) → i < k → b ≡ word_at s (4 * i + 8) → b ≤ a → is_reel s ≡ false
  walk_not b l e r =
      let c = w.count in
      w.left ∙ rises_not s (omega (arith, w.there)) i (omega arith) (omega (arith, w.offset, next_at s i))

  -- there is none
  pub walk_end : k ≤ i → is_reel s ≡ eqb a (length s)
  walk_end l =
      let c = w.count in
      let z : i ≡ block_count s = omega (arith, w.inside) in
      w.left
      ∙ ap (rises_from s) z
      ∙ rises_end s (omega (arith, w.there))
      ∙ ap (λ (n : ℕ). eqb n (length s)) (ap (offset_at s) (sym z) ∙ sym w.offset)
