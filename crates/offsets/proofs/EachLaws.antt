-- Offsets by the input's blocks: each turn looks at one offset of the input more, and puts one or none. By going along the input's offsets.
use mathlib.Core.Path.{◌≡◌, refl, ap, sym, ◌∙◌}
use mathlib.Core.Bool.{Bool, true, false, cond}
use mathlib.Core.List.{List, [], ◌∷◌, ◌++◌, append-nil}
use Prim.Native.Nat.{ℕ, suc, ◌+◌, ◌-◌, ◌*◌, ◌/◌, ◌≤◌, ◌<◌}
use native.Mathlib.Nat.{mul-le-mul, div-le_self}
use native.Mathlib.Omega.{arith}
use lib.Dec.{ltb}
use lib.ListN.{length, drop, length-append}
use borrow.Author.Tests.{lt-ltb, le-ltb}
use Rattle.rules.specs.Halves.{over}
use Rattle.rules.specs.Reel.{word, block_count, offsets, is_reel}
use Rattle.rules.specs.ReelPlaces.{word_at}
use Rattle.rules.specs.EvenRecords.{ends_behind}
use Rattle.rules.proofs.Halves.PlaceLaws.{over_nothing, over_behind}
use Rattle.rules.proofs.Reel.WordLaws.{length_word}
use Rattle.rules.proofs.Reel.ReelLaws.{header_is}
use Rattle.rules.proofs.Reel.ReelSteps.{offset_most}
use Rattle.rules.proofs.Reel.HeaderSteps.{next_at, count_at, offsets_next, offsets_end}
use Rattle.offsets.specs.Small.{EndSmall, EachSmall}
use Rattle.offsets.proofs.Sending.{Sent, sent_start, sent_size, sent_length, sent_more, sent_end}

-- ---- one offset

module _ (n w from base end : ℕ) where
  none_behind : end ≤ from → ends_behind n w from base (end ∷ []) ≡ []
  none_behind l = rw (le-ltb from end l)

  one_behind : from < end → ends_behind n w from base (end ∷ []) ≡ word (base + (end - from) / n * w)
  one_behind l = rw (lt-ltb from end l) (append-nil (word (base + (end - from) / n * w)))

  pub none_place : (at : ℕ) → end ≤ from → at ≡ at + length (ends_behind n w from base (end ∷ []))
  none_place at l = omega (arith, ap length (none_behind l))

  pub none_put : (at : ℕ) (out : List ℕ) → end ≤ from → out ≡ over at (ends_behind n w from base (end ∷ [])) out
  none_put at out l = sym (ap (λ (x : List ℕ). over at x out) (none_behind l) ∙ over_nothing at out)

  pub one_length : from < end → length (ends_behind n w from base (end ∷ [])) ≡ 4
  one_length l = ap length (one_behind l) ∙ length_word (base + (end - from) / n * w)

  pub one_put : (at : ℕ) (out : List ℕ) → from < end → over at (word (base + (end - from) / n * w)) out ≡ over at (ends_behind n w from base (end ∷ [])) out
  one_put at out l = ap (λ (x : List ℕ). over at x out) (sym (one_behind l))

  pub end_small : (at : ℕ) → EndSmall n w base end at → (end - from) / n * w ≤ 65536 * 65536
  end_small at s =
      let few : (end - from) / n ≤ 65536 = omega (arith, div-le_self (end - from) n, s.ends) in
      mul-le-mul few s.wide

  -- and those of the blocks behind it
  behind_cons : (os : List ℕ) → ends_behind n w from base (end ∷ os) ≡ ends_behind n w from base (end ∷ []) ++ ends_behind n w from base os
  behind_cons os = go (ltb from end)
    where
      go : (t : Bool)
          → cond t (word (base + (end - from) / n * w) ++ ends_behind n w from base os) (ends_behind n w from base os)
          ≡ cond t (word (base + (end - from) / n * w) ++ []) [] ++ ends_behind n w from base os
      go true = ap (◌++ ends_behind n w from base os) (sym (append-nil (word (base + (end - from) / n * w))))
      go false = refl

-- ---- all of them

-- those of the first i blocks of the input stand in the output
pub record Putting (n w : ℕ) (s : List ℕ) (from base count : ℕ) (old out : List ℕ) (at i : ℕ) : Type 0 where
  pub reel : is_reel s ≡ true
  pub all : count ≡ block_count s
  pub upto : i ≤ count
  pub low : at ≤ 4 * i + 8
  pub sent : Sent 8 (ends_behind n w from base (offsets s)) old out at (ends_behind n w from base (drop i (offsets s)))

pub each_start : (n w : ℕ) (s : List ℕ) (from base : ℕ) {count : ℕ} (old : List ℕ) → is_reel s ≡ true → count ≡ word_at s 0
    → 8 + length (ends_behind n w from base (offsets s)) ≤ length old → Putting n w s from base count old old 8 0
each_start n w s from base old r c l =
    record {
      reel = r;
      all = c ∙ sym (count_at s (omega (arith, (header_is s r).there)));
      upto = omega arith;
      low = omega arith;
      sent = sent_start 8 (ends_behind n w from base (offsets s)) old l;
    }

module _ {n w : ℕ} {s : List ℕ} {from base count : ℕ} {old out : List ℕ} {at i : ℕ} (k : Putting n w s from base count old out at i) where
  there : 4 * block_count s + 8 ≤ length s
  there = (header_is s k.reel).there

  pub each_word : i < count → 4 * i + 8 + 4 ≤ length s
  each_word l = omega (arith, there, k.all)

  pub each_count : count ≤ 65536
  each_count = omega (arith, there, k.all, (header_is s k.reel).most)

  module _ (l : i < count) (o : ℕ) (e : o ≡ word_at s (4 * i + 8)) where
    pub each_small : EachSmall n w base → EndSmall n w base o at
    each_small x =
        record {
          some = x.some;
          wide = x.wide;
          starts = x.starts;
          ends = omega (arith, offset_most s k.reel (suc i) (omega (arith, k.all)), next_at s i, e, (header_is s k.reel).most);
          place = omega (arith, k.low, each_count);
        }

    left_is : ends_behind n w from base (drop i (offsets s)) ≡ ends_behind n w from base (o ∷ []) ++ ends_behind n w from base (drop (i + 1) (offsets s))
    left_is = ap (ends_behind n w from base) (offsets_next s there i o (omega (arith, k.all)) e) ∙ behind_cons n w from base o (drop (i + 1) (offsets s))

    pub each_room : at + length (ends_behind n w from base (o ∷ [])) ≤ length out
    each_room =
        omega (arith, sent_size k.sent, sent_length k.sent, k.sent.roomy, ap length left_is, length-append (ends_behind n w from base (o ∷ [])) (ends_behind n w from base (drop (i + 1) (offsets s))))

    one_most : length (ends_behind n w from base (o ∷ [])) ≤ 4
    one_most = go (ltb from o)
      where
        go : (t : Bool) → length (cond t (word (base + (o - from) / n * w) ++ []) []) ≤ 4
        go true = omega (arith, length-append (word (base + (o - from) / n * w)) [], length_word (base + (o - from) / n * w))
        go false = omega arith

    pub each_more : (next : ℕ) → next ≡ at + length (ends_behind n w from base (o ∷ [])) → (new : List ℕ) → new ≡ over at (ends_behind n w from base (o ∷ [])) out
        → Putting n w s from base count old new next (i + 1)
    each_more next m new q =
        record {
          reel = k.reel;
          all = k.all;
          upto = omega arith;
          low = omega (arith, k.low, one_most);
          sent = sent_more k.sent (ends_behind n w from base (o ∷ [])) (ends_behind n w from base (drop (i + 1) (offsets s))) left_is next m new q;
        }

  pub each_end : count ≤ i → out ≡ over 8 (ends_behind n w from base (offsets s)) old
  each_end l =
      let q : i ≡ block_count s = omega (arith, k.upto, k.all) in
      sent_end k.sent (ap (ends_behind n w from base) (ap (λ (j : ℕ). drop j (offsets s)) q ∙ offsets_end s there))

-- ---- behind the first offset

module _ (base : ℕ) (ends old : List ℕ) (roomy : 4 + length (word base ++ ends) ≤ length old) where
  pub first_room : 4 + 4 ≤ length old
  first_room = omega (arith, length-append (word base) ends, length_word base)

  pub rest_room : (first : List ℕ) → length first ≡ length old → 8 + length ends ≤ length first
  rest_room first e = omega (arith, length-append (word base) ends, length_word base)

  pub both_put : (first new : List ℕ) → first ≡ over 4 (word base) old → new ≡ over 8 ends first → new ≡ over 4 (word base ++ ends) old
  both_put first new p q =
      q ∙ ap (over 8 ends) p
      ∙ over_behind 4 8 (word base) ends old (omega (arith, length_word base)) (omega (arith, length-append (word base) ends, length_word base))

-- ---- one outcome only

pub each_only_one : (n w : ℕ) (s : List ℕ) (from base : ℕ) (old : List ℕ) {x y : List ℕ}
    → x ≡ over 4 (word base ++ ends_behind n w from base (offsets s)) old → y ≡ over 4 (word base ++ ends_behind n w from base (offsets s)) old → x ≡ y
each_only_one n w s from base old a b = a ∙ sym b
