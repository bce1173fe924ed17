-- A packed field ends as the same input packed into a larger field does; where that has room for every digit, it is 0 halves and then each
-- byte's low half, with the last byte's high half behind. An unpacked byte is the zone with a half of the input, or with 0. And every half
-- of a packed field is a half byte. By the places of the halves.
use mathlib.Core.Path.{◌≡◌, refl, sym, ap, ◌∙◌}
use mathlib.Core.List.{List, [], ◌∷◌, ◌++◌, reverse}
use Prim.Native.Nat.{ℕ, zero, suc, ◌+◌, ◌-◌, ◌*◌, ◌/◌, ◌%◌, ◌≤◌, ◌<◌}
use borrow.Author.Tests.{lt-ltb}
use native.Mathlib.Decide.{dec_le}
use native.Mathlib.Omega.{arith}
use lib.ListN.{length, take, drop, get_or, replicate, length-replicate, get_or-replicate}
use lib.Seq.{drop-append-le, drop-append-add, drop-drop, length-take-le, get_or-take, ext_get_or}
use Rattle.rules.specs.Base.{flush}
use Rattle.rules.specs.Places.{All, no_more, also, Byte, Half}
use Rattle.rules.specs.Halves.{halves, pack, others, lows, last_byte, Constant, made, packed, value, unpack_bytes}
use Rattle.rules.proofs.Halves.SizeLaws.{all_converted, halves_small, length_flush, length_packed, length_halves}
use Rattle.rules.proofs.Halves.PlaceLaws.{packed_last_high, packed_last_low, packed_digit, packed_fill}
use Rattle.rules.proofs.Halves.BytePlaces.{halves_high, halves_low, half_before, half_none, unpack_byte}

-- one order or the other
either : {X : Type 0} (a b : ℕ) → (a ≤ b → X) → (b < a → X) → X
either a b f g = elim (dec_le a b) [ yes h ↦ f h | no h ↦ g (omega arith) ]

-- ---- the end of a larger field

module _ {A : Type 0} where
  drop_replicate : (i n : ℕ) (d : A) → drop i (replicate (i + n) d) ≡ replicate n d
  drop_replicate zero n d = ap (λ (k : ℕ). replicate k d) (let z : 0 + n ≡ n = omega arith in z)
  drop_replicate (suc i) n d = ap (λ (k : ℕ). drop (suc i) (replicate k d)) (let z : suc i + n ≡ suc (i + n) = omega arith in z) ∙ drop_replicate i n d

  flush_end : (i n : ℕ) (d : A) (xs : List A) → drop i (flush (i + n) d xs) ≡ flush n d xs
  unfolding flush
  flush_end i n d xs = either (length xs) n fills spares
    where
      fills : length xs ≤ n → drop i (flush (i + n) d xs) ≡ flush n d xs
      fills h =
          let room : i + n - length xs ≡ i + (n - length xs) = omega arith in
          let none : length xs - (i + n) ≡ length xs - n = omega arith in
          rw (room, none)
          (drop-append-le i (replicate (i + (n - length xs)) d) _ (omega (arith, length-replicate (i + (n - length xs)) d))
          ∙ ap (λ (ys : List A). ys ++ drop (length xs - n) xs) (drop_replicate i (n - length xs) d))

      spares : n < length xs → drop i (flush (i + n) d xs) ≡ flush n d xs
      spares h =
          let full : n - length xs ≡ 0 = omega arith in
          let past : i ≡ length (replicate (i + n - length xs) d) + (i - (i + n - length xs)) = omega (arith, length-replicate (i + n - length xs) d) in
          let rest : length xs - (i + n) + (i - (i + n - length xs)) ≡ length xs - n = omega arith in
          ap (λ (j : ℕ). drop j (flush (i + n) d xs)) past
          ∙ drop-append-add (replicate (i + n - length xs) d) (drop (length xs - (i + n)) xs) (i - (i + n - length xs))
          ∙ drop-drop (i - (i + n - length xs)) (length xs - (i + n)) xs
          ∙ rw (rest, full)

  -- a packed field of m bytes is what a larger one of w bytes ends with
  pub packed_end : (k : Constant → A) (i w m : ℕ) (xs : List A) → 1 ≤ m → i + 2 * m ≡ 2 * w → drop i (packed k w xs) ≡ packed k m xs
  unfolding packed
  packed_end k i w m xs h e =
      let all : 2 * w - 2 ≡ i + (2 * m - 2) = omega arith in
      drop-append-le i (flush (2 * w - 2) (k (made 0)) (lows (others xs))) _ (omega (arith, length_flush (2 * w - 2) (k (made 0)) (lows (others xs))))
      ∙ ap (λ (ys : List A). ys ++ reverse (last_byte xs))
      (ap (λ (g : ℕ). drop i (flush g (k (made 0)) (lows (others xs)))) all ∙ flush_end i (2 * m - 2) (k (made 0)) (lows (others xs)))

-- ---- a field with room for every digit of s, and z places more

module _ (s : List ℕ) (z m : ℕ) (some : 1 ≤ length s) (room : z + length s + 1 ≡ 2 * m) where
  pub packed_zeros : take z (packed value m (halves s)) ≡ replicate z 0
  packed_zeros =
      ext_get_or 0 (take z (packed value m (halves s))) (replicate z 0) (long ∙ sym (length-replicate z 0))
      (λ i h.
      let l : i < z = omega (arith, long) in
      get_or-take z (packed value m (halves s)) i 0 l
      ∙ packed_fill value (halves s) 0 (length s) m (length_halves s) some (omega arith) i (2 * m - 3 - i) (omega arith) (omega arith)
      ∙ sym (get_or-replicate z i 0 0 l))
    where
      long : length (take z (packed value m (halves s))) ≡ z
      long = length-take-le z (packed value m (halves s)) (omega (arith, length_packed value m (halves s) (omega arith) (omega (arith, length_halves s))))

  pub packed_low : (i : ℕ) → i < length s → get_or (packed value m (halves s)) (z + i) 0 ≡ get_or s i 0 % 16
  packed_low i h =
      either (length s) (i + 1)
      (λ l. packed_last_high value (halves s) 0 (length s) m (length_halves s) some (omega arith) (z + i) (2 * i + 1) (omega arith) (omega arith))
      (λ l. packed_digit value (halves s) 0 (length s) m (length_halves s) some (omega arith) (z + i) (2 * i + 1) (length s - 2 - i) (omega arith) (omega arith))
      ∙ halves_low s i (2 * i + 1) refl

  pub packed_high : get_or (packed value m (halves s)) (z + length s) 0 ≡ get_or s (length s - 1) 0 / 16
  packed_high =
      packed_last_low value (halves s) 0 (length s) m (length_halves s) some (omega arith) (z + length s) (2 * (length s - 1)) (omega arith) (omega arith)
      ∙ halves_high s (length s - 1) (2 * (length s - 1)) refl

-- ---- the bytes of an unpacked field, by the halves of the input

module _ (zone m : ℕ) (s : List ℕ) (some : 1 ≤ length s) (i q : ℕ) (place : i + q + 1 ≡ m) (front : 1 ≤ q) where
  -- the byte q before the last has half g, which is q before the last byte
  pub unpack_half : (g : ℕ) → g + q + 2 ≡ 2 * length s → get_or (unpack_bytes zone m s) i 0 ≡ 16 * zone + get_or (halves s) g 0
  unfolding half_before
  unpack_half g e =
      let at : 2 * length s - 2 - q ≡ g = omega arith in
      unpack_byte zone m s some (omega arith) i q place front ∙ rw (lt-ltb q (2 * length s - 1) (omega arith), at)

  -- or a 0, where the input has no such half
  pub unpack_none : 2 * length s ≤ q + 1 → get_or (unpack_bytes zone m s) i 0 ≡ 16 * zone
  unpack_none e = unpack_byte zone m s some (omega arith) i q place front ∙ rw (half_none s q e) (omega arith)

-- ---- half bytes

pub all_packed : (m : ℕ) (s : List ℕ) → All Byte s → All Half (packed value m (halves s))
all_packed m s a = all_converted {P = Half} value (λ c h. h) 0 (omega arith) (pack 0 m) (halves_small a)

-- a list of numbers that are bytes at every place
pub all_bytes : (s : List ℕ) → ((i : ℕ) → Byte (get_or s i 0)) → All Byte s
all_bytes [] f = no_more
all_bytes (x ∷ s) f = also (f 0) (all_bytes s (λ i. f (suc i)))
