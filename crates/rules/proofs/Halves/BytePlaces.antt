-- What stands at each place of the bytes of a packed and of an unpacked field: each byte from the two halves that it is made of, by the places
-- of the halves.
use mathlib.Core.Path.{◌≡◌, refl, ap, ap₂, sym, ◌∙◌}
use mathlib.Core.Bool.{Bool, true, false, cond}
use mathlib.Core.List.{List, [], ◌∷◌}
use Prim.Native.Nat.{ℕ, zero, suc, ◌+◌, ◌-◌, ◌*◌, ◌/◌, ◌%◌, ◌≤◌, ◌<◌}
use native.Mathlib.Nat.{not-suc-le-zero}
use native.Mathlib.Omega.{arith}
use lib.Dec.{ltb}
use lib.ListN.{length, take, drop, get_or}
use lib.Seq.{take-nil, drop-nil, get_or-take}
use borrow.Author.Tests.{ltb-true, ltb-false, lt-ltb, le-ltb}
use Rattle.rules.specs.Base.{pairs}
use Rattle.rules.specs.Halves.{halves, packed, unpacked, value, pack_bytes, unpack_bytes}
use Rattle.rules.proofs.Halves.SizeLaws.{length_packed, length_unpacked, length_halves, length_pairs}
use Rattle.rules.proofs.Halves.PlaceLaws.{packed_digit, packed_fill, unpacked_last_high, unpacked_last_low, unpacked_zone, unpacked_digit, unpacked_fill}

-- ---- bytes and their halves

pub halves_high : (s : List ℕ) (i g : ℕ) → g ≡ 2 * i → get_or (halves s) g 0 ≡ get_or s i 0 / 16
halves_high [] i g p = refl
halves_high (b ∷ s) zero g p = ap (λ (j : ℕ). get_or (halves (b ∷ s)) j 0) (let z : g ≡ 0 = omega arith in z)
halves_high (b ∷ s) (suc i) g p =
    ap (λ (j : ℕ). get_or (halves (b ∷ s)) j 0) (let z : g ≡ suc (suc (2 * i)) = omega arith in z) ∙ halves_high s i (2 * i) refl

pub halves_low : (s : List ℕ) (i g : ℕ) → g ≡ 2 * i + 1 → get_or (halves s) g 0 ≡ get_or s i 0 % 16
halves_low [] i g p = refl
halves_low (b ∷ s) zero g p = ap (λ (j : ℕ). get_or (halves (b ∷ s)) j 0) (let z : g ≡ 1 = omega arith in z)
halves_low (b ∷ s) (suc i) g p =
    ap (λ (j : ℕ). get_or (halves (b ∷ s)) j 0) (let z : g ≡ suc (suc (2 * i + 1)) = omega arith in z) ∙ halves_low s i (2 * i + 1) refl

pub pairs_at : (hs : List ℕ) (i : ℕ) → 2 * i + 1 < length hs → get_or (pairs hs) i 0 ≡ 16 * get_or hs (2 * i) 0 + get_or hs (2 * i + 1) 0
pairs_at [] i h = absurd (not-suc-le-zero h)
pairs_at (x ∷ []) i h = absurd (omega arith)
pairs_at (x ∷ (y ∷ hs)) zero h = refl
pairs_at (x ∷ (y ∷ hs)) (suc i) h =
    pairs_at hs i (omega arith)
    ∙ ap₂ (λ (a b : ℕ). 16 * get_or (x ∷ y ∷ hs) a 0 + get_or (x ∷ y ∷ hs) b 0)
    (let z : suc (suc (2 * i)) ≡ 2 * suc i = omega arith in z)
    (let z : suc (suc (2 * i + 1)) ≡ 2 * suc i + 1 = omega arith in z)

pub halves_take : (i : ℕ) (s : List ℕ) → halves (take i s) ≡ take (2 * i) (halves s)
halves_take zero s = refl
halves_take (suc i) [] = sym (take-nil (2 * suc i))
halves_take (suc i) (b ∷ s) =
    ap (λ (r : List ℕ). (b / 16) ∷ (b % 16) ∷ r) (halves_take i s)
    ∙ ap (λ (j : ℕ). take j (halves (b ∷ s))) (let z : suc (suc (2 * i)) ≡ 2 * suc i = omega arith in z)

-- the halves of the first bytes are the first halves
pub halves_first : (n : ℕ) (s : List ℕ) (h : ℕ) → h < 2 * n → get_or (halves (take n s)) h 0 ≡ get_or (halves s) h 0
halves_first n s h l = ap (λ (x : List ℕ). get_or x h 0) (halves_take n s) ∙ get_or-take (2 * n) (halves s) h 0 l

pub halves_drop : (i : ℕ) (s : List ℕ) → halves (drop i s) ≡ drop (2 * i) (halves s)
halves_drop zero s = refl
halves_drop (suc i) [] = sym (drop-nil (2 * suc i))
halves_drop (suc i) (b ∷ s) = halves_drop i s ∙ ap (λ (j : ℕ). drop j (halves (b ∷ s))) (let z : suc (suc (2 * i)) ≡ 2 * suc i = omega arith in z)

-- the low half of the byte q before the last; 0 where there is none
unfoldable pub low_before : ℕ → List ℕ → ℕ
low_before q s = cond (ltb q (length s)) (get_or s (length s - 1 - q) 0 % 16) 0

pub low_there : (s : List ℕ) (q j : ℕ) → j + q + 1 ≡ length s → low_before q s ≡ get_or s j 0 % 16
unfolding low_before
low_there s q j p = rw (lt-ltb q (length s) (omega arith)) (ap (λ (i : ℕ). get_or s i 0 % 16) (let z : length s - 1 - q ≡ j = omega arith in z))

pub low_none : (s : List ℕ) (q : ℕ) → length s ≤ q → low_before q s ≡ 0
unfolding low_before
low_none s q p = rw (le-ltb q (length s) p)

-- the half q before the last byte, q from 1; 0 where there is none
unfoldable pub half_before : ℕ → List ℕ → ℕ
half_before q s = cond (ltb q (2 * length s - 1)) (get_or (halves s) (2 * length s - 2 - q) 0) 0

pub half_none : (s : List ℕ) (q : ℕ) → 2 * length s ≤ q + 1 → half_before q s ≡ 0
unfolding half_before
half_none s q p = rw (le-ltb q (2 * length s - 1) (omega arith))

-- ---- the bytes of a field

module _ (m : ℕ) (s : List ℕ) (hs : 1 ≤ length s) (hm : 1 ≤ m) where
  length_digits_packed : length (packed value m (halves s)) ≡ 2 * m
  length_digits_packed = length_packed value m (halves s) hm (omega (arith, length_halves s))

  pub length_pack_bytes : length (pack_bytes m s) ≡ m
  unfolding pack_bytes
  length_pack_bytes = length_pairs (packed value m (halves s)) ∙ omega (arith, length_digits_packed)

  packed_low : (g q : ℕ) → g + q + 2 ≡ 2 * m → 1 ≤ q → get_or (packed value m (halves s)) g 0 ≡ low_before q s
  packed_low g q p h = go (ltb q (length s)) refl
    where
      go : (t : Bool) → ltb q (length s) ≡ t → get_or (packed value m (halves s)) g 0 ≡ low_before q s
      go true t =
          let l : q < length s = ltb-true q (length s) t in
          packed_digit value (halves s) 0 (length s) m (length_halves s) hs hm g (2 * (length s - 1 - q) + 1) (q - 1) (omega arith) (omega arith)
          ∙ halves_low s (length s - 1 - q) (2 * (length s - 1 - q) + 1) refl
          ∙ sym (low_there s q (length s - 1 - q) (omega arith))
      go false t =
          let l : length s ≤ q = ltb-false q (length s) t in
          packed_fill value (halves s) 0 (length s) m (length_halves s) hs hm g (q - 1) (omega arith) (omega arith) ∙ sym (low_none s q l)

module _ (zone m : ℕ) (s : List ℕ) (hs : 1 ≤ length s) (hm : 1 ≤ m) where
  length_digits_unpacked : length (unpacked zone value m (halves s)) ≡ 2 * m
  length_digits_unpacked = length_unpacked zone value m (halves s) hm (omega (arith, length_halves s))

  two : 2 ≤ 2 * length s
  two = omega arith

  pub length_unpack_bytes : length (unpack_bytes zone m s) ≡ m
  unfolding unpack_bytes
  length_unpack_bytes = length_pairs (unpacked zone value m (halves s)) ∙ omega (arith, length_digits_unpacked)

  pub unpack_last : (i j : ℕ) → i + 1 ≡ m → j + 1 ≡ length s → get_or (unpack_bytes zone m s) i 0 ≡ 16 * (get_or s j 0 % 16) + get_or s j 0 / 16
  unfolding unpack_bytes
  unpack_last i j p q =
      pairs_at (unpacked zone value m (halves s)) i (omega (arith, length_digits_unpacked))
      ∙ ap₂ (λ (a b : ℕ). 16 * a + b)
      (unpacked_last_high zone value (halves s) 0 _ m (length_halves s) two hm (2 * i) (2 * j + 1) (omega arith) (omega arith) ∙ halves_low s j (2 * j + 1) refl)
      (unpacked_last_low zone value (halves s) 0 _ m (length_halves s) two hm (2 * i + 1) (2 * j) (omega arith) (omega arith) ∙ halves_high s j (2 * j) refl)

  unpacked_half : (g q : ℕ) → g + 2 * q + 1 ≡ 2 * m → 1 ≤ q → get_or (unpacked zone value m (halves s)) g 0 ≡ half_before q s
  unfolding half_before
  unpacked_half g q p h = go (ltb q (2 * length s - 1)) refl
    where
      go : (t : Bool) → ltb q (2 * length s - 1) ≡ t → get_or (unpacked zone value m (halves s)) g 0 ≡ cond t (get_or (halves s) (2 * length s - 2 - q) 0) 0
      go true t =
          let l : q < 2 * length s - 1 = ltb-true q (2 * length s - 1) t in
          unpacked_digit zone value (halves s) 0 _ m (length_halves s) two hm g (2 * length s - 2 - q) (q - 1) (omega arith) (omega arith)
      go false t =
          let l : 2 * length s - 1 ≤ q = ltb-false q (2 * length s - 1) t in
          unpacked_fill zone value (halves s) 0 _ m (length_halves s) two hm g (q - 1) (omega arith) (omega arith)

  -- the byte q before the last has the zone and the half q before the last byte
  pub unpack_byte : (i q : ℕ) → i + q + 1 ≡ m → 1 ≤ q → get_or (unpack_bytes zone m s) i 0 ≡ 16 * zone + half_before q s
  unfolding unpack_bytes
  unpack_byte i q p h =
      pairs_at (unpacked zone value m (halves s)) i (omega (arith, length_digits_unpacked))
      ∙ ap₂ (λ (a b : ℕ). 16 * a + b)
      (unpacked_zone zone value (halves s) 0 _ m (length_halves s) two hm (2 * i) i refl (omega arith))
      (unpacked_half (2 * i + 1) q (omega arith) h)
