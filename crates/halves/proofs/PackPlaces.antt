-- The bytes of a packed field of any size, each by its distance from the right end: the last byte's halves exchanged, two digits, one digit, or
-- none. It holds since the field ends as one does that has room for every digit.
use mathlib.Core.Path.{◌≡◌, sym, ap, ap₂, ◌∙◌}
use mathlib.Core.List.{List}
use Prim.Native.Nat.{ℕ, ◌+◌, ◌-◌, ◌*◌, ◌/◌, ◌%◌, ◌≤◌, ◌<◌}
use native.Mathlib.Omega.{arith}
use lib.ListN.{length, drop, get_or, get_or-replicate}
use lib.Seq.{get_or-drop, get_or-take}
use Rattle.rules.specs.Halves.{halves, packed, value, pack_bytes}
use Rattle.rules.proofs.Halves.SizeLaws.{length_halves, length_packed}
use Rattle.rules.proofs.Halves.BytePlaces.{pairs_at}
use Rattle.rules.proofs.Halves.HalfBytes.{packed_end, packed_zeros, packed_low, packed_high}

module _ (m : ℕ) (s : List ℕ) (some : 1 ≤ length s) where
  -- the field of as many bytes more as the input has, which has room for every digit, and so many places more
  wide : List ℕ
  wide = packed value (m + length s) (halves s)

  spare : ℕ
  spare = 2 * m + length s - 1

  room : spare + length s + 1 ≡ 2 * (m + length s)
  unfolding spare
  room = omega arith

  digit : (g j : ℕ) → g ≡ spare + j → j < length s → get_or wide g 0 ≡ get_or s j 0 % 16
  unfolding wide
  digit g j e h = ap (λ (k : ℕ). get_or wide k 0) e ∙ packed_low s spare (m + length s) some room j h

  none : (g : ℕ) → g < spare → get_or wide g 0 ≡ 0
  unfolding wide
  none g h =
      sym (get_or-take spare wide g 0 h)
      ∙ ap (λ (hs : List ℕ). get_or hs g 0) (packed_zeros s spare (m + length s) some room)
      ∙ get_or-replicate spare g 0 0 h

  sign : (g j : ℕ) → g ≡ spare + length s → length s - 1 ≡ j → get_or wide g 0 ≡ get_or s j 0 / 16
  unfolding wide
  sign g j e f = ap (λ (k : ℕ). get_or wide k 0) e ∙ packed_high s spare (m + length s) some room ∙ ap (λ (k : ℕ). get_or s k 0 / 16) f

  -- ---- byte i of the field, which is q before its last

  module _ (i q : ℕ) (place : i + q + 1 ≡ m) where
    byte : (a b : ℕ) → get_or wide (2 * length s + 2 * i) 0 ≡ a → get_or wide (2 * length s + 2 * i + 1) 0 ≡ b → get_or (pack_bytes m s) i 0 ≡ 16 * a + b
    unfolding pack_bytes wide
    byte a b high low =
        let ends : packed value m (halves s) ≡ drop (2 * length s) wide = sym (packed_end value (2 * length s) (m + length s) m (halves s) (omega arith) (omega arith)) in
        let next : 2 * length s + (2 * i + 1) ≡ 2 * length s + 2 * i + 1 = omega arith in
        pairs_at (packed value m (halves s)) i (omega (arith, length_packed value m (halves s) (omega arith) (omega (arith, length_halves s))))
        ∙ rw (ends, get_or-drop (2 * length s) wide (2 * i) 0, get_or-drop (2 * length s) wide (2 * i + 1) 0, next) (ap₂ (λ (x y : ℕ). 16 * x + y) high low)

    -- the last byte turned
    pub pack_last : (j : ℕ) → q ≡ 0 → j + 1 ≡ length s → get_or (pack_bytes m s) i 0 ≡ 16 * (get_or s j 0 % 16) + get_or s j 0 / 16
    unfolding spare
    pack_last j e f = byte _ _ (digit _ j (omega arith) (omega arith)) (sign _ j (omega arith) (omega arith))

    -- two digits
    pub pack_two : (j k : ℕ) → 1 ≤ q → j + 1 ≡ k → k + 2 * q ≡ length s → get_or (pack_bytes m s) i 0 ≡ 16 * (get_or s j 0 % 16) + get_or s k 0 % 16
    unfolding spare
    pack_two j k l e f = byte _ _ (digit _ j (omega arith) (omega arith)) (digit _ k (omega arith) (omega arith))

    -- a 0 and the first digit
    pub pack_one : 2 * q ≡ length s → get_or (pack_bytes m s) i 0 ≡ 16 * 0 + get_or s 0 0 % 16
    unfolding spare
    pack_one e = byte _ _ (none _ (omega arith)) (digit _ 0 (omega arith) (omega arith))

    -- two 0 halves
    pub pack_none : length s < 2 * q → get_or (pack_bytes m s) i 0 ≡ 0
    unfolding spare
    pack_none e = byte _ _ (none _ (omega arith)) (none _ (omega arith))
