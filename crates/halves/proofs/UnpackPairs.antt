-- The bytes of an unpacked field of any size that come of one byte of the input, by its distance from the right end: two for each byte before the last. It holds since a half
-- stands as far before the last byte as its byte of the field does.
use mathlib.Core.Path.{◌≡◌, ap, sym, ◌∙◌}
use mathlib.Core.List.{List}
use Prim.Native.Nat.{ℕ, ◌+◌, ◌-◌, ◌*◌, ◌/◌, ◌%◌, ◌≤◌, ◌<◌}
use native.Mathlib.Omega.{arith}
use native.Mathlib.Decide.{ℕ_discrete}
use lib.ListN.{length, get_or, set, length-set}
use lib.Seq.{get_or-set_same, get_or-set_other}
use Rattle.rules.specs.Halves.{unpack_bytes}
use Rattle.rules.specs.Lent.{zone_f}
use Rattle.rules.proofs.Halves.BytePlaces.{halves_high, halves_low, unpack_last}
use Rattle.rules.proofs.Halves.HalfBytes.{unpack_half}

-- byte j, which is q before the last
module _ (m : ℕ) (s : List ℕ) (some : 1 ≤ length s) (j q : ℕ) (place : j + q + 1 ≡ length s) (front : 1 ≤ q) where
  pair_low : (i : ℕ) → i + 2 * q ≡ m → get_or (unpack_bytes zone_f m s) i 0 ≡ 16 * zone_f + get_or s j 0 % 16
  pair_low i e =
      unpack_half zone_f m s some i (2 * q - 1) (omega arith) (omega arith) (2 * j + 1) (omega arith)
      ∙ ap (λ (h : ℕ). 16 * zone_f + h) (halves_low s j (2 * j + 1) (omega arith))

  pair_high : (i : ℕ) → i + 2 * q + 1 ≡ m → get_or (unpack_bytes zone_f m s) i 0 ≡ 16 * zone_f + get_or s j 0 / 16
  pair_high i e =
      unpack_half zone_f m s some i (2 * q) (omega arith) (omega arith) (2 * j) (omega arith)
      ∙ ap (λ (h : ℕ). 16 * zone_f + h) (halves_high s j (2 * j) (omega arith))

-- ---- two bytes a turn, from the right end: last is the place of the last byte of s, and end that of the field

-- from some place on d has the last byte of the field and two bytes for each that is done
pub record Pairs (s d : List ℕ) (end done : ℕ) : Type 0 where
  pub same : length d ≡ end + 1
  pub from_there : (i : ℕ) → end - 2 * done ≤ i → i ≤ end → get_or d i 0 ≡ get_or (unpack_bytes zone_f (end + 1) s) i 0

module _ (s : List ℕ) (last end : ℕ) (many : last + 1 ≡ length s) where
  pub pairs_start : (old : List ℕ) (b : ℕ) → length old ≡ end + 1 → b ≡ 16 * (get_or s last 0 % 16) + get_or s last 0 / 16 → Pairs s (set old end b) end 0
  pairs_start old b wide turned =
      record {
        same = length-set old end b ∙ wide;
        from_there = λ i l h.
            let here : i ≡ end = omega arith in
            rw here (get_or-set_same old end b 0 (omega arith) ∙ turned ∙ sym (unpack_last zone_f (end + 1) s (omega arith) (omega arith) end last (omega arith) many));
      }

  -- of the byte that is next the low half, and the high one before it
  pub pairs_more : (d : List ℕ) (done x y low high : ℕ) → low ≡ 16 * zone_f + get_or s (last - 1 - done) 0 % 16 → high ≡ 16 * zone_f + get_or s (last - 1 - done) 0 / 16
      → done < last → x + 1 + 2 * done ≡ end → y + 1 ≡ x → Pairs s d end done → Pairs s (set (set d x low) y high) end (done + 1)
  pairs_more d done x y low high lows highs l e f p =
      record { same = length-set (set d x low) y high ∙ length-set d x low ∙ p.same; from_there = go }
    where
      low_there : get_or (set (set d x low) y high) x 0 ≡ get_or (unpack_bytes zone_f (end + 1) s) x 0
      low_there =
          get_or-set_other (set d x low) y x high 0 (λ q. omega arith)
          ∙ get_or-set_same d x low 0 (omega (arith, p.same))
          ∙ lows
          ∙ sym (pair_low (end + 1) s (omega arith) (last - 1 - done) (done + 1) (omega arith) (omega arith) x (omega arith))

      high_there : get_or (set (set d x low) y high) y 0 ≡ get_or (unpack_bytes zone_f (end + 1) s) y 0
      high_there =
          get_or-set_same (set d x low) y high 0 (omega (arith, p.same, length-set d x low))
          ∙ highs
          ∙ sym (pair_high (end + 1) s (omega arith) (last - 1 - done) (done + 1) (omega arith) (omega arith) y (omega arith))

      go : (i : ℕ) → end - 2 * (done + 1) ≤ i → i ≤ end → get_or (set (set d x low) y high) i 0 ≡ get_or (unpack_bytes zone_f (end + 1) s) i 0
      go i h k = elim (ℕ_discrete i y) [
        | yes q ↦ rw q high_there
        | no n ↦ elim (ℕ_discrete i x) [
          | yes q ↦ rw q low_there
          | no m ↦ get_or-set_other (set d x low) y i high 0 n ∙ get_or-set_other d x i low 0 m ∙ p.from_there i (omega arith) k
        ]
      ]
