-- The promises of pack and unpack, taken apart: for sizes of 1 to 16 the output is the field of document 01 and else it stays, so each allows
-- one outcome only. By the test of the sizes.
use mathlib.Core.Path.{◌≡◌, sym, ◌∙◌}
use mathlib.Core.Bool.{true, false}
use mathlib.Core.List.{List}
use Prim.Native.Nat.{ℕ, ◌≤◌, ◌<◌}
use native.Mathlib.Omega.{arith}
use lib.ListN.{length, get_or}
use lib.Seq.{ext_get_or}
use Rattle.rules.specs.Base.{within}
use Rattle.rules.specs.Halves.{pack_bytes, unpack_bytes}
use Rattle.rules.specs.Lent.{zone_f}
use Rattle.rules.proofs.Base.Tests.{and_left, and_right, and_both, within_low, within_high, within_of}
use Rattle.rules.proofs.Halves.BytePlaces.{length_pack_bytes, length_unpack_bytes}
use Rattle.halves.specs.Promise.{both_allowed, packed_into, unpacked_into}

-- ---- the sizes

pub sizes_of : (n m : ℕ) → both_allowed n m ≡ true → ((1 ≤ n) × (n ≤ 16)) × ((1 ≤ m) × (m ≤ 16))
sizes_of n m e =
    let input = and_left (within 1 16 n) (within 1 16 m) e in
    let output = and_right (within 1 16 n) (within 1 16 m) e in
    ((within_low 1 16 n input, within_high 1 16 n input), (within_low 1 16 m output, within_high 1 16 m output))

pub sizes_allowed : (n m : ℕ) → 1 ≤ n → n ≤ 16 → 1 ≤ m → m ≤ 16 → both_allowed n m ≡ true
sizes_allowed n m a b c d = and_both (within_of 1 16 n a b) (within_of 1 16 m c d)

-- ---- the output

module _ (s d : List ℕ) where
  pub packed_allowed : both_allowed (length s) (length d) ≡ true → packed_into s d ≡ pack_bytes (length d) s
  unfolding packed_into
  packed_allowed e = rw e

  pub packed_stays : both_allowed (length s) (length d) ≡ false → packed_into s d ≡ d
  unfolding packed_into
  packed_stays e = rw e

  pub unpacked_allowed : both_allowed (length s) (length d) ≡ true → unpacked_into s d ≡ unpack_bytes zone_f (length d) s
  unfolding unpacked_into
  unpacked_allowed e = rw e

  pub unpacked_stays : both_allowed (length s) (length d) ≡ false → unpacked_into s d ≡ d
  unfolding unpacked_into
  unpacked_stays e = rw e

  -- an output that has at each place what stands there in the field
  module _ (new : List ℕ) (both : both_allowed (length s) (length d) ≡ true) (same : length new ≡ length d) where
    some : (1 ≤ length s) × (1 ≤ length d)
    some = let p = sizes_of (length s) (length d) both in (p.0.0, p.1.0)

    pub packed_each : ((i : ℕ) → i < length d → get_or new i 0 ≡ get_or (pack_bytes (length d) s) i 0) → new ≡ packed_into s d
    packed_each each =
        ext_get_or 0 new (pack_bytes (length d) s) (same ∙ sym (length_pack_bytes (length d) s some.0 some.1)) (λ i l. each i (omega arith))
        ∙ sym (packed_allowed both)

    pub unpacked_each : ((i : ℕ) → i < length d → get_or new i 0 ≡ get_or (unpack_bytes zone_f (length d) s) i 0) → new ≡ unpacked_into s d
    unpacked_each each =
        ext_get_or 0 new (unpack_bytes zone_f (length d) s) (same ∙ sym (length_unpack_bytes zone_f (length d) s some.0 some.1)) (λ i l. each i (omega arith))
        ∙ sym (unpacked_allowed both)

  module _ (a : 1 ≤ length s) (b : length s ≤ 16) (c : 1 ≤ length d) (e : length d ≤ 16) where
    pub packed_whole : packed_into s d ≡ pack_bytes (length d) s
    packed_whole = packed_allowed (sizes_allowed (length s) (length d) a b c e)

    pub unpacked_whole : unpacked_into s d ≡ unpack_bytes zone_f (length d) s
    unpacked_whole = unpacked_allowed (sizes_allowed (length s) (length d) a b c e)

  -- ---- one outcome only

  pub pack_only_one : {x y : List ℕ} → x ≡ packed_into s d → y ≡ packed_into s d → x ≡ y
  pack_only_one e f = e ∙ sym f

  pub unpack_only_one : {x y : List ℕ} → x ≡ unpacked_into s d → y ≡ unpacked_into s d → x ≡ y
  unpack_only_one e f = e ∙ sym f
