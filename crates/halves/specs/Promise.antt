-- What pack and unpack leave in the lent output, for every input: the field of document 01, "Half bytes", and where a size is not 1 to 16,
-- which document 01's limits never let through, the output as it was.
use Rattle.std.specs.Prelude.{Bool, cond, ◌&&◌, List, ℕ, length}
use Rattle.rules.specs.Base.{within}
use Rattle.rules.specs.Halves.{pack_bytes, unpack_bytes}
use Rattle.rules.specs.Lent.{zone_f}

-- the limits of pack and unpack sizes: both are 1 to 16
abbrev pub both_allowed : ℕ → ℕ → Bool
both_allowed n m = within 1 16 n && within 1 16 m

unfoldable pub packed_into : List ℕ → List ℕ → List ℕ
packed_into s d = cond (both_allowed (length s) (length d)) (pack_bytes (length d) s) d

unfoldable pub unpacked_into : List ℕ → List ℕ → List ℕ
unpacked_into s d = cond (both_allowed (length s) (length d)) (unpack_bytes zone_f (length d) s) d
