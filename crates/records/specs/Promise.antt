-- What writing the output of a record leaves, for all fields that the lent numbers may be: there is one list of them.
use Rattle.std.specs.Prelude.{◌≡◌, Bool, cond, List, [], ◌∷◌, ◌++◌, ℕ, ◌+◌, ◌-◌, max, leb, take, drop, replicate}
use Rattle.rules.specs.Halves.{halves, bytes, output_size, Field, over, out_halves, value}
use Rattle.rules.specs.Lent.{zone_f}
use Rattle.rules.specs.RecordParts.{written_bytes}
use Rattle.rows.specs.Flat.{flat_of, FlatFair}

-- the fields in order, a later one over an earlier one
unfoldable pub FieldsWritten : List ℕ → List ℕ → List ℕ → List ℕ → Type 0
FieldsWritten xs r old new = (fs : List Field) → xs ≡ flat_of fs → new ≡ written_bytes zone_f fs r old

-- how many bytes are covered from the first on, where so many were, and a field of a size is written at a place: behind a gap it covers none
unfoldable pub farther_of : ℕ → ℕ → ℕ → ℕ
farther_of to size covered = cond (leb to covered) (max covered (to + size)) covered

-- with the fields in order
abbrev pub reach_of : ℕ → List Field → ℕ
reach_of covered [] = covered
reach_of covered (f ∷ fs) = reach_of (farther_of (f.t - 1) (output_size f.kind) covered) fs

-- whether they reach the end of a record of width bytes
unfoldable pub Covers : List ℕ → ℕ → Bool → Type 0
Covers xs width x = (fs : List Field) → xs ≡ flat_of fs → x ≡ leb width (reach_of 0 fs)

-- what the fields are written over: width bytes of hex 40, unless the fields cover them
unfoldable pub ground_of : ℕ → Bool → List ℕ → List ℕ
ground_of width covered old = cond covered old (replicate width 0x40 ++ drop width old)

-- B's n bytes of hex 40, then the fields; with CV the input's data past A's n follows
unfoldable pub out_bytes : ℕ → ℕ → List Field → Bool → List ℕ → List ℕ
out_bytes n width fs carries r = bytes (out_halves zone_f value width fs (halves (take n r))) ++ cond carries (drop n r) []

-- the output record stands at the front of the lent output, and bytes past it stay
unfoldable pub Puts : List ℕ → ℕ → ℕ → Bool → List ℕ → List ℕ → List ℕ → Type 0
Puts xs n width carries r old new = (fs : List Field) → FlatFair xs fs n width → new ≡ over 0 (out_bytes n width fs carries r) old
