-- One record field by field, for contracts of code that writes it byte by byte.
use Rattle.std.specs.Prelude.{List, [], ◌∷◌, ℕ, ◌+◌, ◌-◌, ◌≤◌, take, drop}
use Rattle.rules.specs.Halves.{Kind, copy, pack, unpack, input_size, output_size, Field, over, pack_bytes, unpack_bytes}

-- a field that lies inside records of a and b bytes
pub record Fits (a b : ℕ) (f : Field) : Type 0 where
  pub r_low : 1 ≤ f.r
  pub t_low : 1 ≤ f.t
  pub input_low : 1 ≤ input_size f.kind
  pub output_low : 1 ≤ output_size f.kind
  pub input_high : f.r + input_size f.kind ≤ a + 1
  pub output_high : f.t + output_size f.kind ≤ b + 1

-- what a field makes of the bytes that it reads
abbrev pub converted_bytes : ℕ → Kind → List ℕ → List ℕ
converted_bytes zone (copy s) x = x
converted_bytes zone (pack n m) x = pack_bytes m x
converted_bytes zone (unpack n m) x = unpack_bytes zone m x

-- the bytes of a record that a field reads, and what it writes of them
unfoldable pub field_input : Field → List ℕ → List ℕ
field_input f r = take (input_size f.kind) (drop (f.r - 1) r)

unfoldable pub field_bytes : ℕ → Field → List ℕ → List ℕ
field_bytes zone f r = converted_bytes zone f.kind (field_input f r)

-- the fields in order, a later one over an earlier one
abbrev pub written_bytes : ℕ → List Field → List ℕ → List ℕ → List ℕ
written_bytes zone [] r out = out
written_bytes zone (f ∷ fs) r out = written_bytes zone fs r (over (f.t - 1) (field_bytes zone f r) out)
