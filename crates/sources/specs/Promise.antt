-- What `sources` promises: the number of the half that each half of an output record is taken from, as the rules say.
use Rattle.std.specs.Prelude.{◌≡◌, List, ℕ, suc, ◌+◌, ◌*◌, ◌≤◌, ◌<◌, length, get_or}
use Rattle.rules.specs.Halves.{reads_from, reads_many, writes_from, blank, field_halves, Source, from, constant, froms}
use Rattle.rules.specs.Lent.{zone_f}
use Rattle.terms.specs.Meaning.{field_of, OneSize}
use Rattle.terms.specs.declared.Field.{Field}
use Rattle.rows.specs.Flat.{field_at}

-- ---- what it asks

-- a field that lies inside records of n and m bytes
pub record FieldInside (n m : ℕ) (f : Field) : Type 0 where
  pub r_low : 1 ≤ f.r
  pub r_high : f.r + f.input ≤ n + 1
  pub t_low : 1 ≤ f.t
  pub t_high : f.t + f.output ≤ m + 1
  pub input_low : 1 ≤ f.input
  pub output_low : 1 ≤ f.output
  pub one_size : OneSize f.kind f.input f.output

-- the fields of a row, at most 64, lie inside records of n and m bytes
pub record RowInside (row : List ℕ) (n m : ℕ) : Type 0 where
  pub few : length row ≤ 320
  pub n_high : n ≤ 4096
  pub m_high : m ≤ 4096
  pub each : (k : ℕ) → 5 * k + 5 ≤ length row → FieldInside n m (field_at row k)

-- an array of marks or sources at the beginning
abbrev pub AllZero : List ℕ → Type 0
AllZero xs = (length xs ≡ 8192) × ((i : ℕ) → get_or xs i 0 ≡ 0)

-- ---- what it answers

-- the number of a source: the input half, counted from 1, or 0 for all that is taken from none
abbrev pub numbered : Source → ℕ
numbered (from i) = suc i
numbered (constant c) = 0

-- what stands past the end of a list of sources
abbrev pub nowhere : Source
nowhere = constant (blank 0)

-- the number of the source of half j of what a field writes, for an input of as many halves as the field reads, or more
unfoldable pub SourceIs : Field → ℕ → ℕ → Type 0
SourceIs f j s =
    (many : ℕ) → reads_from (field_of f) + reads_many (field_of f) ≤ many
    → s ≡ numbered (get_or (field_halves zone_f constant (field_of f) (froms 0 many)) j nowhere)

-- half g of the output has a source of number b after a field, where it had one of number a
pub record Put (f : Field) (g a b : ℕ) : Type 0 where
  pub before : g < writes_from (field_of f) → b ≡ a
  pub inside : (j : ℕ) → g ≡ writes_from (field_of f) + j → j < 2 * f.output → SourceIs f j b
  pub after : writes_from (field_of f) + 2 * f.output ≤ g → b ≡ a

-- the numbers of all halves after a field, where they were s
pub record SourcesAfter (f : Field) (s r : List ℕ) : Type 0 where
  pub long : length r ≡ 8192
  pub each : (g : ℕ) → g < 8192 → Put f g (get_or s g 0) (get_or r g 0)

-- the numbers stand for these sources, place by place
unfoldable pub Stand : List ℕ → List Source → Type 0
Stand s ss = (g : ℕ) → g < length ss → get_or s g 0 ≡ numbered (get_or ss g nowhere)
