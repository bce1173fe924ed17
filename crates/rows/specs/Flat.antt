-- The fields of a plan as numbers, five to a field: as they are lent to whoever looks at a record.
use Rattle.std.specs.Prelude.{◌≡◌, cond, List, [], ◌∷◌, ℕ, ◌+◌, ◌*◌, ◌≤◌, ◌<◌, eqb, get_or}
use Rattle.rules.specs.Places.{All}
use Rattle.rules.specs.Halves.{input_size, output_size, Field as RuleField}
use Rattle.rules.specs.Lent.{kind_number}
use Rattle.rules.specs.Rows.{KindWithin}
use Rattle.rules.specs.RecordParts.{Fits}
use Rattle.terms.specs.declared.Kind.{Kind}
use Rattle.terms.specs.declared.Kind.TheVariants.{Copy, Pack, Unpack}
use Rattle.terms.specs.declared.Field.{Field}

-- copy, pack or unpack, r, input size, output size (for a copy both are s) and t
abbrev pub flat_of : List RuleField → List ℕ
flat_of [] = []
flat_of (f ∷ fs) = kind_number f.kind ∷ f.r ∷ input_size f.kind ∷ output_size f.kind ∷ f.t ∷ flat_of fs

-- the kind that a number names
unfoldable pub kind_at : ℕ → Kind
kind_at k = cond (eqb k 0) Copy (cond (eqb k 1) Pack Unpack)

-- the field that the numbers from 5i on are, i from 0
unfoldable pub field_at : List ℕ → ℕ → Field
field_at xs i =
    record {
      kind = kind_at (get_or xs (5 * i) 0);
      r = get_or xs (5 * i + 1) 0;
      input = get_or xs (5 * i + 2) 0;
      output = get_or xs (5 * i + 3) 0;
      t = get_or xs (5 * i + 4) 0;
    }

-- the numbers of a field that 16 bits hold
pub record Short (f : RuleField) : Type 0 where
  pub r : f.r < 65536
  pub input : input_size f.kind < 65536
  pub output : output_size f.kind < 65536
  pub t : f.t < 65536

-- xs are the numbers of the fields fs, which lie inside records of a and b bytes and pack and unpack what may be packed and unpacked
pub record FlatFair (xs : List ℕ) (fs : List RuleField) (a b : ℕ) : Type 0 where
  pub flat : xs ≡ flat_of fs
  pub fits : All (Fits a b) fs
  pub sizes : All (λ f. KindWithin f.kind) fs

-- the same for some fields
pub record Fielded (xs : List ℕ) (a b : ℕ) : Type 0 where
  pub fields : List RuleField
  pub fair : FlatFair xs fields a b

-- the fields read inside a record of so many bytes
pub record Readable (xs : List ℕ) (many : ℕ) : Type 0 where
  pub a : ℕ
  pub b : ℕ
  pub fielded : Fielded xs a b
  pub long : a ≤ many
