-- The field that the numbers of a field are read as, the fields that a row of numbers holds, and the row that holds some fields.
use Rattle.std.specs.Prelude.{List, [], ◌∷◌, ◌++◌, ℕ, zero, suc, ◌-◌, ◌*◌, ◌/◌, length, replicate}
use Rattle.rules.specs.Halves.{input_size, output_size, Field as RuleField}
use Rattle.terms.specs.declared.Field.{Field}
use Rattle.terms.specs.Meaning.{kind_for, field_of}
use Rattle.rows.specs.Flat.{flat_of, field_at}

-- the field as it is read: a copy's size stands in both places
unfoldable pub field_for : RuleField → Field
field_for f = record { kind = kind_for f.kind; r = f.r; input = input_size f.kind; output = output_size f.kind; t = f.t }

-- the first fields of a row, so many
abbrev pub first_fields : List ℕ → ℕ → List RuleField
first_fields row zero = []
first_fields row (suc i) = first_fields row i ++ (field_of (field_at row i) ∷ [])

-- all of them, five numbers to a field
unfoldable pub fields_in : List ℕ → List RuleField
fields_in row = first_fields row (length row / 5)

-- the row of 320 numbers that holds some fields, at most 64: zeros stand behind them
unfoldable pub row_of : List RuleField → List ℕ
row_of fs = flat_of fs ++ replicate (320 - 5 * length fs) 0
