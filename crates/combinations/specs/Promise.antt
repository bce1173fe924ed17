-- What is promised of the combinations and of the fields' places: refusals 8 and 9.
use Rattle.std.specs.Prelude.{Bool, cond, not, ◌&&◌, ◌||◌, List, [], ◌∷◌, ℕ, suc, ◌+◌, ◌*◌, ◌≤◌, eqb, length, Option, Some, None, Result, Ok, Err}
use Rattle.rules.specs.Answer.{Answer, fine, refused, ◌>>◌, unless, each}
use Rattle.rules.specs.Halves.{Field as RuleField}
use Rattle.rules.specs.Plan.{selects, is_fv, record_length, inside}
use Rattle.terms.specs.Meaning.{mode_of, format_of, size_of, OneSize}
use Rattle.terms.specs.declared.Field.{Field}
use Rattle.terms.specs.declared.Asked.{Asked}
use Rattle.rows.specs.Flat.{field_at}
use Rattle.combinations.specs.Lines.{FormatFair, all_lines, key_line, lower_of}
use Rattle.combinations.specs.declared.Unsound.{Unsound}
use Rattle.combinations.specs.declared.Unsound.TheVariants.{Broken, Outside}

-- what each case answers in the rules
abbrev pub answer_of : Result Unit Unsound → Answer Unit
answer_of (Ok done) = fine tt
answer_of (Err (Broken place)) = refused 8 place
answer_of (Err (Outside field)) = refused 9 field

-- the number of the first field, the first of which has number i, that is outside its records
abbrev pub first_outside : ℕ → ℕ → ℕ → List RuleField → Option ℕ
first_outside a b i [] = None
first_outside a b i (f ∷ fs) = let later = first_outside a b (suc i) fs in cond (inside a b f) later (Some i)

-- the lines whose place is 1
unfoldable pub right_lines : Asked → Bool
right_lines x =
    key_line (mode_of x.mode) (format_of x.format) x.key
    && all_lines (mode_of x.mode) (format_of x.format) (size_of x.input) (size_of x.output) x.first x.fs

-- the card of what is given where it is not allowed; of the cards 0 is none
abbrev pub fault : Bool → ℕ → Option ℕ
fault allowed card = cond (allowed || eqb card 0) None (Some card)

-- the lower card of CV outside FV and of the first field taken from the key where there are no keys
unfoldable pub card_fault : Asked → Option ℕ
card_fault x = lower_of (fault (is_fv (format_of x.format)) x.cv) (fault (not (eqb x.key 0)) x.keyed)

-- refused where there is a place
abbrev pub unless_at : ℕ → Option ℕ → Answer Unit
unless_at number None = fine tt
unless_at number (Some place) = refused number place

-- what the rules answer: the lines whose place is 1, an FS card in TC or TR, the first card at fault, and then the first field outside its records
unfoldable pub combined_of : Asked → List RuleField → Answer Unit
combined_of x fs = do
  unless (right_lines x) 8 1
  unless (selects (mode_of x.mode) || eqb x.fs 0) 8 2
  unless_at 8 (card_fault x)
  each 9 (inside (record_length (size_of x.input)) (record_length (size_of x.output))) 1 fs

-- a field whose numbers are within their limits, counting through key and data
pub record FieldFair (f : Field) : Type 0 where
  pub r_low : 1 ≤ f.r
  pub r_high : f.r ≤ 8192
  pub input_low : 1 ≤ f.input
  pub input_high : f.input ≤ 4096
  pub output_low : 1 ≤ f.output
  pub output_high : f.output ≤ 4096
  pub t_low : 1 ≤ f.t
  pub t_high : f.t ≤ 4096
  pub one_size : OneSize f.kind f.input f.output

-- each field of a row
abbrev pub FieldsFair : List ℕ → Type 0
FieldsFair row = (i : ℕ) → 5 * i + 5 ≤ length row → FieldFair (field_at row i)

-- what a deck asks for once its numbers are within their limits
pub record AskedFair (x : Asked) (row : List ℕ) : Type 0 where
  pub sizes : FormatFair (size_of x.input) (size_of x.output)
  pub fields : FieldsFair row
