-- Where the numbers of a parameter or a field stand on the card, and the column of the first that is outside its limits: what refusal 7 says.
use Rattle.std.specs.Prelude.{List, [], ◌∷◌, map, ℕ, ◌+◌, ◌<◌}
use Rattle.rules.specs.Grammar.{Format, field}
use Rattle.rules.specs.Words.{outside_column}
use Rattle.rules.specs.Asked.{parameter_numbers, item_numbers}
use Rattle.terms.specs.declared.Size.{Size}
use Rattle.terms.specs.declared.Size.TheVariants.{Two, One}
use Rattle.terms.specs.declared.Input.{Input}
use Rattle.terms.specs.declared.Input.TheVariants.{Plain, Keyed}
use Rattle.terms.specs.declared.Kind.{Kind}
use Rattle.terms.specs.declared.Kind.TheVariants.{Copy, Pack, Unpack}
use Rattle.terms.specs.declared.Part.{Part}
use Rattle.terms.specs.declared.Field.{Field}
use Rattle.terms.specs.Meaning.{card_field}
use Rattle.readers.specs.declared.Places.{Places}
use Rattle.readers.specs.declared.UParameter.{UParameter}
use Rattle.readers.specs.Meaning.{parameter_of, parameter_places, field_places}

-- so many bytes on from a column, a column is still a number that can be held
abbrev pub Reaches : ℕ → ℕ → Type 0
Reaches column far = column + far < 10000000000000000000

-- places, on a card on which their first stands in this column
abbrev pub shifted : ℕ → List ℕ → List ℕ
shifted column ps = map (λ k. column + k) ps

-- the places of the numbers of A or B: behind the letter, = and (, and of a keyed A behind K= too
abbrev pub size_places : Size → ℕ → List ℕ
size_places (Two n m) second = 3 ∷ second ∷ []
size_places (One g) second = 3 ∷ []

abbrev pub input_places : Input → ℕ → List ℕ
input_places (Plain z) second = size_places z second
input_places (Keyed k d) second = 5 ∷ second ∷ []

-- the most that a field's sizes may be
abbrev pub most_of : Kind → ℕ
most_of Copy = 4096
most_of Pack = 16
most_of Unpack = 16

-- the column of the first number outside its limits, or 0: of a field, and of a parameter where F is this
abbrev pub field_outside : Part → Field → Places → ℕ → ℕ
field_outside part f places column = outside_column (shifted column (field_places f.kind places)) (item_numbers (field (card_field part f)))

abbrev pub parameter_outside : Format → UParameter → ℕ → ℕ → ℕ
parameter_outside f p second column = outside_column (shifted column (parameter_places p second)) (parameter_numbers f (parameter_of p))
