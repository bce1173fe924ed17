-- What the parameters of the U card have said so far, and what a parameter more makes of it.
use Rattle.std.specs.Prelude.{◌≡◌, Bool, true, false, cond, List, [], map, ℕ, eqb, length, get_or, set, replicate, Result, Ok, Err}
use Rattle.std.proofs.Math.Option.{Option, none, some}
use Rattle.rules.specs.Reader.{Read, read, stopped}
use Rattle.rules.specs.Grammar.{Parameter, ff, fv}
use Rattle.rules.specs.Words.{Worded, values_of, again_column, first_column, outside_among}
use Rattle.rules.specs.Asked.{letter, among, distinct, same_letter, parameter_numbers, GivenParameters, given}
use Rattle.terms.specs.Meaning.{mode_of, format_of, size_of, input_of}
use Rattle.terms.specs.declared.Mode.TheVariants.{TC}
use Rattle.terms.specs.declared.Format.TheVariants.{FF}
use Rattle.terms.specs.declared.Size.TheVariants.{One}
use Rattle.terms.specs.declared.Input.TheVariants.{Plain}
use Rattle.readers.specs.declared.UParameter.{UParameter}
use Rattle.readers.specs.declared.UParameter.TheVariants.{ModeIs, FormatIs, InputIs, OutputIs, RewindIn, RewindOut, FirstIs}
use Rattle.readers.specs.Meaning.{parameter_of}
use Rattle.limits.specs.Limits.{parameter_outside}
use Rattle.cards.specs.declared.Parameters.{Parameters}
use Rattle.cards.specs.declared.OutsideColumns.{OutsideColumns}
use Rattle.cards.specs.declared.URead.{URead}
use Rattle.cards.specs.declared.Unread.{Unread}
use Rattle.cards.specs.Stops.{StopsAt}

unfoldable pub no_parameter : Parameters
no_parameter = record { mode = TC; format = FF; input = Plain (One 0); output = One 0; first = 1; seen = replicate 7 false; twice = 0 }

-- the part that a parameter gives; the letters of I and O say nothing
unfoldable pub with_part : Parameters → UParameter → Parameters
with_part st (ModeIs m) = record st { mode = m }
with_part st (FormatIs f) = record st { format = f }
with_part st (InputIs s) = record st { input = s }
with_part st (OutputIs s) = record st { output = s }
with_part st RewindIn = st
with_part st RewindOut = st
with_part st (FirstIs n) = record st { first = n }

-- its letter has stood
unfoldable pub with_letter : Parameters → ℕ → Parameters
with_letter st k = record st { seen = set st.seen k true }

-- a letter has stood before, and its parameter begins at this column
unfoldable pub with_second : Parameters → ℕ → Parameters
with_second st column = record st { twice = first_column st.twice column }

-- the first of a letter counts
unfoldable pub with_parameter : Parameters → UParameter → ℕ → Parameters
with_parameter st p column =
    let k = letter (parameter_of p) in
    cond (get_or st.seen k false) (with_second st column) (with_letter (with_part st p) k)

-- ---- numbers outside their limits

abbrev pub none_outside : OutsideColumns
none_outside = record { plain = 0; variable = 0 }

abbrev pub with_numbers : OutsideColumns → UParameter → ℕ → ℕ → OutsideColumns
with_numbers o p second column =
    record { plain = first_column o.plain (parameter_outside ff p second column); variable = first_column o.variable (parameter_outside fv p second column) }

-- ---- what is noted means

abbrev pub has_seen : Parameters → ℕ → Bool
has_seen st k = get_or st.seen k false

-- a part that was given
abbrev pub option : {A : Type 0} → Bool → A → Option A
option seen a = cond seen (some a) none

unfoldable pub given_of : Parameters → GivenParameters
given_of st =
    record {
      mode = option (has_seen st 0) (mode_of st.mode);
      format = option (has_seen st 1) (format_of st.format);
      input = option (has_seen st 2) (input_of st.input);
      output = option (has_seen st 3) (size_of st.output);
      first = st.first;
    }

-- what the rules say of these parameters, the first of which begins at this column
pub record Notes (column : ℕ) (st : Parameters) (ws : List (Worded Parameter)) : Type 0 where
  pub room : length st.seen ≡ 7
  pub seen : (k : ℕ) → has_seen st k ≡ among k (map letter (values_of ws))
  pub once : eqb st.twice 0 ≡ distinct (map letter (values_of ws))
  pub twice : st.twice ≡ again_column same_letter [] column ws
  pub given : given_of st ≡ given (values_of ws)

pub record NotesOutside (column : ℕ) (o : OutsideColumns) (ws : List (Worded Parameter)) : Type 0 where
  pub plain : o.plain ≡ outside_among (parameter_numbers ff) column ws
  pub variable : o.variable ≡ outside_among (parameter_numbers fv) column ws

-- what was read of a U card whose operand begins at this column: its parameters, or where it stopped
abbrev pub UListed : ℕ → List ℕ → Read (List (Worded Parameter)) → Result URead Unread → Type 0
UListed column s (read ws left) (Ok u) = Notes column u.state ws × NotesOutside column u.outside ws
UListed column s (read ws left) (Err unread) = ⊥
UListed column s (stopped left) (Ok u) = ⊥
UListed column s (stopped left) (Err unread) = (unread.card ≡ 1) × StopsAt column s left unread.column
