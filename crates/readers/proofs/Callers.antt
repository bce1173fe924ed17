-- What callers lean on: what was read took a byte or more, every number that was read is at most 99,999, since a number is 1 to 5 digits, and the places
-- that were answered are where its numbers begin.
use mathlib.Core.Path.{◌≡◌}
use mathlib.Core.Bool.{false}
use mathlib.Core.List.{List}
use Prim.Native.Nat.{ℕ, ◌≤◌, ◌<◌}
use native.Mathlib.Omega.{arith}
use lib.ListN.{take, drop}
use Rattle.rules.specs.Reader.{Reader, number}
use Rattle.rules.specs.Halves.{Kind as RuleKind, input_size, output_size}
use Rattle.rules.specs.Grammar.{Size as RuleSize, two, one, Input as RuleInput, plain, keyed, Parameter as RuleParameter, mode_is, format_is, input_is, output_is, rewind_in, rewind_out, first_is, Item, field, cv, Start, parameter, item}
use Rattle.rules.specs.Words.{number_columns}
use Rattle.rules.specs.Texts.{SizeText, InputText, ParameterText, KindText, StartText, ItemText}
use Rattle.rules.proofs.Grammar.ReaderLaws.{Within, within_read, within_number}
use Rattle.rules.proofs.Grammar.NumberLaws.{number_small as value_small, text_small}
use Rattle.rules.proofs.Grammar.ParameterLaws.{within_parameter}
use Rattle.rules.proofs.Grammar.ItemLaws.{within_item}
use Rattle.rules.proofs.Grammar.GrammarLaws.{parameter_sound, item_sound}
use Rattle.terms.specs.Meaning.{field_of, card_field}
use Rattle.terms.specs.declared.Part.{Part}
use Rattle.terms.specs.declared.Field.{Field}
use Rattle.readers.specs.Meaning.{Reads, NumberSays, parameter_of, ParameterSays, parameter_places, ItemSays, field_places, a_number, a_parameter, a_field, a_cv}
use Rattle.readers.specs.declared.UParameter.{UParameter}
use Rattle.readers.specs.declared.Places.{Places}
pub use Rattle.readers.proofs.NumberPlaces.{places_inside}
use Rattle.terms.proofs.FieldLaws.{input_of_lem, output_of}
use Rattle.readers.proofs.OnlyOne.{taken_once}
use Rattle.readers.proofs.TextPlaces.{parameter_numbers, item_numbers}

-- ---- a byte or more

takes : {A : Type 0} (p : Reader A) → Within 1 p → (s : List ℕ) (a : A) (n : ℕ) → Reads p s a n → 1 ≤ n
takes p w s a n r =
    let k = within_read 1 p w s a (drop n s) r.1 in
    omega (arith, k.least, taken_once s n k.taken r.0 k.most k.is)

pub number_takes : (s : List ℕ) (v n : ℕ) → NumberSays s (a_number v n) → 1 ≤ n
number_takes s v n r = takes number within_number s v n r

pub parameter_takes : (s : List ℕ) (u : UParameter) (second n : ℕ) → ParameterSays s (a_parameter u second n) → 1 ≤ n
parameter_takes s u second n r = takes parameter within_parameter s (parameter_of u) n r.0

pub field_takes : (s : List ℕ) (part : Part) (f : Field) (p : Places) (n : ℕ) → ItemSays s (a_field part f p n) → 1 ≤ n
field_takes s part f p n r = takes item within_item s (field (card_field part f)) n r.0

pub cv_takes : (s : List ℕ) (n : ℕ) → ItemSays s (a_cv n) → 1 ≤ n
cv_takes s n r = takes item within_item s cv n r

-- ---- at most 99,999

pub number_small : (s : List ℕ) (v n : ℕ) → NumberSays s (a_number v n) → v < 100000
number_small s v n r = value_small s v (drop n s) r.1

abbrev pub SmallSize : RuleSize → Type 0
SmallSize (two n m) = (n < 100000) × (m < 100000)
SmallSize (one g) = g < 100000

abbrev pub SmallInput : RuleInput → Type 0
SmallInput (plain z) = SmallSize z
SmallInput (keyed k d) = (k < 100000) × (d < 100000)

abbrev pub SmallParameter : RuleParameter → Type 0
SmallParameter (mode_is m) = Unit
SmallParameter (format_is f) = Unit
SmallParameter (input_is i) = SmallInput i
SmallParameter (output_is z) = SmallSize z
SmallParameter rewind_in = Unit
SmallParameter rewind_out = Unit
SmallParameter (first_is n) = n < 100000

small_size : {x : List ℕ} {z : RuleSize} → SizeText x z → SmallSize z
small_size (SizeText.pair a b) = (text_small a, text_small b)
small_size (SizeText.single a) = text_small a

small_input : {x : List ℕ} {i : RuleInput} → InputText x i → SmallInput i
small_input (InputText.with_key a b) = (text_small a, text_small b)
small_input (InputText.no_key z) = small_size z

small_parameter : {x : List ℕ} {p : RuleParameter} → ParameterText x p → SmallParameter p
small_parameter ParameterText.TC = tt
small_parameter ParameterText.TF = tt
small_parameter ParameterText.TR = tt
small_parameter ParameterText.TRF = tt
small_parameter ParameterText.FF = tt
small_parameter ParameterText.FV = tt
small_parameter ParameterText.FU = tt
small_parameter ParameterText.FS = tt
small_parameter (ParameterText.A= i) = small_input i
small_parameter (ParameterText.B= z) = small_size z
small_parameter ParameterText.IR = tt
small_parameter ParameterText.IN = tt
small_parameter ParameterText.IU = tt
small_parameter ParameterText.OR = tt
small_parameter ParameterText.ON = tt
small_parameter ParameterText.OU = tt
small_parameter (ParameterText.R a) = text_small a

pub parameter_small : (s : List ℕ) (u : UParameter) (second n : ℕ) → ParameterSays s (a_parameter u second n) → SmallParameter (parameter_of u)
parameter_small s u second n r = small_parameter (parameter_sound s (parameter_of u) (drop n s) r.0.1).2

-- the numbers of a field
pub record SmallField (f : Field) : Type 0 where
  pub r : f.r < 100000
  pub input : f.input < 100000
  pub output : f.output < 100000
  pub t : f.t < 100000

abbrev SmallItem : Item → Type 0
SmallItem (field c) = (c.field.r < 100000) × (input_size c.field.kind < 100000) × (output_size c.field.kind < 100000) × (c.field.t < 100000)
SmallItem cv = Unit

small_kind : {x : List ℕ} {k : RuleKind} → KindText x k → (input_size k < 100000) × (output_size k < 100000)
small_kind (KindText.copies a) = (text_small a, text_small a)
small_kind (KindText.packs a b) = (text_small a, text_small b)
small_kind (KindText.unpacks a b) = (text_small a, text_small b)

small_start : {x : List ℕ} {s : Start} → StartText x s → s.r < 100000
small_start (StartText.of_data a) = text_small a
small_start (StartText.of_key a) = text_small a

small_item : {x : List ℕ} {i : Item} → ItemText x i → SmallItem i
small_item (ItemText.a_field a k c) = let h = small_kind k in (small_start a, h.0, h.1, text_small c)
small_item ItemText.CV = tt

pub field_small : (s : List ℕ) (part : Part) (f : Field) (p : Places) (n : ℕ) → ItemSays s (a_field part f p n) → SmallField f
unfolding card_field field_of
field_small s part f p n q =
    let h : SmallItem (field (card_field part f)) = small_item (item_sound s (field (card_field part f)) (drop n s) q.0.1).2 in
    record { r = h.0; input = omega (arith, h.1, input_of_lem f); output = omega (arith, h.2, output_of f q.1); t = h.3 }

-- ---- where the numbers begin

-- the one place that a parameter's answer tells, and the four that a field's answer tells, are all that there are but the fixed ones
pub parameter_places_lem : (s : List ℕ) (u : UParameter) (second n : ℕ) → ParameterSays s (a_parameter u second n)
    → number_columns false 0 (take n s) ≡ parameter_places u second
parameter_places_lem s u second n r = parameter_numbers s n u second r.0 r.1

pub item_places : (s : List ℕ) (part : Part) (f : Field) (p : Places) (n : ℕ) → ItemSays s (a_field part f p n) → number_columns false 0 (take n s) ≡ field_places f.kind p
item_places s part f p n r = item_numbers s part f p n r.0 r.2
