-- What the answers of the readers mean: each says what the rules' reader of the same text answers, and where.
use Rattle.std.specs.Prelude.{◌≡◌, Bool, false, cond, List, [], ◌∷◌, ℕ, ◌+◌, ◌-◌, ◌<◌, ◌≤◌, length, take, drop, get_or, Option, Some, None, Result, Ok, Err}
use Rattle.std.proofs.Math.Seq.{slice}
use Rattle.rules.specs.Reader.{read, stopped, Reader, is_digit, number}
use Rattle.rules.specs.Halves.{Kind as RuleKind}
use Rattle.rules.specs.Grammar.{Size as RuleSize, Input as RuleInput, Parameter as RuleParameter, mode_is, format_is, input_is, output_is, rewind_in, rewind_out, first_is, Item, field, cv, parameter, item}
use Rattle.rules.specs.Words.{number_columns}
use Rattle.terms.specs.Meaning.{mode_of, format_of, size_of, input_of, kind_of, OneSize, card_field}
use Rattle.terms.specs.declared.Size.{Size}
use Rattle.terms.specs.declared.Size.TheVariants.{Two, One}
use Rattle.terms.specs.declared.Input.{Input}
use Rattle.terms.specs.declared.Input.TheVariants.{Plain, Keyed}
use Rattle.terms.specs.declared.Kind.{Kind}
use Rattle.terms.specs.declared.Part.{Part}
use Rattle.terms.specs.declared.Field.{Field}
use Rattle.terms.specs.declared.Kind.TheVariants.{Copy, Pack, Unpack}
use Rattle.readers.specs.declared.Stop.{Stop}
use Rattle.readers.specs.declared.Found.{Found}
use Rattle.readers.specs.declared.Placed.{Placed}
use Rattle.readers.specs.declared.Middle.{Middle}
use Rattle.readers.specs.declared.UParameter.{UParameter}
use Rattle.readers.specs.declared.UParameter.TheVariants.{ModeIs, FormatIs, InputIs, OutputIs, RewindIn, RewindOut, FirstIs}
use Rattle.readers.specs.declared.Places.{Places}
use Rattle.readers.specs.declared.CardItem.{CardItem}
use Rattle.readers.specs.declared.CardItem.TheVariants.{Field as AField, CV}

-- ---- what is read, and where it stops

module _ {A : Type 0} (p : Reader A) where
  -- from a place of s on p reads a, up to another place
  abbrev pub ReadsFrom : ℕ → List ℕ → A → ℕ → Type 0
  ReadsFrom from s a to = (to ≤ length s) × (p (drop from s) ≡ read a (drop to s))

  -- p stops: from the other place on nothing could be right
  abbrev pub StopsFrom : ℕ → List ℕ → ℕ → Type 0
  StopsFrom from s at = (at ≤ length s) × (p (drop from s) ≡ stopped (drop at s))

  -- from the front of s on p reads a and takes so many bytes
  abbrev pub Reads : List ℕ → A → ℕ → Type 0
  Reads s a used = (used ≤ length s) × (p s ≡ read a (drop used s))

  abbrev pub Stops : List ℕ → ℕ → Type 0
  Stops s at = (at ≤ length s) × (p s ≡ stopped (drop at s))

-- ---- a byte

-- the byte at a place, where the text has one; 256 is no byte
abbrev pub PeekSays : List ℕ → ℕ → Option ℕ → Type 0
PeekSays s at (Some b) = (at < length s) × (get_or s at 256 ≡ b)
PeekSays s at None = get_or s at 256 ≡ 256

-- the place behind a mark, where it stands there
abbrev pub MarkSays : ℕ → ℕ → List ℕ → Result ℕ Stop → Type 0
MarkSays mark at s (Ok to) = (get_or s at 256 ≡ mark) × (to ≡ at + 1) × (to ≤ length s)
MarkSays mark at s (Err stop) = (get_or s at 256 ≡ mark → ⊥) × (stop.at ≡ at)

-- ---- a number

-- the value of a digit
abbrev pub digit_value : ℕ → Option ℕ
digit_value b = cond (is_digit b) (Some (b - 48)) None

abbrev pub NumberFrom : Reader ℕ → ℕ → List ℕ → Result (Found ℕ) Stop → Type 0
NumberFrom p from s (Ok n) = ReadsFrom p from s n.value n.used
NumberFrom p from s (Err stop) = StopsFrom p from s stop.at

abbrev pub NumberSays : List ℕ → Result (Found ℕ) Stop → Type 0
NumberSays s (Ok n) = Reads number s n.value n.used
NumberSays s (Err stop) = Stops number s stop.at

-- ---- where numbers begin

-- the places at which the numbers between two places of a text begin; the bit says that a digit stands before
abbrev pub numbers_in : Bool → List ℕ → ℕ → ℕ → List ℕ
numbers_in digit s from to = number_columns digit from (slice from to s)

-- where the first of some numbers begins, or 0
abbrev pub first_in : List ℕ → ℕ
first_in [] = 0
first_in (a ∷ more) = a

-- where the second of some numbers begins, or 0
abbrev pub second_in : List ℕ → ℕ
second_in [] = 0
second_in (a ∷ more) = first_in more

-- where the numbers of a field begin
abbrev pub places_in : List ℕ → Places
places_in [] = record { r = 0; input = 0; output = 0; t = 0 }
places_in (r ∷ []) = record { r = r; input = 0; output = 0; t = 0 }
places_in (r ∷ n ∷ []) = record { r = r; input = 0; output = 0; t = 0 }
places_in (r ∷ s ∷ t ∷ []) = record { r = r; input = s; output = s; t = t }
places_in (r ∷ n ∷ m ∷ t ∷ more) = record { r = r; input = n; output = m; t = t }

-- ---- a parameter

abbrev pub SizeFrom : Bool → (List ℕ → ℕ) → Reader RuleSize → ℕ → List ℕ → Result (Placed Size) Stop → Type 0
SizeFrom digit place p from s (Ok z) = ReadsFrom p from s (size_of z.value) z.used × (from ≤ z.used) × (z.second ≡ place (numbers_in digit s from z.used))
SizeFrom digit place p from s (Err stop) = StopsFrom p from s stop.at

abbrev pub InputFrom : (List ℕ → ℕ) → Reader RuleInput → ℕ → List ℕ → Result (Placed Input) Stop → Type 0
InputFrom place p from s (Ok i) = ReadsFrom p from s (input_of i.value) i.used × (from ≤ i.used) × (i.second ≡ place (numbers_in false s from i.used))
InputFrom place p from s (Err stop) = StopsFrom p from s stop.at

abbrev pub parameter_of : UParameter → RuleParameter
parameter_of (ModeIs m) = mode_is (mode_of m)
parameter_of (FormatIs f) = format_is (format_of f)
parameter_of (InputIs i) = input_is (input_of i)
parameter_of (OutputIs z) = output_is (size_of z)
parameter_of RewindIn = rewind_in
parameter_of RewindOut = rewind_out
parameter_of (FirstIs n) = first_is n

abbrev pub ParameterSays : List ℕ → Result (Placed UParameter) Stop → Type 0
ParameterSays s (Ok u) = Reads parameter s (parameter_of u.value) u.used × (u.second ≡ second_in (number_columns false 0 (take u.used s)))
ParameterSays s (Err stop) = Stops parameter s stop.at

-- the answers that found something
abbrev pub a_number : ℕ → ℕ → Result (Found ℕ) Stop
a_number v n = Ok (record { value = v; used = n })

abbrev pub a_parameter : UParameter → ℕ → ℕ → Result (Placed UParameter) Stop
a_parameter u second n = Ok (record { value = u; second = second; used = n })

-- the places of a parameter's numbers
abbrev pub parameter_places : UParameter → ℕ → List ℕ
parameter_places (ModeIs m) second = []
parameter_places (FormatIs f) second = []
parameter_places (InputIs (Plain (Two n m))) second = 3 ∷ second ∷ []
parameter_places (InputIs (Plain (One g))) second = 3 ∷ []
parameter_places (InputIs (Keyed k d)) second = 5 ∷ second ∷ []
parameter_places (OutputIs (Two n m)) second = 3 ∷ second ∷ []
parameter_places (OutputIs (One g)) second = 3 ∷ []
parameter_places RewindIn second = []
parameter_places RewindOut second = []
parameter_places (FirstIs n) second = 1 ∷ []

-- ---- an item

-- a kind that has two sizes
abbrev pub Sized : Kind → Type 0
Sized Copy = ⊥
Sized Pack = Unit
Sized Unpack = Unit

-- the places of a middle's sizes
abbrev pub kind_places : Kind → ℕ → ℕ → List ℕ
kind_places Copy first second = first ∷ []
kind_places Pack first second = first ∷ second ∷ []
kind_places Unpack first second = first ∷ second ∷ []

abbrev pub KindFrom : Reader RuleKind → ℕ → List ℕ → Result (Found Middle) Stop → Type 0
KindFrom p from s (Ok m) =
    let k = m.value in
    ReadsFrom p from s (kind_of k.kind k.input k.output) m.used × OneSize k.kind k.input k.output
    × (from ≤ m.used) × OneSize k.kind k.first k.second × (numbers_in false s from m.used ≡ kind_places k.kind k.first k.second)
KindFrom p from s (Err stop) = StopsFrom p from s stop.at

-- the places of a field's numbers behind r, and of all of them
abbrev pub behind_places : Kind → Places → List ℕ
behind_places Copy p = p.input ∷ p.t ∷ []
behind_places Pack p = p.input ∷ p.output ∷ p.t ∷ []
behind_places Unpack p = p.input ∷ p.output ∷ p.t ∷ []

abbrev pub field_places : Kind → Places → List ℕ
field_places k p = p.r ∷ behind_places k p

-- from a place on up to another, where r stands at a third
abbrev pub ItemUpTo : Reader Item → ℕ → ℕ → List ℕ → CardItem → ℕ → Type 0
ItemUpTo p from place s (AField part f q) n =
    ReadsFrom p from s (field (card_field part f)) n × OneSize f.kind f.input f.output
    × (from ≤ n) × OneSize f.kind q.input q.output × (numbers_in false s from n ≡ behind_places f.kind q) × (q.r ≡ place)
ItemUpTo p from place s CV n = ReadsFrom p from s cv n

abbrev pub ItemFrom : Reader Item → ℕ → ℕ → List ℕ → Result (Found CardItem) Stop → Type 0
ItemFrom p from place s (Ok i) = ItemUpTo p from place s i.value i.used
ItemFrom p from place s (Err stop) = StopsFrom p from s stop.at

-- from the front
abbrev pub ItemReads : List ℕ → CardItem → ℕ → Type 0
ItemReads s (AField part f p) n =
    Reads item s (field (card_field part f)) n × OneSize f.kind f.input f.output × (p ≡ places_in (number_columns false 0 (take n s)))
ItemReads s CV n = Reads item s cv n

abbrev pub ItemSays : List ℕ → Result (Found CardItem) Stop → Type 0
ItemSays s (Ok i) = ItemReads s i.value i.used
ItemSays s (Err stop) = Stops item s stop.at

abbrev pub a_field : Part → Field → Places → ℕ → Result (Found CardItem) Stop
a_field part f p n = Ok (record { value = AField part f p; used = n })

abbrev pub a_cv : ℕ → Result (Found CardItem) Stop
a_cv n = Ok (record { value = CV; used = n })
