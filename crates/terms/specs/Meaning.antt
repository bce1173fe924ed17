-- What the types that cards name mean in the rules.
use Rattle.std.specs.Prelude.{◌≡◌, cond, not, List, [], ◌∷◌, ◌++◌, map, ℕ, suc, ◌+◌, ◌-◌, ◌≤◌, leb, eqb, length, replicate}
use Rattle.rules.specs.Base.{joined}
use Rattle.rules.specs.Grammar.{Mode as RuleMode, tc, tf, tr, trf, Format as RuleFormat, ff, fv, fu, fsp, Size as RuleSize, two, one, Input as RuleInput, plain, keyed, Part as RulePart, in_data, in_key, CardField, Item}
use Rattle.rules.specs.Halves.{Kind as RuleKind, copy, pack, unpack, input_size, Field as RuleField}
use Rattle.rules.specs.Asked.{fields_of, cvs, Utility, Asked as RuleAsked}
use Rattle.rules.specs.Plan.{Plan, record_length, block_length, key_length, key_fields}
use Rattle.rules.specs.Keys.{through_utility}
use Rattle.rules.specs.Output.{cost}
use Rattle.rules.specs.Lent.{Entry as RuleEntry}
use Rattle.terms.specs.declared.Mode.{Mode}
use Rattle.terms.specs.declared.Mode.TheVariants.{TC, TF, TR, TRF}
use Rattle.terms.specs.declared.Format.{Format}
use Rattle.terms.specs.declared.Format.TheVariants.{FF, FV, FU, FS}
use Rattle.terms.specs.declared.Size.{Size}
use Rattle.terms.specs.declared.Size.TheVariants.{Two, One}
use Rattle.terms.specs.declared.Input.{Input}
use Rattle.terms.specs.declared.Input.TheVariants.{Plain, Keyed}
use Rattle.terms.specs.declared.Part.{Part}
use Rattle.terms.specs.declared.Part.TheVariants.{Data, Key}
use Rattle.terms.specs.declared.Kind.{Kind}
use Rattle.terms.specs.declared.Kind.TheVariants.{Copy, Pack, Unpack}
use Rattle.terms.specs.declared.Field.{Field}
use Rattle.terms.specs.declared.Asked.{Asked}
use Rattle.terms.specs.declared.Task.{Task}
use Rattle.terms.specs.declared.Entry.{Entry}

abbrev pub mode_of : Mode → RuleMode
mode_of TC = tc
mode_of TF = tf
mode_of TR = tr
mode_of TRF = trf

abbrev pub format_of : Format → RuleFormat
format_of FF = ff
format_of FV = fv
format_of FU = fu
format_of FS = fsp

abbrev pub size_of : Size → RuleSize
size_of (Two n m) = two n m
size_of (One g) = one g

abbrev pub input_of : Input → RuleInput
input_of (Plain s) = plain (size_of s)
input_of (Keyed k d) = keyed k d

-- of a copy the one size is what it reads
abbrev pub kind_of : Kind → ℕ → ℕ → RuleKind
kind_of Copy input output = copy input
kind_of Pack input output = pack input output
kind_of Unpack input output = unpack input output

-- the kind that means it
abbrev pub kind_for : RuleKind → Kind
kind_for (copy s) = Copy
kind_for (pack n m) = Pack
kind_for (unpack n m) = Unpack

unfoldable pub field_of : Field → RuleField
field_of f = record { r = f.r; kind = kind_of f.kind f.input f.output; t = f.t }

-- a field as it stands on its card
abbrev pub part_of : Part → RulePart
part_of Data = in_data
part_of Key = in_key

unfoldable pub card_field : Part → Field → CardField
card_field part f = record { part = part_of part; field = field_of f }

-- where a field stands in the row, behind a key of so many bytes: it counts through key and data, but one that is taken from the key and runs past it, which
-- is refused, stands past every record
abbrev pub laid_at : ℕ → RulePart → ℕ → ℕ → ℕ
laid_at key in_data r size = key + r
laid_at key in_key r size = cond (leb (r + size - 1) key) r 8192

unfoldable pub laid : ℕ → CardField → RuleField
laid key f = record { r = laid_at key f.part f.field.r (input_size f.field.kind); kind = f.field.kind; t = f.field.t }

-- a copy has one size, which stands in both places
abbrev pub OneSize : Kind → ℕ → ℕ → Type 0
OneSize Copy input output = output ≡ input
OneSize Pack input output = Unit
OneSize Unpack input output = Unit

-- a field that stands nowhere: what a list holds where there is no field
abbrev pub no_field : Field
no_field = record { kind = Copy; r = 0; input = 0; output = 0; t = 0 }

-- ---- what a deck asks for

unfoldable pub utility_of : Asked → Utility
utility_of x = record { mode = mode_of x.mode; format = format_of x.format; input = plain (size_of x.input); output = size_of x.output; first = x.first }

-- the card of each field, the first FS card being card i
abbrev pub field_cards : ℕ → List (List Item) → List ℕ
field_cards i [] = []
field_cards i (c ∷ cs) = replicate (length (fields_of c)) i ++ field_cards (suc i) cs

-- the first card with some of what f counts, or 0
abbrev pub first_card : (List Item → ℕ) → ℕ → List (List Item) → ℕ
first_card f i [] = 0
first_card f i (c ∷ cs) = let later = first_card f (suc i) cs in cond (eqb (f c) 0) later i

-- the first card that says CV, and the first with a field that is taken from the key, or 0
abbrev pub cv_card : ℕ → List (List Item) → ℕ
cv_card i cs = first_card cvs i cs

abbrev pub key_card : ℕ → List (List Item) → ℕ
key_card i cs = first_card (λ c. key_fields (fields_of c)) i cs

-- the fields that a deck asks for, as they stand in the row
unfoldable pub laid_fields : RuleAsked → List RuleField
laid_fields a = map (laid (key_length a.utility.input)) (fields_of (joined a.cards))

-- the struct says just what the rules say that the deck asks for beside the fields, and how many they are
pub record Means (x : Asked) (a : RuleAsked) : Type 0 where
  pub utility : utility_of x ≡ through_utility a.utility
  pub key : x.key ≡ key_length a.utility.input
  pub count : x.count ≡ length (fields_of (joined a.cards))
  pub few : x.count ≤ 64
  pub fs : x.fs ≡ length a.cards
  pub cv : x.cv ≡ cv_card 2 a.cards
  pub keyed : x.keyed ≡ key_card 2 a.cards

-- the plan that it is with these fields, in a zone
unfoldable pub plan_in : ℕ → Asked → List RuleField → Plan
plan_in zone x fs =
    record {
      zone = zone;
      mode = mode_of x.mode;
      format = format_of x.format;
      input = size_of x.input;
      output = size_of x.output;
      first = x.first;
      fields = fs;
      carries = not (eqb x.cv 0);
    }

-- the numbers are those of the plan
pub record TaskIs (x : Task) (p : Plan) : Type 0 where
  pub mode : mode_of x.mode ≡ p.mode
  pub format : format_of x.format ≡ p.format
  pub n : x.n ≡ record_length p.input
  pub m : x.m ≡ block_length p.input
  pub width : x.width ≡ record_length p.output
  pub limit : x.limit ≡ block_length p.output
  pub costs : x.cost ≡ cost p.format
  pub first : x.first ≡ p.first
  pub carries : x.carries ≡ p.carries

-- ---- a lent table

-- what an entry holds in the rules, and the entry that holds it
abbrev pub entry_means : Entry → RuleEntry
entry_means e = record { kind = e.kind; part = e.part; r = e.r; input = e.input; output = e.output; t = e.t }

abbrev pub entry_for : RuleEntry → Entry
entry_for e = record { kind = e.kind; part = e.part; r = e.r; input = e.input; output = e.output; t = e.t }

-- what an array holds where there is no entry
abbrev pub no_entry : Entry
no_entry = record { kind = 0; part = 0; r = 0; input = 0; output = 0; t = 0 }
