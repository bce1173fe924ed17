-- Each reader's promise allows one answer to a text: a reader of the rules answers once, what is left tells how many bytes were taken, and what a
-- value means tells the value.
use mathlib.Core.Path.{◌≡◌, refl, ap, sym, ◌∙◌}
use mathlib.Core.Bool.{false}
use mathlib.Core.List.{List}
use Prim.Native.Nat.{ℕ, ◌≤◌}
use native.Mathlib.Omega.{arith}
use lib.ListN.{length, take, drop, length-drop}
use Rattle.rules.specs.Reader.{Reader, number}
use Rattle.rules.specs.Halves.{input_size, output_size, Field as RuleField}
use Rattle.rules.specs.Grammar.{Size as RuleSize, two, one, Input as RuleInput, plain, keyed, Parameter as RuleParameter, mode_is, format_is, input_is, output_is, rewind_in, rewind_out, first_is, Part as RulePart, in_data, in_key, CardField, field, cv, parameter, item}
use Rattle.rules.specs.Words.{number_columns}
use Rattle.rules.proofs.Grammar.ReaderLaws.{not_read, read_value, read_left}
use Rattle.terms.specs.Meaning.{size_of, input_of, kind_for, OneSize, field_of, part_of, card_field}
use Rattle.terms.specs.declared.Size.{Size}
use Rattle.terms.specs.declared.Size.TheVariants.{Two, One}
use Rattle.terms.specs.declared.Input.{Input}
use Rattle.terms.specs.declared.Input.TheVariants.{Plain, Keyed}
use Rattle.terms.specs.declared.Part.{Part}
use Rattle.terms.specs.declared.Part.TheVariants.{Data, Key}
use Rattle.terms.specs.declared.Field.{Field}
use Rattle.terms.proofs.BackLaws.{mode_back, mode_back_lem, format_back, format_back_lem}
use Rattle.terms.proofs.FieldLaws.{kind_back, input_of_lem, output_of}
use Rattle.readers.specs.Meaning.{Reads, Stops, NumberSays, second_in, places_in, parameter_of, ParameterSays, ItemReads, ItemSays}
use Rattle.std.specs.Prelude.{Result, Ok, Err}
use Rattle.readers.specs.declared.Stop.{Stop}
use Rattle.readers.specs.declared.Found.{Found}
use Rattle.readers.specs.declared.Placed.{Placed}
use Rattle.readers.specs.declared.UParameter.{UParameter}
use Rattle.readers.specs.declared.UParameter.TheVariants.{ModeIs, FormatIs, InputIs, OutputIs, RewindIn, RewindOut, FirstIs}
use Rattle.readers.specs.declared.CardItem.{CardItem}
use Rattle.readers.specs.declared.CardItem.TheVariants.{Field as AField, CV}

-- ---- what one reader answers to one text

-- what is left tells how many bytes were taken
pub taken_once : (s : List ℕ) (n m : ℕ) → n ≤ length s → m ≤ length s → drop n s ≡ drop m s → n ≡ m
taken_once s n m a b e = omega (arith, length-drop n s, length-drop m s, ap length e)

module _ {A : Type 0} (p : Reader A) (s : List ℕ) where
  pub one_read : (a b : A) (n m : ℕ) → Reads p s a n → Reads p s b m → (a ≡ b) × (n ≡ m)
  one_read a b n m r q =
      let e = sym r.1 ∙ q.1 in
      (read_value a b (drop n s) (drop m s) e, taken_once s n m r.0 q.0 (read_left a b (drop n s) (drop m s) e))

  pub one_stop : (n m : ℕ) → Stops p s n → Stops p s m → n ≡ m
  one_stop n m r q =
      let e = sym r.1 ∙ q.1 in
      let f : drop n s ≡ drop m s = cc in
      taken_once s n m r.0 q.0 f

  pub not_both : (a : A) (n m : ℕ) → Reads p s a n → Stops p s m → ⊥
  not_both a n m r q = not_read (drop m s) a (drop n s) (sym q.1 ∙ r.1)

-- where two answers stop
stop_once : (a b : Stop) → a.at ≡ b.at → a ≡ b
stop_once a b e = λ i. record { at = e i }

-- ---- a number

pub number_only_one : (s : List ℕ) (a b : Result (Found ℕ) Stop) → NumberSays s a → NumberSays s b → a ≡ b
number_only_one s (Ok a) (Ok b) r q =
    let e = one_read number s a.value b.value a.used b.used r q in
    ap Ok (λ i. record { value = e.0 i; used = e.1 i })
number_only_one s (Ok a) (Err b) r q = absurd (not_both number s a.value a.used b.at r q)
number_only_one s (Err a) (Ok b) r q = absurd (not_both number s b.value b.used a.at q r)
number_only_one s (Err a) (Err b) r q = ap Err (stop_once a b (one_stop number s a.at b.at r q))

-- ---- a parameter

abbrev size_back : RuleSize → Size
size_back (two n m) = Two n m
size_back (one g) = One g

size_back_lem : (z : Size) → size_back (size_of z) ≡ z
size_back_lem (Two n m) = refl
size_back_lem (One g) = refl

abbrev input_back : RuleInput → Input
input_back (plain z) = Plain (size_back z)
input_back (keyed k d) = Keyed k d

input_back_lem : (i : Input) → input_back (input_of i) ≡ i
input_back_lem (Plain z) = ap Plain (size_back_lem z)
input_back_lem (Keyed k d) = refl

abbrev parameter_back : RuleParameter → UParameter
parameter_back (mode_is m) = ModeIs (mode_back m)
parameter_back (format_is f) = FormatIs (format_back f)
parameter_back (input_is i) = InputIs (input_back i)
parameter_back (output_is z) = OutputIs (size_back z)
parameter_back rewind_in = RewindIn
parameter_back rewind_out = RewindOut
parameter_back (first_is n) = FirstIs n

parameter_back_lem : (u : UParameter) → parameter_back (parameter_of u) ≡ u
parameter_back_lem (ModeIs m) = ap ModeIs (mode_back_lem m)
parameter_back_lem (FormatIs f) = ap FormatIs (format_back_lem f)
parameter_back_lem (InputIs i) = ap InputIs (input_back_lem i)
parameter_back_lem (OutputIs z) = ap OutputIs (size_back_lem z)
parameter_back_lem RewindIn = refl
parameter_back_lem RewindOut = refl
parameter_back_lem (FirstIs n) = refl

pub parameter_once : (u w : UParameter) → parameter_of u ≡ parameter_of w → u ≡ w
parameter_once u w e = sym (parameter_back_lem u) ∙ ap parameter_back e ∙ parameter_back_lem w

pub parameter_only_one : (s : List ℕ) (a b : Result (Placed UParameter) Stop) → ParameterSays s a → ParameterSays s b → a ≡ b
parameter_only_one s (Ok a) (Ok b) r q =
    let e = one_read parameter s (parameter_of a.value) (parameter_of b.value) a.used b.used r.0 q.0 in
    let f = parameter_once a.value b.value e.0 in
    let h : a.second ≡ b.second = r.1 ∙ ap (λ (k : ℕ). second_in (number_columns false 0 (take k s))) e.1 ∙ sym q.1 in
    ap Ok (λ i. record { value = f i; second = h i; used = e.1 i })
parameter_only_one s (Ok a) (Err b) r q = absurd (not_both parameter s (parameter_of a.value) a.used b.at r.0 q)
parameter_only_one s (Err a) (Ok b) r q = absurd (not_both parameter s (parameter_of b.value) b.used a.at q.0 r)
parameter_only_one s (Err a) (Err b) r q = ap Err (stop_once a b (one_stop parameter s a.at b.at r q))

-- ---- an item

abbrev field_back : RuleField → Field
field_back f = record { kind = kind_for f.kind; r = f.r; input = input_size f.kind; output = output_size f.kind; t = f.t }

field_back_lem : (f : Field) → OneSize f.kind f.input f.output → field_back (field_of f) ≡ f
unfolding field_of
field_back_lem f h =
    λ i. record {
      kind = kind_back f.kind f.input f.output i;
      r = f.r;
      input = input_of_lem f i;
      output = output_of f h i;
      t = f.t;
    }

pub field_once : (f g : Field) → OneSize f.kind f.input f.output → OneSize g.kind g.input g.output → field_of f ≡ field_of g → f ≡ g
field_once f g a b e = sym (field_back_lem f a) ∙ ap field_back e ∙ field_back_lem g b

abbrev part_back : RulePart → Part
part_back in_data = Data
part_back in_key = Key

part_back_lem : (p : Part) → part_back (part_of p) ≡ p
part_back_lem Data = refl
part_back_lem Key = refl

-- a field as it stands on its card
pub card_once : (p q : Part) (f g : Field) → OneSize f.kind f.input f.output → OneSize g.kind g.input g.output → card_field p f ≡ card_field q g
    → (p ≡ q) × (f ≡ g)
unfolding card_field
card_once p q f g a b e =
    (sym (part_back_lem p) ∙ ap (λ (c : CardField). part_back c.part) e ∙ part_back_lem q, field_once f g a b (ap (λ (c : CardField). c.field) e))

field_value : (f g : CardField) → field f ≡ field g → f ≡ g
field_value f g e = cc

not_cv : (f : CardField) → field f ≡ cv → ⊥
not_cv f e = let z : ◌≡◌ {A = ℕ} 0 1 = cc in omega arith

item_once : (s : List ℕ) (x y : CardItem) (n m : ℕ) → ItemReads s x n → ItemReads s y m → (x ≡ y) × (n ≡ m)
item_once s (AField o f a) (AField p g b) n m r q =
    let e = one_read item s (field (card_field o f)) (field (card_field p g)) n m r.0 q.0 in
    let h = card_once o p f g r.1 q.1 (field_value (card_field o f) (card_field p g) e.0) in
    let i = h.0 in
    let j = h.1 in
    let l : a ≡ b = r.2 ∙ ap (λ (j : ℕ). places_in (number_columns false 0 (take j s))) e.1 ∙ sym q.2 in
    (cc, e.1)
item_once s (AField o f a) CV n m r q = absurd (not_cv (card_field o f) (one_read item s (field (card_field o f)) cv n m r.0 q).0)
item_once s CV (AField p g b) n m r q = absurd (not_cv (card_field p g) (one_read item s (field (card_field p g)) cv m n q.0 r).0)
item_once s CV CV n m r q = (refl, (one_read item s cv cv n m r q).1)

item_or_stop : (s : List ℕ) (x : CardItem) (n m : ℕ) → ItemReads s x n → Stops item s m → ⊥
item_or_stop s (AField o f a) n m r q = not_both item s (field (card_field o f)) n m r.0 q
item_or_stop s CV n m r q = not_both item s cv n m r q

pub item_only_one : (s : List ℕ) (a b : Result (Found CardItem) Stop) → ItemSays s a → ItemSays s b → a ≡ b
item_only_one s (Ok a) (Ok b) r q =
    let e = item_once s a.value b.value a.used b.used r q in
    ap Ok (λ i. record { value = e.0 i; used = e.1 i })
item_only_one s (Ok a) (Err b) r q = absurd (item_or_stop s a.value a.used b.at r q)
item_only_one s (Err a) (Ok b) r q = absurd (item_or_stop s b.value b.used a.at q r)
item_only_one s (Err a) (Err b) r q = ap Err (stop_once a b (one_stop item s a.at b.at r q))
