-- Where the numbers of a parameter and of a field begin, from what was read alone: what was read is a text of the grammar, whose runs of digits are its numbers.
use mathlib.Core.Path.{◌≡◌, refl, ap, sym, ◌∙◌}
use mathlib.Core.Bool.{false}
use mathlib.Core.List.{List, [], ◌∷◌, ◌++◌, append-nil, append_assoc}
use Prim.Native.Nat.{ℕ, suc, ◌+◌}
use native.Mathlib.Omega.{arith}
use lib.ListN.{length, take, drop}
use Rattle.rules.specs.Base.{ascii}
use Rattle.rules.specs.Halves.{Kind as RuleKind}
use Rattle.rules.specs.Grammar.{Size as RuleSize, two, one, Input as RuleInput, plain, keyed, Parameter as RuleParameter, mode_is, format_is, input_is, output_is, rewind_in, rewind_out, first_is, Item, field, cv, Start, parameter, item}
use Rattle.rules.specs.Words.{number_columns}
use Rattle.rules.specs.Texts.{NumberText, SizeText, InputText, ParameterText, KindText, StartText, ItemText}
use Rattle.rules.proofs.Grammar.NumberLaws.{Ends, at_end, comma_ends, close_ends}
use Rattle.rules.proofs.Columns.NumberColumns.{columns_number}
use Rattle.rules.proofs.Grammar.GrammarLaws.{parameter_sound, item_sound}
use Rattle.terms.specs.Meaning.{kind_for, field_of, card_field}
use Rattle.terms.specs.declared.Size.TheVariants.{Two, One}
use Rattle.terms.specs.declared.Input.TheVariants.{Plain, Keyed}
use Rattle.terms.specs.declared.Part.{Part}
use Rattle.terms.specs.declared.Kind.{Kind}
use Rattle.terms.specs.declared.Kind.TheVariants.{Copy, Pack, Unpack}
use Rattle.terms.specs.declared.Field.{Field}
use Rattle.readers.specs.Meaning.{Reads, second_in, places_in, parameter_of, parameter_places, kind_places, behind_places, field_places}
use Rattle.readers.specs.declared.UParameter.{UParameter}
use Rattle.readers.specs.declared.UParameter.TheVariants.{ModeIs, FormatIs, InputIs, OutputIs, RewindIn, RewindOut, FirstIs}
use Rattle.readers.specs.declared.Places.{Places}
use Rattle.readers.proofs.NumberPlaces.{text_is}
use Rattle.terms.proofs.FieldLaws.{kind_back}

-- a number at the end of a text
last_number : (c : ℕ) {x : List ℕ} {v : ℕ} → NumberText x v → number_columns false c x ≡ c ∷ []
last_number c {x} n = ap (number_columns false c) (sym (append-nil x)) ∙ columns_number c n at_end

-- ---- a parameter

abbrev size_places : RuleSize → ℕ → List ℕ
size_places (two n m) second = 3 ∷ second ∷ []
size_places (one g) second = 3 ∷ []

abbrev input_places : RuleInput → ℕ → List ℕ
input_places (plain z) second = size_places z second
input_places (keyed k d) second = 5 ∷ second ∷ []

abbrev pub rule_places : RuleParameter → ℕ → List ℕ
rule_places (mode_is m) second = []
rule_places (format_is f) second = []
rule_places (input_is i) second = input_places i second
rule_places (output_is z) second = size_places z second
rule_places rewind_in second = []
rule_places rewind_out second = []
rule_places (first_is n) second = 1 ∷ []

size_text : {x : List ℕ} {z : RuleSize} → SizeText x z → (second : ℕ) × (number_columns false 2 x ≡ size_places z second)
size_text (SizeText.pair {x = a} {y = b} n m) =
    let e : ascii "(" ++ a ++ ascii "," ++ b ++ ascii ")" ≡ 40 ∷ (a ++ 44 ∷ (b ++ 41 ∷ [])) = simp append_assoc in
    let k = suc (3 + length a) in (
      k,
      ap (number_columns false 2) e ∙ columns_number 3 n (comma_ends (b ++ 41 ∷ [])) ∙ ap (λ (l : List ℕ). 3 ∷ l) (columns_number k m (close_ends [])),
    )
size_text (SizeText.single n) = (0, columns_number 3 n (close_ends []))

input_text : {x : List ℕ} {i : RuleInput} → InputText x i → (second : ℕ) × (number_columns false 2 x ≡ input_places i second)
input_text (InputText.with_key {x = a} {y = b} n m) =
    let e : ascii "(K=" ++ a ++ ascii ",D=" ++ b ++ ascii ")" ≡ 40 ∷ 75 ∷ 61 ∷ (a ++ 44 ∷ 68 ∷ 61 ∷ (b ++ 41 ∷ [])) = simp append_assoc in
    let k = suc (suc (suc (5 + length a))) in (
      k,
      ap (number_columns false 2) e ∙ columns_number 5 n (comma_ends (68 ∷ 61 ∷ (b ++ 41 ∷ []))) ∙ ap (λ (l : List ℕ). 5 ∷ l) (columns_number k m (close_ends [])),
    )
input_text (InputText.no_key z) = size_text z

parameter_text : {x : List ℕ} {p : RuleParameter} → ParameterText x p → (second : ℕ) × (number_columns false 0 x ≡ rule_places p second)
parameter_text ParameterText.TC = (0, refl)
parameter_text ParameterText.TF = (0, refl)
parameter_text ParameterText.TR = (0, refl)
parameter_text ParameterText.TRF = (0, refl)
parameter_text ParameterText.FF = (0, refl)
parameter_text ParameterText.FV = (0, refl)
parameter_text ParameterText.FU = (0, refl)
parameter_text ParameterText.FS = (0, refl)
parameter_text (ParameterText.A= i) = input_text i
parameter_text (ParameterText.B= z) = size_text z
parameter_text ParameterText.IR = (0, refl)
parameter_text ParameterText.IN = (0, refl)
parameter_text ParameterText.IU = (0, refl)
parameter_text ParameterText.OR = (0, refl)
parameter_text ParameterText.ON = (0, refl)
parameter_text ParameterText.OU = (0, refl)
parameter_text (ParameterText.R n) = (0, last_number 1 n)

module _ (s : List ℕ) (n : ℕ) where
  parameter_columns : (p : RuleParameter) → Reads parameter s p n → (second : ℕ) × (number_columns false 0 (take n s) ≡ rule_places p second)
  parameter_columns p r =
      let x = parameter_sound s p (drop n s) r.1 in
      let y = parameter_text x.2 in
      (y.0, ap (number_columns false 0) (text_is s 0 n x.0 (omega arith) r.0 x.1).1 ∙ y.1)

  -- a parameter that has no second number
  pub alone : (p : RuleParameter) → ((k : ℕ) → second_in (rule_places p k) ≡ 0) → Reads parameter s p n
      → Reads parameter s p n × (0 ≡ second_in (number_columns false 0 (take n s)))
  alone p h r = let c = parameter_columns p r in (r, sym (ap second_in c.1 ∙ h c.0))

  rule_again : (p : RuleParameter) (k : ℕ) → rule_places p (second_in (rule_places p k)) ≡ rule_places p k
  rule_again (mode_is m) k = refl
  rule_again (format_is f) k = refl
  rule_again (input_is (plain (two n m))) k = refl
  rule_again (input_is (plain (one g))) k = refl
  rule_again (input_is (keyed l d)) k = refl
  rule_again (output_is (two n m)) k = refl
  rule_again (output_is (one g)) k = refl
  rule_again rewind_in k = refl
  rule_again rewind_out k = refl
  rule_again (first_is n) k = refl

  rule_same : (u : UParameter) (k : ℕ) → parameter_places u k ≡ rule_places (parameter_of u) k
  rule_same (ModeIs m) k = refl
  rule_same (FormatIs f) k = refl
  rule_same (InputIs (Plain (Two n m))) k = refl
  rule_same (InputIs (Plain (One g))) k = refl
  rule_same (InputIs (Keyed l d)) k = refl
  rule_same (OutputIs (Two n m)) k = refl
  rule_same (OutputIs (One g)) k = refl
  rule_same RewindIn k = refl
  rule_same RewindOut k = refl
  rule_same (FirstIs n) k = refl

  pub parameter_numbers : (u : UParameter) (second : ℕ) → Reads parameter s (parameter_of u) n → second ≡ second_in (number_columns false 0 (take n s))
      → number_columns false 0 (take n s) ≡ parameter_places u second
  parameter_numbers u second r e =
      let c = parameter_columns (parameter_of u) r in
      c.1 ∙ sym (rule_same u second ∙ ap (rule_places (parameter_of u)) (e ∙ ap second_in c.1) ∙ rule_again (parameter_of u) c.0)

-- ---- a field

pub behind_places_lem : (k : Kind) (r first second t : ℕ) → kind_places k first second ++ (t ∷ []) ≡ behind_places k (record { r = r; input = first; output = second; t = t })
behind_places_lem Copy r first second t = refl
behind_places_lem Pack r first second t = refl
behind_places_lem Unpack r first second t = refl

start_text : {x w : List ℕ} {s : Start} → StartText x s → Ends w → (place : ℕ) × (d : ℕ) × (number_columns false 0 (x ++ w) ≡ place ∷ number_columns false d w)
start_text (StartText.of_data {x = x} n) e = (0, 0 + length x, columns_number 0 n e)
start_text {w = w} (StartText.of_key {x = x} n) e =
    let f : (ascii "(K," ++ x ++ ascii ")") ++ w ≡ 40 ∷ 75 ∷ 44 ∷ (x ++ 41 ∷ w) = simp append_assoc in
    (3, suc (3 + length x), ap (number_columns false 0) f ∙ columns_number 3 n (close_ends w))

kind_text : (c : ℕ) {x w : List ℕ} {k : RuleKind} → KindText x k → Ends w
    → (first : ℕ) × (second : ℕ) × (d : ℕ) × (number_columns false c (x ++ w) ≡ kind_places (kind_for k) first second ++ number_columns false d w)
kind_text c {w = w} (KindText.copies {x = x} n) e = (c, c, c + length x, columns_number c n e)
kind_text c {w = w} (KindText.packs {x = a} {y = b} n m) e =
    let f : (ascii "(P," ++ a ++ ascii "," ++ b ++ ascii ")") ++ w ≡ 40 ∷ 80 ∷ 44 ∷ (a ++ 44 ∷ (b ++ 41 ∷ w)) = simp append_assoc in
    let i = suc (suc (suc c)) in
    let j = suc (i + length a) in (
      i,
      j,
      suc (j + length b),
      ap (number_columns false c) f ∙ columns_number i n (comma_ends (b ++ 41 ∷ w)) ∙ ap (λ (l : List ℕ). i ∷ l) (columns_number j m (close_ends w)),
    )
kind_text c {w = w} (KindText.unpacks {x = a} {y = b} n m) e =
    let f : (ascii "(U," ++ a ++ ascii "," ++ b ++ ascii ")") ++ w ≡ 40 ∷ 85 ∷ 44 ∷ (a ++ 44 ∷ (b ++ 41 ∷ w)) = simp append_assoc in
    let i = suc (suc (suc c)) in
    let j = suc (i + length a) in (
      i,
      j,
      suc (j + length b),
      ap (number_columns false c) f ∙ columns_number i n (comma_ends (b ++ 41 ∷ w)) ∙ ap (λ (l : List ℕ). i ∷ l) (columns_number j m (close_ends w)),
    )

abbrev ItemPlaces : Item → List ℕ → Type 0
ItemPlaces (field f) cs = (q : Places) × (cs ≡ field_places (kind_for f.field.kind) q)
ItemPlaces cv cs = Unit

item_text : {x : List ℕ} {i : Item} → ItemText x i → ItemPlaces i (number_columns false 0 x)
item_text (ItemText.a_field {x = x} {y = y} {z = z} {k = k} n m t) =
    let e : x ++ ascii "," ++ y ++ ascii "," ++ z ≡ x ++ 44 ∷ (y ++ 44 ∷ z) = simp append_assoc in
    let b = start_text n (comma_ends (y ++ 44 ∷ z)) in
    let c = kind_text (suc b.1) m (comma_ends z) in
    let l : number_columns false c.2 (44 ∷ z) ≡ suc c.2 ∷ [] = last_number (suc c.2) t in (
      record { r = b.0; input = c.0; output = c.1; t = suc c.2 },
      ap (number_columns false 0) e ∙ b.2
          ∙ ap (λ (l : List ℕ). b.0 ∷ l) (c.3 ∙ ap (λ (l : List ℕ). kind_places (kind_for k) c.0 c.1 ++ l) l ∙ behind_places_lem (kind_for k) b.0 c.0 c.1 (suc c.2)),
    )
item_text ItemText.CV = tt

field_again : (k : Kind) (q : Places) → field_places k (places_in (field_places k q)) ≡ field_places k q
field_again Copy q = refl
field_again Pack q = refl
field_again Unpack q = refl

pub item_numbers : (s : List ℕ) (part : Part) (f : Field) (p : Places) (n : ℕ) → Reads item s (field (card_field part f)) n → p ≡ places_in (number_columns false 0 (take n s))
    → number_columns false 0 (take n s) ≡ field_places f.kind p
unfolding card_field field_of
item_numbers s part f p n r e =
    let x = item_sound s (field (card_field part f)) (drop n s) r.1 in
    let y : ItemPlaces (field (card_field part f)) (number_columns false 0 x.0) = item_text x.2 in
    let c : number_columns false 0 (take n s) ≡ field_places f.kind y.0
    = ap (number_columns false 0) (text_is s 0 n x.0 (omega arith) r.0 x.1).1 ∙ y.1 ∙ ap (λ (k : Kind). field_places k y.0) (kind_back f.kind f.input f.output) in
    c ∙ sym (ap (field_places f.kind) (e ∙ ap places_in c) ∙ field_again f.kind y.0)
