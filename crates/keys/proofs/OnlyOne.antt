-- Each promise allows one answer. That of `laid` says what the field means, which leaves open the second place of a copy's size, and that this place stays.
use mathlib.Core.Path.{◌≡◌, ap, sym, ◌∙◌}
use Prim.Native.Nat.{ℕ}
use Rattle.rules.specs.Halves.{input_size, Field as RuleField}
use Rattle.terms.specs.declared.Size.{Size}
use Rattle.terms.specs.declared.Input.{Input}
use Rattle.terms.specs.declared.Part.{Part}
use Rattle.terms.specs.declared.Field.{Field}
use Rattle.terms.specs.Meaning.{kind_for, field_of, card_field, laid}
use Rattle.terms.proofs.FieldLaws.{kind_back, input_of_lem}
use Rattle.keys.specs.Keys.{joined_of, key_of}

-- what a field means, and its output size, tell it
field_once : (f g : Field) → field_of f ≡ field_of g → f.output ≡ g.output → f ≡ g
unfolding field_of
field_once f g e o =
    let k : f.kind ≡ g.kind = sym (kind_back f.kind f.input f.output) ∙ ap (λ (x : RuleField). kind_for x.kind) e ∙ kind_back g.kind g.input g.output in
    let n : f.input ≡ g.input = sym (input_of_lem f) ∙ ap (λ (x : RuleField). input_size x.kind) e ∙ input_of_lem g in
    λ i. record { kind = k i; r = (e i).r; input = n i; output = o i; t = (e i).t }

pub laid_only_one : (part : Part) (f : Field) (key : ℕ) (x y : Field) → (field_of x ≡ laid key (card_field part f)) × (x.output ≡ f.output)
    → (field_of y ≡ laid key (card_field part f)) × (y.output ≡ f.output) → x ≡ y
laid_only_one part f key x y e q = field_once x y (e.0 ∙ sym q.0) (e.1 ∙ sym q.1)

pub joined_only_one : (i : Input) {x y : Size} → x ≡ joined_of i → y ≡ joined_of i → x ≡ y
joined_only_one i e f = e ∙ sym f

pub key_only_one : (i : Input) {x y : ℕ} → x ≡ key_of i → y ≡ key_of i → x ≡ y
key_only_one i e f = e ∙ sym f
