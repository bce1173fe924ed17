-- A field of the rules and the field as it is read say the same, each the other, where a copy's size stands in both places. By its kind.
use mathlib.Core.Path.{◌≡◌, refl, ap}
use Rattle.rules.specs.Halves.{Kind as RuleKind, copy, pack, unpack, input_size, output_size, Field as RuleField}
use Rattle.terms.specs.Meaning.{kind_of, kind_for, field_of, OneSize}
use Rattle.rows.specs.Kept.{field_for}

kind_meant : (k : RuleKind) → kind_of (kind_for k) (input_size k) (output_size k) ≡ k
kind_meant (copy s) = refl
kind_meant (pack n m) = refl
kind_meant (unpack n m) = refl

-- what is read means the field
pub field_meant : (f : RuleField) → field_of (field_for f) ≡ f
unfolding field_for field_of
field_meant f = ap (λ (k : RuleKind). record { r = f.r; kind = k; t = f.t }) (kind_meant f.kind)

size_once : (k : RuleKind) → OneSize (kind_for k) (input_size k) (output_size k)
size_once (copy s) = refl
size_once (pack n m) = tt
size_once (unpack n m) = tt

pub one_size : (f : RuleField) → OneSize (field_for f).kind (field_for f).input (field_for f).output
unfolding field_for
one_size f = size_once f.kind
