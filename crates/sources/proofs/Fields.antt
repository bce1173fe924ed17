-- A field of the code, as a field of the rules: what it does, and that it lies inside its records. By its sizes, which are those of its kind.
use mathlib.Core.Path.{◌≡◌, ap}
use Prim.Native.Nat.{ℕ, ◌≤◌}
use native.Mathlib.Omega.{arith}
use Rattle.rules.specs.RecordParts.{Fits}
use Rattle.terms.specs.Meaning.{kind_of, field_of}
use Rattle.terms.specs.declared.Field.{Field}
use Rattle.terms.specs.declared.Kind.{Kind}
use Rattle.terms.proofs.FieldLaws.{input_of_lem, output_of}
use Rattle.sources.specs.Promise.{FieldInside}

pub kind_of_lem : (f : Field) (c : Kind) → f.kind ≡ c → (field_of f).kind ≡ kind_of c f.input f.output
unfolding field_of
kind_of_lem f c q = ap (λ (d : Kind). kind_of d f.input f.output) q

pub fair_fits : (n m : ℕ) (f : Field) → FieldInside n m f → Fits n m (field_of f)
unfolding field_of
fair_fits n m f ok = record {
  r_low = ok.r_low;
  t_low = ok.t_low;
  input_low = omega (arith, input_of_lem f, ok.input_low);
  output_low = omega (arith, output_of f ok.one_size, ok.output_low);
  input_high = omega (arith, input_of_lem f, ok.r_high);
  output_high = omega (arith, output_of f ok.one_size, ok.t_high);
}

-- inside records, and so inside longer ones
pub fair_longer : (n m n' m' : ℕ) (f : Field) → n ≤ n' → m ≤ m' → FieldInside n m f → FieldInside n' m' f
fair_longer n m n' m' f a b ok = record {
  r_low = ok.r_low;
  r_high = omega (arith, ok.r_high);
  t_low = ok.t_low;
  t_high = omega (arith, ok.t_high);
  input_low = ok.input_low;
  output_low = ok.output_low;
  one_size = ok.one_size;
}
