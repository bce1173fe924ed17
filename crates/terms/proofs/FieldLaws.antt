-- What a field's kind and numbers say in the rules, by its kind.
use mathlib.Core.Path.{◌≡◌, refl, sym, subst}
use Prim.Native.Nat.{ℕ}
use Rattle.rules.specs.Halves.{input_size, output_size}
use Rattle.rules.specs.Lent.{kind_number}
use Rattle.terms.specs.Meaning.{kind_of, kind_for, field_of, OneSize}
use Rattle.terms.specs.declared.Field.{Field}
use Rattle.terms.specs.declared.Kind.{Kind}
use Rattle.terms.specs.declared.Kind.TheVariants.{Copy, Pack, Unpack}

-- a kind is found again from what it means
pub kind_back : (k : Kind) (input output : ℕ) → kind_for (kind_of k input output) ≡ k
kind_back Copy input output = refl
kind_back Pack input output = refl
kind_back Unpack input output = refl

-- the sizes that stand in a field are those of its kind
pub input_size_lem : (k : Kind) (input output : ℕ) → input_size (kind_of k input output) ≡ input
input_size_lem Copy input output = refl
input_size_lem Pack input output = refl
input_size_lem Unpack input output = refl

pub output_size_lem : (k : Kind) (input output : ℕ) → OneSize k input output → output_size (kind_of k input output) ≡ output
output_size_lem Copy input output e = sym e
output_size_lem Pack input output e = refl
output_size_lem Unpack input output e = refl

pub input_of_lem : (f : Field) → input_size (field_of f).kind ≡ f.input
unfolding field_of
input_of_lem f = input_size_lem f.kind f.input f.output

pub output_of : (f : Field) → OneSize f.kind f.input f.output → output_size (field_of f).kind ≡ f.output
unfolding field_of
output_of f one = output_size_lem f.kind f.input f.output one

-- the number of a kind does not depend on sizes
pub kind_number_lem : (k : Kind) (input output : ℕ) → kind_number (kind_of k 0 0) ≡ kind_number (kind_of k input output)
kind_number_lem Copy input output = refl
kind_number_lem Pack input output = refl
kind_number_lem Unpack input output = refl

pub number_of : (f : Field) → kind_number (kind_of f.kind 0 0) ≡ kind_number (field_of f).kind
unfolding field_of
number_of f = kind_number_lem f.kind f.input f.output

-- the one size of a copy
pub copy_size : (k : Kind) (input output : ℕ) → k ≡ Copy → OneSize k input output → output ≡ input
copy_size k input output e h = subst (λ (c : Kind). OneSize c input output) e h
