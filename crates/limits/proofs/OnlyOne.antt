-- Each promise allows one answer, since it names it.
use mathlib.Core.Path.{◌≡◌, sym, ◌∙◌}
use Prim.Native.Nat.{ℕ}
use Rattle.rules.specs.Words.{first_column}
use Rattle.terms.specs.declared.Part.{Part}
use Rattle.terms.specs.declared.Field.{Field}
use Rattle.terms.specs.declared.Format.{Format}
use Rattle.terms.specs.Meaning.{format_of}
use Rattle.readers.specs.declared.Places.{Places}
use Rattle.readers.specs.declared.UParameter.{UParameter}
use Rattle.limits.specs.Limits.{field_outside, parameter_outside}

pub first_only_one : (noted next : ℕ) {x y : ℕ} → x ≡ first_column noted next → y ≡ first_column noted next → x ≡ y
first_only_one noted next e f = e ∙ sym f

pub field_only_one : (part : Part) (f : Field) (places : Places) (column : ℕ) {x y : ℕ}
    → x ≡ field_outside part f places column → y ≡ field_outside part f places column → x ≡ y
field_only_one part f places column e q = e ∙ sym q

pub parameter_only_one : (format : Format) (p : UParameter) (second column : ℕ) {x y : ℕ}
    → x ≡ parameter_outside (format_of format) p second column → y ≡ parameter_outside (format_of format) p second column → x ≡ y
parameter_only_one format p second column e f = e ∙ sym f
