-- By the mode.
use mathlib.Core.Path.{◌≡◌, ap}
use mathlib.Core.Bool.{true, false}
use Rattle.std.proofs.Common.{◌⊎◌, inl, inr}
use Rattle.rules.specs.Plan.{selects}
use Rattle.terms.specs.declared.Mode.{Mode}
use Rattle.terms.specs.declared.Mode.TheVariants.{TC, TF, TR, TRF}
use Rattle.terms.specs.Meaning.{mode_of}
use Rattle.checks.proofs.RunLaws.{nothing_asked, first_asked}
use Rattle.checks.proofs.unpermitted.Goals as goal

asks : (m : Mode) → (m ≡ TF) ⊎ (m ≡ TRF) → selects (mode_of m) ≡ true
asks m (inl e) = ap (λ (k : Mode). selects (mode_of k)) e
asks m (inr e) = ap (λ (k : Mode). selects (mode_of k)) e

leaves : (m : Mode) → (m ≡ TC) ⊎ (m ≡ TR) → selects (mode_of m) ≡ false
leaves m (inl e) = ap (λ (k : Mode). selects (mode_of k)) e
leaves m (inr e) = ap (λ (k : Mode). selects (mode_of k)) e

pub returns-in-TC : goal.returns-in-TC
returns-in-TC c = nothing_asked (leaves _ c.in-TC.is)

pub returns-in-TF : goal.returns-in-TF
returns-in-TF c = first_asked (asks _ c.in-TF.is) _ c.unpermitted_selected.ensures
