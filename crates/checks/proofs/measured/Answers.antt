-- By the mode.
use mathlib.Core.Path.{◌≡◌, ap}
use mathlib.Core.Bool.{false}
use native.Mathlib.Omega.{arith}
use Rattle.std.proofs.Common.{inl, inr, ◌⊎◌}
use Rattle.rules.specs.Plan.{is_tc}
use Rattle.rules.proofs.Halves.HalfBytes.{all_bytes}
use Rattle.terms.specs.declared.Mode.{Mode}
use Rattle.terms.specs.declared.Mode.TheVariants.{TF, TR, TRF}
use Rattle.terms.specs.Meaning.{mode_of}
use Rattle.checks.proofs.RunLaws.{copy_measured, measures}
use Rattle.checks.proofs.measured.Goals as goal

other : (m : Mode) → (m ≡ TF) ⊎ ((m ≡ TR) ⊎ (m ≡ TRF)) → is_tc (mode_of m) ≡ false
other m (inl e) = ap (λ (k : Mode). is_tc (mode_of k)) e
other m (inr (inl e)) = ap (λ (k : Mode). is_tc (mode_of k)) e
other m (inr (inr e)) = ap (λ (k : Mode). is_tc (mode_of k)) e

pub returns-in-TC : goal.returns-in-TC
returns-in-TC c = copy_measured (ap mode_of c.in-TC.is) (all_bytes c.args.reel.now (λ i. omega (arith, c.shared_slice_known-2-1.given i)))

pub returns-in-TF : goal.returns-in-TF
returns-in-TF c = measures (other _ c.in-TF.is) _ c.measure.ensures
