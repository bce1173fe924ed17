-- By the mode: the offsets are those of the input's blocks, or a step apart.
use mathlib.Core.Path.{◌≡◌, refl, ap}
use mathlib.Core.Bool.{false}
use native.Mathlib.Omega.{arith}
use Rattle.std.proofs.Common.{◌⊎◌, inl, inr}
use Rattle.rules.specs.Plan.{is_tf}
use Rattle.terms.specs.declared.Mode.{Mode}
use Rattle.terms.specs.declared.Mode.TheVariants.{TC, TR, TRF}
use Rattle.terms.specs.Meaning.{mode_of}
use Rattle.fixed.proofs.EndsLaws.{bytes_most, base_most, steps_fit, each_fits, steps_put, each_put}
use Rattle.fixed.proofs.put_ends.Goals as goal

filled : (m : Mode) → (m ≡ TC) ⊎ ((m ≡ TR) ⊎ (m ≡ TRF)) → is_tf (mode_of m) ≡ false
filled m (inl e) = ap (λ (k : Mode). is_tf (mode_of k)) e
filled m (inr (inl e)) = ap (λ (k : Mode). is_tf (mode_of k)) e
filled m (inr (inr e)) = ap (λ (k : Mode). is_tf (mode_of k)) e

pub overflow_mul-end : goal.overflow_mul-end
overflow_mul-end c = omega (arith, bytes_most c.requires)

pub overflow_add-end : goal.overflow_add-end
overflow_add-end c = omega (arith, bytes_most c.requires, base_most c.requires)

pub put_steps-requires : goal.put_steps-requires
put_steps-requires c =
    let p = steps_fit c.requires refl (filled _ c.in-TC.is) in
    record { step_small = p.0; end_in_bounds = p.1 }

pub put_each-requires : goal.put_each-requires
put_each-requires c =
    let w = each_fits c.requires c.in-TF.is refl in
    record { reel_value = c.requires.ready.good.reel; each_small = w.0; reel_in_bounds = w.1 }

pub returns-in-TC : goal.returns-in-TC
returns-in-TC c = steps_put _ _ c.requires refl (filled _ c.in-TC.is) c.put_steps.ensures

pub returns-in-TF : goal.returns-in-TF
returns-in-TF c = each_put _ _ c.requires c.in-TF.is refl c.put_each.ensures
