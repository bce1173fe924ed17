-- The reel of a finished run lies within the output that was lent: that output now begins with it.
use mathlib.Core.Path.{◌≡◌, ap, ◌∙◌}
use mathlib.Core.List.{List}
use Prim.Native.Nat.{ℕ, ◌+◌, ◌≤◌, zero-le}
use native.Mathlib.Omega.{arith}
use lib.ListN.{length, drop, length-append}
use Rattle.rules.specs.Answer.{Answer, fine, refuse}
use Rattle.rules.specs.Run.{RunOutput, conversion}
use Rattle.rules.specs.Lent.{zone_f, run_answer, output_after}
use Rattle.terms.specs.Meaning.{plan_in}
use Rattle.terms.specs.declared.Asked.{Asked}
use Rattle.rows.specs.Kept.{fields_in}
use Rattle.outcomes.specs.declared.Ran.{Ran}
use Rattle.outcomes.specs.Promise.{ran_struct}

within : (x : Answer RunOutput) (lent out : List ℕ) → out ≡ output_after lent x → (run_answer x).reel_length ≤ length out
within (fine x) lent out e =
    let h : length out ≡ length x.reel + length (drop (length x.reel) lent)
    = ap length e ∙ length-append x.reel (drop (length x.reel) lent) in
    omega (arith, h)
within (refuse r) lent out e = zero-le

-- the run of the plan that a struct and a row hold
pub reel_within : (x : Asked) (row reel lent out : List ℕ) (ran : Ran) → ran ≡ ran_struct (run_answer (conversion (length lent) (plan_in zone_f x (fields_in row)) reel))
    → out ≡ output_after lent (conversion (length lent) (plan_in zone_f x (fields_in row)) reel) → ran.length ≤ length out
reel_within x row reel lent out ran a o =
    let h : ran.length ≡ (run_answer (conversion (length lent) (plan_in zone_f x (fields_in row)) reel)).reel_length = ap (λ (r : Ran). r.length) a in
    omega (arith, h, within (conversion (length lent) (plan_in zone_f x (fields_in row)) reel) lent out o)
