-- A field that begins behind what is covered leaves it, and another covers up to the larger of both ends.
use mathlib.Core.Path.{◌≡◌, ◌∙◌}
use Prim.Native.Nat.{◌+◌, ◌-◌, max}
use native.Mathlib.Omega.{arith}
use Rattle.records.proofs.CoverLaws.{farther_gap, farther_joins}
use Rattle.records.proofs.farther.Goals as goal

pub returns-then-covered-to : goal.returns-then-covered-to
returns-then-covered-to c = farther_gap _ c.args.f.output _ (omega arith)

pub returns : goal.returns
returns c =
    let both : c.max.result ≡ max c.args.covered (c.args.f.t - 1 + c.args.f.output) = omega arith in
    both ∙ farther_joins _ c.args.f.output _ (omega arith)
