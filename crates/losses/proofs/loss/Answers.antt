-- By the two tests; the reason is that of the fields in records of n bytes.
use mathlib.Core.Path.{◌∙◌}
use native.Mathlib.Omega.{arith}
use Rattle.losses.proofs.LossLaws.{loss_none, loss_past, loss_here}
use Rattle.losses.proofs.loss.Goals as goal
use Rattle.losses.proofs.loss.Goals.{then-missing-eq0-via-then-missing-eq0, then-missing-eq0-via-else-missing-eq0+then-n-h}

pub returns-then-missing-eq0 : goal.returns-then-missing-eq0
returns-then-missing-eq0 c =
    elim c.then-missing-eq0.branch [
      | then-missing-eq0-via-then-missing-eq0 w ↦ loss_none _ _ _ _ w.if-missing-eq0.true
      | then-missing-eq0-via-else-missing-eq0+then-n-h w ↦ loss_past _ _ _ _ w.if-missing-eq0.false (omega (arith, w.if-n-h.true))
    ]

pub returns : goal.returns
returns c =
    c.from.ensures ∙ c.reason.ensures c.args.n 4096 c.requires ∙ loss_here _ _ _ _ c.if-missing-eq0.false (omega (arith, c.if-n-h.false))
