-- By the tests of n and of what the division leaves.
use native.Mathlib.Omega.{arith}
use Rattle.reels.proofs.RecordsLaws.{divided_none, divided_over, divided_even}
use Rattle.reels.proofs.divided.Goals as goal
use Rattle.reels.proofs.divided.Goals.{then-n-eq0-via-then-n-eq0, then-n-eq0-via-else-n-eq0+then-size-n-ne0}

pub returns-then-n-eq0 : goal.returns-then-n-eq0
returns-then-n-eq0 c =
    let p = c.requires in
    elim c.then-n-eq0.branch [
      | then-n-eq0-via-then-n-eq0 w ↦ divided_none _ _ p.format_value p.in_bounds.0 p.in_bounds.1 w.if-n-eq0.true
      | then-n-eq0-via-else-n-eq0+then-size-n-ne0 w ↦ divided_over _ _ p.format_value p.in_bounds.0 p.in_bounds.1 (λ e. omega (arith, e))
    ]

pub returns : goal.returns
returns c = divided_even _ _ c.requires.format_value c.requires.in_bounds.0 c.requires.in_bounds.1 c.if-n-eq0.false (omega arith)
