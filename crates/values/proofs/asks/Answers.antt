-- Each turn asks whether a field copies, since only a copy takes any halves.
use mathlib.Core.Path.{sym}
use native.Mathlib.Omega.{arith}
use Rattle.values.proofs.WalkLaws.{left_more, left_fails, left_end}
use Rattle.values.proofs.CheckLaws.{takes_copy, takes_other, asks_some, asks_none}
use Rattle.values.proofs.asks.Goals as goal
use Rattle.values.proofs.asks.Goals.{in-Copy, in_default}

pub returns-then-not-matches : goal.returns-then-not-matches
returns-then-not-matches c =
    asks_some _ (left_fails _ _ c.loop-i.i c.loop-i.invariant (omega arith) (rw (sym c.field_at-kind.ensures) (elim c.match-matches.branch [ in-Copy w ↦ absurd cc | in_default w ↦ takes_other _ w.in_default.not-Copy ])))

pub loop-i-preserved : goal.loop-i-preserved
loop-i-preserved c =
    left_more _ _ c.loop-i.i c.loop-i.invariant (omega arith) (rw (sym c.field_at-kind.ensures) (elim c.match-matches.branch [ in-Copy w ↦ takes_copy _ w.in-Copy.is | in_default w ↦ absurd cc ]))

pub returns : goal.returns
returns c = asks_none _ (left_end _ _ c.loop-i.i c.loop-i.invariant (omega arith))
