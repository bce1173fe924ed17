-- Each turn looks at one offset more.
use Rattle.measures.proofs.FixedLaws.{Behind}
use Rattle.measures.proofs.blocks_behind.Given as goal

abbrev pub invariant-loop-i : goal.invariant-loop-i
invariant-loop-i l = Behind l.reel l.from l.count l.blocks l.i
