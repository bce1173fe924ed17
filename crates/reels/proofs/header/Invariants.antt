-- The walk over the offsets holds the count, the number of an offset and the offset; each way out is a law of the header.
use Rattle.rules.proofs.Reel.HeaderSteps.{HeaderWalk}
use Rattle.reels.proofs.header.Given as goal

abbrev pub invariant-loop-i : goal.invariant-loop-i
invariant-loop-i l = HeaderWalk l.reel l.count l.i l.a
