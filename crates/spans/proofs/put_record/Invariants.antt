-- Each turn is one cut, which takes a byte or more, and puts it behind those before.
use mathlib.Core.Path.{◌≡◌}
use lib.ListN.{length}
use Rattle.cuts.specs.Cutting.{BetweenSegments}
use Rattle.spans.specs.Promise.{Streaming}
use Rattle.cuts.proofs.CutLaws.{Going}
use Rattle.spans.proofs.PutLaws.{Puts}
use Rattle.spans.proofs.put_record.Given as goal

abbrev pub invariant-loop-rest : goal.invariant-loop-rest
invariant-loop-rest l =
    Going l.m l.initial.now l.size l.now l.rest × BetweenSegments l.m l.now × (length l.out ≡ length l.initial.out) × ((y : Streaming l.reel l.initial.at l.size) → Puts l.m l.base y l.initial.now l.initial.out l.out l.at l.now l.first l.rest)

abbrev pub decreases-loop-rest : goal.decreases-loop-rest
decreases-loop-rest l = l.rest
