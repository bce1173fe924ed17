-- Each turn compares one pair of records; a walk ends since less of our reel is left at each turn.
use mathlib.Core.Path.{◌≡◌}
use lib.ListN.{length}
use Rattle.walks.specs.Promise.{bytes_left}
use Rattle.pairs.proofs.PairLaws.{Pairing}
use Rattle.pairs.proofs.first_apart.Given as goal

abbrev pub invariant-loop-mine : goal.invariant-loop-mine
invariant-loop-mine l = Pairing l.task l.fields l.ours l.theirs l.w l.v l.number × (4096 ≡ length l.room)

abbrev pub decreases-loop-mine : goal.decreases-loop-mine
decreases-loop-mine l = bytes_left l.ours l.w
