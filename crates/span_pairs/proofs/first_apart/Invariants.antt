-- Each turn compares one pair of records; the counts tell how many pairs there are, and whether a record is left over.
use Rattle.span_pairs.specs.Promise.{BothSpanned}
use Rattle.span_pairs.proofs.PairLaws.{Left}
use Rattle.span_pairs.proofs.first_apart.Given as goal

abbrev pub invariant-loop-number : goal.invariant-loop-number
invariant-loop-number l = (y : BothSpanned l.ours l.passed l.count l.theirs l.others) → Left y l.at l.there l.number
