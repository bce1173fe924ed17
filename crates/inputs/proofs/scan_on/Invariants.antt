-- Each turn goes on where the last one stopped.
use Rattle.inputs.specs.Reading.{FedSays}
use Rattle.inputs.proofs.scan_on.Given as goal

abbrev pub invariant-loop : goal.invariant-loop
invariant-loop g l = FedSays l.initial.fed.state l.fed
