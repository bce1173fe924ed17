-- The test is that of the rules.
use Rattle.rules.specs.Permitted.{reads}
use Rattle.losses.proofs.last_reader.Given as goal

abbrev pub ghost-last : goal.ghost-last
ghost-last a = λ f. reads f a.at
