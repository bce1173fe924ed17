-- The test is that of the rules.
use Rattle.rules.specs.Judge.{writes_at}
use Rattle.losses.proofs.last_writer.Given as goal

abbrev pub ghost-last : goal.ghost-last
ghost-last a = writes_at a.at
