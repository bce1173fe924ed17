-- The last field that passes the test of the rules.
use Rattle.rules.specs.Losses.{last_writer}
use Rattle.losses.proofs.last_writer.Goals as goal

pub returns : goal.returns
unfolding last_writer
returns c = c.last.ensures
