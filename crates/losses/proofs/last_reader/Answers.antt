-- The last field that passes the test of the rules.
use Rattle.rules.specs.Losses.{last_reader}
use Rattle.losses.proofs.last_reader.Goals as goal

pub returns : goal.returns
unfolding last_reader
returns c = c.last.ensures
