-- `keeping::is_barren` meets its contract: no value is permitted where all three bits are set.
use Rattle.keeping.proofs.Meets.{barren_is}
use Rattle.keeping.proofs.is_barren.Goals as goal

pub returns : goal.returns
returns c = barren_is c.args.mark
