-- `keeping::is_narrow` meets its contract: fewer than two values are permitted where both lower bits are set.
use Rattle.keeping.proofs.Meets.{narrow_is}
use Rattle.keeping.proofs.is_narrow.Goals as goal

pub returns : goal.returns
returns c = narrow_is c.args.mark
