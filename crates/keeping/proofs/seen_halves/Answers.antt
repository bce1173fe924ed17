-- Where all output halves were passed, the seen marks are those of the halves that they are taken from.
use mathlib.Core.Path.{sym}
use Rattle.sources.proofs.Seen.{seen_none, seen_occurs}
use Rattle.keeping.proofs.seen_halves.Goals as goal

pub see-requires-clause-seen_before : goal.see-requires-clause-seen_before
see-requires-clause-seen_before c = seen_none _

pub returns : goal.returns
returns c = λ ss long stand h l. seen_occurs c.args.sources.now ss stand _ h c.see.new.seen (sym long) l c.see.ensures
