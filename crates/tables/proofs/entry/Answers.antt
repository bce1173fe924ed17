-- Number by number; the sizes of the field are those of its kind, and fit since they are within their limits, and its place on the card is no further on.
use Rattle.tables.proofs.TableLaws.{entry_is}
use Rattle.tables.proofs.entry.Goals as goal

pub returns : goal.returns
returns c =
    entry_is c.args.f c.args.key _ _ _ c.kind_number.ensures c.part_number.ensures c.card_place-r.ensures c.requires.one_size
