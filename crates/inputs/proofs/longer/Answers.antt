-- The scan of the room goes on over what is read after it.
use Rattle.inputs.proofs.ReadingLaws.{fed_went, all_scanned}
use Rattle.inputs.proofs.longer.Goals as goal

pub returns-clause-long_deck_says : goal.returns-clause-long_deck_says
returns-clause-long_deck_says g c =
    all_scanned c.args.room.now _ _ _ _ c.scan_on-fed.result.failure _ _ c.begin.ensures c.scan.ensures (fed_went _ _ c.scan_on-fed.ensures) c.scanned.ensures c.long_deck.ensures c.unless_failed.ensures
