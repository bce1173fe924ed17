-- The high half of a byte is under 16, so that its own low half is all of it.
use Rattle.hexadecimal.proofs.DigitLaws.{both}
use Rattle.hexadecimal.proofs.hex.Goals as goal

pub returns : goal.returns
returns c = both _ _ _ c.ranges.byte.fits c.digit.ensures c.digit-2.ensures
