-- The number at a place is the number of the four bytes there, each of which is below 256.
use native.Mathlib.Omega.{arith}
use Rattle.rules.specs.ReelPlaces.{word_at}
use Rattle.pieces.proofs.word.Goals as goal

pub returns : goal.returns
unfolding word_at
returns c = omega arith
