-- The walk is the one before the first record of the first block.
use native.Mathlib.Omega.{arith}
use Rattle.walks.proofs.AnswerLaws.{begun, first_there, first_starts, first_is_lem}
use Rattle.walks.proofs.begin.Goals as goal

pub word-from-requires : goal.word-from-requires
word-from-requires c = first_there c.requires

pub block_start-requires : goal.block_start-requires
block_start-requires c = λ l. let w = first_starts c.requires c.word-from.result c.word-from.ensures.0 l in (omega (arith, w.0), w.1)

pub returns : goal.returns
returns c = begun _ _ _ (first_is_lem _ _ _ c.word-from.result c.word-from.ensures.0 c.block_start.ensures)
