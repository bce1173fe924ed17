-- The first block starts where the first offset says, and the records before R have n bytes each.
use native.Mathlib.Omega.{arith}
use Rattle.walks.proofs.AnswerLaws.{first_there}
use Rattle.walks.proofs.FixedLaws.{start_of}
use Rattle.walks.proofs.fixed_start.Goals as goal

pub word-from-requires : goal.word-from-requires
word-from-requires c = first_there c.requires.sound

pub returns : goal.returns
returns c = start_of _ _ c.args.first _ _ c.word-from.ensures.0 (omega arith)
