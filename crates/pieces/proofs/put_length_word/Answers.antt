-- The word of code 0 is the word of a length.
use mathlib.Core.Path.{◌∙◌}
use Rattle.pieces.proofs.WordsLaws.{coded_length}
use Rattle.pieces.proofs.put_length_word.Goals as goal

pub returns : goal.returns
returns c = c.put_coded_word.ensures ∙ coded_length _ _ _
