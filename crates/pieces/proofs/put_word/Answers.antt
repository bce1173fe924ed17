-- The four bytes of the number are its word.
use mathlib.Core.Path.{ap, ◌∙◌}
use Rattle.rules.specs.Halves.{over}
use Rattle.pieces.proofs.WordsLaws.{four_word}
use Rattle.pieces.proofs.put_word.Goals as goal

pub returns : goal.returns
returns c = let a = c.args in c.put_four.ensures ∙ ap (λ four. over a.at four a.out.now) (c.to_be_bytes.ensures ∙ four_word a.value)
