-- The two bytes of the length, the code and a zero byte are its word.
use mathlib.Core.Path.{ap, ◌∙◌}
use mathlib.Core.List.{[], ◌∷◌}
use lib.ListN.{get_or}
use Rattle.rules.specs.Halves.{over}
use Rattle.pieces.proofs.WordsLaws.{four_coded}
use Rattle.pieces.proofs.put_coded_word.Goals as goal

pub returns : goal.returns
returns c =
    let a = c.args in
    c.put_four.ensures
    ∙ ap (λ size. over a.at (get_or size 0 0 ∷ get_or size 1 0 ∷ a.code ∷ 0 ∷ []) a.out.now) c.to_be_bytes.ensures
    ∙ ap (λ four. over a.at four a.out.now) (four_coded a.code a.size c.requires.size_bound)
