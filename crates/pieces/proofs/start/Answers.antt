-- By cases on the format.
use mathlib.Core.Logic.{inl, inr}
use mathlib.Core.Path.{sym, ap, ◌∙◌, refl}
use Rattle.rules.specs.Grammar.{ff, fu, fsp}
use Rattle.terms.specs.Meaning.{format_of}
use Rattle.pieces.specs.Pieces.{start_in}
use Rattle.pieces.proofs.PiecesLaws.{start_good, start_bad}
use Rattle.pieces.proofs.start.Goals as goal

pub returns-in-FF : goal.returns-in-FF
returns-in-FF c =
    let a = c.args in
    elim c.in-FF.is [
      | inl e ↦ start_good ff a.b.now refl ∙ ap (λ f. start_in (format_of f) a.b.now) (sym e)
      | inr e ↦ start_good fu a.b.now refl ∙ ap (λ f. start_in (format_of f) a.b.now) (sym e)
    ]

pub returns-in-FS : goal.returns-in-FS
returns-in-FS c = let a = c.args in start_bad fsp a.b.now refl ∙ ap (λ f. start_in (format_of f) a.b.now) (sym c.in-FS.is)
