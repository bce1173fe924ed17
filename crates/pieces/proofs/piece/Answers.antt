-- By cases on the format.
use mathlib.Core.Path.{sym, ap, ◌∙◌}
use Rattle.std.proofs.lemmas.Result.{err_from_is_err_and}
use Rattle.terms.specs.Meaning.{format_of}
use Rattle.pieces.specs.Pieces.{given, piece_in}
use Rattle.pieces.proofs.PiecesLaws.{piece_end, fixed_here, variable_here, undefined_piece, spanned_piece}
use Rattle.pieces.proofs.piece.Goals as goal

pub returns-then-at-end : goal.returns-then-at-end
returns-then-at-end c = piece_end _ _ _ _ c.if-at-end.true

pub returns-in_err-piece-in-FF : goal.returns-in_err-piece-in-FF
returns-in_err-piece-in-FF c =
    let a = c.args in
    (err_from_is_err_and c.from_residual.result c.from_residual.ensures.1).1
    ∙ ap given c.in_err-piece-in-FF.ensures ∙ fixed_here a.form.n a.b.now a.c.at c.if-at-end.false ∙ ap (λ f. piece_in (format_of f) a.form.n a.b.now a.c.at) (sym c.in-FF.is)

pub returns-in_ok-piece-in-FF : goal.returns-in_ok-piece-in-FF
returns-in_ok-piece-in-FF c =
    let a = c.args in
    ap given c.in_ok-piece-in-FF.ensures ∙ fixed_here a.form.n a.b.now a.c.at c.if-at-end.false ∙ ap (λ f. piece_in (format_of f) a.form.n a.b.now a.c.at) (sym c.in-FF.is)

pub returns-in_err-piece-in-FV : goal.returns-in_err-piece-in-FV
returns-in_err-piece-in-FV c =
    let a = c.args in
    (err_from_is_err_and c.from_residual-in_err-piece-in-FV.result c.from_residual-in_err-piece-in-FV.ensures.1).1
    ∙ c.in_err-piece-in-FV.ensures ∙ variable_here a.form.n a.b.now a.c.at c.if-at-end.false ∙ ap (λ f. piece_in (format_of f) a.form.n a.b.now a.c.at) (sym c.in-FV.is)

pub returns-in_ok-piece-in-FV : goal.returns-in_ok-piece-in-FV
returns-in_ok-piece-in-FV c =
    let a = c.args in
    c.in_ok-piece-in-FV.ensures ∙ variable_here a.form.n a.b.now a.c.at c.if-at-end.false ∙ ap (λ f. piece_in (format_of f) a.form.n a.b.now a.c.at) (sym c.in-FV.is)

pub returns-in-FU : goal.returns-in-FU
returns-in-FU c = let a = c.args in undefined_piece a.form.n a.b.now a.c.at c.if-at-end.false ∙ ap (λ f. piece_in (format_of f) a.form.n a.b.now a.c.at) (sym c.in-FU.is)

pub returns-in-FS : goal.returns-in-FS
returns-in-FS c = let a = c.args in spanned_piece a.form.n a.b.now a.c.at c.if-at-end.false ∙ ap (λ f. piece_in (format_of f) a.form.n a.b.now a.c.at) (sym c.in-FS.is)
