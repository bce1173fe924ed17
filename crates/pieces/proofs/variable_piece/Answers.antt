-- The word, and the piece behind it.
use mathlib.Core.Path.{sym, ap, ◌∙◌}
use native.Mathlib.Omega.{arith}
use lib.ListN.{drop, length-drop}
use Rattle.std.proofs.lemmas.Result.{err_from_is_err_and}
use Rattle.pieces.specs.Pieces.{given}
use Rattle.pieces.proofs.PiecesLaws.{or_taken, or_missed, length_within, variable_piece, variable_bad}
use Rattle.pieces.proofs.variable_piece.Goals as goal

pub returns-in_err-length : goal.returns-in_err-length
returns-in_err-length c =
    let a = c.args in
    ap given (err_from_is_err_and c.from_residual.result c.from_residual.ensures.1).1
    ∙ variable_bad a.top a.b.now a.at c.requires (sym c.length_word.ensures ∙ (or_missed _ _ _ c.in_err-length.ensures.value).0)

pub overflow_sub-result : goal.overflow_sub-result
overflow_sub-result c =
    let a = c.args in
    let w = length_within a.top 5 (drop a.at a.b.now) _ (sym c.length_word.ensures ∙ or_taken _ _ _ c.in_ok-length.ensures.value) in
    omega (arith, w.0)

pub bounds-b-at : goal.bounds-b-at
bounds-b-at c =
    let a = c.args in
    let w = length_within a.top 5 (drop a.at a.b.now) _ (sym c.length_word.ensures ∙ or_taken _ _ _ c.in_ok-length.ensures.value) in
    omega (arith, w, length-drop a.at a.b.now)

pub overflow_add-result-2 : goal.overflow_add-result-2
overflow_add-result-2 c =
    let a = c.args in
    let w = length_within a.top 5 (drop a.at a.b.now) _ (sym c.length_word.ensures ∙ or_taken _ _ _ c.in_ok-length.ensures.value) in
    omega (arith, w, length-drop a.at a.b.now)

pub returns : goal.returns
returns c =
    let a = c.args in
    variable_piece a.top a.b.now a.at _ _ c.requires (sym c.length_word.ensures ∙ or_taken _ _ _ c.in_ok-length.ensures.value) c.from.ensures
