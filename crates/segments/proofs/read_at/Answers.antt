-- By cases on what stands there.
use mathlib.Core.Path.{ap, sym, ◌∙◌}
use Rattle.std.specs.Option.{option_flatten}
use Rattle.segments.proofs.SpotLaws.{read_is, some_read, none_read}
use Rattle.segments.proofs.read_at.Goals as goal

pub returns-in-Some : goal.returns-in-Some
returns-in-Some c =
    let a = c.args in
    some_read a.block a.at _ _ (c.in-Some.ensures ∙ ap option_flatten c.ok.ensures.value) ∙ sym (read_is a.reel.now a.block a.at _ _ c.block.ensures c.segment-found.ensures)

pub returns-in-None : goal.returns-in-None
returns-in-None c =
    let a = c.args in
    c.nothing.ensures
    ∙ none_read a.block a.at _ (c.in-None.ensures ∙ ap option_flatten c.ok.ensures.value)
    ∙ sym (read_is a.reel.now a.block a.at _ _ c.block.ensures c.segment-found.ensures)
