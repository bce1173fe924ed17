-- Where fields are selected the tail is lost just where it is not kept, and else it is carried.
use mathlib.Core.Path.{sym, ◌∙◌, ap}
use mathlib.Core.Bool.{not}
use Rattle.losses.proofs.LossLaws.{tail_unlost, tail_lost}
use Rattle.losses.proofs.is_tail_lost.Goals as goal

pub returns-then-selects : goal.returns-then-selects
returns-then-selects c =
    λ fs. ap not c.tail_kept.ensures ∙ tail_lost c.args.asked fs (sym c.selects.ensures ∙ c.if-selects.true) _ _ c.record_length-n.ensures c.block_length-m.ensures

pub returns-else-selects : goal.returns-else-selects
returns-else-selects c = λ fs. c.if-selects.false ∙ tail_unlost c.args.asked fs (sym c.selects.ensures ∙ c.if-selects.false)
