-- By the verdict, in each of its cases.
use mathlib.Core.Path.{ap, ◌∙◌}
use Rattle.plans.specs.Verdict.{Weighs}
use Rattle.plans.specs.Promise.{planned_by, Verdicts}
use Rattle.plans.proofs.judged.Goals as goal

pub returns-in-Ok : goal.returns-in-Ok
unfolding Verdicts Weighs
returns-in-Ok c = λ a h. c.accepted.ensures ∙ ap (planned_by c.args.asked) (c.in-Ok.ensures a h)

pub returns-in-Err : goal.returns-in-Err
unfolding Verdicts Weighs
returns-in-Err c = λ a h. c.refused_deck.ensures ∙ ap (planned_by c.args.asked) (c.in-Err.ensures a h)
