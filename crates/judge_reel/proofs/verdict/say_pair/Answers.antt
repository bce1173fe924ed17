-- B's n and the record are short enough to be added.
use native.Mathlib.Omega.{arith}
use Rattle.judge_reel.proofs.PlanLaws.{width_most}
use Rattle.judge_reel.proofs.verdict.say_pair.Goals as goal

pub output_length-n-requires : goal.output_length-n-requires
output_length-n-requires g c =
    (omega (arith, width_most c.args.asked c.args.fields.now c.requires.0 c.task_of.result c.task_of.ensures), c.requires.1)
