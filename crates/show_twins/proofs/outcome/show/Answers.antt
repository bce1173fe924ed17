-- An accepted plan is accepted with R as 1 too, so it can be run.
use Rattle.show_twins.proofs.FirstLaws.{fair_first}
use Rattle.show_twins.proofs.outcome.show.Goals as goal

pub run_plan-ran-requires : goal.run_plan-ran-requires
run_plan-ran-requires g c =
    rw c.from_first.ensures (fair_first c.args.asked c.args.fields.now c.requires)
