-- What is stored is what the plan for a table of this length says.
use lib.ListN.{length}
use Rattle.bhexodana.proofs.PlanLaws.{stored_fits, planned_into}
use Rattle.bhexodana.proofs.bhx_plan_into.Goals as goal

pub store-requires : goal.store-requires
store-requires c = stored_fits c.args.deck.now (length c.args.table.now) c.plan_for-p.result c.plan_for-p.ensures

pub returns : goal.returns
returns c = planned_into c.args.deck.now c.args.table.now c.plan_for-p.result c.store.new.table c.plan_for-p.ensures c.store.ensures
