-- Each step in its order.
use Rattle.checks.proofs.RunLaws.{stops_unpermitted, ends_measured}
use Rattle.checks.proofs.checked.Goals as goal

pub returns-in-Some : goal.returns-in-Some
returns-in-Some c = stops_unpermitted _ c.in-Some.ensures c.refused.ensures

pub returns-in-Err : goal.returns-in-Err
returns-in-Err c = ends_measured c.in_default.ensures _ c.in-Err.ensures c.refused-in-Err.ensures

pub returns-in-Ok : goal.returns-in-Ok
returns-in-Ok c = ends_measured c.in_default.ensures _ c.in-Ok.ensures c.housed.ensures
