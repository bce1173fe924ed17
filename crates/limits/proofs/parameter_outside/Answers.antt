-- `limits::parameter_outside` meets its contract: only A, B and R have numbers.
use Rattle.limits.proofs.LimitLaws.{input_places_lem, output_places}
use Rattle.limits.proofs.parameter_outside.Goals as goal

pub returns-in-InputIs : goal.returns-in-InputIs
returns-in-InputIs c = rw (c.in-InputIs.is, input_places_lem c.in-InputIs.input c.args.second) c.input_outside.ensures

pub returns-in-OutputIs : goal.returns-in-OutputIs
returns-in-OutputIs c = rw (c.in-OutputIs.is, output_places c.in-OutputIs.size c.args.second) c.size_outside.ensures

pub returns-in-FirstIs : goal.returns-in-FirstIs
returns-in-FirstIs c = rw (c.in-FirstIs.is, c.number_outside.ensures)
