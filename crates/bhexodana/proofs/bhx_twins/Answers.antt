-- It is what `twins` promises.
use Rattle.bhexodana.proofs.bhx_twins.Goals as goal

pub returns : goal.returns
returns c = let w = c.twins_of.ensures in record { answer = w.answer; output = w.output }
