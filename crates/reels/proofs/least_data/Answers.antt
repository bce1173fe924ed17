-- By whether fields are selected.
use Rattle.reels.proofs.FormLaws.{least_selected, least_whole}
use Rattle.reels.proofs.least_data.Goals as goal

pub returns-then-form : goal.returns-then-form
returns-then-form c = least_selected _ c.if-form.true

pub returns-else-form : goal.returns-else-form
returns-else-form c = least_whole _ c.if-form.false
