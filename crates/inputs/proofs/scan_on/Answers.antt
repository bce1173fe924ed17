-- Nothing was read yet where it begins; and each turn goes on where the last one stopped, over what was read.
use lib.ListN.{take}
use Rattle.inputs.proofs.ReadingLaws.{fed_none, further}
use Rattle.inputs.proofs.scan_on.Goals as goal

pub loop-init : goal.loop-init
loop-init g c = fed_none _

pub returns-then-not-fed : goal.returns-then-not-fed
returns-then-not-fed g c = further _ _ _ c.loop.invariant (_, c.fill-read.result, (take c.bytes_read-n.result c.fill-read.new.room, c.scan.ensures), c.fed_with-fed.ensures)

pub loop-preserved : goal.loop-preserved
loop-preserved g c = further _ _ _ c.loop.invariant (_, c.fill-read.result, (take c.bytes_read-n.result c.fill-read.new.room, c.scan.ensures), c.fed_with-fed.ensures)
