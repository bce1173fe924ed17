-- `lines::plain` meets its contract: a card may have the printable bytes.
use Rattle.rules.specs.Base.{within}
use Rattle.lines.proofs.plain.Given as goal

abbrev pub ghost-each : goal.ghost-each
ghost-each a = within 0x20 0x7E
