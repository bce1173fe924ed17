-- `lines::is_tidy` meets its contract: each way through its tests gives what the test of the length and the bytes gives.
use mathlib.Core.Path.{sym, ◌∙◌}
use native.Mathlib.Omega.{arith}
use Rattle.rules.proofs.Deck.CardPlaces.{tidy_plain, tidy_long}
use Rattle.rules.proofs.Deck.ScanLaws.{tidy_short}
use Rattle.lines.proofs.is_tidy.Goals as goal

pub returns-then-length-eq0 : goal.returns-then-length-eq0
returns-then-length-eq0 c = sym (tidy_short c.args.line.now c.if-length-eq0.true)

pub returns-then-length-gt-LONGEST : goal.returns-then-length-gt-LONGEST
returns-then-length-gt-LONGEST c = sym (tidy_long c.args.line.now c.if-length-gt-LONGEST.true)

pub returns : goal.returns
returns c = c.plain.ensures ∙ sym (tidy_plain c.args.line.now (omega arith) (omega arith))
