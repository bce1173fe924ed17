-- `lines::end_kind` meets its contract: behind END the line ends, or a blank or another byte stands.
use native.Mathlib.Omega.{arith}
use Rattle.lines.proofs.MeaningLaws.{kind_end, kind_end_blank, kind_end_other}
use Rattle.lines.proofs.end_kind.Goals as goal

pub returns-then-line-eq6 : goal.returns-then-line-eq6
returns-then-line-eq6 c = kind_end c.args.line.now c.requires.line_value c.requires.begins_says c.if-line-eq6.true

pub returns-then-line-eq-BLANK : goal.returns-then-line-eq-BLANK
returns-then-line-eq-BLANK c =
    kind_end_blank c.args.line.now c.requires.line_value c.requires.begins_says (omega arith) c.if-line-eq-BLANK.true

pub returns : goal.returns
returns c =
    kind_end_other c.args.line.now c.requires.begins_says (omega arith) c.if-line-eq-BLANK.false
