-- `lines::kind` meets its contract: a line that has not the length and the bytes of a card is none.
use mathlib.Core.Path.{sym, ◌∙◌}
use Rattle.lines.proofs.MeaningLaws.{kind_untidy}
use Rattle.lines.proofs.kind.Goals as goal

pub tidy_kind-requires : goal.tidy_kind-requires
tidy_kind-requires c = sym c.is_tidy.ensures ∙ c.if-is_tidy.true

pub returns : goal.returns
returns c = kind_untidy c.args.line.now (sym c.is_tidy.ensures ∙ c.if-is_tidy.false)
