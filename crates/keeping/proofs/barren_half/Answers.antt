-- Where every half has a permitted value there is none to find; else the first mark that permits none is the lowest.
use mathlib.Core.Path.{sym, ◌∙◌}
use Rattle.keeping.proofs.Searches.{barren_never, barren_first, place_none}
use Rattle.keeping.proofs.barren_half.Goals as goal

pub returns-then-is_fruitful : goal.returns-then-is_fruitful
returns-then-is_fruitful c =
    place_none _ _ (barren_never c.args.marks.now c.args.n c.requires.1 (sym c.is_fruitful.ensures ∙ c.if-is_fruitful.true))

pub returns : goal.returns
returns c = c.first_barren.ensures ∙ barren_first c.args.marks.now c.args.n c.requires.1
