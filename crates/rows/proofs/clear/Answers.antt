-- A row of 320 zeros is that of no fields.
use mathlib.Core.Path.{◌≡◌, sym, ◌∙◌}
use lib.ListN.{replicate}
use borrow.Author.Rules.{rules}
use Rattle.rows.proofs.RowLaws.{row_none}
use Rattle.rows.proofs.clear.Goals as goal

pub returns : goal.returns
returns c =
    let zeros : c.fill.new.self ≡ replicate 320 0 = search rules in
    zeros ∙ sym row_none
