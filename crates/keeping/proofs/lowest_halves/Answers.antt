-- The halves before the value have given way to their lowest values, and the others are still marks.
use mathlib.Core.Path.{◌∙◌}
use native.Mathlib.Omega.{arith}
use Rattle.rules.specs.Permitted.{permitted}
use Rattle.rules.specs.Twins.{lowest}
use Rattle.rules.specs.Lent.{zone_f}
use Rattle.rules.proofs.Halves.ListedLaws.{listed_all}
use Rattle.rows.specs.Kept.{fields_in}
use Rattle.keeping.proofs.Meets.{lowest_says}
use Rattle.keeping.proofs.lowest_halves.Goals as goal

pub returns : goal.returns
returns c =
    let i = c.loop-value.invariant in
    let row = c.args.fields.now in
    listed_all (lowest (permitted zone_f (fields_in row))) 8192 _ (i.1.len ∙ i.0)
    (λ j l. i.1.low j (omega (arith, i.1.len)) (rw i.0 l) ∙ lowest_says _ _ j (c.permitted.ensures.1 j l))
