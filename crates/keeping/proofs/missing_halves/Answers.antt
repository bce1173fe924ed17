-- The halves below h say whether they are missing, and the others are still marks.
use mathlib.Core.Path.{refl, ◌∙◌}
use Prim.Native.Nat.{ℕ, ◌*◌}
use native.Mathlib.Omega.{arith}
use Rattle.rules.specs.Halves.{sources}
use Rattle.rules.specs.Permitted.{permitted}
use Rattle.rules.specs.Keeping.{missing}
use Rattle.rules.specs.Plan.{bit}
use Rattle.rules.specs.Lent.{zone_f}
use Rattle.rules.proofs.Halves.ListedLaws.{listed_all}
use Rattle.rows.specs.Kept.{fields_in}
use Rattle.sources.proofs.AllFields.{sources_many, numbers_few}
use Rattle.keeping.proofs.Searches.{missing_says}
use Rattle.keeping.proofs.Weighs.{fair_longest, zeros}
use Rattle.keeping.proofs.missing_halves.Goals as goal

pub sources-requires : goal.sources-requires
sources-requires c = record { row_inside = fair_longest _ _ _ c.requires.row_inside; all_zero = (refl, zeros 8192) }

pub seen_halves-seen-requires : goal.seen_halves-seen-requires
seen_halves-seen-requires c =
    let a = c.args in
    (c.requires.row_inside.m_high, numbers_few a.fields.now a.n a.width c.requires.row_inside _ (c.sources.ensures.1 a.n a.width c.requires.row_inside))

pub returns : goal.returns
returns c =
    let i = c.loop-h.invariant in
    let a = c.args in
    let row = a.fields.now in
    let ss = sources zone_f a.width (fields_in row) (2 * a.n) in
    let stand = c.sources.ensures.1 a.n a.width c.requires.row_inside in
    listed_all (λ (h : ℕ). bit (missing (permitted zone_f (fields_in row)) ss h)) 8192 _ (i.1.len ∙ i.0)
    (λ j l. i.1.low j (omega (arith, i.1.len)) (rw i.0 l)
    ∙ missing_says _ (permitted zone_f (fields_in row)) ss j _ (c.permitted.ensures.1 j l)
    (c.seen_halves-seen.ensures ss (sources_many row a.n a.width c.requires.row_inside) stand j l))
