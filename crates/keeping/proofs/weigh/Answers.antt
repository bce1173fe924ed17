-- The marks and the numbers are those of the rules, so both searches end where the rules say.
use mathlib.Core.Path.{refl, ap, ◌∙◌}
use Prim.Native.Nat.{◌*◌}
use Rattle.rules.specs.Lent.{zone_f}
use Rattle.rules.specs.Halves.{sources}
use Rattle.rows.specs.Kept.{fields_in}
use Rattle.sources.proofs.AllFields.{sources_many, numbers_few}
use Rattle.keeping.specs.Promise.{place_below}
use Rattle.keeping.proofs.Weighs.{fair_longest, zeros, barren_alike, lost_of_lem, weighed_barren, weighed_fruitful}
use Rattle.keeping.proofs.weigh.Goals as goal

pub permitted-requires : goal.permitted-requires
permitted-requires c = record { row_inside = fair_longest _ _ _ c.requires; all_zero = (refl, zeros 8192) }

pub returns-in-Some : goal.returns-in-Some
returns-in-Some c =
    let a = c.args in
    weighed_barren zone_f (fields_in a.fields.now) a.n a.width _
    (c.in-Some.ensures ∙ ap (place_below (2 * a.n)) (barren_alike _ (fields_in a.fields.now) a.n c.requires.n_high c.permitted.ensures.1))

pub sources-requires : goal.sources-requires
sources-requires c = record { row_inside = fair_longest _ _ _ c.requires; all_zero = (refl, zeros 8192) }

pub lost_half-requires : goal.lost_half-requires
lost_half-requires c =
    let a = c.args in
    (c.requires.n_high, c.requires.m_high, numbers_few a.fields.now a.n a.width c.requires _ (c.sources.ensures.1 a.n a.width c.requires))

pub returns : goal.returns
returns c =
    let a = c.args in
    let fs = fields_in a.fields.now in
    weighed_fruitful zone_f fs a.n a.width
    (c.in_default.ensures ∙ ap (place_below (2 * a.n)) (barren_alike _ fs a.n c.requires.n_high c.permitted.ensures.1))
    _
    (c.lost_half.ensures (sources zone_f a.width fs (2 * a.n)) (sources_many a.fields.now a.n a.width c.requires) (c.sources.ensures.1 a.n a.width c.requires)
    ∙ ap (place_below (2 * a.n)) (lost_of_lem _ fs a.n c.requires.n_high c.permitted.ensures.1 a.width))
