-- `deck` is safe and ends: the fields of an accepted deck, at most 64, stand in the row.
use mathlib.Core.Path.{◌≡◌, ap, sym, ◌∙◌}
use mathlib.Core.List.{List}
use Prim.Native.Nat.{ℕ, ◌*◌, ◌≤◌}
use native.Mathlib.Omega.{arith}
use lib.ListN.{length}
use lib.Seq.{length-take-le}
use Rattle.terms.specs.Meaning.{laid_fields}
use Rattle.terms.proofs.Laid.{many_laid}
use Rattle.rows.proofs.RowLaws.{row_none, length_row}
use Rattle.std.specs.Prelude.{Ok}
use Rattle.terms.specs.declared.Asked.{Asked}
use Rattle.cards.specs.Promise.{DeckSays}
use Rattle.cards.proofs.PromiseLaws.{accepted}
use Rattle.answers.proofs.deck.Goals as goal

-- five numbers to a field, and 320 in all
front_in : (deck : List ℕ) (asked : Asked) (row : List ℕ) → DeckSays deck (Ok asked) row → (5 * asked.count ≤ length row) × (length row ≡ 320)
front_in deck asked row w =
    let a = accepted deck row asked w.reads in
    let m = a.2.means in
    let long : length row ≡ 320 = ap length a.2.fields ∙ length_row (laid_fields a.0) (omega (arith, m.few, many_laid asked a.0 m)) in
    (omega (arith, m.few, long), long)

pub read_deck-requires : goal.read_deck-requires
read_deck-requires g c = sym row_none

pub overflow_mul-row : goal.overflow_mul-row
overflow_mul-row g c =
    let f = front_in _ c.in-Ok.asked _ c.in-Ok.ensures in
    record { fits = omega (arith, f.0, f.1) }

pub slice_bounds-tell-end : goal.slice_bounds-tell-end
slice_bounds-tell-end g c =
    sym (length-take-le _ _ (front_in _ c.in-Ok.asked _ c.in-Ok.ensures).0)
